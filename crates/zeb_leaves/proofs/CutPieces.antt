-- The changes of a key in pieces, and the pieces of a run.
use Rattle.zeb_leaves.proofs.Cited.{Has, all_from, all_has, has_either, has_left, has_right, ◌≡◌, ◌≢◌, ◌∙◌, ◌/◌, ◌+◌, ◌<◌, ◌≤◌, ◌++◌, ◌∷◌, ℕ, zero, suc, List, [], length, length-append, drop, map, refl, sym, ap, subst, inl, inr, arith, Less, Equal, nat_cmp, nat_cmp_total, tied_itself, AllByRecursion, IsTotalOrder, on_total, then_total, ordering_then, Key, less_is, take, get_or, key_total, ArePieces, ArePiecesOf, BeginsElsewhere, IsFront, IsPiece, PartsRun, PutsPieces, all_changes, block_of, piece_cmp, joined_rises, IsInBlock, KeysRise, run_key, IsStorableChange, NumbersRise, KeyChanges, RecordChange}
use Rattle.std.proofs.Math.Seq.{drop-append_seam, take-append_seam}
use Rattle.std.proofs.lemmas.List.{append-nil, drop-drop, drop_more, length-drop, take-append-drop}
use Rattle.std.proofs.lemmas.List.Sorted.{IsNonDecreasingBy-drop, IsNonDecreasingBy-take}
use Rattle.std.specs.List.Sorted.{IsStrictlySortedBy}
use Rattle.zeb_keys.specs.Order.{key_order}
use Rattle.zeb_leaf.proofs.Members.{all_back}

-- ---- numbers that don't fall

first_least : (x : RecordChange) (xs : List RecordChange) → NumbersRise (x ∷ xs) → (c : RecordChange) → Has xs c → x.sysno ≤ c.sysno
first_least x [] rise c here = absurd here
first_least x (y ∷ xs) rise c (inl same) = subst (λ (z : RecordChange). x.sysno ≤ z.sysno) (sym same) (rise 0 1 x (omega arith) (omega arith))
first_least x (y ∷ xs) rise c (inr later) =
    let next : x.sysno ≤ y.sysno = rise 0 1 x (omega arith) (omega arith) in
    omega (arith, next, first_least y xs (IsNonDecreasingBy-drop (λ (z : RecordChange). z.sysno) 1 (x ∷ y ∷ xs) rise) c later)

rise_front : (xs ys : List RecordChange) → NumbersRise (xs ++ ys) → NumbersRise xs
rise_front xs ys rise = subst NumbersRise (take-append_seam xs ys) (IsNonDecreasingBy-take (λ (z : RecordChange). z.sysno) (length xs) (xs ++ ys) rise)

rise_back : (xs ys : List RecordChange) → NumbersRise (xs ++ ys) → NumbersRise ys
rise_back [] ys rise = rise
rise_back (x ∷ xs) ys rise = rise_back xs ys (IsNonDecreasingBy-drop (λ (z : RecordChange). z.sysno) 1 (x ∷ (xs ++ ys)) rise)

rise_over : (xs ys : List RecordChange) → NumbersRise (xs ++ ys) → (c d : RecordChange) → Has xs c → Has ys d → c.sysno ≤ d.sysno
rise_over [] ys rise c d here there = absurd here
rise_over (x ∷ xs) ys rise c d (inl same) there = subst (λ (z : RecordChange). z.sysno ≤ d.sysno) (sym same) (first_least x (xs ++ ys) rise d (has_right xs ys d there))
rise_over (x ∷ xs) ys rise c d (inr later) there = rise_over xs ys (IsNonDecreasingBy-drop (λ (z : RecordChange). z.sysno) 1 (x ∷ (xs ++ ys)) rise) c d later there

all_front : (P : RecordChange → Type 0) (xs ys : List RecordChange) → AllByRecursion P (xs ++ ys) → AllByRecursion P xs
all_front P [] ys all = tt
all_front P (x ∷ xs) ys all = (all.0, all_front P xs ys all.1)

-- ---- the changes of one key, cut piece by piece

abbrev pub AreCut : KeyChanges → List KeyChanges → List RecordChange → Type 0
AreCut one [] changes = changes ≡ []
AreCut one (piece ∷ pieces) changes = (rest : List RecordChange) × (piece.key.now ≡ one.key.now) × IsFront changes piece.changes.now rest × AreCut one pieces rest

-- changes are parted behind those of the block of the first
pub front_is : (rest : List RecordChange) (n : ℕ) → 0 < length rest → n ≤ length rest → AllByRecursion (IsInBlock (block_of rest)) (take n rest)
    → BeginsElsewhere (block_of rest) (drop n rest) → IsFront rest (take n rest) (drop n rest)
front_is [] n some within inside next = absurd (omega (arith, some))
front_is (c ∷ rest) zero some within inside next = absurd (next refl)
front_is (c ∷ rest) (suc n) some within inside next = record {
  whole = sym (take-append-drop (suc n) (c ∷ rest));
  some = λ none. let e : ◌≡◌ {A = List RecordChange} (c ∷ take n rest) [] = none in cc;
  inside = inside;
  next = next;
}

-- so where it is cut there
pub front_so : (left rest front : List RecordChange) (block n : ℕ) → 0 < length left → rest ≡ left → block ≡ block_of rest → n ≤ length rest
    → AllByRecursion (IsInBlock block) (take n rest) → BeginsElsewhere block (drop n rest) → front ≡ take n rest → (behind : List RecordChange) × IsFront left front behind
front_so left rest front block n some is at within inside next cut =
    let it = front_is rest n (subst (λ (l : List RecordChange). 0 < length l) (sym is) some) within (subst (λ b. AllByRecursion (IsInBlock b) (take n rest)) at inside) (subst (λ b. BeginsElsewhere b (drop n rest)) at next) in
    (drop n rest, subst (λ (l : List RecordChange). IsFront l front (drop n rest)) is (subst (λ (l : List RecordChange). IsFront rest l (drop n rest)) (sym cut) it))

module _ (xs : List RecordChange) (done : ℕ) (front rest : List RecordChange) (within : done ≤ length xs) (is : IsFront (drop done xs) front rest) where
  pub front_long : (0 < length front) × (done + length front ≤ length xs)
  front_long =
      let some : length front ≢ 0 = λ none. is.some (empty front none) in
      (omega (arith, some), omega (arith, within, length-drop done xs, ap length is.whole, length-append front rest))
    where
      empty : (ys : List RecordChange) → length ys ≡ 0 → ys ≡ []
      empty [] none = refl
      empty (y ∷ ys) none = absurd (omega (arith, none))

  pub rest_is : rest ≡ drop (done + length front) xs
  rest_is = sym (drop-append_seam front rest) ∙ ap (drop (length front)) (sym is.whole) ∙ drop-drop (length front) done xs

cut_key : (one : KeyChanges) (pieces : List KeyChanges) (changes : List RecordChange) → AreCut one pieces changes → (piece : KeyChanges) → Has pieces piece → piece.key.now ≡ one.key.now
cut_key one [] changes cut piece here = absurd here
cut_key one (first ∷ pieces) changes cut piece (inl same) = ap (λ (p : KeyChanges). p.key.now) same ∙ cut.1
cut_key one (first ∷ pieces) changes cut piece (inr later) = cut_key one pieces cut.0 cut.3 piece later

cut_all : (one : KeyChanges) (pieces : List KeyChanges) (changes : List RecordChange) → AreCut one pieces changes → all_changes pieces ≡ changes
cut_all one [] changes cut = sym cut
cut_all one (first ∷ pieces) changes cut = ap (λ l. first.changes.now ++ l) (cut_all one pieces cut.0 cut.3) ∙ sym cut.2.whole

cut_some : (one : KeyChanges) (pieces : List KeyChanges) (changes : List RecordChange) → AreCut one pieces changes → (piece : KeyChanges) → Has pieces piece → piece.changes.now ≢ []
cut_some one [] changes cut piece here = absurd here
cut_some one (first ∷ pieces) changes cut piece (inl same) = λ none. cut.2.some (sym (ap (λ (p : KeyChanges). p.changes.now) same) ∙ none)
cut_some one (first ∷ pieces) changes cut piece (inr later) = cut_some one pieces cut.0 cut.3 piece later

-- a piece's changes are among all
among : (pieces : List KeyChanges) (piece : KeyChanges) → Has pieces piece → (c : RecordChange) → Has piece.changes.now c → Has (all_changes pieces) c
among [] piece here c own = absurd here
among (first ∷ pieces) piece (inl same) c own = has_left first.changes.now (all_changes pieces) c (subst (λ (p : KeyChanges). Has p.changes.now c) same own)
among (first ∷ pieces) piece (inr later) c own = has_right first.changes.now (all_changes pieces) c (among pieces piece later c own)

-- the first change of some is one of them, and has their block
first_of : (changes : List RecordChange) → changes ≢ [] → (c : RecordChange) × Has changes c × (c.sysno / 256 ≡ block_of changes)
first_of [] some = absurd (some refl)
first_of (c ∷ changes) some = (c, inl refl, refl)

-- a change behind a piece is of a higher block
higher : (changes front rest : List RecordChange) → IsFront changes front rest → NumbersRise (front ++ rest) → (d : RecordChange) → Has rest d → block_of front < d.sysno / 256
higher changes front [] is rise d here = absurd here
higher changes front (e ∷ rest) is rise d here =
    let c = first_of front is.some in
    let near : c.0.sysno ≤ e.sysno = rise_over front (e ∷ rest) rise c.0 e c.1 (inl refl) in
    let far : e.sysno ≤ d.sysno = elim here [
      | inl same ↦ omega (arith, ap (λ (z : RecordChange). z.sysno) same)
      | inr later ↦ first_least e rest (rise_back front (e ∷ rest) rise) d later
    ] in
    let other : e.sysno / 256 ≢ block_of front = is.next in
    omega (arith, near, far, other, c.2)

same_key_order : (p q : KeyChanges) (key : Key) → p.key.now ≡ key → q.key.now ≡ key → block_of p.changes.now < block_of q.changes.now → piece_cmp p q ≡ Less
same_key_order p q key one two less =
    let tie : key_order p.key.now q.key.now ≡ Equal = ap (key_order p.key.now) (two ∙ sym one) ∙ tied_itself key_total p.key.now in
    ap (λ o. ordering_then o (nat_cmp (block_of p.changes.now) (block_of q.changes.now))) tie ∙ less_is _ _ less

cut_pieces : (one : KeyChanges) (pieces : List KeyChanges) (changes : List RecordChange) → AreCut one pieces changes → AllByRecursion IsStorableChange changes → NumbersRise changes → ArePieces pieces
unfolding IsStrictlySortedBy
cut_pieces one [] changes cut stored rise = record { each = tt; rising = tt }
cut_pieces one (piece ∷ pieces) changes cut stored rise =
    let own = piece.changes.now in
    let rest = cut.0 in
    let all = subst (AllByRecursion IsStorableChange) cut.2.whole stored in
    let up = subst NumbersRise cut.2.whole rise in
    let more = cut_pieces one pieces rest cut.3 (all_back IsStorableChange own rest all) (rise_back own rest up) in
    record {
      each = (record { some = cut.2.some; inside = cut.2.inside; stored = all_front IsStorableChange own rest all; rising = rise_front own rest up }, more.each);
      rising = (
        all_from (λ q. piece_cmp piece q ≡ Less) pieces (λ q h.
            let c = first_of q.changes.now (cut_some one pieces rest cut.3 q h) in
            let there : Has rest c.0 = subst (λ l. Has l c.0) (cut_all one pieces rest cut.3) (among pieces q h c.0 c.1) in
            same_key_order piece q one.key.now cut.1 (cut_key one pieces rest cut.3 q h) (subst (λ b. block_of own < b) c.2 (higher changes own rest cut.2 up c.0 there))),
        more.rising,
      );
    }

-- what the cutting of one key leads to
pub pieces_put : (one : KeyChanges) (old now more own : List KeyChanges) → now ++ more ≡ old ++ own → more ≡ [] → AreCut one own one.changes.now
    → AllByRecursion IsStorableChange one.changes.now → NumbersRise one.changes.now → PutsPieces one old now
pieces_put one old now more own is none cut stored rise = (
  own,
  sym (append-nil now) ∙ ap (λ l. now ++ l) (sym none) ∙ is,
  record { key = cut_key one own one.changes.now cut; changes = cut_all one own one.changes.now cut },
  cut_pieces one own one.changes.now cut stored rise,
)

-- ---- the pieces of a run

abbrev pub PartsEach : (run pieces : List KeyChanges) → Type 0
PartsEach [] pieces = pieces ≡ []
PartsEach (one ∷ run) pieces = (own : List KeyChanges) × (rest : List KeyChanges) × (pieces ≡ own ++ rest) × ArePiecesOf one own × ArePieces own × PartsEach run rest

pub parts_run : (run pieces : List KeyChanges) → PartsEach run pieces → PartsRun run pieces
parts_run [] pieces parts = parts
parts_run (one ∷ run) pieces parts = (parts.0, parts.1, parts.2, parts.3, parts_run run parts.1 parts.5)

piece_total : IsTotalOrder piece_cmp
piece_total = then_total (on_total (λ (p : KeyChanges). p.key.now) key_total) (on_total (λ (p : KeyChanges). block_of p.changes.now) nat_cmp_total)

-- each piece is of a key of the run
of_run : (run pieces : List KeyChanges) → PartsEach run pieces → (piece : KeyChanges) → Has pieces piece → (one : KeyChanges) × Has run one × (piece.key.now ≡ one.key.now)
of_run [] pieces parts piece here = absurd (subst (λ l. Has l piece) parts here)
of_run (one ∷ run) pieces parts piece here =
    elim (has_either parts.0 parts.1 piece (subst (λ l. Has l piece) parts.2 here)) [
      | inl own ↦ (one, inl refl, parts.3.key piece own)
      | inr rest ↦ let it = of_run run parts.1 parts.5 piece rest in (it.0, inr it.1, it.2)
    ]

mapped : (run : List KeyChanges) (one : KeyChanges) → Has run one → Has (map run_key run) one.key.now
mapped [] one here = absurd here
mapped (x ∷ run) one (inl same) = inl (ap run_key same)
mapped (x ∷ run) one (inr later) = inr (mapped run one later)

pub parts_pieces : (run pieces : List KeyChanges) → PartsEach run pieces → KeysRise run → ArePieces pieces
unfolding IsStrictlySortedBy
parts_pieces [] pieces parts up = subst ArePieces (sym parts) (record { each = tt; rising = tt })
parts_pieces (one ∷ run) pieces parts up =
    let own = parts.0 in
    let rest = parts.1 in
    let more = parts_pieces run rest parts.5 up.1 in
    let lower : (p q : KeyChanges) → Has own p → Has rest q → piece_cmp p q ≡ Less = λ p q here there.
    let it = of_run run rest parts.5 q there in
    let less : key_order one.key.now it.0.key.now ≡ Less = all_has (λ k. key_order one.key.now k ≡ Less) (map run_key run) it.0.key.now up.0 (mapped run it.0 it.1) in
    let keys : key_order p.key.now q.key.now ≡ Less = ap (λ k. key_order k q.key.now) (parts.3.key p here) ∙ ap (key_order one.key.now) it.2 ∙ less in
    ap (λ o. ordering_then o (nat_cmp (block_of p.changes.now) (block_of q.changes.now))) keys in
    subst ArePieces (sym parts.2) (record {
      each = all_from IsPiece (own ++ rest) (λ p h. elim (has_either own rest p h) [
        | inl there ↦ all_has IsPiece own p parts.4.each there
        | inr other ↦ all_has IsPiece rest p more.each other
      ]);
      rising = joined_rises piece_total own rest parts.4.rising more.rising lower;
    })

-- the pieces of the next key, and of those behind it
pub parts_next : (run : List KeyChanges) (i : ℕ) (one : KeyChanges) (own more : List KeyChanges) → i < length run → one ≡ get_or run i one → ArePiecesOf one own
    → ArePieces own → PartsEach (drop (i + 1) run) more → PartsEach (drop i run) (own ++ more)
parts_next run i one own more within is of are parts =
    let here : drop i run ≡ one ∷ drop (i + 1) run = drop_more run i one within ∙ ap (λ x. x ∷ drop (i + 1) run) (sym is) in
    subst (λ l. PartsEach l (own ++ more)) (sym here) (own, more, refl, of, are, parts)

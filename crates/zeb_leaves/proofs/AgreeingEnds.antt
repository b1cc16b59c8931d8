-- The entries of a leaf, by the first and the last of them; and the postings that they take, in one way.
use Rattle.zeb_leaves.proofs.Cited.{row_cmp, row_cmp_total, Row, Blob, Has, all_has, has_either, has_right, ◌≡◌, ◌≢◌, ◌↔◌, ◌≤◌, ◌<◌, ◌∙◌, ◌++◌, ◌∷◌, ℕ, zero, suc, List, [], true, false, length, drop, map, arith, refl, sym, ap, ap₂, subst, inl, inr, Ordering, Less, Equal, Greater, Posting, SaysPart, Key, Entry, ShowsEntries, entry_cmp, leaf_bytes, leaf_key, Bool, not, is_lt, key_cmp, LEAF_BYTES, IsWhole, Leaf, ShowsLeaf, TakeEntries, entry_key, key_of, leaf_shown, rest_shown, one_said, one_shown, same_rest, cut_rises, with_key, KeyPosting}
use Rattle.std.specs.Bool.{IsTrue}
use Rattle.std.specs.List.Sorted.{IsStrictlySortedBy}
use Rattle.zeb_leaves.proofs.OneCover.{up_to_then}
use Rattle.zeb_leaves.proofs.PartedLeaves.{less_is_up}
use Rattle.zeb_leaves.proofs.SpanRuns.{not_less_up, up_not_less}
use Rattle.zeb_register.proofs.KeyOrder.{key_order}

less_entry : (d e : Entry) → entry_cmp d e ≡ Less → row_cmp (entry_key d) (entry_key e) ≡ Less
less_entry d e less = key_order d.term e.term d.block e.block ∙ less

-- what is told of two keys
below_told : (t u : List ℕ) (b c : ℕ) → IsTrue (is_lt (key_cmp t b u c)) ↔ (row_cmp (leaf_key t b) (leaf_key u c) ≡ Less)
below_told t u b c = (λ h. key_order t u b c ∙ from (key_cmp t b u c) h, λ less. ap is_lt (sym (key_order t u b c) ∙ less))
  where
    from : (o : Ordering) → IsTrue (is_lt o) → o ≡ Less
    from Less h = refl
    from Equal h = absurd (let e : false ≡ true = h in cc)
    from Greater h = absurd (let e : false ≡ true = h in cc)

-- ---- by the first entry

first_from : (own : Row) (e : Entry) (more : List Entry) → IsStrictlySortedBy entry_cmp (e ∷ more) → row_cmp own (entry_key e) ≢ Greater → (d : Entry) → Has (e ∷ more) d → row_cmp own (entry_key d) ≢ Greater
unfolding IsStrictlySortedBy
first_from own e more up low d (inl same) = subst (λ (x : Entry). row_cmp own (entry_key x) ≢ Greater) (sym same) low
first_from own e more up low d (inr later) = up_to_then own (entry_key e) (entry_key d) low (less_is_up (entry_key e) (entry_key d) (less_entry e d (all_has (λ x. entry_cmp e x ≡ Less) more d up.0 later)))

pub from_told : (t : List ℕ) (b : ℕ) (entries : List Entry) (e : Entry) (more : List Entry) (below : Bool) → entries ≡ e ∷ more → below ≡ is_lt (key_cmp e.term e.block t b) → IsStrictlySortedBy entry_cmp entries
    → IsTrue (not below) ↔ ((d : Entry) → Has entries d → row_cmp (leaf_key t b) (entry_key d) ≢ Greater)
from_told t b entries e more below is told rising = (
  λ yes'. subst (λ l. (d : Entry) → Has l d → row_cmp (leaf_key t b) (entry_key d) ≢ Greater) (sym is) (first_from (leaf_key t b) e more (subst (IsStrictlySortedBy entry_cmp) is rising)
      (not_less_up (entry_key e) (leaf_key t b) (λ less. let e1 : below ≡ true = told ∙ (below_told e.term t e.block b).1 less in never below e1 yes'))),
  λ all. from below refl (λ yes'. up_not_less (entry_key e) (leaf_key t b) (all e (subst (λ l. Has l e) (sym is) (inl refl))) ((below_told e.term t e.block b).0 (sym told ∙ yes'))),
)
  where
    never : (x : Bool) → x ≡ true → IsTrue (not x) → ⊥
    never true is h = let e1 : false ≡ true = h in cc
    never false is h = let e1 : false ≡ true = is in cc

    from : (x : Bool) → below ≡ x → (x ≡ true → ⊥) → IsTrue (not x)
    from true is none = absurd (none refl)
    from false is none = refl

-- ---- by the last entry

last_ends : (end : Row) (front : List Entry) (e : Entry) → IsStrictlySortedBy entry_cmp (front ++ e ∷ []) → row_cmp (entry_key e) end ≡ Less → (d : Entry) → Has (front ++ e ∷ []) d → row_cmp (entry_key d) end ≡ Less
last_ends end front e up low d here = elim (has_either front (e ∷ []) d here) [
  | inl before ↦ row_cmp_total.trans (entry_key d) (entry_key e) end (less_entry d e (cut_rises entry_cmp front (e ∷ []) up d e before (inl refl))) low
  | inr at ↦ elim at [ inl same ↦ subst (λ (x : Entry). row_cmp (entry_key x) end ≡ Less) (sym same) low | inr none ↦ absurd none ]
]

pub ends_told : (t : List ℕ) (b : ℕ) (entries front : List Entry) (e : Entry) (below : Bool) → entries ≡ front ++ e ∷ [] → below ≡ is_lt (key_cmp e.term e.block t b) → IsStrictlySortedBy entry_cmp entries
    → IsTrue below ↔ ((d : Entry) → Has entries d → row_cmp (entry_key d) (leaf_key t b) ≡ Less)
ends_told t b entries front e below is told rising = (
  λ yes'. subst (λ l. (d : Entry) → Has l d → row_cmp (entry_key d) (leaf_key t b) ≡ Less) (sym is)
      (last_ends (leaf_key t b) front e (subst (IsStrictlySortedBy entry_cmp) is rising) ((below_told e.term t e.block b).0 (sym told ∙ yes'))),
  λ all. told ∙ (below_told e.term t e.block b).1 (all e (subst (λ l. Has l e) (sym is) (has_right front (e ∷ []) e (inl refl)))),
)

-- ---- entries take their postings in one way

append_told : {X : Type 0} (front left right : List X) → front ++ left ≡ front ++ right → left ≡ right
append_told [] left right same = same
append_told (x ∷ front) left right same = append_told front left right (let e : front ++ left ≡ front ++ right = cc in e)

-- one entry more
pub takes_more : (key : Key) (e : Entry) (entries : List Entry) (postings mid : List KeyPosting) (part : List Posting) → SaysPart e part → postings ≡ map (with_key (key_of key e)) part ++ mid → (rest : List KeyPosting)
    → TakeEntries key (e ∷ entries) postings rest ↔ TakeEntries key entries mid rest
takes_more key e entries postings mid part says is rest = (
  λ takes.
      let same = one_said e takes.0 part takes.2 says in
      let mids = append_told (map (with_key (key_of key e)) part) takes.1 mid (ap (λ l. map (with_key (key_of key e)) l ++ takes.1) (sym same) ∙ sym takes.3 ∙ is) in
      subst (λ l. TakeEntries key entries l rest) mids takes.4,
  λ takes. (part, mid, says, is, takes),
)

pub taken_once : (key : Key) (entries : List Entry) (postings one two : List KeyPosting) → TakeEntries key entries postings one → TakeEntries key entries postings two → one ≡ two
taken_once key [] postings one two left right = sym left ∙ right
taken_once key (e ∷ entries) postings one two left right =
    taken_once key entries left.1 one two left.4 ((takes_more key e entries postings left.1 left.0 left.2 left.3 two).0 right)

-- none of no postings stands before more
pub none_left : (f : Posting → KeyPosting) (part : List Posting) (i : ℕ) (rest : List KeyPosting) → i < length part → [] ≡ map f (drop i part) ++ rest → ⊥
none_left f [] i rest low is = omega (arith, low)
none_left f (p ∷ part) zero rest low is = cc
none_left f (p ∷ part) (suc i) rest low is = none_left f part i rest (omega (arith, low)) is

-- ---- the leaf that a row shows

module _ (row : Row) (key : Key) (block : ℕ) (bytes : List ℕ) (is : row ≡ rest_shown key block bytes) where
  -- a leaf that the row shows has this key, and its entries are the row's
  pub shown_by : (leaf : Leaf) → ShowsLeaf row leaf → (leaf.key ≡ key) × (leaf.block ≡ block) × ShowsEntries (leaf_shown key block bytes) leaf.entries
  shown_by leaf shows =
      let told = same_rest leaf.key key leaf.block block shows.bytes bytes (sym shows.is ∙ is) in
      let row_is = ap₂ (λ (k : Key) (n : ℕ). leaf_shown k n shows.bytes) told.0 told.1 ∙ ap (leaf_shown key block) told.2 in
      (told.0, told.1, subst (λ (r : Row). ShowsEntries r leaf.entries) row_is shows.shown)

  module _ (entries : List Entry) (shows : ShowsEntries (leaf_shown key block bytes) entries) where
    -- several entries take as many bytes as the row has
    many : 2 ≤ length entries → length bytes ≡ length (leaf_bytes entries)
    many two = elim shows.2 [
      | inl it ↦ let same : Blob bytes ≡ Blob shows.0 = shows.1 in let own : bytes ≡ shows.0 = cc in ap length (own ∙ it.spelled)
      | inr none ↦ absurd (omega (arith, two, ap length none.1))
    ]

    abbrev IsFew : Type 0
    IsFew = 2 ≤ length entries → length bytes ≤ LEAF_BYTES

    abbrev IsFrom : Type 0
    IsFrom = (e : Entry) → Has entries e → row_cmp (leaf_key key.term block) (entry_key e) ≢ Greater

    pub whole_is : (leaf : Leaf) → ShowsLeaf row leaf → IsWhole leaf → IsFew × IsFrom
    whole_is leaf has whole =
        let it = shown_by leaf has in
        let same = one_shown (leaf_shown key block bytes) leaf.entries entries it.2 shows in (
          λ two. let small = whole.small (subst (λ (l : List Entry). 2 ≤ length l) (sym same) two) in omega (arith, many two, small, ap (λ (l : List Entry). length (leaf_bytes l)) same),
          λ e h above. whole.from e (subst (λ l. Has l e) (sym same) h) (ap₂ (λ (k : Key) (n : ℕ). row_cmp (leaf_key k.term n) (entry_key e)) it.0 it.1 ∙ above),
        )

    pub is_whole : IsFew → IsFrom → ShowsLeaf row (record { key = key; block = block; entries = entries }) × IsWhole (record { key = key; block = block; entries = entries })
    is_whole few from = (
      record { bytes = bytes; is = is; shown = shows },
      record { from = from; small = λ two. let least = few two in omega (arith, many two, least) },
    )

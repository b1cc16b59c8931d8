-- What the entries of neighbouring terms say, as the units of these terms.
use Rattle.zeb_leaves.proofs.Cited.{Row, Trees, Has, ◌≡◌, ◌↔◌, ◌≤◌, ◌++◌, ◌∷◌, ℕ, true, false, List, [], filter, refl, sym, ap, ◌∙◌, subst, inl, inr, arith, Ordering, Less, Equal, Greater, nat_cmp, nat_list_cmp_total, slice_cmp, tied_itself, Key, Posting, Entry, kept_rises, IsEntryOf, IsLeafOf, SayPart, SaysPart, HasRecordOf, IsCount, BlockSpells, key_in, has_filtered, has_kept, Bool, is_eq, entry_of, SayParts, SayAll, SomeSaysNone, entries_total, same_bytes, IsBetween, packed_leaves, HasMalformedBetween, ListsBetween, RegisterOf}
use Rattle.zeb_leaf.specs.declared.entries.Held.{Held}
use Rattle.zeb_leaves.proofs.SaidLists.{list_of_parts, part_of, posting_in, posting_of}
use Rattle.zeb_leaves.proofs.SpanEntries.{AreHeld, HasOwnIn, HeldIn}
use Rattle.zeb_leaves.proofs.TermEntries.{HasOwn}

equal_is : (o : Ordering) → is_eq o ≡ true → o ≡ Equal
equal_is Less is = let e : false ≡ true = is in absurd (cc)
equal_is Equal is = refl
equal_is Greater is = let e : false ≡ true = is in absurd (cc)

-- what says the entry's block of what is held
says : (e : Entry) (one : Held) → e ≡ entry_of e.term one → (part : List Posting) → BlockSpells one.block part one.bytes.now → IsCount (HasRecordOf part) one.records → SaysPart e part
says e one is part spelled counted = subst (λ (d : Entry). SaysPart d part) (sym is) (record { spelled = spelled; counted = counted })

-- the entries of one term
unfoldable pub is_of : List ℕ → Entry → Bool
is_of term e = is_eq (slice_cmp nat_cmp e.term term)

unfoldable pub its : List ℕ → List Entry → List Entry
its term own = filter (is_of term) own

pub its_has : (term : List ℕ) (own : List Entry) (e : Entry) → Has (its term own) e ↔ (Has own e × (e.term ≡ term))
unfolding its is_of
its_has term own e = (
  λ h. let it = has_filtered (is_of term) own e h in (it.0, same_bytes e.term term (equal_is (slice_cmp nat_cmp e.term term) it.1)),
  λ h. has_kept (is_of term) own e h.0 (ap is_eq (ap (λ t. slice_cmp nat_cmp t term) h.1 ∙ tied_itself nat_list_cmp_total term)),
)

-- of a term of which each block is In, these are the entries
pub own_term : (Leaves : Row → Type 0) (In : List ℕ → ℕ → Type 0) (own : List Entry) → HasOwnIn Leaves In own → (term : List ℕ) → ((block : ℕ) → In term block) → HasOwn Leaves term (λ b. 0 ≤ b) (its term own)
unfolding its
own_term Leaves In own has term all = record {
  whole = λ block any. has.whole term block (all block);
  rising = kept_rises entries_total (is_of term) own has.rising;
  each = λ e. (
    λ h. let here = (its_has term own e).0 h in (omega arith, subst (λ t. IsEntryOf Leaves t e) here.1 ((has.each e).0 here.0).1),
    λ h. (its_has term own e).1 ((has.each e).1 (subst (λ t. In t e.block) (sym h.1.0) (all e.block), subst (λ t. IsEntryOf Leaves t e) (sym h.1.0) h.1), h.1.0),
  );
}

-- every list of entries of which each says something says a list
pub all_parts : (own : List Entry) → ((e : Entry) → Has own e → (part : List Posting) × SaysPart e part) → (list : List Posting) × SayParts own list
all_parts [] each = ([], refl)
all_parts (e ∷ own) each =
    let first = each e (inl refl) in
    let rest = all_parts own (λ d h. each d (inr h)) in
    (first.0 ++ rest.0, (first.0, rest.0, first.1, rest.1, refl))

pub said_of_held : (own : List Entry) (held : List Held) (list : List Posting) → AreHeld own held → SayAll held list → SayParts own list
said_of_held [] held list are say = subst (λ (l : List Held). SayAll l list) are say
said_of_held (e ∷ own) held list are say =
    let it = subst (λ (l : List Held). SayAll l list) are.3 say in
    (it.0, it.1, says e are.0 are.2 it.0 it.2.0 it.2.1, said_of_held own are.1 it.1 are.4 it.3, it.4)

-- the entry of what is held, one of some
pub entry_held : (own : List Entry) (held : List Held) → AreHeld own held → (one : Held) → Has held one → (e : Entry) × Has own e × (e ≡ entry_of e.term one)
entry_held [] held are one here = absurd (subst (λ (l : List Held). Has l one) are here)
entry_held (e ∷ own) held are one here = elim (subst (λ (l : List Held). Has l one) are.3 here) [
  | inl same ↦ (e, inl refl, subst (λ (h : Held). e ≡ entry_of e.term h) (sym same) are.2)
  | inr later ↦ let it = entry_held own are.1 are.4 one later in (it.0, inr it.1, it.2)
]

module _ (trees : Trees) (at : RegisterOf) (first last : List ℕ) (held : List Held) (it : HeldIn (IsLeafOf trees at.db.0 (key_in at.index at.register [])) (λ t b. IsBetween first last t) held) where
  abbrev Leaves : Row → Type 0
  Leaves = IsLeafOf trees at.db.0 (key_in at.index at.register [])

  abbrev key : List ℕ → Key
  key term = key_in at.index at.register term

  own_of_term : (term : List ℕ) → IsBetween first last term → HasOwn Leaves term (λ b. 0 ≤ b) (its term it.own)
  own_of_term term between = own_term Leaves (λ t b. IsBetween first last t) it.own it.has term (λ b. between)

  module _ (list : List Posting) (say : SayAll held list) where
    parts : SayParts it.own list
    parts = said_of_held it.own held list it.are say

    said : (term : List ℕ) → (l : List Posting) × SayParts (its term it.own) l
    said term = all_parts (its term it.own) (λ e h. part_of it.own list parts e ((its_has term it.own e).0 h).0)

    listed_of : (p : Posting) → Has list p → (term : List ℕ) × IsBetween first last term × Has (said term).0 p
    listed_of p here =
        let found = posting_of it.own list parts p here in
        let e = found.0 in
        (e.term, ((it.has.each e).0 found.2).0, posting_in (its e.term it.own) (said e.term).0 (said e.term).1 e found.1 ((its_has e.term it.own e).1 (found.2, refl)) found.3 p found.4)

    of_listed : (p : Posting) → (term : List ℕ) × IsBetween first last term × Has (said term).0 p → Has list p
    of_listed p of =
        let found = posting_of (its of.0 it.own) (said of.0).0 (said of.0).1 p of.2 in
        posting_in it.own list parts found.0 found.1 ((its_has of.0 it.own found.0).0 found.2).0 found.3 p found.4

    pub span_listed : ListsBetween packed_leaves trees at first last list
    span_listed = record {
      lists = λ term. (said term).0;
      units = λ term between. list_of_parts trees at.db.0 (key term) (its term it.own) (own_of_term term between) (said term).0 (said term).1;
      each = λ p. (listed_of p, of_listed p);
    }

  -- where one of them says nothing, its block is malformed
  pub span_unsaid : SomeSaysNone held → HasMalformedBetween packed_leaves trees at first last
  span_unsaid bad =
      let found = entry_held it.own held it.are bad.0 bad.1 in
      let e = found.0 in
      let known = (it.has.each e).0 found.1 in
      let of = known.1 in
      let bad_part = λ (part : List Posting) (say : SayPart of.2 e.term e.block part).
      let says = say.said e of.5 (refl, refl) in
      let own = subst (λ (d : Entry). SaysPart d part) found.2 says in
      bad.2 part (own.spelled, own.counted) in
      (e.term, known.0, (e.block, inr (of.1, of.2, of.3, of.4, bad_part)))

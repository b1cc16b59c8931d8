-- What a binary search by a key finds among rising entries.
use Rattle.zeb_leaves.proofs.Cited.{Has, ◌≡◌, ◌∙◌, ◌<◌, ◌≤◌, ◌∷◌, ℕ, zero, suc, List, [], length, refl, sym, ap, ap₂, subst, inl, inr, arith, Ordering, Less, Equal, Greater, nat_cmp, nat_cmp_total, nat_list_cmp_total, slice_cmp, ordering_reverse, ordering_then, tied_itself, numbers_apart, all_has, Entry, IsAt, entry_cmp, get_or, cases_lt, ordering_index, texts_apart, key_cmp, has_get, entries_total}
use Rattle.std.specs.List.Sorted.{IsNonDecreasingBy, IsPartitionPoint, IsStrictlySortedBy}

module _ (term : List ℕ) (block : ℕ) where
  -- how an entry lies to the key
  abbrev pub lies : Entry → Ordering
  lies e = key_cmp e.term e.block term block

  at_key : (e : Entry) → IsAt term block e → lies e ≡ Equal
  at_key e at =
      ap₂ (λ t b. key_cmp t b term block) at.0 at.1
      ∙ ap (λ o. ordering_then o (nat_cmp block block)) (tied_itself nat_list_cmp_total term)
      ∙ tied_itself nat_cmp_total block

  pub key_at : (e : Entry) → lies e ≡ Equal → IsAt term block e
  key_at e level = from (slice_cmp nat_cmp e.term term) refl level
    where
      from : (o : Ordering) → slice_cmp nat_cmp e.term term ≡ o → ordering_then o (nat_cmp e.block block) ≡ Equal → IsAt term block e
      from Less is so = let d : Less ≡ Equal = so in absurd (cc)
      from Greater is so = let d : Greater ≡ Equal = so in absurd (cc)
      from Equal is so = (texts_apart e.term term is, numbers_apart e.block block so)

  -- of two entries the greater one lies no lower
  low_then : (d e : Entry) → entry_cmp d e ≡ Less → (o : Ordering) → lies e ≡ o → ordering_index (lies d) ≤ ordering_index o
  low_then d e less Less is =
      let key : Entry = record { term = term; block = block; records = 0; bytes = [] } in
      subst (λ o. ordering_index o ≤ 0) (sym (entries_total.trans d e key less is)) (omega arith)
  low_then d e less Equal is =
      let key : Entry = record { term = term; block = block; records = 0; bytes = [] } in
      let low : lies d ≡ Less = entries_total.antisymm d key ∙ ap ordering_reverse (sym (entries_total.congr e key d is)) ∙ sym (entries_total.antisymm d e) ∙ less in
      subst (λ o. ordering_index o ≤ 1) (sym low) (omega arith)
  low_then d e less Greater is = most (lies d)
    where
      most : (o : Ordering) → ordering_index o ≤ 2
      most Less = omega arith
      most Equal = omega arith
      most Greater = omega arith

  pub rise : (entries : List Entry) → IsStrictlySortedBy entry_cmp entries → IsNonDecreasingBy (λ e. ordering_index (lies e)) entries
  unfolding IsStrictlySortedBy
  rise [] up i j d less inside = absurd (omega (arith, inside))
  rise (e ∷ entries) up zero zero d less inside = omega arith
  rise (e ∷ entries) up zero (suc j) d less inside =
      let f = get_or entries j d in
      low_then e f (all_has (λ x. entry_cmp e x ≡ Less) entries f up.0 (has_get entries j d (omega (arith, inside)))) (lies f) refl
  rise (e ∷ entries) up (suc i) zero d less inside = absurd (omega (arith, less))
  rise (e ∷ entries) up (suc i) (suc j) d less inside = rise entries up.1 i j d (omega (arith, less)) (omega (arith, inside))

  -- where each is below the key or above it, none is at it
  place_of : (entries : List Entry) (e : Entry) → Has entries e → (k : ℕ) × (k < length entries) × (get_or entries k e ≡ e)
  place_of [] e here = absurd here
  place_of (f ∷ entries) e (inl same) = (0, omega arith, sym same)
  place_of (f ∷ entries) e (inr later) = let it = place_of entries e later in (suc it.0, omega (arith, it.1), it.2)

  pub none_at : (entries : List Entry) (i : ℕ) → IsPartitionPoint (λ e. lies e ≡ Less) (λ e. lies e ≡ Greater) entries i → (e : Entry) → Has entries e → ¬ IsAt term block e
  none_at entries i parted e here at =
      let it = place_of entries e here in
      let level : lies (get_or entries it.0 e) ≡ Equal = ap lies it.2 ∙ at_key e at in
      elim (cases_lt it.0 i) [
        | inl low ↦ let d : Less ≡ Equal = sym (parted.0 it.0 e (omega arith) low) ∙ level in cc
        | inr high ↦ let d : Greater ≡ Equal = sym (parted.1 it.0 e high it.1) ∙ level in cc
      ]

-- What a sort and a `dedup` leave: a strictly rising list with the same members.
use Rattle.std.proofs.Common.{◌≡◌, Bool, true, List, ◌∙◌, sym, ◌↔◌, []}
use Rattle.std.specs.declared.cmp.Ordering.{Ordering}
use Rattle.std.specs.Cmp.{IsTotalOrder, IsEquivalence, eq_by_cmp_equiv, Equal-is}
use Rattle.std.specs.List.{Contains}
use Rattle.std.specs.List.Retain.{IsFiltered, DiffersFromLast}
use Rattle.std.specs.List.Sorted.{IsPermutation, IsSorted, IsStrictlySortedBy}
use Rattle.std.specs.Ordering.{eq_by_cmp}
use Rattle.std.proofs.lemmas.List.Filters.{dedup_is}
use Rattle.std.proofs.lemmas.List.Kept.{IsStrictlySortedBy-dedup, Contains-dedup, Contains-from_dedup}
use Rattle.std.proofs.lemmas.List.Sorted.{Contains-permutation, IsPermutation-sym}
use Rattle.zeb_keys.specs.Order.{TellsApart}

module _ {X : Type 0} {E : X → X → Bool} {R : X → X → Ordering} (o : IsTotalOrder R) (ties : (x y : X) → E x y ≡ eq_by_cmp R x y) where
  equivalent : IsEquivalence E
  equivalent = let same = eq_by_cmp_equiv o in record {
    refl = λ x. ties x x ∙ same.refl x;
    symm = λ x y. ties x y ∙ same.symm x y ∙ sym (ties y x);
    congr = λ x y z e. ties x z ∙ same.congr x y z (sym (ties x y) ∙ e) ∙ sym (ties y z);
  }

  pub rising_from_dedup : (xs ys : List X) → IsSorted R xs → IsFiltered (DiffersFromLast E) [] xs ys → IsStrictlySortedBy R ys
  rising_from_dedup xs ys sorted filtered =
      let is = dedup_is E xs ys filtered in
      rw is (IsStrictlySortedBy-dedup o ties xs sorted)

  pub members_from_dedup : TellsApart R → (xs ys zs : List X) → IsPermutation xs ys → IsFiltered (DiffersFromLast E) [] ys zs
      → (x : X) → Contains zs x ↔ Contains xs x
  members_from_dedup apart xs ys zs moved filtered x =
      let is = dedup_is E ys zs filtered in
      let equals : (a b : X) → E a b ≡ true → a ≡ b = λ a b e. apart a b ((Equal-is (R a b)).0 (sym (ties a b) ∙ e)) in (
        λ h. Contains-permutation ys xs x (IsPermutation-sym xs ys moved) (Contains-from_dedup E ys x (rw is at h)),
        λ h. rw is (Contains-dedup equivalent equals ys x (Contains-permutation xs ys x moved h)),
      )

-- For each list there is a rising one with the same members.
use Rattle.zeb_extract.proofs.Cited.{◌≡◌, ◌↔◌, List, [], ◌∷◌, refl, sym, ap, subst, ◌∙◌, Contains, first_member, no_member, later_member, member_cases}
use Rattle.std.proofs.Common.{inl, inr, ◌⊎◌, Ordering, Less, Equal, Greater}
use Rattle.std.specs.Cmp.{IsTotalOrder}
use Rattle.std.specs.Ordering.{ordering_reverse}
use Rattle.std.specs.List.{AllByRecursion}
use Rattle.std.specs.List.Sorted.{IsStrictlySortedBy}
use Rattle.zeb_keys.specs.Order.{TellsApart}
use Rattle.zeb_keys.proofs.Members.{only_member}

module _ {K : Type 0} where
  all_from : (P : K → Type 0) (xs : List K) → ((x : K) → Contains xs x → P x) → AllByRecursion P xs
  all_from P [] each = tt
  all_from P (x ∷ xs) each = (each x (first_member x xs), all_from P xs (λ y h. each y (later_member x xs y h)))

  all_has : (P : K → Type 0) (xs : List K) (x : K) → AllByRecursion P xs → Contains xs x → P x
  all_has P [] x all h = absurd (no_member x h)
  all_has P (y ∷ xs) x all h = elim (member_cases y xs x h) [ inl same ↦ subst P same all.0 | inr later ↦ all_has P xs x all.1 later ]

  first_is : (x : K) (xs : List K) (z : K) → x ≡ z → Contains (x ∷ xs) z
  first_is x xs z same = subst (Contains (x ∷ xs)) same (first_member x xs)

-- a rising list that has just what is P
pub record RisingOf {K : Type 0} (R : K → K → Ordering) (P : K → Type 0) : Type 0 where
  pub list : List K
  pub rises : IsStrictlySortedBy R list
  pub each : (z : K) → Contains list z ↔ P z

module _ {K : Type 0} {R : K → K → Ordering} (o : IsTotalOrder R) (apart : TellsApart R) where
  -- with one value more, where it isn't there already
  with_one : (x : K) (ys : List K) → IsStrictlySortedBy R ys → RisingOf R (λ z. Contains ys z ⊎ (x ≡ z))
  unfolding IsStrictlySortedBy
  with_one x [] up = record {
    list = x ∷ [];
    rises = (tt, tt);
    each = λ z. (
      λ h. inr (only_member x z h),
      λ h. elim h [ inl none ↦ absurd (no_member z none) | inr same ↦ first_is x [] z same ],
    );
  }
  with_one x (y ∷ ys) up = by (R x y) refl (with_one x ys up.1)
    where
      by : (r : Ordering) → R x y ≡ r → RisingOf R (λ z. Contains ys z ⊎ (x ≡ z)) → RisingOf R (λ z. Contains (y ∷ ys) z ⊎ (x ≡ z))
      by Less is more = record {
        list = x ∷ y ∷ ys;
        rises = ((is, all_from (λ z. R x z ≡ Less) ys (λ z h. o.trans x y z is (all_has (λ z. R y z ≡ Less) ys z up.0 h))), up);
        each = λ z. (
          λ h. elim (member_cases x (y ∷ ys) z h) [ inl same ↦ inr same | inr there ↦ inl there ],
          λ h. elim h [ inl there ↦ later_member x (y ∷ ys) z there | inr same ↦ first_is x (y ∷ ys) z same ],
        );
      }
      by Equal is more = record {
        list = y ∷ ys;
        rises = up;
        each = λ z. (
          λ h. inl h,
          λ h. elim h [ inl there ↦ there | inr same ↦ first_is y ys z (sym (apart x y is) ∙ same) ],
        );
      }
      by Greater is more = record {
        list = y ∷ more.list;
        rises = (
          all_from (λ z. R y z ≡ Less) more.list (λ z h. elim ((more.each z).0 h) [
            | inl there ↦ all_has (λ z. R y z ≡ Less) ys z up.0 there
            | inr same ↦ subst (λ w. R y w ≡ Less) same (o.antisymm y x ∙ ap ordering_reverse is)
          ]),
          more.rises,
        );
        each = λ z. (
          λ h. elim (member_cases y more.list z h) [
            | inl same ↦ inl (first_is y ys z same)
            | inr later ↦ elim ((more.each z).0 later) [ inl there ↦ inl (later_member y ys z there) | inr same ↦ inr same ]
          ],
          λ h. elim h [
            | inl there ↦ elim (member_cases y ys z there) [
              | inl same ↦ first_is y more.list z same
              | inr later ↦ later_member y more.list z ((more.each z).1 (inl later))
            ]
            | inr same ↦ later_member y more.list z ((more.each z).1 (inr same))
          ],
        );
      }

  pub rising_of : (xs : List K) → RisingOf R (Contains xs)
  unfolding IsStrictlySortedBy
  rising_of [] = record { list = []; rises = tt; each = λ z. (λ h. h, λ h. h) }
  rising_of (x ∷ xs) =
      let rest = rising_of xs in
      let all = with_one x rest.list rest.rises in
      record {
        list = all.list;
        rises = all.rises;
        each = λ z. (
          λ h. elim ((all.each z).0 h) [ inl there ↦ later_member x xs z ((rest.each z).0 there) | inr same ↦ first_is x xs z same ],
          λ h. elim (member_cases x xs z h) [ inl same ↦ (all.each z).1 (inr same) | inr later ↦ (all.each z).1 (inl ((rest.each z).1 later)) ],
        );
      }

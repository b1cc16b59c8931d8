-- How many records a database has, and their bytes.
use Rattle.zeb_engine.proofs.Cited.{◌≡◌, ◌∙◌, ◌-◌, ◌<◌, ◌≤◌, ℕ, ℤ, pos, Bool, false, List, [], ◌∷◌, length, map, refl, sym, ap, subst, inl, inr, arith, flat_map, eq_by_cmp, int_cmp, is_eq, nat_cmp, eq_by_cmp_equiv, int_cmp_total, length-map, length-le_from_is_member, Trees, Has, all_from, all_has, contains_had, has_contained, some_from, some_has, has_mapped, mapped_has, Directive, Format, IsNumberOf, IsRecordCount, ints_order, is_less, Base, Kept, AreRisingKept}
use Rattle.std.specs.List.{IsDistinct}
use Rattle.std.specs.List.Sorted.{IsStrictlySortedBy}
use Rattle.std.specs.declared.cmp.Ordering.TheVariants.{Less}
use Rattle.zeb_engine.proofs.DatabasesOfImages.{IsHeld}

-- ---- how many records a database has

abbrev number_of : Kept → ℤ
number_of k = pos k.sysno

abbrev IsSame : ℤ → ℤ → Bool
IsSame = eq_by_cmp int_cmp

numbers_apart : (ks : List Kept) → AreRisingKept ks → IsDistinct IsSame (map number_of ks)
unfolding IsStrictlySortedBy IsDistinct
numbers_apart [] up = tt
numbers_apart (k ∷ ks) up = (
  all_from (λ n. IsSame (number_of k) n ≡ false) (map number_of ks) (λ n h.
      let z = has_mapped number_of ks n h in
      ap (IsSame (number_of k)) z.2 ∙ ap is_eq (ints_order k.sysno z.0.sysno ∙ all_has (λ (b : Kept). nat_cmp k.sysno b.sysno ≡ Less) ks z.0 up.0 z.1)),
  numbers_apart ks up.1,
)

-- distinct numbers that are among others are no more than these
no_more : (xs ys : List ℤ) → IsDistinct IsSame xs → ((z : ℤ) → Has xs z → Has ys z) → length xs ≤ length ys
no_more xs ys apart there = length-le_from_is_member (eq_by_cmp_equiv int_cmp_total) xs ys apart (λ q member.
    let x = some_has (IsSame q) xs member in
    some_from (IsSame q) ys x.0 (there x.0 x.1) x.2)

-- numbers that rise above one number and up to another are no more than lie between these
few_between : (low top : ℕ) (ks : List Kept) → AreRisingKept ks → ((k : Kept) → Has ks k → (low < k.sysno) × (k.sysno ≤ top)) → length ks ≤ top - low
unfolding IsStrictlySortedBy
few_between low top [] up within = omega arith
few_between low top (k ∷ ks) up within =
    let rest = few_between k.sysno top ks up.1 (λ b h. (is_less k.sysno b.sysno (all_has (λ (x : Kept). nat_cmp k.sysno x.sysno ≡ Less) ks b up.0 h), (within b (inr h)).1)) in
    let here = within k (inl refl) in
    omega (arith, rest, here.0, here.1)

module _ (format : Format) (profile : List Directive) (trees : Trees) (id : ℤ) (base : Base) (held : IsHeld format profile trees id base) where
  number_there : (z : ℤ) → IsNumberOf trees id z → Has (map number_of base.records) z
  number_there z row =
      let k = (held.kept z row.0 row.1).0 row.2 in
      subst (Has (map number_of base.records)) (sym k.2) (mapped_has number_of base.records k.0 (has_contained base.records k.0 k.1))

  number_kept : (z : ℤ) → Has (map number_of base.records) z → IsNumberOf trees id z
  number_kept z h =
      let k = has_mapped number_of base.records z h in
      (k.0.ident, k.0.bytes, (held.kept z k.0.ident k.0.bytes).1 (k.0, contains_had base.records k.0 k.1, k.2, refl, refl))

  few : length base.records ≤ 999999999
  few =
      let between = few_between 0 base.last base.records held.sound.rising (λ k h. let there = contains_had base.records k h in (held.sound.from_one k there, held.sound.to_last k there)) in
      omega (arith, between, held.sound.few)

  -- the records that are counted are those that it has
  pub as_many : (count : ℕ) → IsRecordCount trees id count → count ≡ length base.records
  as_many count is =
      let numbers = map number_of base.records in
      let same : length numbers ≡ length base.records = length-map base.records number_of in
      let up = no_more is.numbers numbers is.apart (λ z h. number_there z ((is.each z).0 h)) in
      let down = no_more numbers is.numbers (numbers_apart base.records held.sound.rising) (λ z h. (is.each z).1 (number_kept z h)) in
      omega (arith, is.count_is, same, up, down, few)

-- ---- the bytes of records

abbrev pub bytes_in : List Kept → List ℕ
bytes_in = flat_map (λ (k : Kept). k.bytes)

-- Lists of databases in the byte order of their names: which there are, and what becomes of them where one is put or taken.
use Rattle.zeb_image.proofs.Cited.{◌≡◌, ◌≢◌, ◌↔◌, ◌⊎◌, ◌∙◌, ℕ, Bool, true, false, not, cond, List, [], ◌∷◌, Some, None, refl, sym, ap, inl, inr, Ordering, Less, Equal, Greater, nat_cmp, ordering_reverse, tied_itself, slice_cmp, nat_list_cmp_total, bytes_eq, not-true, exact_bytes, bytes_eq-Decides, Has, all_has, all_from, has_found, has_filtered, has_kept, Base, base_named, base_placed, without_base}
use Rattle.std.specs.List.Sorted.{IsStrictlySortedBy}
use Rattle.zeb_image.specs.Holdings.{with_base}

abbrev pub name_order : Base → Base → Ordering
name_order a b = slice_cmp nat_cmp a.name b.name

abbrev pub IsInOrder : List Base → Type 0
IsInOrder = IsStrictlySortedBy (λ (a b : Base). slice_cmp nat_cmp a.name b.name)

-- two lists of bytes are one or two
pub bytes_told : (a b : List ℕ) → (a ≡ b) ⊎ (a ≢ b)
bytes_told a b = from (bytes_eq a b) refl
  where
    from : (r : Bool) → bytes_eq a b ≡ r → (a ≡ b) ⊎ (a ≢ b)
    from true is = inl ((bytes_eq-Decides a b).0 is)
    from false is = inr (λ same. let e : true ≡ false = sym ((bytes_eq-Decides a b).1 same) ∙ is in cc)

pub bytes_other : (a b : List ℕ) → a ≢ b → bytes_eq a b ≡ false
bytes_other a b other = from (bytes_eq a b) refl
  where
    from : (r : Bool) → bytes_eq a b ≡ r → bytes_eq a b ≡ false
    from true is = absurd (other ((bytes_eq-Decides a b).0 is))
    from false is = is

pub less_differs : (a b : List ℕ) → slice_cmp nat_cmp a b ≡ Less → a ≢ b
less_differs a b less same = let e : Less ≡ Equal = sym less ∙ ap (slice_cmp nat_cmp a) (sym same) ∙ tied_itself nat_list_cmp_total a in cc

pub rest_in_order : (first : Base) (rest : List Base) → IsInOrder (first ∷ rest) → IsInOrder rest
unfolding IsStrictlySortedBy
rest_in_order first rest up = up.1

pub first_before : (first : Base) (rest : List Base) (other : Base) → IsInOrder (first ∷ rest) → Has rest other → name_order first other ≡ Less
unfolding IsStrictlySortedBy
first_before first rest other up there = all_has (λ z. name_order first z ≡ Less) rest other up.0 there

none_in_order : IsInOrder []
unfolding IsStrictlySortedBy
none_in_order = tt

more_in_order : (first : Base) (rest : List Base) → ((other : Base) → Has rest other → name_order first other ≡ Less) → IsInOrder rest → IsInOrder (first ∷ rest)
unfolding IsStrictlySortedBy
more_in_order first rest below up = (all_from (λ z. name_order first z ≡ Less) rest below, up)

-- ---- the database of a name

pub named_found : (name : List ℕ) (bases : List Base) (base : Base) → base_named name bases ≡ Some base → Has bases base × (name ≡ base.name)
named_found name bases base is = let found = has_found (λ (b : Base). bytes_eq name b.name) bases base is in (found.0, (bytes_eq-Decides name base.name).0 found.1)

pub named_there : (bases : List Base) (base : Base) → IsInOrder bases → Has bases base → base_named base.name bases ≡ Some base
named_there [] base up there = absurd there
named_there (first ∷ rest) base up (inl same) = rw ((bytes_eq-Decides base.name first.name).1 (ap (λ (b : Base). b.name) same)) (ap Some (sym same))
named_there (first ∷ rest) base up (inr later) =
    rw (bytes_other base.name first.name (λ same. less_differs first.name base.name (first_before first rest base up later) (sym same))) (named_there rest base (rest_in_order first rest up) later)

pub named_none : (name : List ℕ) (bases : List Base) (base : Base) → base_named name bases ≡ None → Has bases base → base.name ≢ name
named_none name [] base none there same = absurd there
named_none name (first ∷ rest) base none there same = from (bytes_eq name first.name) refl there (λ less later. named_none name rest base less later same)
  where
    from : (r : Bool) → bytes_eq name first.name ≡ r → Has (first ∷ rest) base → (base_named name rest ≡ None → Has rest base → ⊥) → ⊥
    from true is at again = let e : Some first ≡ None = rw is at none in cc
    from false is (inl one) again = let e : true ≡ false = sym ((bytes_eq-Decides name first.name).1 (sym same ∙ ap (λ (b : Base). b.name) one)) ∙ is in cc
    from false is (inr later) again = again (rw is at none) later

-- ---- one database put, in the place of the one that has its name

module _ (base first : Base) (rest after : List Base) where
  placed_has : (r : Ordering) (z : Base) → name_order base first ≡ r → IsInOrder (first ∷ rest) → Has after z ↔ ((z ≡ base) ⊎ (Has rest z × (z.name ≢ base.name)))
      → Has (base_placed r base first rest after) z ↔ ((z ≡ base) ⊎ (Has (first ∷ rest) z × (z.name ≢ base.name)))
  placed_has Less z is up behind =
      let before : (w : Base) → Has (first ∷ rest) w → w.name ≢ base.name = λ w there same. less_differs base.name w.name (below w there) (sym same) in
      (λ h. elim h [ inl one ↦ inl one | inr there ↦ inr (there, before z there) ], λ h. elim h [ inl one ↦ inl one | inr kept ↦ inr kept.0 ])
    where
      below : (w : Base) → Has (first ∷ rest) w → name_order base w ≡ Less
      below w (inl one) = ap (name_order base) one ∙ is
      below w (inr later) = nat_list_cmp_total.trans base.name first.name w.name is (first_before first rest w up later)
  placed_has Equal z is up behind =
      let tied : base.name ≡ first.name = exact_bytes base.name first.name is in (
        λ h. elim h [
          | inl one ↦ inl one
          | inr there ↦ inr (inr there, λ same. less_differs first.name z.name (first_before first rest z up there) (sym (same ∙ tied)))
        ],
        λ h. elim h [ inl one ↦ inl one | inr kept ↦ elim kept.0 [ inl one ↦ absurd (kept.1 (ap (λ (b : Base). b.name) one ∙ sym tied)) | inr there ↦ inr there ] ],
      )
  placed_has Greater z is up behind =
      let apart : first.name ≢ base.name = λ same. let e : Greater ≡ Equal = sym is ∙ ap (slice_cmp nat_cmp base.name) same ∙ tied_itself nat_list_cmp_total base.name in cc in (
        λ h. elim h [
          | inl one ↦ inr (inl one, λ same. apart (sym (ap (λ (b : Base). b.name) one) ∙ same))
          | inr later ↦ elim (behind.0 later) [ inl one ↦ inl one | inr kept ↦ inr (inr kept.0, kept.1) ]
        ],
        λ h. elim h [
          | inl one ↦ inr (behind.1 (inl one))
          | inr kept ↦ elim kept.0 [ inl one ↦ inl one | inr there ↦ inr (behind.1 (inr (there, kept.1))) ]
        ],
      )

  placed_in_order : (r : Ordering) → name_order base first ≡ r → IsInOrder (first ∷ rest) → IsInOrder after → ((z : Base) → Has after z → (z ≡ base) ⊎ (Has rest z × (z.name ≢ base.name)))
      → IsInOrder (base_placed r base first rest after)
  placed_in_order Less is up up_after behind =
      more_in_order base (first ∷ rest) (λ w there. elim there [
        | inl one ↦ ap (name_order base) one ∙ is
        | inr later ↦ nat_list_cmp_total.trans base.name first.name w.name is (first_before first rest w up later)
      ]) up
  placed_in_order Equal is up up_after behind =
      more_in_order base rest (λ w there. nat_list_cmp_total.congr base.name first.name w.name is ∙ first_before first rest w up there) (rest_in_order first rest up)
  placed_in_order Greater is up up_after behind =
      more_in_order first after (λ w there. elim (behind w there) [
        | inl one ↦ ap (name_order first) one ∙ nat_list_cmp_total.antisymm first.name base.name ∙ ap ordering_reverse is
        | inr kept ↦ first_before first rest w up kept.0
      ]) up_after

pub with_base_has : (base : Base) (bases : List Base) (z : Base) → IsInOrder bases → Has (with_base base bases) z ↔ ((z ≡ base) ⊎ (Has bases z × (z.name ≢ base.name)))
unfolding with_base
with_base_has base [] z up = (λ h. elim h [ inl one ↦ inl one | inr none ↦ absurd none ], λ h. elim h [ inl one ↦ inl one | inr kept ↦ absurd kept.0 ])
with_base_has base (first ∷ rest) z up =
    placed_has base first rest (with_base base rest) (name_order base first) z refl up (with_base_has base rest z (rest_in_order first rest up))

pub with_base_in_order : (base : Base) (bases : List Base) → IsInOrder bases → IsInOrder (with_base base bases)
unfolding with_base
with_base_in_order base [] up = more_in_order base [] (λ w there. absurd there) none_in_order
with_base_in_order base (first ∷ rest) up =
    let later = rest_in_order first rest up in
    placed_in_order base first rest (with_base base rest) (name_order base first) refl up (with_base_in_order base rest later) (λ z h. (with_base_has base rest z later).0 h)

-- ---- one database taken

pub without_base_has : (name : List ℕ) (bases : List Base) (z : Base) → Has (without_base name bases) z ↔ (Has bases z × (z.name ≢ name))
without_base_has name bases z = (
  λ h. let kept = has_filtered (λ (b : Base). not (bytes_eq name b.name)) bases z h in
      (kept.0, λ same. let e : true ≡ false = sym ((bytes_eq-Decides name z.name).1 (sym same)) ∙ not-true _ kept.1 in cc),
  λ h. has_kept (λ (b : Base). not (bytes_eq name b.name)) bases z h.0 (ap not (bytes_other name z.name (λ same. h.1 (sym same)))),
)

pub without_base_in_order : (name : List ℕ) (bases : List Base) → IsInOrder bases → IsInOrder (without_base name bases)
without_base_in_order name [] up = up
without_base_in_order name (first ∷ rest) up = from (bytes_eq name first.name) (without_base_in_order name rest (rest_in_order first rest up))
  where
    from : (r : Bool) → IsInOrder (without_base name rest) → IsInOrder (cond (not r) (first ∷ without_base name rest) (without_base name rest))
    from true later = later
    from false later = more_in_order first (without_base name rest) (λ w there. first_before first rest w up ((without_base_has name rest w).0 there).0) later

-- Which records a delete leaves.
use Rattle.zeb_laws.proofs.Cited.{◌≡◌, ◌≢◌, ◌↔◌, ◌∙◌, ℕ, true, false, not, List, [], ◌∷◌, ◌++◌, Option, Some, None, Result, Ok, Err, refl, sym, ap, subst, inl, inr, Contains, not-true, has_contained, contains_had, has_filtered, has_kept, MarcFault, Split, Directive, IdentFault, Kind, Update, Delete, Adelete, PassedOver, Why, unknown, Conditions, FoldsTo, Changed, Progress, changed_by, deleted, ident_in, with_ident, with_record, Base, Kept, has_ident, kept_as, without_ident, NoneHas, slices_in, has_same, is_ident, none_kept, same_has, first_fault}
use Rattle.zeb_change.specs.Folding.{changed_record}
use Rattle.zeb_laws.proofs.FoldInduction.{all_folded}
use Rattle.zeb_laws.proofs.Lasting.{in_left, in_right, the_one, none_in_both, none_in_none, none_in_other}

-- the records that are kept still: those whose identifier no slice has
abbrev LeavesOthers : List Directive → List (List ℕ) → Base → Base → Type 0
LeavesOthers profile slices base next = (kept : Kept) → Contains next.records kept ↔ (Contains base.records kept × NoneHas profile kept.ident slices)

module _ (profile : List Directive) where
  leaves_none : (base : Base) → LeavesOthers profile [] base base
  leaves_none base kept = (λ h. (h, none_in_none profile kept.ident), λ h. h.0)

  leaves_join : (xs ys : List (List ℕ)) (a b d : Base) → LeavesOthers profile xs a b → LeavesOthers profile ys b d → LeavesOthers profile (xs ++ ys) a d
  leaves_join xs ys a b d one two kept = (
    λ h. let later = (two kept).0 h in let first = (one kept).0 later.0 in (first.0, none_in_both profile kept.ident xs ys first.1 later.1),
    λ h. (two kept).1 ((one kept).1 (h.0, λ slice there. h.1 slice (in_left xs ys slice there)), λ slice there. h.1 slice (in_right xs ys slice there)),
  )

  module _ (slice ident : List ℕ) (base : Base) (named : ident_in profile slice ≡ Ok ident) where
    leaves_others : LeavesOthers profile (slice ∷ []) base (without_ident ident base)
    leaves_others kept = (
      λ h.
          let it = has_filtered (λ k. not (has_ident ident k)) base.records kept (has_contained _ kept h) in
          (contains_had base.records kept it.0, none_in_other profile kept.ident slice ident named (λ same. let e : true ≡ false = sym (same_has ident kept same) ∙ not-true _ it.1 in cc)),
      λ h. elim (is_ident ident kept) [
        | inl is ↦ absurd (h.1 slice (the_one slice) (named ∙ ap Ok (sym (has_same ident kept is))))
        | inr differs ↦ contains_had _ kept (has_kept (λ k. not (has_ident ident k)) base.records kept (has_contained base.records kept h.0) (ap not differs))
      ],
    )

    leaves_all : kept_as ident base ≡ None → LeavesOthers profile (slice ∷ []) base base
    leaves_all none kept = (λ h. (h, none_in_other profile kept.ident slice ident named (none_kept ident base kept none (has_contained base.records kept h))), λ h. h.0)

module _ (c : Conditions) (slice : List ℕ) (base : Base) (changed : Changed) where
  leaves_so : (absent : Result Changed Why) (ident : List ℕ) → ident_in c.profile slice ≡ Ok ident → (absent ≡ Ok changed → changed.0 ≡ base) → (elder : Option Kept) → kept_as ident base ≡ elder
      → deleted absent ident base elder ≡ Ok changed → LeavesOthers c.profile (slice ∷ []) base changed.0
  leaves_so absent ident named passes (Some elder) found is =
      let same : without_ident ident base ≡ changed.0 = cc in subst (LeavesOthers c.profile (slice ∷ []) base) same (leaves_others c.profile slice ident base named)
  leaves_so absent ident named passes None none is = subst (LeavesOthers c.profile (slice ∷ []) base) (sym (passes is)) (leaves_all c.profile slice ident base named none)

  leaves_by : (kind : Kind) (file nth : ℕ) → kind ≢ Update → (ident : List ℕ) → ident_in c.profile slice ≡ Ok ident → changed_by c kind file nth slice ident base ≡ Ok changed → LeavesOthers c.profile (slice ∷ []) base changed.0
  leaves_by Update file nth other ident named is = absurd (other refl)
  leaves_by Delete file nth other ident named is = leaves_so (Err (unknown file nth)) ident named (λ h. cc) (kept_as ident base) refl is
  leaves_by Adelete file nth other ident named is = leaves_so (Ok (base, PassedOver)) ident named (λ h. cc) (kept_as ident base) refl is

  leaves_named : (kind : Kind) (file nth : ℕ) → kind ≢ Update → (said : Result (List ℕ) IdentFault) → ident_in c.profile slice ≡ said → with_ident c kind file nth slice base said ≡ Ok changed
      → LeavesOthers c.profile (slice ∷ []) base changed.0
  leaves_named kind file nth other (Ok ident) named is = leaves_by kind file nth other ident named is
  leaves_named kind file nth other (Err fault) named is = cc

  leaves_whole : (kind : Kind) (file nth : ℕ) → kind ≢ Update → (fault : Option MarcFault) → with_record c kind file nth slice base fault ≡ Ok changed → LeavesOthers c.profile (slice ∷ []) base changed.0
  leaves_whole kind file nth other (Some fault) is = cc
  leaves_whole kind file nth other None is = leaves_named kind file nth other (ident_in c.profile slice) refl is

leaves_one : (c : Conditions) (kind : Kind) → kind ≢ Update → (file nth : ℕ) (slice : List ℕ) (base : Base) (changed : Changed) → changed_record c kind file nth slice base ≡ Ok changed
    → LeavesOthers c.profile (slice ∷ []) base changed.0
unfolding changed_record
leaves_one c kind other file nth slice base changed is = leaves_whole c slice base changed kind file nth other (first_fault slice) is

pub records_left : (c : Conditions) (kind : Kind) (files : List Split) (base : Base) (p : Progress) → FoldsTo c kind files base p → kind ≢ Update
    → (kept : Kept) → Contains p.base.records kept ↔ (Contains base.records kept × NoneHas c.profile kept.ident (slices_in files))
records_left c kind files base p is other = all_folded c kind (LeavesOthers c.profile) (leaves_none c.profile) (leaves_one c kind other) (leaves_join c.profile) files base p is

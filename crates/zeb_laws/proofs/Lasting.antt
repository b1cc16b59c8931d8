-- What becomes of the records of an identifier in a change.
use Rattle.zeb_laws.proofs.Cited.{◌≡◌, ◌≢◌, ◌↔◌, ◌⊎◌, ◌∙◌, ◌+◌, ℕ, Bool, true, false, cond, List, [], ◌∷◌, ◌++◌, Option, Some, None, Result, Ok, Err, nat_le, append_assoc, refl, sym, ap, subst, inl, inr, Contains, Has, has_contained, contains_had, has_left, has_right, has_either, has_mapped, mapped_has, MarcFault, Split, Directive, IdentFault, Update, Inserted, Why, database_full, Conditions, FoldsTo, Changed, Progress, ident_in, updated, with_ident, with_record, Base, Kept, kept_as, with_new, with_bytes, IsLastOf, KeepsIdent, NoneHas, SomeHas, slices_in, has_same, is_ident, kept_found, none_kept, same_has, first_fault}
use Rattle.zeb_change.specs.Folding.{changed_record}
use Rattle.zeb_laws.proofs.FoldRecords.{with_other, other_ident}
use Rattle.zeb_laws.proofs.FoldInduction.{all_folded}

-- ---- what stands in a list of slices

module _ {X : Type 0} where
  pub in_left : (xs ys : List X) (x : X) → Contains xs x → Contains (xs ++ ys) x
  in_left xs ys x h = contains_had (xs ++ ys) x (has_left xs ys x (has_contained xs x h))

  pub in_right : (xs ys : List X) (x : X) → Contains ys x → Contains (xs ++ ys) x
  in_right xs ys x h = contains_had (xs ++ ys) x (has_right xs ys x (has_contained ys x h))

  pub in_either : (xs ys : List X) (x : X) → Contains (xs ++ ys) x → Contains xs x ⊎ Contains ys x
  in_either xs ys x h = elim (has_either xs ys x (has_contained (xs ++ ys) x h)) [ inl here ↦ inl (contains_had xs x here) | inr there ↦ inr (contains_had ys x there) ]

  pub in_one : (y x : X) → Contains (y ∷ []) x → x ≡ y
  in_one y x h = elim (has_contained (y ∷ []) x h) [ inl same ↦ same | inr none ↦ absurd none ]

  pub the_one : (x : X) → Contains (x ∷ []) x
  the_one x = contains_had (x ∷ []) x (inl refl)

  pub in_none : (x : X) → Contains [] x → ⊥
  in_none x h = absurd (has_contained [] x h)

module _ (profile : List Directive) (ident : List ℕ) where
  pub none_in_both : (xs ys : List (List ℕ)) → NoneHas profile ident xs → NoneHas profile ident ys → NoneHas profile ident (xs ++ ys)
  none_in_both xs ys left right slice there = elim (in_either xs ys slice there) [ inl here ↦ left slice here | inr here ↦ right slice here ]

  pub none_in_none : NoneHas profile ident []
  none_in_none slice there = absurd (in_none slice there)

  -- a slice of another identifier
  pub none_in_other : (slice name : List ℕ) → ident_in profile slice ≡ Ok name → ident ≢ name → NoneHas profile ident (slice ∷ [])
  none_in_other slice name is other x there same =
      let e : Ok name ≡ Ok ident = sym is ∙ ap (ident_in profile) (sym (in_one slice x there)) ∙ same in
      let one : ident ≡ name = cc in
      absurd (other one)

  some_in_one : (slice name : List ℕ) → ident_in profile slice ≡ Ok name → SomeHas profile ident (slice ∷ []) → ident ≡ name
  some_in_one slice name is some =
      let e : Ok name ≡ Ok ident = sym is ∙ ap (ident_in profile) (sym (in_one slice some.0 some.1)) ∙ some.2 in cc

  last_alone : (slice : List ℕ) → ident_in profile slice ≡ Ok ident → IsLastOf profile ident (slice ∷ []) slice
  last_alone slice is = record { before = []; behind = []; is = refl; named = is; none = none_in_none }

  last_on_left : (xs ys : List (List ℕ)) (last : List ℕ) → IsLastOf profile ident xs last → NoneHas profile ident ys → IsLastOf profile ident (xs ++ ys) last
  last_on_left xs ys last so none = record {
    before = so.before;
    behind = so.behind ++ ys;
    is = ap (λ l. l ++ ys) so.is ∙ append_assoc so.before (last ∷ so.behind) ys;
    named = so.named;
    none = none_in_both so.behind ys so.none none;
  }

  last_on_right : (xs ys : List (List ℕ)) (last : List ℕ) → IsLastOf profile ident ys last → IsLastOf profile ident (xs ++ ys) last
  last_on_right xs ys last so = record {
    before = xs ++ so.before;
    behind = so.behind;
    is = ap (λ l. xs ++ l) so.is ∙ sym (append_assoc xs so.before (last ∷ so.behind));
    named = so.named;
    none = so.none;
  }

-- ---- updates

record Lasts (profile : List Directive) (slices : List (List ℕ)) (base next : Base) : Type 0 where
  idents : (ident : List ℕ) → KeepsIdent next ident ↔ (KeepsIdent base ident ⊎ SomeHas profile ident slices)
  bytes : (kept : Kept) → Contains next.records kept → IsLastOf profile kept.ident slices kept.bytes ⊎ (NoneHas profile kept.ident slices × Contains base.records kept)

module _ (profile : List Directive) where
  lasts_none : (base : Base) → Lasts profile [] base base
  lasts_none base = record {
    idents = λ ident. (λ h. inl h, λ h. elim h [ inl kept ↦ kept | inr some ↦ absurd (in_none some.0 some.1) ]);
    bytes = λ kept there. inr (none_in_none profile kept.ident, there);
  }

  lasts_join : (xs ys : List (List ℕ)) (a b d : Base) → Lasts profile xs a b → Lasts profile ys b d → Lasts profile (xs ++ ys) a d
  lasts_join xs ys a b d one two = record {
    idents = λ ident. (
      λ h. elim ((two.idents ident).0 h) [
        | inl kept ↦ elim ((one.idents ident).0 kept) [ inl was ↦ inl was | inr some ↦ inr (some.0, in_left xs ys some.0 some.1, some.2) ]
        | inr some ↦ inr (some.0, in_right xs ys some.0 some.1, some.2)
      ],
      λ h. (two.idents ident).1 (elim h [
        | inl was ↦ inl ((one.idents ident).1 (inl was))
        | inr some ↦ elim (in_either xs ys some.0 some.1) [
          | inl here ↦ inl ((one.idents ident).1 (inr (some.0, here, some.2)))
          | inr here ↦ inr (some.0, here, some.2)
        ]
      ]),
    );
    bytes = λ kept there. elim (two.bytes kept there) [
      | inl last ↦ inl (last_on_right profile kept.ident xs ys kept.bytes last)
      | inr was ↦ elim (one.bytes kept was.1) [
        | inl last ↦ inl (last_on_left profile kept.ident xs ys kept.bytes last was.0)
        | inr elder ↦ inr (none_in_both profile kept.ident xs ys elder.0 was.0, elder.1)
      ]
    ];
  }

  module _ (slice ident : List ℕ) (base : Base) (named : ident_in profile slice ≡ Ok ident) where
    new : Kept
    new = record { sysno = base.last + 1; ident = ident; bytes = slice }

    -- the identifier is new
    lasts_new : kept_as ident base ≡ None → Lasts profile (slice ∷ []) base (with_new ident slice base)
    unfolding new
    lasts_new none = record {
      idents = λ name. (
        λ h. elim (in_either base.records (new ∷ []) h.0 h.1) [
          | inl was ↦ inl (h.0, was, h.2)
          | inr last ↦ inr (slice, the_one slice, named ∙ ap Ok (sym (ap (λ (k : Kept). k.ident) (in_one new h.0 last)) ∙ h.2))
        ],
        λ h. elim h [
          | inl was ↦ (was.0, in_left base.records (new ∷ []) was.0 was.1, was.2)
          | inr some ↦ (new, in_right base.records (new ∷ []) new (the_one new), sym (some_in_one profile name slice ident named some))
        ],
      );
      bytes = λ kept there. elim (in_either base.records (new ∷ []) kept there) [
        | inl was ↦ inr (none_in_other profile kept.ident slice ident named (none_kept ident base kept none (has_contained base.records kept was)), was)
        | inr last ↦ inl (subst (λ (k : Kept). IsLastOf profile k.ident (slice ∷ []) k.bytes) (sym (in_one new kept last)) (last_alone profile ident slice named))
      ];
    }

    -- it has a record
    lasts_renewed : (elder : Kept) → kept_as ident base ≡ Some elder → Lasts profile (slice ∷ []) base (with_bytes ident slice base)
    lasts_renewed elder found = record {
      idents = λ name. (
        λ h.
            let x = has_mapped (with_other ident slice) base.records h.0 (has_contained _ h.0 h.1) in
            inl (x.0, contains_had base.records x.0 x.1, sym (other_ident ident slice x.0) ∙ sym (ap (λ (k : Kept). k.ident) x.2) ∙ h.2),
        λ h. elim h [
          | inl was ↦ still name was.0 (has_contained base.records was.0 was.1) was.2
          | inr some ↦ let it = kept_found ident base elder found in still name elder it.0 (it.1 ∙ sym (some_in_one profile name slice ident named some))
        ],
      );
      bytes = λ kept there.
          let x = has_mapped (with_other ident slice) base.records kept (has_contained _ kept there) in
          subst (λ (k : Kept). IsLastOf profile k.ident (slice ∷ []) k.bytes ⊎ (NoneHas profile k.ident (slice ∷ []) × Contains base.records k)) (sym x.2) (was x.0 x.1);
    }
      where
        still : (name : List ℕ) (k : Kept) → Has base.records k → k.ident ≡ name → KeepsIdent (with_bytes ident slice base) name
        still name k there same = (with_other ident slice k, contains_had _ _ (mapped_has (with_other ident slice) base.records k there), other_ident ident slice k ∙ same)

        was : (k : Kept) → Has base.records k
            → IsLastOf profile (with_other ident slice k).ident (slice ∷ []) (with_other ident slice k).bytes
            ⊎ (NoneHas profile (with_other ident slice k).ident (slice ∷ []) × Contains base.records (with_other ident slice k))
        was k there = elim (is_ident ident k) [
          | inl is ↦ rw is (inl (last_alone profile k.ident slice (named ∙ ap Ok (sym (has_same ident k is)))))
          | inr differs ↦ rw differs (inr (none_in_other profile k.ident slice ident named (λ same. let e : true ≡ false = sym (same_has ident k same) ∙ differs in cc), contains_had base.records k there))
        ]

module _ (c : Conditions) (slice : List ℕ) (base : Base) (changed : Changed) where
  lasts_so : (ident : List ℕ) → ident_in c.profile slice ≡ Ok ident → (elder : Option Kept) → kept_as ident base ≡ elder → updated c ident slice base elder ≡ Ok changed → Lasts c.profile (slice ∷ []) base changed.0
  lasts_so ident named (Some elder) found is =
      let same : with_bytes ident slice base ≡ changed.0 = cc in subst (Lasts c.profile (slice ∷ []) base) same (lasts_renewed c.profile slice ident base named elder found)
  lasts_so ident named None none is = go (nat_le c.limits.numbers base.last) is
    where
      go : (full : Bool) → cond {A = Result Changed Why} full (Err database_full) (Ok (with_new ident slice base, Inserted)) ≡ Ok changed → Lasts c.profile (slice ∷ []) base changed.0
      go true h = cc
      go false h = let same : with_new ident slice base ≡ changed.0 = cc in subst (Lasts c.profile (slice ∷ []) base) same (lasts_new c.profile slice ident base named none)

  lasts_named : (file nth : ℕ) (said : Result (List ℕ) IdentFault) → ident_in c.profile slice ≡ said → with_ident c Update file nth slice base said ≡ Ok changed → Lasts c.profile (slice ∷ []) base changed.0
  lasts_named file nth (Ok ident) named is = lasts_so ident named (kept_as ident base) refl is
  lasts_named file nth (Err fault) named is = cc

  lasts_whole : (file nth : ℕ) (fault : Option MarcFault) → with_record c Update file nth slice base fault ≡ Ok changed → Lasts c.profile (slice ∷ []) base changed.0
  lasts_whole file nth (Some fault) is = cc
  lasts_whole file nth None is = lasts_named file nth (ident_in c.profile slice) refl is

lasts_one : (c : Conditions) (file nth : ℕ) (slice : List ℕ) (base : Base) (changed : Changed) → changed_record c Update file nth slice base ≡ Ok changed → Lasts c.profile (slice ∷ []) base changed.0
unfolding changed_record
lasts_one c file nth slice base changed is = lasts_whole c slice base changed file nth (first_fault slice) is

all_last : (c : Conditions) (files : List Split) (base : Base) (p : Progress) → FoldsTo c Update files base p → Lasts c.profile (slices_in files) base p.base
all_last c files base p is = all_folded c Update (Lasts c.profile) (lasts_none c.profile) (lasts_one c) (lasts_join c.profile) files base p is

pub idents_last : (c : Conditions) (files : List Split) (base : Base) (p : Progress) → FoldsTo c Update files base p
    → (ident : List ℕ) → KeepsIdent p.base ident ↔ (KeepsIdent base ident ⊎ SomeHas c.profile ident (slices_in files))
idents_last c files base p is = (all_last c files base p is).idents

pub bytes_last : (c : Conditions) (files : List Split) (base : Base) (p : Progress) → FoldsTo c Update files base p
    → (kept : Kept) → Contains p.base.records kept → IsLastOf c.profile kept.ident (slices_in files) kept.bytes ⊎ (NoneHas c.profile kept.ident (slices_in files) × Contains base.records kept)
bytes_last c files base p is = (all_last c files base p is).bytes

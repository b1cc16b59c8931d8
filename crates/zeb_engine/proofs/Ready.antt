-- What the texts of the store tell of a register, and whether it is ready then.
use Rattle.zeb_engine.proofs.Cited.{◌≡◌, ◌≢◌, ◌∙◌, ℕ, Bool, true, false, not, List, [], ◌∷◌, codes, get_or, Option, Some, None, Result, Ok, Err, refl, sym, ap, subst, inl, inr, arith, IsUtf8, bytes_eq, bytes_eq-Decides, Int, Trees, Database, State, Has, canonical_text, HasRow, store_same, IsStore, AreReadableTexts, entry, meta_tree, Why, not_initialised, old_format, profile_changed, Conditions, Holdings, nothing_yet, under, Base, IsImage, HasTexts, holding, bytes_other, Format}
use Rattle.zeb_engine.specs.Steps.{ready}

abbrev pub version_in : Holdings → Option (List ℕ)
version_in nothing_yet = None
version_in (under version text bases) = Some version

abbrev pub profile_in : Holdings → Option (List ℕ)
profile_in nothing_yet = None
profile_in (under version text bases) = Some text

pub none_there : (trees : Trees) (name value : List ℕ) → trees meta_tree ≡ [] → ¬ HasRow trees meta_tree (entry name value)
none_there trees name value none h = subst (λ rows. Has rows (Int h.0 ∷ entry name value)) none h.1

module _ (trees : Trees) (version text pattern : List ℕ) (texts : HasTexts trees version text pattern) where
  pub version_is : (value : List ℕ) → HasRow trees meta_tree (entry (codes "version") value) → value ≡ version
  version_is value there = elim ((texts.each (codes "version") value).0 there) [
    | inl is ↦ is.1
    | inr other ↦ elim other [
      | inl is ↦ let e : 118 ≡ 112 = ap (λ (l : List ℕ). get_or l 0 0) is.0 in absurd (omega (arith, e))
      | inr is ↦ let e : 118 ≡ 105 = ap (λ (l : List ℕ). get_or l 0 0) is.0 in absurd (omega (arith, e))
    ]
  ]

  pub profile_is : (value : List ℕ) → HasRow trees meta_tree (entry (codes "profile") value) → value ≡ text
  profile_is value there = elim ((texts.each (codes "profile") value).0 there) [
    | inl is ↦ let e : 112 ≡ 118 = ap (λ (l : List ℕ). get_or l 0 0) is.0 in absurd (omega (arith, e))
    | inr other ↦ elim other [
      | inl is ↦ is.1
      | inr is ↦ let e : 112 ≡ 105 = ap (λ (l : List ℕ). get_or l 0 0) is.0 in absurd (omega (arith, e))
    ]
  ]

module _ (format : Format) (c : Conditions) (trees : Trees) where
  pub version_readable : (before : Holdings) → IsImage trees before → AreReadableTexts trees (codes "version")
  version_readable nothing_yet image value there = absurd (none_there trees (codes "version") value image.0.0 there)
  version_readable (under version text bases) image value there = subst IsUtf8 (sym (version_is trees version text image.1.pattern image.1.texts value there)) image.1.texts.readable.0

  pub profile_readable : (before : Holdings) → IsImage trees before → AreReadableTexts trees (codes "profile")
  profile_readable nothing_yet image value there = absurd (none_there trees (codes "profile") value image.0.0 there)
  profile_readable (under version text bases) image value there = subst IsUtf8 (sym (profile_is trees version text image.1.pattern image.1.texts value there)) image.1.texts.readable.1

-- what is seen is what was seen, so it is the same image
pub image_still : (before : Holdings) (a b : State) → b.now ≡ a.now → IsStore a × IsImage a.now.trees before → IsStore b × IsImage b.now.trees before
image_still before a b same at = (store_same a b same at.0, subst (λ (d : Database). IsImage d.trees before) (sym same) at.1)

-- ---- what a test of two texts told

pub texts_differ : (r : Bool) (a b p q : List ℕ) → r ≡ not (bytes_eq a b) → r ≡ true → a ≡ p → b ≡ q → p ≢ q
texts_differ r a b p q tested is left right same =
    let equal : bytes_eq a b ≡ true = (bytes_eq-Decides a b).1 (left ∙ same ∙ sym right) in
    let e : true ≡ false = sym is ∙ tested ∙ ap not equal in cc

pub texts_agree : (r : Bool) (a b p q : List ℕ) → r ≡ not (bytes_eq a b) → r ≡ false → a ≡ p → b ≡ q → p ≡ q
texts_agree r a b p q tested is left right = sym left ∙ (bytes_eq-Decides a b).0 (from (bytes_eq a b) refl) ∙ right
  where
    from : (s : Bool) → bytes_eq a b ≡ s → bytes_eq a b ≡ true
    from true same = same
    from false same = let e : true ≡ false = sym (ap not same) ∙ sym tested ∙ is in absurd cc

pub texts_equal : (r : Bool) (a b p q : List ℕ) → r ≡ bytes_eq a b → r ≡ true → a ≡ p → b ≡ q → p ≡ q
texts_equal r a b p q tested is left right = sym left ∙ (bytes_eq-Decides a b).0 (sym tested ∙ is) ∙ right

pub texts_apart : (r : Bool) (a b p q : List ℕ) → r ≡ bytes_eq a b → r ≡ false → a ≡ p → b ≡ q → p ≢ q
texts_apart r a b p q tested is left right same =
    let equal : bytes_eq a b ≡ true = (bytes_eq-Decides a b).1 (left ∙ same ∙ sym right) in
    let e : false ≡ true = sym is ∙ tested ∙ equal in cc

-- ---- whether it is ready

pub same_inside : (a b : List ℕ) → Some a ≡ Some b → a ≡ b
same_inside a b e = cc

module _ (c : Conditions) where
  pub ready_none : (before : Holdings) → version_in before ≡ None → ready c before ≡ Err not_initialised
  unfolding ready
  ready_none nothing_yet is = refl
  ready_none (under version text bases) is = absurd cc

  pub ready_old : (before : Holdings) (found : List ℕ) → version_in before ≡ Some found → found ≢ c.version → ready c before ≡ Err old_format
  unfolding ready
  ready_old nothing_yet found is other = absurd cc
  ready_old (under version text bases) found is other = rw (bytes_other version c.version (λ same. other (sym (same_inside version found is) ∙ same)))

  pub ready_changed : (before : Holdings) → version_in before ≡ Some c.version → profile_in before ≢ Some (canonical_text c.profile) → ready c before ≡ Err profile_changed
  unfolding ready
  ready_changed nothing_yet is other = absurd cc
  ready_changed (under version text bases) is other =
      rw ((bytes_eq-Decides version c.version).1 (same_inside version c.version is), bytes_other text (canonical_text c.profile) (λ same. other (ap Some same)))

  pub ready_good : (before : Holdings) → version_in before ≡ Some c.version → profile_in before ≡ Some (canonical_text c.profile) → (bases : List Base) × (ready c before ≡ Ok bases)
  unfolding ready
  ready_good nothing_yet is text_is = absurd cc
  ready_good (under version text bases) is text_is =
      (bases, rw ((bytes_eq-Decides version c.version).1 (same_inside version c.version is), (bytes_eq-Decides text (canonical_text c.profile)).1 (same_inside text (canonical_text c.profile) text_is)))

  -- what is ready is held under these conditions
  pub ready_is : (before : Holdings) (bases : List Base) → ready c before ≡ Ok bases → before ≡ holding c bases
  unfolding ready
  ready_is nothing_yet bases is = absurd cc
  ready_is (under version text found) bases is = told (bytes_eq version c.version) (bytes_eq text (canonical_text c.profile)) refl refl
    where
      told : (r s : Bool) → bytes_eq version c.version ≡ r → bytes_eq text (canonical_text c.profile) ≡ s → under version text found ≡ holding c bases
      told true true one two =
          let same : ◌≡◌ {A = Result (List Base) Why} (Ok found) (Ok bases) = rw (one, two) at is in
          let bases_are : found ≡ bases = cc in
          λ i. under ((bytes_eq-Decides version c.version).0 one i) ((bytes_eq-Decides text (canonical_text c.profile)).0 two i) (bases_are i)
      told true false one two = let e : ◌≡◌ {A = Result (List Base) Why} (Err profile_changed) (Ok bases) = rw (one, two) at is in absurd cc
      told false s one two = let e : ◌≡◌ {A = Result (List Base) Why} (Err old_format) (Ok bases) = rw one at is in absurd cc

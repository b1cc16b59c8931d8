-- What the texts of a store tell of a reindex and of an upgrade, where its tables are an image.
use Rattle.zeb_engine.proofs.Cited.{Bool-set, ◌≡◌, ◌≢◌, ◌⊎◌, ◌∙◌, ℕ, Bool, true, false, List, [], codes, get_or, Option, Some, None, Ok, Err, refl, sym, ap, subst, inl, inr, arith, IsUtf8, ∥∥₁_elim, option_map, Trees, Directive, UnitPattern, canonical_text, pattern_text, identifier_pattern, IsProfile, plain_rows, HasRow, AreReadableTexts, entry, meta_tree, Refusal, Base, Conditions, IsFailing, why_of, Holdings, nothing_yet, under, HasTexts, IsImage, IsReadyFor, IsReadyToReindex, KeepsRule, KeepsText, KeepsUpgradable, RefusesReindex, RefusesUpgrade, is_taken, false_from_ne_true, IsTrue, same_rule, ruled, upgradable}
use Rattle.zeb_change.specs.declared.refusals.Refusal.TheVariants as refusal
use Rattle.zeb_engine.proofs.Ready.{none_there, profile_is, profile_readable, version_is, version_readable}
use Rattle.zeb_engine.proofs.RenewalSteps.{ruled_changed, ruled_good, ruled_none, ruled_old, upgradable_changed, upgradable_good, upgradable_none, upgradable_old}
use Rattle.zeb_engine.proofs.RuleLines.{texts_tell}

module _ (trees : Trees) (version text pattern : List ℕ) (texts : HasTexts trees version text pattern) where
  identifier_is : (value : List ℕ) → HasRow trees meta_tree (entry (codes "identifier") value) → value ≡ pattern
  identifier_is value there = elim ((texts.each (codes "identifier") value).0 there) [
    | inl is ↦ let e : 105 ≡ 118 = ap (λ (l : List ℕ). get_or l 0 0) is.0 in absurd (omega (arith, e))
    | inr other ↦ elim other [
      | inl is ↦ let e : 105 ≡ 112 = ap (λ (l : List ℕ). get_or l 0 0) is.0 in absurd (omega (arith, e))
      | inr is ↦ is.1
    ]
  ]

  pub version_kept : KeepsText trees (codes "version") version
  version_kept = (texts.each (codes "version") version).1 (inl (refl, refl))

  pub profile_kept : KeepsText trees (codes "profile") text
  profile_kept = (texts.each (codes "profile") text).1 (inr (inl (refl, refl)))

  identifier_kept : KeepsText trees (codes "identifier") pattern
  identifier_kept = (texts.each (codes "identifier") pattern).1 (inr (inr (refl, refl)))

identifier_readable : (trees : Trees) (before : Holdings) → IsImage trees before → AreReadableTexts trees (codes "identifier")
identifier_readable trees nothing_yet image value there = absurd (none_there trees (codes "identifier") value image.0.0 there)
identifier_readable trees (under version text bases) image value there =
    subst IsUtf8 (sym (identifier_is trees version text image.1.pattern image.1.texts value there)) image.1.texts.readable.2

-- the pattern of a rule, by its text
pattern_inside : (directives : List Directive) (text : List ℕ) → option_map pattern_text (identifier_pattern directives) ≡ Some text
    → (pattern : UnitPattern) × (identifier_pattern directives ≡ Some pattern) × (pattern_text pattern ≡ text)
pattern_inside directives text is = from (identifier_pattern directives) refl
  where
    from : (o : Option UnitPattern) → identifier_pattern directives ≡ o → (pattern : UnitPattern) × (identifier_pattern directives ≡ Some pattern) × (pattern_text pattern ≡ text)
    from (Some pattern) at =
        let e : Some (pattern_text pattern) ≡ Some text = sym (ap (option_map pattern_text) at) ∙ is in
        let same : pattern_text pattern ≡ text = cc in
        (pattern, at, same)
    from None at = let e : ◌≡◌ {A = Option (List ℕ)} None (Some text) = sym (ap (option_map pattern_text) at) ∙ is in absurd cc

-- two profiles have one rule just where the texts of their patterns are one
module _ (one other : List Directive) (is_one : ∥ IsProfile one ∥₁) (is_other : ∥ IsProfile other ∥₁) (left right : List ℕ)
    (one_is : option_map pattern_text (identifier_pattern one) ≡ Some left) (other_is : option_map pattern_text (identifier_pattern other) ≡ Some right) where
  same_texts : left ≡ right → same_rule (canonical_text one) (canonical_text other) ≡ true
  same_texts same =
      let p = pattern_inside one left one_is in
      let q = pattern_inside other right other_is in
      ∥∥₁_elim is_one (Bool-set _ _) (λ first. ∥∥₁_elim is_other (Bool-set _ _) (λ second.
      (texts_tell one other first second p.0 q.0 p.1 q.1).1 (p.2 ∙ same ∙ sym q.2)))

  other_texts : left ≢ right → same_rule (canonical_text one) (canonical_text other) ≡ false
  other_texts differs = from (same_rule (canonical_text one) (canonical_text other)) refl
    where
      no_prop : IsProp ⊥
      no_prop x y = absurd x

      from : (b : Bool) → same_rule (canonical_text one) (canonical_text other) ≡ b → same_rule (canonical_text one) (canonical_text other) ≡ false
      from false is = is
      from true is =
          let p = pattern_inside one left one_is in
          let q = pattern_inside other right other_is in
          absurd (∥∥₁_elim is_one no_prop (λ first. ∥∥₁_elim is_other no_prop (λ second.
          differs (sym p.2 ∙ (texts_tell one other first second p.0 q.0 p.1 q.1).0 is ∙ q.2))))

module _ (c : Conditions) (sound : ∥ IsProfile c.profile ∥₁) (pattern : List ℕ) (pattern_is : option_map pattern_text (identifier_pattern c.profile) ≡ Some pattern) (trees : Trees) where
  own_pattern : (it : KeepsRule c.profile trees) → it.0 ≡ pattern
  own_pattern it = let e : Some it.0 ≡ Some pattern = sym it.1 ∙ pattern_is in cc

  -- ---- a reindex

  pub rule_found : (before : Holdings) → IsImage trees before → IsReadyToReindex c.version c.profile trees → (bases : List Base) × (ruled c before ≡ Ok bases)
  rule_found nothing_yet image ready = absurd (none_there trees (codes "version") c.version image.0.0 ready.has_version)
  rule_found (under version text bases) image ready =
      let it = image.1 in
      let row = subst (KeepsText trees (codes "identifier")) (own_pattern ready.has_rule) ready.has_rule.2 in
      let same : it.pattern ≡ pattern = sym (identifier_is trees version text it.pattern it.texts pattern row) in
      let rule = subst (λ t. same_rule t (canonical_text c.profile) ≡ true) (sym it.text_is) (same_texts image.0 c.profile it.sound sound it.pattern pattern it.pattern_is pattern_is same) in
      (bases, ruled_good c version text bases (sym (version_is trees version text it.pattern it.texts c.version ready.has_version)) rule)

  pub rule_refused : (before : Holdings) → IsImage trees before → (why : Refusal) → RefusesReindex c.version c.profile trees why → IsFailing (why_of why) ⊎ (ruled c before ≡ Err (why_of why))
  rule_refused nothing_yet image refusal.NotInitialised is = inr (ruled_none c)
  rule_refused (under version text bases) image refusal.NotInitialised is = absurd (is version (version_kept trees version text image.1.pattern image.1.texts))
  rule_refused nothing_yet image refusal.OldFormat is = absurd (none_there trees (codes "version") is.0.0 image.0.0 is.0.1)
  rule_refused (under version text bases) image refusal.OldFormat is =
      inr (ruled_old c version text bases (λ same. is.1 (subst (KeepsText trees (codes "version")) same (version_kept trees version text image.1.pattern image.1.texts))))
  rule_refused nothing_yet image refusal.IdentifierRuleChanged is = absurd (none_there trees (codes "version") c.version image.0.0 is.0)
  rule_refused (under version text bases) image refusal.IdentifierRuleChanged is =
      let it = image.1 in
      let differs : it.pattern ≢ pattern = λ same. is.1 (pattern, pattern_is, subst (KeepsText trees (codes "identifier")) same (identifier_kept trees version text it.pattern it.texts)) in
      let rule = subst (λ t. same_rule t (canonical_text c.profile) ≡ false) (sym it.text_is) (other_texts image.0 c.profile it.sound sound it.pattern pattern it.pattern_is pattern_is differs) in
      inr (ruled_changed c version text bases (sym (version_is trees version text it.pattern it.texts c.version is.0)) rule)
  rule_refused before image refusal.Damaged is = absurd (elim is [ inl hard ↦ hard (version_readable plain_rows c trees before image) | inr hard ↦ hard.1 (identifier_readable trees before image) ])
  rule_refused before image refusal.Store is = inl (inl refl)
  rule_refused before image refusal.Memory is = inl (inr refl)
  rule_refused before image _ is = absurd is

module _ (c : Conditions) (trees : Trees) where
  -- ---- a register of this version and under this profile

  pub ready_held : (version : List ℕ) (before : Holdings) → IsImage trees before → IsReadyFor version c.profile trees → (bases : List Base) × (before ≡ under version (canonical_text c.profile) bases)
  ready_held version nothing_yet image ready = absurd (none_there trees (codes "version") version image.0.0 ready.has_version)
  ready_held version (under kept text bases) image ready =
      let versions : version ≡ kept = version_is trees kept text image.1.pattern image.1.texts version ready.has_version in
      let profiles : canonical_text c.profile ≡ text = profile_is trees kept text image.1.pattern image.1.texts (canonical_text c.profile) ready.has_profile in
      (bases, λ i. under (sym versions i) (sym profiles i) bases)

  -- ---- an upgrade

  pub layout_found : (before : Holdings) → IsImage trees before → (version : List ℕ) → IsTrue (is_taken version c.version) → IsReadyFor version c.profile trees
      → (bases : List Base) × (before ≡ under version (canonical_text c.profile) bases) × (upgradable c before ≡ Ok bases)
  layout_found before image version taken ready =
      let held = ready_held version before image ready in
      (held.0, held.1, subst (λ h. upgradable c h ≡ Ok held.0) (sym held.1) (upgradable_good c version (canonical_text c.profile) held.0 taken refl))

  taken_kept : (version text pattern : List ℕ) → HasTexts trees version text pattern → IsTrue (is_taken version c.version) → KeepsUpgradable c.version trees
  taken_kept version text pattern texts taken = (version, taken, version_kept trees version text pattern texts)

  kept_taken : (version text pattern : List ℕ) → HasTexts trees version text pattern → KeepsUpgradable c.version trees → IsTrue (is_taken version c.version)
  kept_taken version text pattern texts kept = subst (λ v. IsTrue (is_taken v c.version)) (version_is trees version text pattern texts kept.0 kept.2) kept.1

  none_kept : trees meta_tree ≡ [] → ¬ KeepsUpgradable c.version trees
  none_kept none kept = none_there trees (codes "version") kept.0 none kept.2

  pub layout_refused : (before : Holdings) → IsImage trees before → (why : Refusal) → RefusesUpgrade c.version c.profile trees why → IsFailing (why_of why) ⊎ (upgradable c before ≡ Err (why_of why))
  layout_refused nothing_yet image refusal.NotInitialised is = inr (upgradable_none c)
  layout_refused (under version text bases) image refusal.NotInitialised is = absurd (is version (version_kept trees version text image.1.pattern image.1.texts))
  layout_refused nothing_yet image refusal.OldFormat is = absurd (none_there trees (codes "version") is.0.0 image.0.0 is.0.1)
  layout_refused (under version text bases) image refusal.OldFormat is =
      inr (upgradable_old c version text bases (false_from_ne_true (is_taken version c.version) (λ taken. is.1 (taken_kept version text image.1.pattern image.1.texts taken))))
  layout_refused nothing_yet image refusal.ProfileChanged is = absurd (none_kept image.0.0 is.0)
  layout_refused (under version text bases) image refusal.ProfileChanged is =
      inr (upgradable_changed c version text bases (kept_taken version text image.1.pattern image.1.texts is.0)
      (λ same. is.1 (subst (KeepsText trees (codes "profile")) same (profile_kept trees version text image.1.pattern image.1.texts))))
  layout_refused before image refusal.Damaged is = absurd (elim is [ inl hard ↦ hard (version_readable plain_rows c trees before image) | inr hard ↦ hard.1 (profile_readable plain_rows c trees before image) ])
  layout_refused before image refusal.Store is = inl (inl refl)
  layout_refused before image refusal.Memory is = inl (inr refl)
  layout_refused before image _ is = absurd is

-- The tables once the registers are made anew: the image of the same databases, under the session's profile and its version.
use Rattle.zeb_engine.proofs.Cited.{props, Coded-set, Bool-set, ◌≡◌, ◌≢◌, ◌↔◌, ◌∙◌, ℕ, true, List, [], ◌∷◌, codes, get_or, Some, Ok, refl, sym, ap, ap₂, subst, inl, inr, arith, IsUtf8, ∥∥₁_elim, option_map, Int, Null, Text, Trees, Has, Directive, UnitPattern, canonical_text, pattern_text, identifier_pattern, IsProfile, Format, Replaces, KeepsRegisters, IsEntryOf, entry, meta_tree, record_row, registers_stay, Base, Conditions, AreSessions, Holdings, AreBases, AreListsOf, HasTexts, IsImage, IsImageOf, IsImageUnder, bases_so, under_other, same_rule, holding, ruled, upgradable}
use Rattle.zeb_profile.specs.contracts.patterns.UnitPattern as pattern_row
use Rattle.zeb_engine.proofs.ReadyImages.{ready_image}
use Rattle.zeb_engine.proofs.RenewalSteps.{ruled_is, upgradable_is}
use Rattle.zeb_engine.proofs.RuleLines.{same_rule_says}
use Rattle.zeb_engine.proofs.Beginning.{entry_inside, text_inside}

-- ---- profiles with the same rule for identifiers

pattern_set : IsSet UnitPattern
pattern_set = Coded-set pattern_row.the_row.coded

rules_prop : (one other : List Directive) → IsProp (identifier_pattern one ≡ identifier_pattern other)
rules_prop one other = hlevel (props, pattern_set)

rules_agree : (one other : List Directive) → ∥ IsProfile one ∥₁ → ∥ IsProfile other ∥₁ → same_rule (canonical_text one) (canonical_text other) ≡ true → identifier_pattern one ≡ identifier_pattern other
rules_agree one other is_one is_other same =
    ∥∥₁_elim is_one (rules_prop one other) (λ first. ∥∥₁_elim is_other (rules_prop one other) (λ second. (same_rule_says one other first second).0 same))

pub rules_told : (one other : List Directive) → ∥ IsProfile one ∥₁ → ∥ IsProfile other ∥₁ → (same_rule (canonical_text one) (canonical_text other) ≡ true) ↔ (identifier_pattern one ≡ identifier_pattern other)
rules_told one other is_one is_other = (
  rules_agree one other is_one is_other,
  λ same. ∥∥₁_elim is_one (Bool-set _ _) (λ first. ∥∥₁_elim is_other (Bool-set _ _) (λ second. (same_rule_says one other first second).1 same)),
)

-- ---- one text in the place of another

pub apart : (a b : List ℕ) → get_or a 0 0 ≢ get_or b 0 0 → Text a ≢ Text b
apart a b other same = other (ap (λ (l : List ℕ). get_or l 0 0) (text_inside a b same))

module _ (old new : Trees) (version text pattern : List ℕ) (texts : HasTexts old version text pattern) (put : List ℕ) (readable : IsUtf8 put) where
  pub profile_put : Replaces (IsEntryOf (codes "profile")) (entry (codes "profile") put) meta_tree old new → HasTexts new version put pattern
  profile_put replaces = record {
    readable = (texts.readable.0, readable, texts.readable.2);
    each = λ name value. (
      λ there. elim ((replaces (entry name value)).0 there) [
        | inl was ↦ elim ((texts.each name value).0 was.0) [
          | inl is ↦ inl is
          | inr other ↦ elim other [ inl is ↦ absurd (was.1 (ap Text is.0)) | inr is ↦ inr (inr is) ]
        ]
        | inr is ↦ inr (inl (entry_inside name (codes "profile") value put is))
      ],
      λ is. elim is [
        | inl it ↦ (replaces (entry name value)).1 (inl ((texts.each name value).1 (inl it), λ same. apart (codes "version") (codes "profile") (λ e. absurd (omega (arith, e))) (ap Text (sym it.0) ∙ same)))
        | inr other ↦ elim other [
          | inl it ↦ (replaces (entry name value)).1 (inr (ap₂ entry it.0 it.1))
          | inr it ↦ (replaces (entry name value)).1 (inl ((texts.each name value).1 (inr (inr it)), λ same. apart (codes "identifier") (codes "profile") (λ e. absurd (omega (arith, e))) (ap Text (sym it.0) ∙ same)))
        ]
      ],
    );
  }

  pub version_put : Replaces (IsEntryOf (codes "version")) (entry (codes "version") put) meta_tree old new → HasTexts new put text pattern
  version_put replaces = record {
    readable = (readable, texts.readable.1, texts.readable.2);
    each = λ name value. (
      λ there. elim ((replaces (entry name value)).0 there) [
        | inl was ↦ elim ((texts.each name value).0 was.0) [
          | inl is ↦ absurd (was.1 (ap Text is.0))
          | inr other ↦ inr other
        ]
        | inr is ↦ inl (entry_inside name (codes "version") value put is)
      ],
      λ is. elim is [
        | inl it ↦ (replaces (entry name value)).1 (inr (ap₂ entry it.0 it.1))
        | inr other ↦ elim other [
          | inl it ↦ (replaces (entry name value)).1 (inl ((texts.each name value).1 (inr (inl it)), λ same. apart (codes "profile") (codes "version") (λ e. absurd (omega (arith, e))) (ap Text (sym it.0) ∙ same)))
          | inr it ↦ (replaces (entry name value)).1 (inl ((texts.each name value).1 (inr (inr it)), λ same. apart (codes "identifier") (codes "version") (λ e. absurd (omega (arith, e))) (ap Text (sym it.0) ∙ same)))
        ]
      ],
    );
  }

-- ---- the other tables

lists_rows : (old new : Trees) (bases : List Base) → new 2 ≡ old 2 → new 4 ≡ old 4 → AreListsOf old bases → AreListsOf new bases
lists_rows old new bases databases records lists = record {
  id_of = lists.id_of;
  records_of = lists.records_of;
  distinct = lists.distinct;
  listed = λ id name last. (
    λ there. (lists.listed id name last).0 (subst (λ rows. Has rows (Int id ∷ Null ∷ Text name ∷ Int last ∷ [])) databases there),
    λ found. subst (λ rows. Has rows (Int id ∷ Null ∷ Text name ∷ Int last ∷ [])) (sym databases) ((lists.listed id name last).1 found),
  );
  of_base = lists.of_base;
  of_none = lists.of_none;
  kept = λ id sysno ident bytes. (
    λ there. (lists.kept id sysno ident bytes).0 (there.0, subst (λ rows. Has rows (Int there.0 ∷ record_row id sysno ident bytes)) records there.1),
    λ found. let there = (lists.kept id sysno ident bytes).1 found in (there.0, subst (λ rows. Has rows (Int there.0 ∷ record_row id sysno ident bytes)) (sym records) there.1),
  );
}

pub image_rows : (format : Format) (profile : List Directive) (old new : Trees) (bases : List Base) → new 2 ≡ old 2 → new 4 ≡ old 4 → KeepsRegisters old new
    → IsImageOf format profile old bases → IsImageOf format profile new bases
unfolding lists_rows
image_rows format profile old new bases databases records registers image = record {
  lists = lists_rows old new bases databases records image.lists;
  content = image.content;
  held = registers_stay format old new image.content registers image.held;
  posted = image.posted;
}

-- ---- what was held, under the session's profile

-- the image of these databases before, whatever its format and its profile
pub record WasImage (c : Conditions) (trees : Trees) (bases : List Base) : Type 0 where
  pub told : List Directive
  pub version : List ℕ
  pub text : List ℕ
  pub it : IsImageUnder told trees version text bases
  pub rule : identifier_pattern told ≡ identifier_pattern c.profile

module _ (format : Format) (c : Conditions) (session : AreSessions format c) (trees : Trees) (before : Holdings) (bases : List Base) (image : IsImage trees before) where
  pub ruled_image : ruled c before ≡ Ok bases → (was : WasImage c trees bases) × (was.version ≡ c.version)
  ruled_image is =
      let was = ruled_is c before bases is in
      let some = subst (IsImage trees) was.is image in
      let rule = subst (λ text. same_rule text (canonical_text c.profile) ≡ true) some.1.text_is was.rule in
      (record { told = some.0; version = c.version; text = was.text; it = some.1; rule = rules_agree some.0 c.profile some.1.sound session.sound rule }, refl)

  pub upgradable_image : upgradable c before ≡ Ok bases → (was : WasImage c trees bases) × (was.text ≡ canonical_text c.profile)
  upgradable_image is =
      let was = upgradable_is c before bases is in
      let some = subst (IsImage trees) was.is image in (
        record {
          told = c.profile;
          version = was.version;
          text = canonical_text c.profile;
          it = under_other some.0 c.profile session.sound trees was.version (canonical_text c.profile) bases refl some.1;
          rule = refl;
        },
        refl,
      )

pub was_bases : (c : Conditions) (trees : Trees) (bases : List Base) → (was : WasImage c trees bases) → AreBases c.profile bases
was_bases c trees bases was = bases_so was.told c.profile was.rule bases was.it.are

-- ---- the session's image

module _ (format : Format) (c : Conditions) (session : AreSessions format c) (new : Trees) (bases : List Base) where
  pub renewed_image : (pattern : List ℕ) → option_map pattern_text (identifier_pattern c.profile) ≡ Some pattern → HasTexts new c.version (canonical_text c.profile) pattern
      → AreBases c.profile bases → IsImageOf format c.profile new bases → IsImage new (holding c bases)
  renewed_image pattern pattern_is texts are image =
      ready_image format c session new bases (record { pattern = pattern; pattern_is = pattern_is; texts = texts; are = are; image = image })

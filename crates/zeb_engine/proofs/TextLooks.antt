-- What looks at texts come to, one after the other.
use Rattle.zeb_engine.proofs.Cited.{◌≡◌, ◌⊎◌, ◌↔◌, ◌∙◌, ℕ, Bool, true, false, List, codes, Option, Some, None, Result, Ok, Err, MatchResult, OnOk, IfErr, IsTrue, IsUtf8, String, string_bytes, sym, subst, inr, Global, bytes_eq, bytes_eq-Decides, IsUtf8-string_bytes, option_map, Database, Trees, HasCleanDisk, Survives, State, Directive, canonical_text, pattern_text, identifier_pattern, ChangesNothing, may_after, IsStore, IsValueOf, AreReadableTexts, nothing_then, store_same, one_text, Refusal, why_of, Standing, StaysOpen, HasStoreCause, IsFailure, refused, IsLook, RefusesText, RefusesTexts, RefusesVersion, TellsStanding, TellsText, KeepsText, KeepsUpgradable, RefusesReindex, RefusesUpgrade, is_taken}
use Rattle.zeb_change.specs.declared.refusals.Refusal.TheVariants as refusal
use Rattle.zeb_engine.specs.declared.looks.Standing.TheVariants as standing
use Rattle.zeb_engine.proofs.ReadyTexts.{text_found, text_missing}
use Rattle.zeb_engine.proofs.RenewalSteps.{earlier_taken, own_taken}

any_ok : {A E : Type 0} (r : Result A E) (P : Type 0) → P → OnOk r P
any_ok (Ok x) P p = p
any_ok (Err e) P p = tt

any_err : {A : Type 0} (r : Result A Refusal) (P : Type 0) → P → IfErr r (λ why. IsFailure (refused (why_of why)) ⊎ P)
any_err (Ok x) P p = tt
any_err (Err e) P p = inr p

-- ---- a look at one text

module _ {T : Type 0} (Finds : Trees → T → Type 0) (Refuses : Trees → Refusal → Type 0) (name : List ℕ) (old new : State) (nothing : ChangesNothing old new) where
  -- a text that was told, on an open connection
  pub look_told : (result : Result T Refusal) → HasStoreCause old new result → StaysOpen old new → (IsStore old → MatchResult result (Finds old.now.trees) (Refuses old.now.trees)) → IsLook Finds Refuses old new result
  look_told result caused opened told = record { same = nothing; found = any_ok result _ opened; seen = any_err result _ opened.0; caused = caused; told = told }

-- a name has one text, so where that can be read, every one can be
pub kept_readable : (s : State) → IsStore s → (name kept : List ℕ) → IsUtf8 kept → KeepsText s.now.trees name kept → AreReadableTexts s.now.trees name
kept_readable s store name kept utf8 is value there = subst IsUtf8 (one_text s store name kept value is there) utf8

pub one_readable : (s : State) → IsStore s → (name : List ℕ) → (found : String Global) → KeepsText s.now.trees name (string_bytes found) → AreReadableTexts s.now.trees name
one_readable s store name found kept = kept_readable s store name (string_bytes found) (IsUtf8-string_bytes found) kept

-- a test of the text that is kept
pub tells_found : (s : State) → IsStore s → (name text : List ℕ) (o : Option (String Global)) (found : String Global) → o ≡ Some found → IsValueOf s.now.trees name o
    → (it : Bool) → it ≡ bytes_eq (string_bytes found) text → TellsText name text s.now.trees it
tells_found s store name text o found is value it tested =
    let kept = text_found s.now.trees name o found is value in
    let told : IsTrue it ↔ KeepsText s.now.trees name text = (
      λ same. subst (KeepsText s.now.trees name) ((bytes_eq-Decides (string_bytes found) text).0 (sym tested ∙ same)) kept,
      λ there. tested ∙ (bytes_eq-Decides (string_bytes found) text).1 (one_text s store name (string_bytes found) text kept there),
    ) in (told, one_readable s store name found kept)

pub tells_missing : (trees : Trees) (name text : List ℕ) (o : Option (String Global)) → o ≡ None → IsValueOf trees name o → TellsText name text trees false
tells_missing trees name text o is value =
    let none = text_missing trees name o is value in
    ((λ same. absurd cc, λ there. absurd (none text there)), λ found there. absurd (none found there))

-- ---- one look after another

module _ {T X : Type 0} (F : Trees → T → Type 0) (G : Trees → X → Type 0) (R Q : Trees → Refusal → Type 0) (old mid : State) where
  -- accepted, and nothing else was looked at
  pub look_settles : (x : T) → IsLook F R old mid (Ok x) → (result : Result X Refusal) → HasStoreCause old mid result → (IsStore old → F old.now.trees x → MatchResult result (G old.now.trees) (Q old.now.trees)) → IsLook G Q old mid result
  look_settles x it result caused so = record { same = it.same; found = any_ok result _ it.found; seen = any_err result _ it.found.0; caused = caused; told = λ store. so store (it.told store) }

module _ {T : Type 0} (F : Trees → T → Type 0) (R : Trees → Refusal → Type 0) (old mid : State) (x : T) (crash : Survives old mid (λ _. ⊥)) (first : IsLook F R old mid (Ok x)) where
  pub same_then : mid.now ≡ old.now
  same_then = (first.same first.found.1).1

  pub store_then : IsStore old → IsStore mid
  store_then store = store_same old mid same_then store

  module _ {X Y : Type 0} (G : Trees → X → Type 0) (H : Trees → Y → Type 0) (Q P : Trees → Refusal → Type 0) (new : State) where
    then_ends : (why : Refusal) → (IsStore old → F old.now.trees x → Q old.now.trees why → P old.now.trees why) → IsLook G Q mid new (Err why) → IsLook H P old new (Err why)
    then_ends why so it = record {
      same = nothing_then old mid new first.same it.same;
      found = tt;
      seen = inr first.found.0;
      caused = λ store is. may_after old mid new crash (λ _. first.found.1) (λ _. it.caused (store_then store) is);
      told = λ store. so store (first.told store) (subst (λ (d : Database). Q d.trees why) same_then (it.told (store_then store)));
    }

    then_settles : (y : X) → IsLook G Q mid new (Ok y) → (result : Result Y Refusal) → HasStoreCause old new result → (IsStore old → F old.now.trees x → G old.now.trees y → MatchResult result (H old.now.trees) (P old.now.trees))
        → IsLook H P old new result
    then_settles y it result caused so = record {
      same = nothing_then old mid new first.same it.same;
      found = any_ok result _ (first.found.0, it.found.1);
      seen = any_err result _ first.found.0;
      caused = caused;
      told = λ store. so store (first.told store) (subst (λ (d : Database). G d.trees y) same_then (it.told (store_then store)));
    }

-- ---- a text behind the version

abbrev pub KeepsVersion : Trees → String Global → Type 0
KeepsVersion trees version = KeepsText trees (codes "version") (string_bytes version)

module _ (old mid new : State) (version : String Global) (crash : Survives old mid (λ _. ⊥)) (clean : HasCleanDisk mid) (look : HasCleanDisk mid → IsLook KeepsVersion RefusesVersion old mid (Ok version)) (name text : List ℕ)
    {Y : Type 0} (H : Trees → Y → Type 0) (P : Trees → Refusal → Type 0) where
  pub text_ends : (why : Refusal) → (KeepsVersion old.now.trees version → RefusesText name old.now.trees why → P old.now.trees why) → IsLook (TellsText name text) (RefusesText name) mid new (Err why)
      → IsLook H P old new (Err why)
  text_ends why so it = then_ends KeepsVersion RefusesVersion old mid version crash (look clean) (TellsText name text) H (RefusesText name) P new why (λ store kept hard. so kept hard) it

  pub text_settles : (it : Bool) → IsLook (TellsText name text) (RefusesText name) mid new (Ok it) → (result : Result Y Refusal) → HasStoreCause old new result
      → (KeepsVersion old.now.trees version → TellsText name text old.now.trees it → MatchResult result (H old.now.trees) (P old.now.trees)) → IsLook H P old new result
  text_settles it told result caused so = then_settles KeepsVersion RefusesVersion old mid version crash (look clean) (TellsText name text) H (RefusesText name) P new it told result caused (λ store kept tells. so kept tells)

-- ---- the looks before a reindex and an upgrade

-- what is so of each refusal over these texts
module _ (trees : Trees) (P : Refusal → Type 0) (store : P refusal.Store) (memory : P refusal.Memory) where
  pub text_refused : (name : List ℕ) → ((¬ AreReadableTexts trees name) → P refusal.Damaged) → (why : Refusal) → RefusesText name trees why → P why
  text_refused name damaged refusal.Damaged is = damaged is
  text_refused name damaged refusal.Store is = store
  text_refused name damaged refusal.Memory is = memory
  text_refused name damaged _ is = absurd is

module _ (version : List ℕ) (profile : List Directive) (trees : Trees) where
  pub pattern_as_rule : KeepsText trees (codes "version") version → (why : Refusal) → RefusesText (codes "identifier") trees why → RefusesReindex version profile trees why
  pattern_as_rule kept = text_refused trees (RefusesReindex version profile trees) tt tt (codes "identifier") (λ hard. inr (kept, hard))

  pub profile_as_texts : KeepsText trees (codes "version") version → (why : Refusal) → RefusesText (codes "profile") trees why → RefusesTexts version profile trees why
  profile_as_texts kept = text_refused trees (RefusesTexts version profile trees) tt tt (codes "profile") (λ hard. inr (kept, hard))

  module _ (text : List ℕ) (text_is : text ≡ canonical_text profile) (kept : KeepsText trees (codes "version") version) where
    pub profile_differs : TellsText (codes "profile") text trees false → RefusesTexts version profile trees refusal.ProfileChanged
    profile_differs tells = (kept, λ there. let no : false ≡ true = tells.0.1 (subst (KeepsText trees (codes "profile")) (sym text_is) there) in cc, tells.1)

  pub profile_as_layout : KeepsUpgradable version trees → (why : Refusal) → RefusesText (codes "profile") trees why → RefusesUpgrade version profile trees why
  profile_as_layout kept = text_refused trees (RefusesUpgrade version profile trees) tt tt (codes "profile") (λ hard. inr (kept, hard))

  module _ (pattern : List ℕ) (pattern_is : option_map pattern_text (identifier_pattern profile) ≡ Some pattern) (kept : KeepsText trees (codes "version") version) where
    pub rule_differs : TellsText (codes "identifier") pattern trees false → RefusesReindex version profile trees refusal.IdentifierRuleChanged
    rule_differs tells = (
      kept,
      λ it. let e : Some it.0 ≡ Some pattern = sym it.1 ∙ pattern_is in
          let same : it.0 ≡ pattern = cc in
          let no : false ≡ true = tells.0.1 (subst (KeepsText trees (codes "identifier")) same it.2) in cc,
      tells.1,
    )

  -- a register of this version
  module _ (found : List ℕ) (kept : KeepsText trees (codes "version") found) where
    pub standing_none : (s : State) → IsStore s → s.now.trees ≡ trees → AreReadableTexts trees (codes "version") → TellsStanding version found None → RefusesUpgrade version profile trees refusal.OldFormat
    standing_none s store same readable none = (
      (found, kept),
      λ it.
          let is : found ≡ it.0 = subst (λ (t : Trees). KeepsText t (codes "version") found → KeepsText t (codes "version") it.0 → found ≡ it.0) same (one_text s store (codes "version") found it.0) kept it.2 in
          let e : false ≡ true = sym none ∙ subst (λ v. IsTrue (is_taken v version)) (sym is) it.1 in cc,
      readable,
    )

    pub upgradable_so : (standing : Standing) → TellsStanding version found (Some standing) → KeepsUpgradable version trees
    upgradable_so standing.Upgraded is = (found, subst (λ v. IsTrue (is_taken v version)) (sym is) (own_taken version), kept)
    upgradable_so (standing.Before earlier) is = (found, earlier_taken found version is.1, kept)

    pub standing_changed : (standing : Standing) → TellsStanding version found (Some standing) → TellsText (codes "profile") (canonical_text profile) trees false
        → RefusesUpgrade version profile trees refusal.ProfileChanged
    standing_changed standing is tells = (upgradable_so standing is, λ there. let no : false ≡ true = tells.0.1 there in cc, tells.1)

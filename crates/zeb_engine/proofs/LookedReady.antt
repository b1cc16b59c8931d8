-- A look whether a register is ready: what the texts of the store tell is told of what is held, and of the command behind the look.
use Rattle.zeb_engine.proofs.Cited.{◌≡◌, ◌≢◌, ◌⊎◌, ℕ, List, codes, Result, Ok, Err, MatchResult, IsTrue, IsUtf8, refl, sym, ap, subst, Some, inl, inr, Trees, State, Directive, canonical_text, plain_rows, IsStore, Refusal, why_of, IsFailing, Meets, Limits, Conditions, conditions, Holdings, nothing_yet, under, Base, IsImage, Keeps, IsLook, RefusesTexts, GoesByTexts, IsReadyFor, IsRefusedOver, KeepsText, ready}
use Rattle.zeb_change.specs.declared.refusals.Refusal.TheVariants as refusal
use Rattle.zeb_engine.proofs.Ready.{none_there, profile_in, profile_readable, ready_changed, ready_good, ready_none, ready_old, same_inside, version_in, version_is, version_readable}
use Rattle.zeb_engine.proofs.RenewalTexts.{profile_kept, ready_held, version_kept}
use Rattle.zeb_engine.proofs.TextLooks.{kept_readable}

module _ (version : List ℕ) (profile : List Directive) (s : State) where
  refused_over : (why : Refusal) → RefusesTexts version profile s.now.trees why → IsRefusedOver version profile s.now.trees why
  refused_over refusal.NotInitialised is = is
  refused_over refusal.OldFormat is = is
  refused_over refusal.ProfileChanged is = is
  refused_over refusal.Damaged is = inl is
  refused_over refusal.Store is = tt
  refused_over refusal.Memory is = tt
  refused_over _ is = absurd is

  abbrev pub TellsTexts : Result (Unit {0}) Refusal → Type 0
  TellsTexts result = IsStore s → MatchResult result (λ _. IsReadyFor version profile s.now.trees) (RefusesTexts version profile s.now.trees)

  pub texts_told : (result : Result (Unit {0}) Refusal) → TellsTexts result → GoesByTexts version profile s result
  texts_told (Ok x) told store = told store
  texts_told (Err why) told store = refused_over why (told store)

  -- the texts of a register that is ready can be read
  pub texts_whole : (result : Result (Unit {0}) Refusal) → TellsTexts result → IsUtf8 version → IsUtf8 (canonical_text profile) → IsStore s → IsReadyFor version profile s.now.trees → result ≢ Err refusal.Damaged
  texts_whole (Ok x) told one two store texts is = cc
  texts_whole (Err why) told one two store texts is =
      let same : why ≡ refusal.Damaged = cc in
      elim (subst (RefusesTexts version profile s.now.trees) same (told store)) [
        | inl hard ↦ hard (kept_readable s store (codes "version") version one texts.has_version)
        | inr hard ↦ hard.1 (kept_readable s store (codes "profile") (canonical_text profile) two texts.has_profile)
      ]

module _ (c : Conditions) (trees : Trees) where
  ready_refused : (before : Holdings) → IsImage trees before → (why : Refusal) → RefusesTexts c.version c.profile trees why → IsFailing (why_of why) ⊎ (ready c before ≡ Err (why_of why))
  ready_refused nothing_yet image refusal.NotInitialised is = inr (ready_none c nothing_yet refl)
  ready_refused (under version text bases) image refusal.NotInitialised is = absurd (is version (version_kept trees version text image.1.pattern image.1.texts))
  ready_refused nothing_yet image refusal.OldFormat is = absurd (none_there trees (codes "version") is.0.0 image.0.0 is.0.1)
  ready_refused (under version text bases) image refusal.OldFormat is =
      inr (ready_old c (under version text bases) version refl (λ same. is.1 (subst (KeepsText trees (codes "version")) same (version_kept trees version text image.1.pattern image.1.texts))))
  ready_refused nothing_yet image refusal.ProfileChanged is = absurd (none_there trees (codes "version") c.version image.0.0 is.0)
  ready_refused (under version text bases) image refusal.ProfileChanged is =
      inr (ready_changed c (under version text bases) (ap Some (sym (version_is trees version text image.1.pattern image.1.texts c.version is.0)))
      (λ same. is.1 (subst (KeepsText trees (codes "profile")) (same_inside text (canonical_text c.profile) same) (profile_kept trees version text image.1.pattern image.1.texts))))
  ready_refused before image refusal.Damaged is = absurd (elim is [ inl hard ↦ hard (version_readable plain_rows c trees before image) | inr hard ↦ hard.1 (profile_readable plain_rows c trees before image) ])
  ready_refused before image refusal.Store is = inl (inl refl)
  ready_refused before image refusal.Memory is = inl (inr refl)
  ready_refused before image _ is = absurd is

-- what is held tells the same
pub look_held : (version : List ℕ) (profile : List Directive) (limits : Limits) (old new : State) (before : Holdings) → Keeps old before → (result : Result (Unit {0}) Refusal)
    → IsLook (λ trees _. IsReadyFor version profile trees) (RefusesTexts version profile) old new result
    → Meets {A = List Base} {X = Unit {0}} (λ bases _. IsTrue old.is_open × IsTrue new.is_open) (ready (conditions version profile limits) before) result
look_held version profile limits old new before keeps (Ok x) look =
    let c = conditions version profile limits in
    let at = (keeps look.found.0).0 in
    let held = ready_held c old.now.trees version before at.1 (look.told at.0) in
    let good = ready_good c before (subst (λ (h : Holdings). version_in h ≡ Some version) (sym held.1) refl) (subst (λ (h : Holdings). profile_in h ≡ Some (canonical_text profile)) (sym held.1) refl) in
    subst (λ said. Meets {X = Unit {0}} (λ (bases : List Base) y. IsTrue old.is_open × IsTrue new.is_open) said (Ok x)) (sym good.1) look.found
look_held version profile limits old new before keeps (Err why) look = elim look.seen [
  | inl failed ↦ inl failed
  | inr opened ↦ let at = (keeps opened).0 in ready_refused (conditions version profile limits) old.now.trees before at.1 why (look.told at.0)
]

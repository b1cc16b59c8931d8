-- What a reindex and an upgrade come to, after a look at the texts of the store.
use Rattle.zeb_engine.proofs.Cited.{◌≡◌, ◌∙◌, ℕ, List, codes, Some, Result, Ok, Err, IsTrue, IsUtf8, refl, sym, ap, subst, inl, inr, option_map, State, Directive, canonical_text, pattern_text, identifier_pattern, IsProfile, IsStore, one_text, Refusal, Base, Conditions, IsFailing, why_of, Holdings, under, IsImage, Keeps, Earlier, Standing, Reply, answer_of, done, TellsImage, earlier_version, FindsStanding, IsLook, IsReadyFor, IsReadyToReindex, RefusesReindex, RefusesUpgrade, Outcome, Always, Serves, reindexed, ruled, upgradable, upgraded, is_earlier, is_taken}
use Rattle.zeb_change.specs.declared.refusals.Refusal.TheVariants as refusal
use Rattle.zeb_engine.specs.declared.looks.Standing.TheVariants as standing
use Rattle.zeb_engine.specs.declared.replies.Reply.TheVariants as reply
use Rattle.zeb_engine.proofs.CheckAnswers.{IsImageFor}
use Rattle.zeb_engine.proofs.TextLooks.{kept_readable}
use Rattle.zeb_engine.proofs.RenewalSteps.{earlier_taken, none_before_itself, own_taken, reindex_refused, upgradable_good, upgrade_done, upgrade_refused}
use Rattle.zeb_engine.proofs.RenewalTexts.{layout_found, layout_refused, rule_found, rule_refused}
use Rattle.zeb_engine.proofs.ServesLemmas.{early_serves, keeps_still}

-- ---- a reindex

module _ (c : Conditions) (sound : ∥ IsProfile c.profile ∥₁) (pattern : List ℕ) (pattern_is : option_map pattern_text (identifier_pattern c.profile) ≡ Some pattern) (old new : State) where
  pub rule_unserved : (why : Refusal) → IsLook {T = Unit {0}} (λ trees x. IsReadyToReindex c.version c.profile trees) (RefusesReindex c.version c.profile) old new (Err why) → Serves Always (reindexed c) old new (Err why)
  rule_unserved why look = early_serves (reindexed c) Always old new why look.same (λ before fits keeps. elim look.seen [
    | inl failed ↦ inl failed
    | inr opened ↦ let at = (keeps opened).0 in elim (rule_refused c sound pattern pattern_is old.now.trees before at.1 why (look.told at.0)) [
      | inl failed ↦ inl failed
      | inr said ↦ inr (reindex_refused c before (why_of why) said)
    ]
  ])

  pub rule_met : IsLook {T = Unit {0}} (λ trees x. IsReadyToReindex c.version c.profile trees) (RefusesReindex c.version c.profile) old new (Ok tt) → (before : Holdings) → Keeps old before → (bases : List Base) × (ruled c before ≡ Ok bases)
  rule_met look before keeps = let at = (keeps look.found.0).0 in rule_found c sound pattern pattern_is old.now.trees before at.1 (look.told at.0)

-- ---- an upgrade

module _ (c : Conditions) (old new : State) where
  pub layout_unserved : (why : Refusal) → IsLook {T = Standing} (FindsStanding c.version c.profile) (RefusesUpgrade c.version c.profile) old new (Err why) → Serves Always (upgraded c) old new (Err why)
  layout_unserved why look = early_serves (upgraded c) Always old new why look.same (λ before fits keeps. elim look.seen [
    | inl failed ↦ inl failed
    | inr opened ↦ let at = (keeps opened).0 in elim (layout_refused c old.now.trees before at.1 why (look.told at.0)) [
      | inl failed ↦ inl failed
      | inr said ↦ inr (upgrade_refused c before (why_of why) said)
    ]
  ])

-- what is held where a register was found to stand
pub earlier_met : (c : Conditions) (old new : State) (earlier : Earlier) → IsLook {T = Standing} (FindsStanding c.version c.profile) (RefusesUpgrade c.version c.profile) old new (Ok (standing.Before earlier))
    → (before : Holdings) → Keeps old before → (bases : List Base) × (before ≡ under (earlier_version earlier) (canonical_text c.profile) bases) × (upgradable c before ≡ Ok bases)
earlier_met c old new earlier look before keeps =
    let at = (keeps look.found.0).0 in
    let found = look.told at.0 in layout_found c old.now.trees before at.1 (earlier_version earlier) (earlier_taken (earlier_version earlier) c.version found.1) found.0

pub own_serves : (c : Conditions) (old new : State) → IsLook {T = Standing} (FindsStanding c.version c.profile) (RefusesUpgrade c.version c.profile) old new (Ok standing.Upgraded) → Serves Always (upgraded c) old new (Ok reply.Done)
own_serves c old new look before fits keeps =
    let at = (keeps look.found.0).0 in
    let met = layout_found c old.now.trees before at.1 c.version (own_taken c.version) (look.told at.0) in
    let told = upgrade_done c before met.0 met.2 in
    inl (ap (λ (o : Outcome). o.0) told, subst (Keeps new) (met.1 ∙ sym (ap (λ (o : Outcome). o.1) told)) (keeps_still before old new look.same keeps))

-- what is held has its image there, so a look at it doesn't tell that there is none
pub damage_unserved : (c : Conditions) (old mid new : State) (earlier : Earlier) → IsLook {T = Standing} (FindsStanding c.version c.profile) (RefusesUpgrade c.version c.profile) old mid (Ok (standing.Before earlier))
    → (IsStore mid → ¬ IsImageFor c (earlier_version earlier) mid.now.trees) → Serves Always (upgraded c) old new (Err refusal.Damaged)
damage_unserved c old mid new earlier look none before fits keeps =
    let met = earlier_met c old mid earlier look before keeps in
    let kept = (keeps_still before old mid look.same keeps look.found.1).0 in
    absurd (none kept.0 (met.0, subst (IsImage mid.now.trees) met.1 kept.1))

-- ---- whole tables of an earlier version

answer_done : (result : Result Reply Refusal) → answer_of result ≡ done → result ≡ Ok reply.Done
answer_done (Ok reply.Done) is = refl
answer_done (Ok (reply.Changed inserted updated deleted)) is = absurd cc
answer_done (Ok (reply.Found hits shown)) is = absurd cc
answer_done (Ok (reply.Counted records last holdings)) is = absurd cc
answer_done (Ok (reply.Dumped bytes)) is = absurd cc
answer_done (Ok (reply.Scanned register entries)) is = absurd cc
answer_done (Ok (reply.Analysed names records)) is = absurd cc
answer_done (Err why) is = absurd cc

module _ (c : Conditions) (old : State) (store : IsStore old) (version : List ℕ) (taken : IsTrue (is_taken version c.version)) where
  -- an image is taken, unless the store or the memory fails
  pub earlier_tells : (IsTrue old.is_open → old.committed ≡ old.now) → IsImageFor c version old.now.trees → (new : State) (result : Result Reply Refusal) → Serves Always (upgraded c) old new result → TellsImage old.now.trees result
  earlier_tells settled image new result serves =
      let before = under version (canonical_text c.profile) image.0 in
      let told = upgrade_done c before image.0 (upgradable_good c version (canonical_text c.profile) image.0 taken refl) in
      elim (serves before (λ _. tt) (λ is_open. ((store, image.1), settled is_open))) [
        | inl step ↦ inl ((before, image.1), answer_done result (sym step.0 ∙ ap (λ (o : Outcome). o.0) told))
        | inr failed ↦ inr (inr failed.0)
      ]

  -- what is held has its image in the tables of a store then, and so it has where the store or the memory failed
  pub earlier_leaves : (IsTrue old.is_open → old.committed ≡ old.now) → IsImageFor c version old.now.trees → (new : State) (result : Result Reply Refusal) → IsTrue new.is_open → Serves Always (upgraded c) old new result → IsStore new
  earlier_leaves settled image new result is_open serves =
      elim (serves (under version (canonical_text c.profile) image.0) (λ _. tt) (λ was_open. ((store, image.1), settled was_open))) [
        | inl step ↦ (step.1 is_open).0.0
        | inr failed ↦ (failed.1 is_open).0.0
      ]

-- ---- texts of a register that has nothing to upgrade

module _ (version : List ℕ) (profile : List Directive) (old : State) (store : IsStore old) (texts : IsReadyFor version profile old.now.trees) where
  -- they refuse no upgrade
  pub own_unrefused : IsUtf8 version → IsUtf8 (canonical_text profile) → (why : Refusal) → RefusesUpgrade version profile old.now.trees why → IsFailing (why_of why)
  own_unrefused version_utf8 profile_utf8 refusal.NotInitialised is = absurd (is version texts.has_version)
  own_unrefused version_utf8 profile_utf8 refusal.OldFormat is = absurd (is.1 (version, own_taken version, texts.has_version))
  own_unrefused version_utf8 profile_utf8 refusal.ProfileChanged is = absurd (is.1 texts.has_profile)
  own_unrefused version_utf8 profile_utf8 refusal.Damaged is = absurd (elim is [
    | inl hard ↦ hard (kept_readable old store (codes "version") version version_utf8 texts.has_version)
    | inr hard ↦ hard.1 (kept_readable old store (codes "profile") (canonical_text profile) profile_utf8 texts.has_profile)
  ])
  own_unrefused version_utf8 profile_utf8 refusal.Store is = inl refl
  own_unrefused version_utf8 profile_utf8 refusal.Memory is = inr refl
  own_unrefused version_utf8 profile_utf8 _ is = absurd is

  -- they aren't those of an earlier version
  pub own_not_earlier : (earlier : Earlier) → FindsStanding version profile old.now.trees (standing.Before earlier) → ⊥
  own_not_earlier earlier found =
      none_before_itself version (subst (λ v. IsTrue (is_earlier v version)) (sym (one_text old store (codes "version") version (earlier_version earlier) texts.has_version found.0.has_version)) found.1)

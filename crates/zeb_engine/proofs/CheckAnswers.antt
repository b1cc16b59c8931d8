-- What a look at whole tables tells of a check and of an upgrade.
use Rattle.zeb_engine.proofs.Cited.{◌≡◌, ◌↔◌, ◌∙◌, ℕ, Bool, true, false, List, Ok, Err, IsTrue, refl, sym, ap, subst, inl, inr, Database, Trees, State, canonical_text, ChangesNothing, IsStore, Refusal, Base, Conditions, Meets, Holdings, under, IsImage, Keeps, Done, IsSomeImage, TellsImage, IsUnready, IsReadyFor, IsRefusedOver, checked, checked_from, Always, Serves, ready}
use Rattle.zeb_change.specs.declared.refusals.Refusal.TheVariants as refusal
use Rattle.zeb_engine.proofs.Ready.{ready_good, ready_is}
use Rattle.zeb_engine.proofs.RenewalTexts.{ready_held}
use Rattle.zeb_engine.proofs.ServesLemmas.{keeps_still}

-- the tables are the image of this version and this profile
abbrev pub IsImageFor : Conditions → List ℕ → Trees → Type 0
IsImageFor c version trees = (bases : List Base) × IsImage trees (under version (canonical_text c.profile) bases)

pub image_for : (c : Conditions) (version : List ℕ) (trees : Trees) → IsReadyFor version c.profile trees → IsSomeImage trees → IsImageFor c version trees
image_for c version trees texts some =
    let held = ready_held c trees version some.0 some.1 texts in (held.0, subst (IsImage trees) held.1 some.1)

-- what was told of the tables that are still those
module _ (c : Conditions) (version : List ℕ) (old mid : State) (still : mid.now ≡ old.now) (it : Bool) (value : IsTrue it ↔ IsImageFor c version mid.now.trees) where
  pub told_image : IsTrue it → IsImageFor c version old.now.trees
  told_image is = subst (λ (d : Database). IsImageFor c version d.trees) still (value.0 is)

  pub told_none : it ≡ false → ¬ IsImageFor c version old.now.trees
  told_none none image = let is = value.1 (subst (λ (d : Database). IsImageFor c version d.trees) (sym still) image) in let e : true ≡ false = sym is ∙ none in cc

  pub tells_some : IsTrue it → TellsImage old.now.trees (Ok Done)
  tells_some is = let image = told_image is in inl ((under version (canonical_text c.profile) image.0, image.1), refl)

  pub tells_none : IsReadyFor version c.profile old.now.trees → it ≡ false → TellsImage old.now.trees (Err refusal.Damaged)
  tells_none texts none = inr (inl (λ some. told_none none (image_for c version old.now.trees texts some), refl))

-- ---- a register that was found not to be ready, and is

module _ (c : Conditions) (s : State) (store : IsStore s) (texts : IsReadyFor c.version c.profile s.now.trees) (settled : IsTrue s.is_open → s.committed ≡ s.now) where
  -- its texts can be read, but there is no image whose texts can't
  no_image : {X : Type 0} (Good : List Base → X → Type 0) → ((before : Holdings) → Keeps s before → Meets Good (ready c before) (Err refusal.Damaged)) → ¬ IsSomeImage s.now.trees
  no_image Good met some = elim (met some.0 (λ is_open. ((store, some.1), settled is_open))) [
    | inl failed ↦ elim failed [ inl e ↦ cc | inr e ↦ cc ]
    | inr said ↦
        let held = ready_held c s.now.trees c.version some.0 some.1 texts in
        let good = ready_good c (under c.version (canonical_text c.profile) held.0) refl refl in
        let e = sym good.1 ∙ sym (ap (ready c) held.1) ∙ said in cc
  ]

  pub unready_tells : {X : Type 0} (Good : List Base → X → Type 0) (why : Refusal) → ((before : Holdings) → Keeps s before → Meets Good (ready c before) (Err why))
      → IsUnready why → IsRefusedOver c.version c.profile s.now.trees why → TellsImage s.now.trees (Err why)
  unready_tells Good refusal.NotInitialised met few is = absurd (is c.version texts.has_version)
  unready_tells Good refusal.OldFormat met few is = absurd (is.1 texts.has_version)
  unready_tells Good refusal.ProfileChanged met few is = absurd (is.1 texts.has_profile)
  unready_tells Good refusal.Damaged met few is = inr (inl (no_image Good met, refl))
  unready_tells Good refusal.Store met few is = inr (inr (inl refl))
  unready_tells Good refusal.Memory met few is = inr (inr (inr refl))
  unready_tells Good _ met few is = absurd few

-- ---- a register that is ready

module _ (c : Conditions) (old mid new : State) (met : (before : Holdings) → Keeps old before → (bases : List Base) × (ready c before ≡ Ok bases) × (IsTrue old.is_open × IsTrue mid.is_open)) where
  pub check_serves : ChangesNothing old new → Serves Always (checked c) old new (Ok Done)
  check_serves nothing before fits keeps = inl (ap checked_from (met before keeps).1, keeps_still before old new nothing keeps)

  -- what is held has its image there
  pub damage_serves : ChangesNothing old mid → (it : Bool) → (IsStore mid → IsTrue it ↔ IsImageFor c c.version mid.now.trees) → it ≡ false → Serves Always (checked c) old new (Err refusal.Damaged)
  damage_serves nothing it value none before fits keeps =
      let at = met before keeps in
      let kept = keeps_still before old mid nothing keeps at.2.1 in
      let image = subst (IsImage mid.now.trees) (ready_is c before at.0 at.1) kept.0.1 in
      let is = (value kept.0.0).1 (at.0, image) in
      let e : true ≡ false = sym is ∙ none in absurd cc

-- What is said of a change by readers, by what these tell and by which of them has failed.
use Rattle.std.specs.Prelude.{◌≡◌, ◌⊎◌, Bool, ℕ, List, map, Option, Some, Result, Err, IsErrAnd}
use Rattle.sqlite.specs.State.{HasCleanDisk, State, Survives}
use Rattle.zeb_register.specs.declared.registers.Work.{Work}
use Rattle.zeb_register.specs.Formats.{Format}
use Rattle.zeb_register.specs.Tallies.{CountsNothing}
use Rattle.zeb_change.specs.Conditions.{Conditions}
use Rattle.zeb_change.specs.Reading.{HasFailedAt, NamesFailed, NoneFailed, StayAble}
use Rattle.zeb_change.specs.declared.refusals.Refusal.{Refusal}
use Rattle.zeb_change.specs.declared.refusals.Refusal.TheVariants.{Damaged, ReadFault}
use Rattle.zeb_change.specs.declared.settings.Kind.{Kind}
use Rattle.zeb_image.specs.Holdings.{Holdings}
use Rattle.zeb_image.specs.Image.{Keeps}
use Rattle.zeb_engine.specs.declared.replies.Reply.{Reply}
use Rattle.zeb_engine.specs.Changing.{ChangesReady, LeavesWhole, LosesNamed}
use Rattle.zeb_engine.specs.Costs.{CostsAlone, no_work}
use Rattle.zeb_engine.specs.Crashes.{CommitsBy, Endures}
use Rattle.zeb_engine.specs.Readiness.{GoesByTexts}
use Rattle.zeb_engine.specs.Steps.{TakesFiles}

-- the readers tell these texts
abbrev pub Tell : {R : Type 0} → (R → Option (List ℕ)) → List R → List (List ℕ) → Type 0
Tell remaining readers texts = map remaining readers ≡ map Some texts

-- They tell them, and none has failed at the end: what is said then of a change is said of the one by these texts.
abbrev pub Give : {R : Type 0} → (R → Option (List ℕ)) → (R → Bool) → (before after : List R) → (List (List ℕ) → Type 0) → Type 0
Give remaining has_failed before after Said = (texts : List (List ℕ)) → Tell remaining before texts → NoneFailed has_failed after → Said texts

-- A reader that has failed, also before the call, is named, whatever else would be refused; and none is named that hasn't, nor so one
-- that can't fail.
pub record NamesFaults {R T : Type 0} (may_fail has_failed : R → Bool) (before after : List R) (answer : Result T Refusal) : Type 0 where
  pub sound : NoneFailed has_failed after ⊎ IsErrAnd answer (NamesFailed has_failed after)
  pub fault : (file : ℕ) → answer ≡ Err (ReadFault file) → HasFailedAt has_failed after file
  pub able : StayAble may_fail has_failed before after

module _ {R : Type 0} (remaining : R → Option (List ℕ)) (has_failed : R → Bool) (before after : List R) (c : Conditions) (kind : Kind) (name : List ℕ) (old new : State) (answer : Result Reply Refusal) where
  -- what a change by readers does on any tables of a store: by which texts it goes and what it leaves, whatever the readers tell; which
  -- records it finds whole and why it is refused, where they tell their texts and none has failed; what it loses, where they tell them;
  -- and damage is told only where the tables are no image
  pub record ReadersChange : Type 0 where
    -- the texts of the store tell whether its register was ready
    pub ready : GoesByTexts c.version c.profile old answer
    -- as of a change by texts: which records it finds whole, and why it is refused
    pub told : Give remaining has_failed before after (λ texts. ChangesReady c.version c.profile kind c.limits name texts old answer)
    -- what an accepted change leaves: of its database whole records alone are lost, and of other databases nothing
    pub leaves : LeavesWhole c.version c.profile kind name old new answer
    -- and records are lost only under identifiers that records of the files have
    pub loses : (texts : List (List ℕ)) → Tell remaining before texts → LosesNamed c.profile name texts old new answer
    -- damage is told only of tables that are the image of no holding
    pub honest : answer ≡ Err Damaged → (held : Holdings) → ¬ Keeps old held

  -- what a crash leaves: what the change left, or what was there before it
  pub record ReadersLast : Type 0 where
    pub survives : Survives old new (λ db. Give remaining has_failed before after (λ texts. CommitsBy (TakesFiles c kind name texts) old db))
    pub crash : HasCleanDisk new → Give remaining has_failed before after (λ texts. Endures (TakesFiles c kind name texts) old new answer)

  -- Accepted, it has counted the work for the keys that its records change, and no other; and over a layout that counts nothing it has counted
  -- nothing, whatever is answered.
  pub record ReadersCount (format : Format) (row_work : ℕ) (work : Work) : Type 0 where
    pub costs : HasCleanDisk new → (texts : List (List ℕ)) → Tell remaining before texts → CostsAlone format row_work c kind name texts old new answer work
    pub none : CountsNothing format row_work → work ≡ no_work

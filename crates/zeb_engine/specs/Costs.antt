-- What an accepted update or delete counts as read and as written.
use Rattle.std.specs.Prelude.{◌≡◌, ℕ, List, Result, Ok, OnOk}
use Rattle.sqlite.specs.State.{State}
use Rattle.sqlite.specs.Tree.{Trees}
use Rattle.zeb_register.specs.declared.registers.Work.{Work}
use Rattle.zeb_register.specs.Formats.{Format}
use Rattle.zeb_register.specs.Tallies.{works_for}
use Rattle.zeb_change.specs.declared.settings.Kind.{Kind}
use Rattle.zeb_change.specs.declared.refusals.Refusal.{Refusal}
use Rattle.zeb_change.specs.Base.{Base}
use Rattle.zeb_change.specs.Conditions.{Conditions}
use Rattle.zeb_change.specs.Costs.{IsFilesCost}
use Rattle.zeb_change.specs.Folding.{at_first, splits_of}
use Rattle.zeb_engine.specs.declared.replies.Reply.{Reply}
use Rattle.zeb_image.specs.Holdings.{Holdings, base_named}
use Rattle.zeb_image.specs.Image.{Keeps}
use Rattle.zeb_engine.specs.Steps.{ready, start_of}

-- the records of the files cost so much, from the database on with which the change begins
pub record IsChangeCost (c : Conditions) (kind : Kind) (name : List ℕ) (texts : List (List ℕ)) (before : Holdings) (n : ℕ) : Type 0 where
  pub bases : List Base
  pub is_ready : ready c before ≡ Ok bases
  pub start : Base
  pub starts : start_of kind name (base_named name bases) ≡ Ok start
  pub cost : IsFilesCost c kind 1 (splits_of texts) (at_first start) n

-- The four counts rise by the work for what the records cost, capped. In rows and in blocks each rises by the layout's work of a row
-- for each changed key: 1 in packed blocks, 0 in plain rows. In leaves two are bounded: at most as many leaves count as read, and as
-- written as many and those that come; where none counts as written, and the count isn't at its greatest, none is changed. How many
-- leaves are read and written isn't said.
abbrev pub Costs : Format → (row_work : ℕ) → Conditions → Kind → List ℕ → List (List ℕ) → (was is : Work) → (old new : Trees) → Holdings → Type 0
Costs format row_work c kind name texts was is old new before = (n : ℕ) × IsChangeCost c kind name texts before n × works_for format row_work n old new was is

-- the work whose four counts are 0
abbrev pub no_work : Work
no_work = record { dict_read = 0; dict_written = 0; block_read = 0; block_written = 0 }

-- from an image an accepted change has counted the work for what the records of its files cost (`Costs`), beginning with none
abbrev pub CostsAlone : Format → (row_work : ℕ) → Conditions → Kind → List ℕ → List (List ℕ) → (old new : State) → Result Reply Refusal → Work → Type 0
CostsAlone format row_work c kind name texts old new result work =
    OnOk result ((before : Holdings) → Keeps old before → Costs format row_work c kind name texts no_work work old.now.trees new.now.trees before)

-- A check on any tables of a store.
use Rattle.sqlite.specs.State.{State}
use Rattle.sqlite.specs.Tree.{Trees}
use Rattle.std.specs.Prelude.{◌≡◌, ◌⊎◌, Err, List, Ok, Result, ℕ}
use Rattle.zeb_change.specs.Conditions.{Conditions}
use Rattle.zeb_change.specs.declared.refusals.Refusal.{Refusal}
use Rattle.zeb_change.specs.declared.refusals.Refusal.TheVariants.{Damaged}
use Rattle.zeb_engine.specs.Answers.{IsFailure, answer_of}
use Rattle.zeb_engine.specs.Causes.{OnlyLooks}
use Rattle.zeb_engine.specs.Readiness.{GoesByTexts, IsReadyFor}
use Rattle.zeb_engine.specs.declared.replies.Reply.{Reply}
use Rattle.zeb_engine.specs.declared.replies.Reply.TheVariants.{Done}
use Rattle.zeb_image.specs.Holdings.{Holdings}
use Rattle.zeb_image.specs.Image.{IsImage}
use Rattle.zeb_profile.specs.declared.directives.Directive.{Directive}
use Rattle.zeb_register.specs.Store.{IsStore}

-- the tables are the image of something that can be held
abbrev pub IsSomeImage : Trees → Type 0
IsSomeImage trees = (held : Holdings) × IsImage trees held

-- Accepted, they are; refused for damage, they are not; and there is no other answer, unless the store or the memory failed.
abbrev pub TellsImage : Trees → Result Reply Refusal → Type 0
TellsImage trees result =
    (IsSomeImage trees × (result ≡ Ok Done)) ⊎ ((¬ IsSomeImage trees × (result ≡ Err Damaged)) ⊎ IsFailure (answer_of result))

-- of a check, on the tables of a store that keep the session's version and profile
abbrev pub ChecksTables : List ℕ → List Directive → State → Result Reply Refusal → Type 0
ChecksTables version profile s result = IsStore s → IsReadyFor version profile s.now.trees → TellsImage s.now.trees result

-- what a check does on any tables of a store: it changes nothing, goes by the texts of the store, and of a register that is ready tells
-- whether the tables are an image, unless the store or the memory fails
pub record CheckDoes (c : Conditions) (old new : State) (answer : Result Reply Refusal) : Type 0 where
  pub looks : OnlyLooks old new answer
  pub ready : GoesByTexts c.version c.profile old answer
  -- it tells of all tables whether they are an image
  pub told : ChecksTables c.version c.profile old answer

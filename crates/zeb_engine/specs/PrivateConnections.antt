-- What only the contracts of private functions speak of; no public clause reaches it.
-- What a call does to its connection, and how a refusal goes by what the connection shows.
use Rattle.std.specs.Prelude.{◌≡◌, ◌≢◌, false, ℕ, List, Err, IfErr, IsTrue, OnOk, Result}
use Rattle.sqlite.specs.Held.{Held, state}
use Rattle.sqlite.specs.State.{HasCleanDisk, State, Survives}
use Rattle.sqlite.specs.Store.{Ghosts}
use Rattle.sqlite.specs.Tree.{Trees}
use Rattle.zeb_profile.specs.declared.directives.Directive.{Directive}
use Rattle.zeb_register.specs.declared.faults.RegFault.{RegFault}
use Rattle.zeb_register.specs.Answers.{Answers, IfDamaged}
use Rattle.zeb_register.specs.Calls.{ChangesNothing, Reading}
use Rattle.zeb_register.specs.Clauses.{IsReasoned, OnStore}
use Rattle.zeb_register.specs.Store.{IsStore}
use Rattle.zeb_search.specs.Untouched.{IsUntouched}
use Rattle.zeb_change.specs.declared.refusals.Refusal.{Refusal}
use Rattle.zeb_change.specs.declared.refusals.Refusal.TheVariants.{Damaged}
use Rattle.zeb_change.specs.declared.settings.Limits.{Limits}
use Rattle.zeb_change.specs.Conditions.{conditions}
use Rattle.zeb_change.specs.Refused.{Meets}
use Rattle.zeb_image.specs.Holdings.{Holdings}
use Rattle.zeb_image.specs.Image.{Keeps}
use Rattle.zeb_engine.specs.Adopting.{StaysOpen}
use Rattle.zeb_engine.specs.Causes.{HasStoreCause}
use Rattle.zeb_engine.specs.PrivateLooking.{IsAskRefusal, IsLook, IsUnready}
use Rattle.zeb_engine.specs.Readiness.{GoesByTexts, IsReadyFor}
use Rattle.zeb_engine.specs.Steps.{ready}
use Rattle.zeb_engine.specs.Transactions.{Commanded}

-- nothing changes
abbrev pub LeavesAsIs : {S : Type 0} → Ghosts S → Held S → Held S → Type 0
LeavesAsIs g old new = HasCleanDisk (state g new) → ChangesNothing (state g old) (state g new)

-- nothing is committed
abbrev pub CommitsNothing : {S : Type 0} → Ghosts S → Held S → Held S → Type 0
CommitsNothing g old new = Survives (state g old) (state g new) (λ _. ⊥)

-- accepted, it found the connection open, and left it so
abbrev pub FindsOpen : {S T : Type 0} → Ghosts S → Held S → Held S → Result T Refusal → Type 0
FindsOpen g old new result = HasCleanDisk (state g new) → OnOk result (StaysOpen (state g old) (state g new))

-- it finds the store failed only for a cause
abbrev pub FailsForCause : {S T : Type 0} → Ghosts S → Held S → Held S → Result T Refusal → Type 0
FailsForCause g old new result = HasCleanDisk (state g new) → HasStoreCause (state g old) (state g new) result

-- A call that reads: no transaction is open then, and nothing changes; accepted, it found the connection open and left it so; a crash leaves what
-- it left before; and the store is found failed only for a cause.
pub record ReadsAlone {S T : Type 0} (g : Ghosts S) (old new : Held S) (result : Result T Refusal) : Type 0 where
  pub idle : new.in_transaction ≡ false
  pub same : LeavesAsIs g old new
  pub opened : FindsOpen g old new result
  pub crash : CommitsNothing g old new
  pub caused : FailsForCause g old new result

-- a command on a connection, behind which no transaction is open
pub record CommandedOf {S T : Type 0} (g : Ghosts S) (old new : Held S) (result : Result T Refusal) : Type 0 where
  pub idle : new.in_transaction ≡ false
  pub call : Commanded (state g old) (state g new) result

-- A call that asks a store's tables: it reads alone, its answer or its refusal tells this of them, whatever rows they have, and it is refused as a
-- call that asks may be.
pub record AsksTables {S T : Type 0} (g : Ghosts S) (old new : Held S) (result : Result T Refusal)
    (Told : Trees → Result T Refusal → Type 0) : Type 0 where
  pub reads : ReadsAlone g old new result
  pub tables : OnStore (state g old) (state g new) (λ trees. Told trees result)
  pub few : IfErr result IsAskRefusal

-- A call looks at texts of a store: no transaction is open then, on a clean disk it is a look that finds this, or is refused over such tables, and
-- a crash leaves what it left before.
pub record LooksAt {S T : Type 0} (g : Ghosts S) (old new : Held S) (result : Result T Refusal) (Finds : Trees → T → Type 0)
    (Refuses : Trees → Refusal → Type 0) : Type 0 where
  pub idle : new.in_transaction ≡ false
  pub look : HasCleanDisk (state g new) → IsLook Finds Refuses (state g old) (state g new) result
  pub crash : CommitsNothing g old new

-- the texts of the store tell whether the register was ready
abbrev pub TellsReady : {S T : Type 0} → Ghosts S → (version : List ℕ) → List Directive → Held S → Held S → Result T Refusal → Type 0
TellsReady g version profile old new result = HasCleanDisk (state g new) → GoesByTexts version profile (state g old) result

-- what an open connection shows is what was committed
abbrev pub IsSettled : State → Type 0
IsSettled s = IsTrue s.is_open → s.committed ≡ s.now

-- A look whether the register is ready: the texts of the store tell it, and what is held tells the same. It is refused for nothing else, and
-- as damage not where the register is ready.
pub record LooksReady {S : Type 0} (g : Ghosts S) (version : List ℕ) (profile : List Directive) (old new : Held S)
    (result : Result (Unit {0}) Refusal) : Type 0 where
  pub settled : IsSettled (state g old)
  pub reads : ReadsAlone g old new result
  pub texts : TellsReady g version profile old new result
  pub held : HasCleanDisk (state g new) → (limits : Limits) (before : Holdings) → Keeps (state g old) before
      → Meets (λ bases _. IsTrue (state g old).is_open × IsTrue (state g new).is_open) (ready (conditions version profile limits) before) result
  pub few : IfErr result IsUnready
  pub whole : HasCleanDisk (state g new) → IsStore (state g old) → IsReadyFor version profile (state g old).now.trees → result ≢ Err Damaged

-- a call that may find nothing to ask searches a store's tables, as `Searches` says, and counts nothing
pub record LooksThrough {A : Type 0} (old new : State) (result : Result A RegFault) (Damage : Trees → Type 0)
    (Found : Trees → A → Type 0) : Type 0 where
  pub call : Reading old new result (λ _. IsUntouched)
  pub finds : OnStore old new (λ trees. Answers (IfDamaged (Damage trees)) (Found trees) result)
  pub refused : IsReasoned old new result

-- What only the contracts of private functions speak of; no public clause reaches it.
-- What is read of files that are read whole, those of an analysis, and what their readers are sure to give (this program's own).
use Rattle.std.specs.Prelude.{◌≡◌, ◌≤◌, ◌||◌, ⊤, Bool, ℕ, List, Option, None, Some, IfSome, Result, Ok, Err, String, Vec, if◌then◌else◌, map, string_bytes, string_len}
use Rattle.std.specs.declared.alloc.Global.{Global}
use Rattle.zeb_paths.specs.Walks.{Tells}
use Rattle.zeb_paths.specs.declared.walk.WalkFault.{WalkFault}
use Rattle.zeb_program.specs.Inputs.{IsShort}
use Rattle.zeb_program.specs.WalkedFiles.{FindsFiles, GivesNone}
use Rattle.zeb_program.specs.declared.faults.Fault.{Fault}
use Rattle.zeb_program.specs.declared.faults.Fault.TheVariants.{Profile, Unreadable, Refused, Memory}

-- What is answered where the file at a path is read whole, of which these bytes are told, if any: they, or others that aren't too many; or
-- the path can't be read, where bytes that are told are too many; or memory ran out.
abbrev pub ReadsContent : Option (List ℕ) → String Global → Result (Vec ℕ Global) Fault → Type 0
ReadsContent told path (Ok content) = IsShort content.items × IfSome told (λ bytes. content.items ≡ bytes)
ReadsContent told path (Err (Profile file fault)) = ⊥
ReadsContent told path (Err (Unreadable given)) = (given ≡ path) × IfSome told (λ bytes. ¬ IsShort bytes)
ReadsContent told path (Err (Refused refusal)) = ⊥
ReadsContent told path (Err Memory) = ⊤

-- These are the readers of the files at and below the named paths, all of them, in their order; `sure` are the bytes that one is sure to give.
pub record ReadsBelow {R : Type 0} (sure : R → Option (List ℕ)) (at : Tells) (named : List (List ℕ)) (readers : List R) : Type 0 where
  pub files : List (List ℕ)
  pub found : FindsFiles at named files
  pub bytes : map sure readers ≡ map at.bytes files

-- the bytes that a reader is sure to give: those that it tells, where no read can fail and none has
abbrev pub sure_bytes : {R : Type 0} (remaining : R → Option (List ℕ)) (may_fail has_failed : R → Bool) → R → Option (List ℕ)
sure_bytes remaining may_fail has_failed reader = if may_fail reader || has_failed reader then None else remaining reader

-- this is the file that a walk gives, or it gives none
abbrev pub IsGiven : Result (Option (String Global)) WalkFault → Option (String Global) → Type 0
IsGiven found (Some path) = found ≡ Ok (Some path)
IsGiven found None = GivesNone found

-- this text is all that is left of a source, where that is told, and has at most so many bytes
abbrev pub IsWholeText : ℕ → Option (List ℕ) → String Global → Type 0
IsWholeText most left text = (string_len text ≤ most) × IfSome left (λ bytes. string_bytes text ≡ bytes)

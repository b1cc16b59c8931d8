-- What a walk has left, and what it gives (this project's own).
use Rattle.std.specs.Prelude.{◌≡◌, ◌≢◌, ◌⊎◌, ◌≤◌, ◌<◌, ◌++◌, ◌∷◌, [], ◌+◌, ◌-◌, ◌^◌, ⊤, ℕ, Contains, IfErr, IfOk, IfSome, IsPermutation, IsSorted, List, Option, Some, None, Result, Ok, Err, String, codes, if◌then◌else◌, map, nat_eq, reverse, string_bytes}
use Rattle.std.specs.List.{AllByRecursion, ends_with, sum_by}
use Rattle.std.specs.String.{string_cmp}
use Rattle.std.specs.declared.alloc.Global.{Global}
use Rattle.zeb_paths.specs.Told.{AreNames}
use Rattle.zeb_paths.specs.declared.causes.PathCause.{PathCause}
use Rattle.zeb_paths.specs.declared.causes.PathCause.TheVariants as cause
use Rattle.zeb_paths.specs.declared.paths.PathKind.{PathKind}
use Rattle.zeb_paths.specs.declared.paths.Paths as paths
use Rattle.zeb_paths.specs.declared.paths.PathKind.TheVariants.{File, Folder}
use Rattle.zeb_paths.specs.declared.walk.Step.{Step}
use Rattle.zeb_paths.specs.declared.walk.WalkFault.{WalkFault}
use Rattle.zeb_paths.specs.declared.walk.WalkFault.TheVariants.{Unreadable, Memory}

abbrev pub step_path : Step → List ℕ
step_path step = string_bytes step.path

-- the paths that are still to be looked at, the next one first; they are kept with the next one last
abbrev pub paths_left : List Step → List (List ℕ)
paths_left steps = reverse (map step_path steps)

-- the file of this path is given
abbrev pub GivesFile : List ℕ → Result (Option (String Global)) WalkFault → Type 0
GivesFile path (Ok (Some given)) = string_bytes given ≡ path
GivesFile path other = ⊥

-- a folder's path, which ends in a slash
abbrev pub slashed : List ℕ → List ℕ
slashed folder = if ends_with nat_eq folder (codes "/") then folder else folder ++ codes "/"

-- the path stands below that of a folder
abbrev pub IsBelow : List ℕ → List ℕ → Type 0
IsBelow folder path = (behind : List ℕ) × (path ≡ slashed folder ++ behind)

-- the path is one of these, or stands below one
abbrev pub IsUnder : List (List ℕ) → List ℕ → Type 0
IsUnder named path = (one : List ℕ) × Contains named one × ((path ≡ one) ⊎ IsBelow one path)

-- so it is of each of these paths
abbrev pub AreUnder : List (List ℕ) → List (List ℕ) → Type 0
AreUnder named = AllByRecursion (IsUnder named)

-- and of the path that can't be read
abbrev pub IsFaultUnder : List (List ℕ) → WalkFault → Type 0
IsFaultUnder named (Unreadable path) = IsUnder named (string_bytes path)
IsFaultUnder named Memory = ⊤

-- and of the file that a walk gives, or the path that it can't go on at
abbrev pub GivesUnder : List (List ℕ) → Result (Option (String Global)) WalkFault → Type 0
GivesUnder named (Ok (Some given)) = IsUnder named (string_bytes given)
GivesUnder named (Ok None) = ⊤
GivesUnder named (Err why) = IsFaultUnder named why

-- the paths tell no bytes of a file there
abbrev pub IsUntold : (List ℕ → Option (List ℕ)) → List ℕ → Type 0
IsUntold tells path = (bytes : List ℕ) → tells path ≢ Some bytes

-- and so it is of the path that a walk can't go on at
abbrev pub IsFaultUntold : (List ℕ → Option (List ℕ)) → WalkFault → Type 0
IsFaultUntold tells (Unreadable path) = IsUntold tells (string_bytes path)
IsFaultUntold tells Memory = ⊤

-- ---- a walk

-- a path that is still to be looked at, and the level that it has if it is a folder
pub record Due : Type 0 where
  pub path : List ℕ
  pub level : ℕ

-- a path with its level, as a walk keeps it
abbrev pub due : List ℕ → ℕ → Due
due path level = record { path = path; level = level }

abbrev pub due_of : Step → Due
due_of step = due (step_path step) step.level

-- these are still to be looked at, the next one first
abbrev pub dues_left : List Step → List Due
dues_left steps = reverse (map due_of steps)

-- What paths tell, each where they tell it: the bytes of the file at a path, what stands there, and the names in a folder.
pub record Tells : Type 0 where
  pub bytes : List ℕ → Option (List ℕ)
  pub stands : List ℕ → Option (Result PathKind PathCause)
  pub names : List ℕ → Option (List (List ℕ))

-- what paths tell, as a walk is given it
abbrev pub telling_of : {P R S : Type 0} → paths.Ghosts P R S → P → Tells
telling_of g p = record { bytes = g.tells p; stands = g.stands p; names = g.lists p }

-- this may be found at a path, as far as is told
abbrev pub MayStand : Tells → List ℕ → Result PathKind PathCause → Type 0
MayStand at path found =
    ((bytes : List ℕ) → at.bytes path ≡ Some bytes → found ≡ Ok File) × IfSome (at.stands path) (λ told. found ≡ told)

-- these are the names in a folder, as far as they are told, in the order of their bytes
abbrev pub AreInOrder : Tells → List ℕ → List (List ℕ) → Type 0
AreInOrder at folder names =
    (given : List (String Global)) × (sorted : List (String Global)) × IfSome (at.names folder) (λ told. AreNames told (map string_bytes given))
    × IsPermutation given sorted × IsSorted string_cmp sorted × (names ≡ map string_bytes sorted)

-- a folder is read that has no greater level than 32, and these are its names
abbrev pub IsEntered : Tells → Due → List (List ℕ) → Type 0
IsEntered at folder names = MayStand at folder.path (Ok Folder) × (folder.level ≤ 32) × AreInOrder at folder.path names

-- the paths of these names in a folder
abbrev pub dues_in : Due → List (List ℕ) → List Due
dues_in folder names = map (λ name. due (slashed folder.path ++ name) (folder.level + 1)) names

-- A walk can't go on at a path, for this cause: neither a file nor a folder stands there; or it is a folder below the 32nd level; or a folder
-- whose names aren't given: for want of memory, or where one of them is empty, as far as they are told.
pub data IsRefused (at : Tells) (here : Due) : PathCause → Type 0 where
  not_there : {why : PathCause} → MayStand at here.path (Err why) → IsRefused at here why
  too_deep : MayStand at here.path (Ok Folder) → 32 < here.level → IsRefused at here cause.TooDeep
  not_given : {why : PathCause} → MayStand at here.path (Ok Folder) → IfSome (at.names here.path) (λ told. (why ≡ cause.Memory) ⊎ Contains told [])
      → IsRefused at here why

-- the fault of a path for a cause, which names this path or is want of memory
abbrev pub fault_at : String Global → PathCause → WalkFault
fault_at path cause.Memory = Memory
fault_at path other = Unreadable path

-- From these paths a walk goes on to the next file, or to a path that it can't go on at, and leaves those: what stands in a folder comes in the
-- folder's place.
pub data WalksOn (at : Tells) : List Due → Result (Option (String Global)) WalkFault → List Due → Type 0 where
  at_end : WalksOn at [] (Ok None) []
  at_file : {here : Due} {rest : List Due} {given : String Global} → MayStand at here.path (Ok File) → string_bytes given ≡ here.path
      → WalksOn at (here ∷ rest) (Ok (Some given)) rest
  at_folder : {here : Due} {rest later : List Due} {names : List (List ℕ)} {result : Result (Option (String Global)) WalkFault} → IsEntered at here names
      → WalksOn at (dues_in here names ++ rest) result later → WalksOn at (here ∷ rest) result later
  at_fault : {here : Due} {rest later : List Due} {met : WalkFault} → (given : String Global) → (why : PathCause) → IsRefused at here why
      → string_bytes given ≡ here.path → met ≡ fault_at given why → WalksOn at (here ∷ rest) (Err met) later

-- ---- what follows of a walk

-- A file of which the paths tell the bytes is given by its own path, and the walk goes on behind it.
abbrev pub ToldIsGiven : Type 0
ToldIsGiven = (at : Tells) (steps later : List Step) (result : Result (Option (String Global)) WalkFault) → WalksOn at (dues_left steps) result (dues_left later)
    → (path bytes : List ℕ) (rest : List (List ℕ)) → paths_left steps ≡ path ∷ rest → at.bytes path ≡ Some bytes → GivesFile path result × (paths_left later ≡ rest)

-- Behind the last path there is no file.
abbrev pub EndIsLast : Type 0
EndIsLast = (at : Tells) (steps later : List Step) (result : Result (Option (String Global)) WalkFault) → WalksOn at (dues_left steps) result (dues_left later)
    → paths_left steps ≡ [] → result ≡ Ok None

-- No path that a walk can't go on at is one at which the paths tell a file's bytes.
abbrev pub StopsUntold : Type 0
StopsUntold = (at : Tells) (left later : List Due) (result : Result (Option (String Global)) WalkFault) → WalksOn at left result later → IfErr result (IsFaultUntold at.bytes)

-- Each file that a walk gives, and each path that it can't go on at, is one of the named paths or stands below one, and so is each that it leaves.
abbrev pub StaysUnder : Type 0
StaysUnder = (at : Tells) (steps later : List Step) (result : Result (Option (String Global)) WalkFault) → WalksOn at (dues_left steps) result (dues_left later)
    → (named : List (List ℕ)) → AreUnder named (paths_left steps) → GivesUnder named result × IfOk result (λ _. AreUnder named (paths_left later))

-- ---- its end

-- A walk ends because it gets lighter with each path that it looks at: a folder weighs more than all that may stand in it, since no folder
-- has 2^64 names.
abbrev pub level_weight : ℕ → ℕ
level_weight level = 18446744073709551616 ^ (33 - level)

-- how much one path that is still to be looked at weighs
abbrev pub step_weight : Step → ℕ
step_weight step = level_weight step.level

-- how much all paths that are still to be looked at weigh together
abbrev pub walk_weight : List Step → ℕ
walk_weight steps = sum_by step_weight steps

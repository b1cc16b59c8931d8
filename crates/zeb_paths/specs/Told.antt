-- What files in memory tell (this project's own).
use Rattle.std.specs.Prelude.{◌↔◌, ◌==◌, ◌+◌, ◌++◌, ◌∷◌, [], ℕ, Bool, Contains, List, Option, None, Some, Result, Ok, Err, drop, if◌then◌else◌, length, take}
use Rattle.std.specs.List.{IsDistinct, before_first, filter_map, find, list_any}
use Rattle.std.specs.Option.{is_some, option_and_then, option_map}
use Rattle.std.specs.Str.{bytes_eq}
use Rattle.zeb_paths.specs.declared.causes.PathCause.{PathCause}
use Rattle.zeb_paths.specs.declared.causes.PathCause.TheVariants.{Absent}
use Rattle.zeb_paths.specs.declared.paths.PathKind.{PathKind}
use Rattle.zeb_paths.specs.declared.paths.PathKind.TheVariants.{File, Folder}
use Rattle.zeb_paths.specs.declared.shelf.Shelved.{Shelved}

-- the first file in memory with this path
abbrev pub first_at : List Shelved → List ℕ → Option Shelved
first_at files path = find (λ file. bytes_eq file.path.now path) files

-- a file's bytes, where its reads don't fail
abbrev pub bytes_of : Shelved → Option (List ℕ)
bytes_of file = option_map (λ bytes. bytes.now) file.bytes

-- the bytes of the first file with this path
abbrev pub told_at : List Shelved → List ℕ → Option (List ℕ)
told_at files path = option_and_then bytes_of (first_at files path)

-- what stands behind a folder's path and a slash, where a path begins with them
abbrev pub below : List ℕ → List ℕ → Option (List ℕ)
below folder path = if bytes_eq (take (length folder + 1) path) (folder ++ 47 ∷ []) then Some (drop (length folder + 1) path) else None

abbrev pub is_slash : ℕ → Bool
is_slash byte = byte == 47

-- the name in a folder that a path goes through or ends in
abbrev pub name_below : List ℕ → List ℕ → Option (List ℕ)
name_below folder path = option_map (before_first is_slash) (below folder path)

-- the names in a folder, one for each file below it
abbrev pub names_in : List Shelved → List ℕ → List (List ℕ)
names_in files folder = filter_map (λ file. name_below folder file.path.now) files

-- what stands at a path: a file; or a folder, where files stand below it; else nothing
abbrev pub stands_at : List Shelved → List ℕ → Result PathKind PathCause
stands_at files path =
    if is_some (first_at files path) then Ok File
    else if list_any (λ file. is_some (below path file.path.now)) files then Ok Folder
    else Err Absent

-- these are the names that are told, each once, and none of them is empty
abbrev pub AreNames : List (List ℕ) → List (List ℕ) → Type 0
AreNames told given = ((name : List ℕ) → Contains given name ↔ Contains told name) × IsDistinct bytes_eq given × (¬ Contains told [])

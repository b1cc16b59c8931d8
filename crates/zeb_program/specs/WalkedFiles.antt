-- The files that a walk gives, by their numbers (this program's own).
use Rattle.std.specs.Prelude.{◌≡◌, ◌≤◌, ◌-◌, ◌∷◌, [], ⊤, ℕ, List, Option, None, Some, IfSome, Result, Ok, Err, String, length, map, string_bytes}
use Rattle.std.specs.declared.alloc.Global.{Global}
use Rattle.zeb_paths.specs.Walks.{Due, Tells, WalksOn, due}
use Rattle.zeb_paths.specs.declared.walk.WalkFault.{WalkFault}
use Rattle.zeb_paths.specs.declared.walk.WalkFault.TheVariants.{Unreadable, Memory}

-- a walk from these paths gives the files of these, one after the other, and leaves those
abbrev pub WalksOver : Tells → List Due → List (List ℕ) → List Due → Type 0
WalksOver at left [] later = later ≡ left
WalksOver at left (file ∷ files) later =
    (given : String Global) × (mid : List Due) × WalksOn at left (Ok (Some given)) mid × (string_bytes given ≡ file) × WalksOver at mid files later

-- a walk that begins at the named paths
abbrev pub WalksFrom : Tells → List (List ℕ) → List (List ℕ) → List Due → Type 0
WalksFrom at named = WalksOver at (map (λ path. due path 1) named)

-- This is the file of that number, from 1, at and below the named paths: so many but one stand before it.
abbrev pub IsNthFile : Tells → List (List ℕ) → ℕ → String Global → Type 0
IsNthFile at named number path =
    (before : List (List ℕ)) × (left later : List Due) × (length before ≡ number - 1) × WalksFrom at named before left × WalksOn at left (Ok (Some path)) later

-- a walk gives no file: it is at its end, or comes to a path that it can't go on at
abbrev pub GivesNone : Result (Option (String Global)) WalkFault → Type 0
GivesNone (Ok None) = ⊤
GivesNone (Ok (Some path)) = ⊥
GivesNone (Err (Unreadable path)) = ⊤
GivesNone (Err Memory) = ⊥

-- there is no file of this number, since a walk ends before it or comes to a path that it can't go on at
abbrev pub LacksNthFile : Tells → List (List ℕ) → ℕ → Type 0
LacksNthFile at named number =
    (before : List (List ℕ)) × (left later : List Due) × (found : Result (Option (String Global)) WalkFault) × (length before ≤ number - 1)
    × WalksFrom at named before left × WalksOn at left found later × GivesNone found

-- this is the path of the file of that number, or there is no such file
abbrev pub FindsNthFile : Tells → List (List ℕ) → ℕ → Option (String Global) → Type 0
FindsNthFile at named number (Some path) = IsNthFile at named number path
FindsNthFile at named number None = LacksNthFile at named number

-- a walk over the named paths comes to this path, and can't go on there
abbrev pub StopsAt : Tells → List (List ℕ) → String Global → Type 0
StopsAt at named path = (files : List (List ℕ)) × (left later : List Due) × WalksFrom at named files left × WalksOn at left (Err (Unreadable path)) later

-- it gives the file at this path
abbrev pub GivesAt : Tells → List (List ℕ) → String Global → Type 0
GivesAt at named path = (files : List (List ℕ)) × (left later : List Due) × WalksFrom at named files left × WalksOn at left (Ok (Some path)) later

-- a walk over the named paths gives these files, in their order, and comes to its end
abbrev pub FindsFiles : Tells → List (List ℕ) → List (List ℕ) → Type 0
FindsFiles at named files = (left later : List Due) × WalksFrom at named files left × WalksOn at left (Ok None) later

-- it comes to its end: each of the named paths is found, and all that stands below one
abbrev pub FindsAll : Tells → List (List ℕ) → Type 0
FindsAll at named = (files : List (List ℕ)) × FindsFiles at named files

-- These texts may be read of the files at these paths, one of each: where its bytes are told, just they are.
abbrev pub AreTexts : (List ℕ → Option (List ℕ)) → List (List ℕ) → List (List ℕ) → Type 0
AreTexts told [] [] = ⊤
AreTexts told (path ∷ paths) (text ∷ texts) = IfSome (told path) (λ bytes. text ≡ bytes) × AreTexts told paths texts
AreTexts told [] (text ∷ texts) = ⊥
AreTexts told (path ∷ paths) [] = ⊥

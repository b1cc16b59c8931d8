-- What only the contracts of private functions speak of; no public clause reaches it.
-- The keys by which names and targets are looked up while a profile is read: a name in lower case, and a target as its
-- register's letter with the key of its name behind it. And the numbers of names, each at its key, and how they are given: each name joins
-- the list of indexes once.
use Rattle.std.specs.Prelude.{◌≡◌, ℕ, List, ◌++◌, Option, Some, None, option_map, unwrap_or, String, if◌then◌else◌, position, bytes_eq, [], ◌∷◌}
use Rattle.std.specs.Borrow.{Bor}
use Rattle.std.specs.BTreeMap.{BTreeMap, get_by_text}
use Rattle.zeb_profile.specs.Cited.{list_any, option_or, str_to_ascii_lowercase, register_text, Directive, Target}
use Rattle.zeb_profile.specs.declared.indexes.Indexes.{Indexes}
use Rattle.zeb_profile.specs.Indexes.{index_names}
use Rattle.zeb_profile.specs.Words.{same_name}

abbrev pub name_key : List ℕ → List ℕ
name_key name = str_to_ascii_lowercase name

abbrev pub target_key : Target → List ℕ
target_key target = register_text target.register ++ name_key target.name

-- the names with one more, unless it is among them
abbrev pub numbered : (List ℕ → List ℕ) → List (List ℕ) → List ℕ → List (List ℕ)
numbered spell names name = if list_any (same_name name) names then names else (names ++ spell name ∷ [])

module _ {Y : Type 0} where
  -- the spelling that is noted at a key
  abbrev pub spelled_at : BTreeMap (String Y) (Bor (List ℕ)) → List ℕ → Option (List ℕ)
  spelled_at spellings key = option_map (λ spelling. spelling.now) (get_by_text spellings key)

  -- a name as it is noted, or as it stands where none is noted
  abbrev pub spelled : BTreeMap (String Y) (Bor (List ℕ)) → List ℕ → List ℕ
  spelled spellings name = unwrap_or (spelled_at spellings (name_key name)) name

  -- a name is noted at its key, unless one was noted there
  abbrev pub NotesSpelling : BTreeMap (String Y) (Bor (List ℕ)) → BTreeMap (String Y) (Bor (List ℕ)) → List ℕ → Type 0
  NotesSpelling old new name = (key : List ℕ)
      → spelled_at new key ≡ option_or (spelled_at old key) (if bytes_eq key (name_key name) then Some name else None)

  -- at each key stands the place of the first of these names that has it
  abbrev pub NumbersNames : BTreeMap (String Y) ℕ → List (List ℕ) → Type 0
  NumbersNames numbers names = (key : List ℕ) → get_by_text numbers key ≡ position (λ name. bytes_eq key (name_key name)) names

-- these are the indexes of the directives: their names, and at the key of each its number
pub record AreIndexes (indexes : Indexes) (directives : List Directive) : Type 0 where
  pub names : indexes.names.items ≡ index_names directives
  pub numbers : NumbersNames indexes.numbers indexes.names.items

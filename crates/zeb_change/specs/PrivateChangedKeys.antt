-- What only the contracts of private functions speak of; no public clause reaches it.
-- The keys whose places differ between the occurrences of two records.
use Rattle.std.specs.Prelude.{◌≡◌, ◌≢◌, ◌↔◌, ◌⊎◌, List, [], ◌∷◌, ◌++◌, map}
use Rattle.std.specs.List.{Contains}
use Rattle.std.specs.List.Sorted.{IsStrictlySortedBy}
use Rattle.sqlite_rules.specs.Lists.{Has}
use Rattle.zeb_keys.specs.declared.keys.Key.{Key}
use Rattle.zeb_keys.specs.declared.keys.Occurrence.{Occurrence}
use Rattle.zeb_keys.specs.Order.{key_order}
use Rattle.zeb_register.specs.declared.registers.Place.{Place}
use Rattle.zeb_register.specs.Content.{place_cmp}
use Rattle.zeb_change.specs.declared.changed_keys.ChangedKey.{ChangedKey}
use Rattle.zeb_change.specs.Reposted.{occurrence_at}

abbrev pub place_in : Occurrence → Place
place_in o = record { seq = o.seq; pos = o.pos }

-- the places of the key among the occurrences, rising
pub record ArePlacesIn (occurrences : List Occurrence) (key : Key) (places : List Place) : Type 0 where
  pub rising : IsStrictlySortedBy place_cmp places
  pub each : (place : Place) → Has places place ↔ Contains occurrences (occurrence_at key place)

abbrev pub key_in : ChangedKey → Key
key_in changed = changed.key.now

-- the places that a changed key has in the elder record, and in the newer one
abbrev pub old_in : ChangedKey → List Place
old_in changed = map place_in changed.old.now

abbrev pub new_in : ChangedKey → List Place
new_in changed = map place_in changed.new.now

-- a key is noted with its occurrences in either record, where they differ
abbrev pub IsAddedIfChanged : Key → List Occurrence → List Occurrence → List ChangedKey → List ChangedKey → Type 0
IsAddedIfChanged key old new before after = ((map place_in old ≡ map place_in new) × (after ≡ before))
    ⊎ ((map place_in old ≢ map place_in new) × ((c : ChangedKey) × (after ≡ before ++ c ∷ []) × (key_in c ≡ key) × (old_in c ≡ map place_in old) × (new_in c ≡ map place_in new)))

-- just the keys whose places differ, each once, with their places in either record
pub record AreChangedKeys (elder newer : List Occurrence) (changed : List ChangedKey) : Type 0 where
  pub once : IsStrictlySortedBy key_order (map key_in changed)
  pub old : (c : ChangedKey) → Contains changed c → ArePlacesIn elder (key_in c) (old_in c)
  pub new : (c : ChangedKey) → Contains changed c → ArePlacesIn newer (key_in c) (new_in c)
  pub differ : (c : ChangedKey) → Contains changed c → old_in c ≢ new_in c
  pub others : (key : Key) → ¬ Contains (map key_in changed) key → (place : Place)
      → Contains elder (occurrence_at key place) ↔ Contains newer (occurrence_at key place)

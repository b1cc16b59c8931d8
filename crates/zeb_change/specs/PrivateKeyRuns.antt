-- What only the contracts of private functions speak of; no public clause reaches it.
-- Runs of one key at the head of a list of occurrences.
use Rattle.std.specs.Prelude.{◌≡◌, ◌≢◌, ◌⊎◌, ⊤, List, [], ◌∷◌}
use Rattle.std.specs.List.{AllByRecursion}
use Rattle.std.specs.declared.cmp.Ordering.TheVariants.{Less}
use Rattle.zeb_keys.specs.declared.keys.Key.{Key}
use Rattle.zeb_keys.specs.declared.keys.Occurrence.{Occurrence}
use Rattle.zeb_keys.specs.Order.{key_order}

abbrev pub BeginsWithKey : Key → List Occurrence → Type 0
BeginsWithKey key [] = ⊥
BeginsWithKey key (first ∷ rest) = first.key ≡ key

-- all of one key
abbrev pub AreOfKey : Key → List Occurrence → Type 0
AreOfKey key = AllByRecursion (λ o. o.key ≡ key)

-- the first is of another key
abbrev pub Stops : Key → List Occurrence → Type 0
Stops key [] = ⊤
Stops key (first ∷ rest) = first.key ≢ key

-- the key is not above the first
abbrev pub IsNotAbove : Key → List Occurrence → Type 0
IsNotAbove key [] = ⊤
IsNotAbove key (first ∷ rest) = (key_order key first.key ≡ Less) ⊎ (key ≡ first.key)

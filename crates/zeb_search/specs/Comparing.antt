-- How numbers, texts and places of words stand to each other (ANSI/NISO Z39.50-2003: Bib-1, relation attributes; the proximity operator).
-- Own rules of this project: that texts stand in the order of their bytes, that a distance is counted in words of one unit, and that
-- a word is at no distance from itself.
use Rattle.std.specs.Prelude.{◌≡◌, ◌≢◌, ◌⊎◌, ◌+◌, ◌<◌, ◌≤◌, ℕ, Bool, true, false, List}
use Rattle.std.specs.declared.cmp.Ordering.TheVariants as ordering
use Rattle.std.specs.Ordering.{nat_cmp}
use Rattle.std.specs.Cmp.Lexicographic.{slice_cmp}
use Rattle.zeb_query.specs.declared.plans.DistanceRelation.{DistanceRelation}
use Rattle.zeb_query.specs.declared.plans.DistanceRelation.TheVariants as at
use Rattle.zeb_query.specs.declared.plans.Relation.{Relation}
use Rattle.zeb_query.specs.declared.plans.Relation.TheVariants as relation
use Rattle.zeb_query.specs.declared.plans.Separation.{Separation}

-- a number is less than another one, or equal to it, or greater, as the relation asks
abbrev pub Stands : Relation → ℕ → ℕ → Type 0
Stands relation.Less a b = a < b
Stands relation.LessOrEqual a b = a ≤ b
Stands relation.Equal a b = a ≡ b
Stands relation.GreaterOrEqual a b = b ≤ a
Stands relation.Greater a b = b < a

-- the first text comes before the other in the order of their bytes
abbrev pub Precedes : List ℕ → List ℕ → Type 0
Precedes a b = slice_cmp nat_cmp a b ≡ ordering.Less

-- a text comes before another one in the order of their bytes, or after it, or is it, as the relation asks
abbrev pub StandsInOrder : Relation → List ℕ → List ℕ → Type 0
StandsInOrder relation.Less a b = Precedes a b
StandsInOrder relation.LessOrEqual a b = Precedes a b ⊎ (a ≡ b)
StandsInOrder relation.Equal a b = a ≡ b
StandsInOrder relation.GreaterOrEqual a b = Precedes b a ⊎ (a ≡ b)
StandsInOrder relation.Greater a b = Precedes b a

-- a number of words is less than a distance, or equal to it, or greater, or another one, as the relation asks
abbrev pub IsDistant : DistanceRelation → ℕ → ℕ → Type 0
IsDistant at.Less words distance = words < distance
IsDistant at.LessOrEqual words distance = words ≤ distance
IsDistant at.Equal words distance = words ≡ distance
IsDistant at.GreaterOrEqual words distance = distance ≤ words
IsDistant at.Greater words distance = distance < words
IsDistant at.NotEqual words distance = words ≢ distance

-- one place is some words behind the other, or, where the order doesn't matter, before it; they are two places
abbrev pub AreApart : Bool → ℕ → ℕ → ℕ → Type 0
AreApart true words i j = (0 < words) × (i + words ≡ j)
AreApart false words i j = (0 < words) × ((i + words ≡ j) ⊎ (j + words ≡ i))

-- two words of one unit are apart by a number of words that stands to the distance as the relation asks; where the order matters, the second is
-- behind the first
abbrev pub AreSeparated : Separation → ℕ → ℕ → Type 0
AreSeparated separation i j = (words : ℕ) × AreApart separation.ordered words i j × IsDistant separation.relation words separation.distance

-- What a register holds for its users (Zebra manual, "Record and register storage"): databases, and in each the records that
-- are kept, by their system numbers.
use Rattle.std.specs.Prelude.{ℕ, not, List, [], ◌∷◌, filter, find, Option}
use Rattle.std.specs.Ordering.{nat_cmp}
use Rattle.std.specs.Str.{bytes_eq}
use Rattle.std.specs.Cmp.Lexicographic.{slice_cmp}
use Rattle.std.specs.declared.cmp.Ordering.{Ordering}
use Rattle.std.specs.declared.cmp.Ordering.TheVariants.{Less, Equal, Greater}
use Rattle.zeb_change.specs.Base.{Base}

-- nothing, before the first `init`; then the version of the tables' layout, the canonical text of the profile, and databases in
-- the byte order of their names
pub data Holdings : Type 0 where
  nothing_yet : Holdings
  under : List ℕ → List ℕ → List Base → Holdings

abbrev pub new_base : List ℕ → Base
new_base name = record { name = name; last = 0; records = [] }

-- the database that has this name, or none where none has it
abbrev pub base_named : List ℕ → List Base → Option Base
base_named name bases = find (λ base. bytes_eq name base.name) bases

-- the database stands before the first of the rest, takes its place, or comes after it
abbrev pub base_placed : Ordering → Base → Base → List Base → List Base → List Base
base_placed Less base first rest after = base ∷ first ∷ rest
base_placed Equal base first rest after = base ∷ rest
base_placed Greater base first rest after = first ∷ after

-- the database added, or in the place of the one that has its name
unfoldable pub with_base : Base → List Base → List Base
with_base base [] = base ∷ []
with_base base (first ∷ rest) = base_placed (slice_cmp nat_cmp base.name first.name) base first rest (with_base base rest)

-- without the database of this name
abbrev pub without_base : List ℕ → List Base → List Base
without_base name bases = filter (λ base. not (bytes_eq name base.name)) bases

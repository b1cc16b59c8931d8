-- What only the contracts of private functions speak of; no public clause reaches it: what entries say.
use Rattle.std.specs.Prelude.{◌≡◌, ◌++◌, ◌∷◌, List, []}
use Rattle.sqlite_rules.specs.Lists.{Has}
use Rattle.zeb_blocks.specs.Blocks.{BlockSpells}
use Rattle.zeb_blocks.specs.declared.postings.Posting.{Posting}
use Rattle.zeb_leaf.specs.declared.entries.Held.{Held}
use Rattle.zeb_register.specs.Readings.{HasRecordOf}
use Rattle.zeb_register.specs.Occurring.{IsCount}

-- the entry's block spells these postings, and it counts their records
abbrev pub Says : Held → List Posting → Type 0
Says held part = BlockSpells held.block part held.bytes.now × IsCount (HasRecordOf part) held.records

-- what they say, one behind the other
abbrev pub SayAll : List Held → List Posting → Type 0
SayAll [] list = list ≡ []
SayAll (held ∷ more) list = (part : List Posting) × (rest : List Posting) × Says held part × SayAll more rest × (list ≡ part ++ rest)

-- one of them says nothing
abbrev pub SomeSaysNone : List Held → Type 0
SomeSaysNone held = (one : Held) × Has held one × ((part : List Posting) → ¬ Says one part)

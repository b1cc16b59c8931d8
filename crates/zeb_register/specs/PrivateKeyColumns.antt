-- What only the contracts of private functions speak of; no public clause reaches it.
-- The columns with which rows of a register, of a key and of a numbered key begin. zeb_packed speaks of them too.
use Rattle.std.specs.Prelude.{ℕ, ℤ, pos, List, [], ◌∷◌, ◌++◌, ◌≡◌}
use Rattle.sqlite.specs.declared.types.Value.TheVariants.{Int, Text}
use Rattle.sqlite.specs.Order.{Row, column}
use Rattle.sqlite.specs.Tree.{Trees}
use Rattle.zeb_keys.specs.Registers.{register_code}
use Rattle.zeb_register.specs.declared.statements.keys.KeyOf.{KeyOf}
use Rattle.zeb_register.specs.declared.registers.RegisterOf.{RegisterOf}
use Rattle.zeb_register.specs.PlainRows.{key_row, register_front}
use Rattle.zeb_register.specs.PrivateRowTerms.{HasTerm}
use Rattle.zeb_keys.specs.declared.keys.Key.{Key}

abbrev pub IsRowOf : ℤ → ℤ → ℤ → List ℕ → Row → Type 0
IsRowOf db idx reg term columns = (column columns 0 ≡ Int db) × (column columns 1 ≡ Int idx) × (column columns 2 ≡ Int reg) × (column columns 3 ≡ Text term)

-- a row of the key with this number, of a block or of a record
abbrev pub IsNumberedRow : ℤ → ℤ → ℤ → List ℕ → ℤ → Row → Type 0
IsNumberedRow db idx reg term number columns =
    (column columns 0 ≡ Int db) × (column columns 1 ≡ Int idx) × (column columns 2 ≡ Int reg) × (column columns 3 ≡ Text term) × (column columns 4 ≡ Int number)

abbrev pub IsDictIn : ℤ → Key → Row → Type 0
IsDictIn db key = IsRowOf db (pos key.index) (pos (register_code key.register)) key.term

abbrev pub register_columns : RegisterOf → Row
register_columns at = register_front at.db.0 at.index at.register

-- a posting of the register under the term
abbrev pub HasTermOf : RegisterOf → Trees → List ℕ → Type 0
HasTermOf at trees = HasTerm trees at.db.0 (pos at.index) (pos (register_code at.register))

abbrev pub key_columns : KeyOf → Row
key_columns at = key_row at.db.0 at.key.now

-- a row of the key
abbrev pub IsOfKey : KeyOf → Row → Type 0
IsOfKey at = IsDictIn at.db.0 at.key.now

-- the same with the number of a block or a record
abbrev pub numbered_columns : KeyOf → ℤ → Row
numbered_columns at number = key_columns at ++ Int number ∷ []

-- a row of the key with this number
abbrev pub IsOfNumbered : KeyOf → ℤ → Row → Type 0
IsOfNumbered at = IsNumberedRow at.db.0 (pos at.key.now.index) (pos (register_code at.key.now.register)) at.key.now.term

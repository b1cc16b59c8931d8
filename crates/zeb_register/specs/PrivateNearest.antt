-- What only the contracts of private functions speak of; no public clause reaches it.
-- The terms of plain rows that are nearest to a text, on the way up or down from it.
use Rattle.std.specs.Prelude.{ℕ, List, reverse, Option, Some, None, IsUtf8}
use Rattle.sqlite.specs.Tree.{Trees}
use Rattle.zeb_register.specs.declared.registers.RegisterOf.{RegisterOf}
use Rattle.zeb_register.specs.declared.registers.TermCount.{TermCount}
use Rattle.zeb_register.specs.declared.terms.Way.{Way}
use Rattle.zeb_register.specs.declared.terms.Way.TheVariants.{Up, Down}
use Rattle.zeb_register.specs.Formats.{plain_rows}
use Rattle.zeb_register.specs.Occurring.{key_in}
use Rattle.zeb_register.specs.PlainUnits.{RowsCount}
use Rattle.zeb_register.specs.PrivateKeyColumns.{HasTermOf}
use Rattle.zeb_register.specs.Terms.{Comes, HidesCount, HidesNearest, ListsNearest}

-- the term is on this way from the text
abbrev pub IsOn : Way → (text term : List ℕ) → Type 0
IsOn Up text term = ¬ Comes term text
IsOn Down text term = Comes term text

-- on this way the one term comes before the other
abbrev pub IsNearer : Way → (one other : List ℕ) → Type 0
IsNearer Up one other = Comes one other
IsNearer Down one other = Comes other one

-- terms that were found on this way, in the order of their bytes
abbrev pub in_order : Way → List TermCount → List TermCount
in_order Up terms = terms
in_order Down terms = reverse terms

module _ (at : RegisterOf) (way : Way) (text : List ℕ) (trees : Trees) where
  -- the register has the term, on this way from the text
  abbrev pub HasOn : List ℕ → Type 0
  HasOn term = HasTermOf at trees term × IsOn way text term

  -- none of these is nearer
  abbrev pub IsNext : List ℕ → Type 0
  IsNext term = HasOn term × ((other : List ℕ) → HasOn other → ¬ IsNearer way other term)

  -- the nearest one is counted, or there is none
  abbrev pub FindsCount : Option TermCount → Type 0
  FindsCount None = (term : List ℕ) → ¬ HasOn term
  FindsCount (Some t) = IsNext t.term × RowsCount trees at.db.0 (key_in at.index at.register t.term) t.records × IsUtf8 t.term

  -- the count of the nearest one can't be shown
  abbrev pub HidesNext : Type 0
  HidesNext = (term : List ℕ) × IsNext term × HidesCount plain_rows trees at.db.0 at.index at.register term

  -- they are the n nearest ones, or all where they are fewer
  abbrev pub AreNearest : ℕ → List TermCount → Type 0
  AreNearest n terms = ListsNearest plain_rows trees at.db.0 at.index at.register (IsOn way text) (IsNearer way) n (in_order way terms)

  -- the count of one of these can't be shown
  abbrev pub HideNearest : ℕ → Type 0
  HideNearest = HidesNearest plain_rows trees at.db.0 at.index at.register (IsOn way text) (IsNearer way)

-- What only the contracts of private functions speak of; no public clause reaches it: what calls tell of the terms on one side of a text.
use Rattle.std.specs.Prelude.{◌≢◌, ℕ, List, [], Option, Result, Vec, IfSome}
use Rattle.std.specs.declared.alloc.Global.{Global}
use Rattle.sqlite.specs.State.{State}
use Rattle.sqlite.specs.Tree.{Trees}
use Rattle.zeb_leaf_rows.specs.LeafRows.{IsLeafIn}
use Rattle.zeb_leaves.specs.declared.near_terms.Side.{Side}
use Rattle.zeb_leaves.specs.declared.near_terms.Side.TheVariants.{Below, From}
use Rattle.zeb_register.specs.Answers.{LooksInto}
use Rattle.zeb_register.specs.Covering.{Covers, leaf_key}
use Rattle.zeb_register.specs.Formats.{packed_leaves}
use Rattle.zeb_register.specs.Terms.{HidesBefore, HidesFrom, ListsBefore, ListsFrom}
use Rattle.zeb_register.specs.declared.faults.RegFault.{RegFault}
use Rattle.zeb_register.specs.declared.registers.RegisterOf.{RegisterOf}
use Rattle.zeb_register.specs.declared.registers.TermCount.{TermCount}

module _ (at : RegisterOf) (start : List ℕ) (n : ℕ) where
  -- the side is there: the leaf covers the first block of the start, or some text is below it
  abbrev pub IsSide : Side → Trees → Type 0
  IsSide (From leaf) trees = Covers (IsLeafIn trees at) (leaf_key start 0) leaf
  IsSide Below trees = start ≢ []

  -- these are the n terms of the side that are nearest to the start
  abbrev pub ListsBeside : Side → Trees → List TermCount → Type 0
  ListsBeside (From leaf) trees counts = ListsFrom packed_leaves trees at.db.0 at.index at.register start n counts
  ListsBeside Below trees counts = ListsBefore packed_leaves trees at.db.0 at.index at.register start n counts

  -- one of them has no count
  abbrev pub HidesBeside : Side → Trees → Type 0
  HidesBeside (From leaf) trees = HidesFrom packed_leaves trees at.db.0 at.index at.register start n
  HidesBeside Below trees = HidesBefore packed_leaves trees at.db.0 at.index at.register start n

  -- a call that changes nothing tells them, or is refused as Damaged only where one of them has no count
  abbrev pub TellsBeside : Side → State → State → Result (Vec TermCount Global) RegFault → Type 0
  TellsBeside side = LooksInto (λ trees. IsSide side trees → HidesBeside side trees)
      (λ (trees : Trees) (list : Vec TermCount Global). IsSide side trees → ListsBeside side trees list.items)

  -- the same of a call that may not have read enough
  abbrev pub MayTellBeside : Side → State → State → Result (Option (Vec TermCount Global)) RegFault → Type 0
  MayTellBeside side = LooksInto (λ trees. IsSide side trees → HidesBeside side trees)
      (λ (trees : Trees) (found : Option (Vec TermCount Global)). IfSome found (λ list. IsSide side trees → ListsBeside side trees list.items))

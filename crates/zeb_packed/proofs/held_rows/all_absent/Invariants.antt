-- None was looked for, or the looks so far are one look.
use Rattle.zeb_packed.proofs.Cited.{◌≡◌, ◌⊎◌, Ok, RegFault, IfDamaged, SomeStands}
use Rattle.zeb_register.specs.Connections.{LooksInsideOf}
use Rattle.zeb_packed.proofs.held_rows.all_absent.Given as goal

abbrev pub invariant-loop-one : goal.invariant-loop-one
invariant-loop-one g l =
    ((l.one-index ≡ 0) × (l.tx.conn ≡ l.fn.tx.conn))
    ⊎ LooksInsideOf {A = Unit {0}} {E = RegFault} g.S.Store l.fn.tx.conn l.tx.conn (Ok tt) (λ trees. IfDamaged (SomeStands l.db.0 l.blocks trees)) (λ _ _. Unit {0})

use Rattle.zeb_program.proofs.Cited.{state, ◌≡◌, None, false, refl, subst, sym, true, IfOk, IsTrue, IsForeignOr}
use Rattle.zeb_program.proofs.performing.opening_cause.Goals as goal

pub returns-in-Ok-2-clause-other : goal.returns-in-Ok-2-clause-other
returns-in-Ok-2-clause-other g c =
    subst (λ opened. IfOk opened (λ connection. IsForeignOr (state g.S.Store connection) None None)) (sym c.in-Ok.is)
    (λ other. absurd (let e : false ≡ true = subst IsTrue c.if-has_other_tables.false (c.has_other_tables.ensures.1 other) in cc), λ _. refl)

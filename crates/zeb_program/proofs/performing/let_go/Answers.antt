use Rattle.zeb_program.proofs.Cited.{subst, sym, IfSome, IsLetGo}
use Rattle.zeb_program.proofs.performing.let_go.Goals as goal

pub returns-in-Some-clause-told : goal.returns-in-Some-clause-told
returns-in-Some-clause-told g c =
    subst (λ held. IfSome held (IsLetGo g.P.Store.Store (g.P.Paths.lets_go c.args.paths.now) c.let_go.result)) (sym c.in-Some.is) (c.into_store.result, c.let_go.ensures, c.into_store.ensures.quiet)

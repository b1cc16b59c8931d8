use Rattle.zeb_leaves.proofs.Cited.{Row, ◌≡◌, ◌∙◌, Some, sym, subst, ShowsKey}
use Rattle.zeb_leaves.proofs.NextLeaves.{shown_above}
use Rattle.zeb_leaves.proofs.inside.is_above.Goals as goal

pub returns-in-Ok : goal.returns-in-Ok
returns-in-Ok c = λ so leaf is.
    let own = c.in-Ok.own in
    let same : c.in-Some.leaf ≡ leaf = let some : Some c.in-Some.leaf ≡ Some leaf = sym c.in-Some.is ∙ is in cc in
    let shows = subst (λ (r : Row). ShowsKey r own.term.now own.block) same c.in-Ok.ensures.ok in
    shown_above c.args.key.term.now c.args.key.block leaf own.term.now own.block shows (sym c.is_below.ensures ∙ so)

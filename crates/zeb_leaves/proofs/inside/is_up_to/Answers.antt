use Rattle.zeb_leaves.proofs.Cited.{Row, ◌≡◌, ◌∙◌, Some, true, false, refl, sym, subst, Bool, not, ShowsKey}
use Rattle.zeb_leaves.proofs.NextLeaves.{shown_up}
use Rattle.zeb_leaves.proofs.inside.is_up_to.Goals as goal

no_more : (b : Bool) → not b ≡ true → b ≡ false
no_more true so = let e : false ≡ true = so in absurd (cc)
no_more false so = refl

pub returns-in-Ok : goal.returns-in-Ok
returns-in-Ok c = λ so leaf is.
    let own = c.in-Ok.own in
    let same : c.in-Some.leaf ≡ leaf = let some : Some c.in-Some.leaf ≡ Some leaf = sym c.in-Some.is ∙ is in cc in
    let shows = subst (λ (r : Row). ShowsKey r own.term.now own.block) same c.in-Ok.ensures.ok in
    shown_up c.args.key.term.now c.args.key.block leaf own.term.now own.block shows (sym c.is_below.ensures ∙ no_more c.is_below.result so)

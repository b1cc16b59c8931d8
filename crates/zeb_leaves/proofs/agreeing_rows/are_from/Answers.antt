use Rattle.zeb_leaves.proofs.Cited.{◌∙◌, ap₂, is_lt, key_cmp}
use Rattle.zeb_leaves.proofs.AgreeingEnds.{from_told}
use Rattle.zeb_leaves.proofs.agreeing_rows.are_from.Goals as goal

pub returns-in-Some : goal.returns-in-Some
returns-in-Some c =
    let told = c.is_below.ensures ∙ ap₂ (λ t b. is_lt (key_cmp t b c.args.own.term.now c.args.own.block)) c.key.ensures.term c.key.ensures.block in
    from_told c.args.own.term.now c.args.own.block c.args.entries.now c.in-Some.first.now _ c.is_below.result c.in-Some.ensures.cases.0 told

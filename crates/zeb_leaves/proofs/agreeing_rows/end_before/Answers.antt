use Rattle.zeb_leaves.proofs.Cited.{◌∙◌, ap₂, is_lt, key_cmp}
use Rattle.zeb_leaves.proofs.AgreeingEnds.{ends_told}
use Rattle.zeb_leaves.proofs.agreeing_rows.end_before.Goals as goal

pub returns-in-Some : goal.returns-in-Some
returns-in-Some c =
    let told = c.is_below.ensures ∙ ap₂ (λ t b. is_lt (key_cmp t b c.args.end.term.now c.args.end.block)) c.key.ensures.term c.key.ensures.block in
    ends_told c.args.end.term.now c.args.end.block c.args.entries.now _ c.in-Some.last.now c.is_below.result c.in-Some.ensures.cases.0 told

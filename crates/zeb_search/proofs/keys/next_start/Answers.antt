use Rattle.zeb_search.proofs.Cited.{◌∙◌, ◌++◌, ◌∷◌, [], ap, sym, subst, inr, length, take, ◌-◌, Has, has_got, TermCount, EndsAt}
use Rattle.zeb_search.proofs.RisingTexts.{last_got}
use Rattle.zeb_search.proofs.keys.next_start.Goals as goal

pub returns-then-ends_at : goal.returns-then-ends_at
returns-then-ends_at c =
    let last : TermCount = c.in-Some.last.now in
    let has : Has c.args.page.now last = has_got c.args.page.now (length c.args.page.now - 1) last (sym c.in-Some.ensures.value) in
    inr (last, has, subst (EndsAt c.args.wanted) c.as_str-term.ensures (c.ends_at.ensures c.if-ends_at.true))

pub returns : goal.returns
returns c =
    let last : TermCount = c.in-Some.last.now in
    (take (length c.args.page.now - 1) c.args.page.now, last, last_got c.args.page.now last (sym c.in-Some.ensures.value), c.in_ok-text_above.ensures ∙ ap (λ t. t ++ 0 ∷ []) c.as_str-term.ensures)

use Rattle.zeb_extract.proofs.Cited.{◌++◌, [], ◌∷◌, ap, sym, ◌∙◌, arith, append_assoc, length-append}
use Rattle.zeb_extract.proofs.Listed.{listed_push, grown_by_one}
use Rattle.zeb_extract.proofs.entries.add_terms.Goals as goal

pub loop-term-preserved : goal.loop-term-preserved
loop-term-preserved c = record {
  count = omega (arith, length-append c.loop-term.yielded (c.in-Some.term ∷ []));
  items = c.loop-term.invariant.items ∙ ap (λ rest. c.loop-term.yielded ++ rest) c.in-Some.ensures.steps.0 ∙ sym (append_assoc c.loop-term.yielded (c.in-Some.term ∷ []) _);
  added = grown_by_one _ _ _ _ _ _ c.loop-term.invariant.added c.in_ok-push.ensures.items
      (listed_push (c.args.index, c.args.register) c.args.seq c.loop-term.pos c.loop-term.yielded c.in-Some.term c.loop-term.invariant.count);
}

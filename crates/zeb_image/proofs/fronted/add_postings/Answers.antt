use Rattle.zeb_image.proofs.Cited.{◌++◌, [], ◌∷◌, ap, sym, ◌∙◌, append_assoc, map, map-append, grown_by_one, bare, posting_of}
use Rattle.zeb_image.proofs.fronted.add_postings.Goals as goal

pub loop-occurrence-preserved : goal.loop-occurrence-preserved
loop-occurrence-preserved c = record {
  items = c.loop-occurrence.invariant.items ∙ ap (λ rest. c.loop-occurrence.yielded ++ rest) c.in-Some.ensures.steps.0 ∙ sym (append_assoc c.loop-occurrence.yielded (c.in-Some.occurrence ∷ []) _);
  added = grown_by_one _ _ _ _ _ _ c.loop-occurrence.invariant.added (ap (map bare) c.in_ok-push.ensures.items ∙ map-append bare _ _)
      (map-append (posting_of c.args.sysno) c.loop-occurrence.yielded (c.in-Some.occurrence ∷ []));
}

use Rattle.zeb_profile.proofs.Cited.{◌≡◌, ◌++◌, ◌∷◌, ap, sym, ◌∙◌, into_iter_items}
use Rattle.zeb_profile.proofs.NamesByNumber.{line_known}
use Rattle.zeb_profile.proofs.resolved.resolve.Goals as goal

pub pairs_of-requires-clause-known : goal.pairs_of-requires-clause-known
pairs_of-requires-clause-known c =
    let gives : into_iter_items c.into_iter-line-iterator.result ≡ c.args.placed.items = c.into_iter-line-iterator.ensures.into_iter_gives.0 in
    let whole : c.args.placed.items ≡ c.loop-line.yielded ++ c.in-Some.line ∷ into_iter_items c.next.new.self =
    sym gives ∙ c.loop-line.invariant.items ∙ ap (λ rest. c.loop-line.yielded ++ rest) c.in-Some.ensures.steps.0 in
    rw c.targets.ensures (line_known c.args.indexes.now.names.items c.args.placed.items c.loop-line.yielded (into_iter_items c.next.new.self) c.in-Some.line c.requires.indexes.names whole)

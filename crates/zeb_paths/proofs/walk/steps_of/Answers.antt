use Rattle.std.proofs.Common.{ap, ◌∙◌, map, string_bytes}
use Rattle.std.proofs.lemmas.List.{take_all}
use Rattle.zeb_paths.specs.Walks.{due}
use Rattle.zeb_paths.proofs.WalkLemmas.{dues_turned, left_turned}
use Rattle.zeb_paths.proofs.walk.steps_of.Goals as goal

pub returns-clause-left : goal.returns-clause-left
returns-clause-left c =
    left_turned c.loop-path.steps.items c.reverse.new.self.items c.reverse.ensures.items
    ∙ c.loop-path.invariant.paths
    ∙ ap (map string_bytes) (take_all c.loop-path.path-index c.args.named.now c.loop-path-test.false)

pub returns-clause-levels : goal.returns-clause-levels
returns-clause-levels c =
    dues_turned c.loop-path.steps.items c.reverse.new.self.items c.reverse.ensures.items
    ∙ c.loop-path.invariant.levels
    ∙ ap (map (λ path. due (string_bytes path) 1)) (take_all c.loop-path.path-index c.args.named.now c.loop-path-test.false)

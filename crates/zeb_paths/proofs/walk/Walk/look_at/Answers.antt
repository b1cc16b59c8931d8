use Rattle.std.proofs.Common.{Err, Ok, arith, refl, rules}
use Rattle.zeb_paths.specs.Walks.{due_of, dues_left, not_there, step_path, telling_of, too_deep}
use Rattle.zeb_paths.specs.declared.causes.PathCause.TheVariants.{Memory}
use Rattle.zeb_paths.specs.declared.paths.PathKind.TheVariants.{File, Folder}
use Rattle.zeb_paths.proofs.WalkLemmas.{may_stand, names_refused, starved_anyway, weighs}
use Rattle.zeb_paths.proofs.walk.Walk.look_at.Goals as goal

pub returns-in-Ok-File-clause-seen : goal.returns-in-Ok-File-clause-seen
returns-in-Ok-File-clause-seen g c =
    (may_stand (telling_of g.P.Paths c.args.self.now.paths.now) (step_path c.args.step.now) c.as_str.result.now c.kind.result (Ok File) (search rules) c.as_str.ensures.value c.kind.ensures.file c.kind.ensures.stands, refl)

pub returns-in-Ok-File-clause-lighter : goal.returns-in-Ok-File-clause-lighter
returns-in-Ok-File-clause-lighter g c = omega (arith, weighs c.args.step.now)

pub returns-in_err-names-in-Ok-Folder-clause-seen : goal.returns-in_err-names-in-Ok-Folder-clause-seen
returns-in_err-names-in-Ok-Folder-clause-seen g c =
    let at = telling_of g.P.Paths c.args.self.now.paths.now in
    let left = dues_left c.args.self.now.steps.items in
    let stands = may_stand at (step_path c.args.step.now) c.as_str.result.now c.kind.result (Ok Folder) (search rules) c.as_str.ensures.value c.kind.ensures.file c.kind.ensures.stands in
    names_refused at (due_of c.args.step.now) c.as_str-in-Ok-Folder.result.now _ c.from_residual.result left left stands c.as_str-in-Ok-Folder.ensures.value c.in_err-names-in-Ok-Folder.ensures.refused (search rules)

pub returns-in_err-put_names-in-Ok-Folder-clause-seen : goal.returns-in_err-put_names-in-Ok-Folder-clause-seen
returns-in_err-put_names-in-Ok-Folder-clause-seen g c =
    let at = telling_of g.P.Paths c.args.self.now.paths.now in
    let here = due_of c.args.step.now in
    let stands = may_stand at here.path c.as_str.result.now c.kind.result (Ok Folder) (search rules) c.as_str.ensures.value c.kind.ensures.file c.kind.ensures.stands in
    names_refused at here here.path Memory c.from_residual-in_err-put_names-in-Ok-Folder.result (dues_left c.args.self.now.steps.items) (dues_left c.put_names.new.steps.items) stands refl (starved_anyway (at.names here.path)) (search rules)

pub returns-in-Ok-Folder-2-clause-seen : goal.returns-in-Ok-Folder-2-clause-seen
returns-in-Ok-Folder-2-clause-seen g c =
    too_deep (may_stand (telling_of g.P.Paths c.args.self.now.paths.now) (step_path c.args.step.now) c.as_str.result.now c.kind.result (Ok Folder) (search rules) c.as_str.ensures.value c.kind.ensures.file c.kind.ensures.stands)
    c.if-step-le-GREATEST_LEVEL.false

pub returns-in-Err-clause-seen : goal.returns-in-Err-clause-seen
returns-in-Err-clause-seen g c =
    not_there (may_stand (telling_of g.P.Paths c.args.self.now.paths.now) (step_path c.args.step.now) c.as_str.result.now c.kind.result (Err c.in-Err.cause) (search rules) c.as_str.ensures.value c.kind.ensures.file c.kind.ensures.stands)

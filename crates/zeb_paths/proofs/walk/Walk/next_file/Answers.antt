use Rattle.std.proofs.Common.{◌≡◌, ◌∙◌, [], Err, Ok, arith, rules, subst}
use Rattle.std.specs.Prelude.{None, Some}
use Rattle.zeb_paths.specs.PrivateWalks.{Sees}
use Rattle.zeb_paths.specs.Walks.{due_of, dues_left, telling_of}
use Rattle.zeb_paths.proofs.WalkLemmas.{sees_end, sees_fault, sees_file, sees_folder, weight_last}
use Rattle.zeb_paths.proofs.walk.Walk.next_file.Goals as goal

pub returns-in-Ok-File-clause-walks : goal.returns-in-Ok-File-clause-walks
returns-in-Ok-File-clause-walks g c =
    let at = telling_of g.P.Paths c.args.self.now.paths.now in
    let later = dues_left c.look_at.new.self.steps.items in
    let left = dues_left c.pop.new.self.items in
    let told = subst (λ paths. Sees (telling_of g.P.Paths paths.now) (due_of c.in-Some.step) (Ok c.in-Ok-File.field-0) left later) c.loop-step.invariant.paths c.in-Ok-File.ensures.seen in
    c.loop-step.invariant.walked (Ok (Some c.in-Some.step.path)) later
    (sees_file at c.loop-step.self.steps.items c.pop.new.self.items c.in-Some.step later c.in-Ok-File.field-0 c.in-Some.ensures.items c.in-Ok-File.field-0-is told)

pub returns-in-Err-clause-walks : goal.returns-in-Err-clause-walks
returns-in-Err-clause-walks g c =
    let at = telling_of g.P.Paths c.args.self.now.paths.now in
    let later = dues_left c.look_at.new.self.steps.items in
    let left = dues_left c.pop.new.self.items in
    let seen = subst (λ paths. Sees (telling_of g.P.Paths paths.now) (due_of c.in-Some.step) (Err c.in-Err.cause) left later) c.loop-step.invariant.paths c.in-Err.ensures.seen in
    c.loop-step.invariant.walked (Err c.unread.result) later
    (sees_fault at c.loop-step.self.steps.items c.pop.new.self.items c.in-Some.step later c.in-Err.cause c.unread.result c.in-Some.ensures.items seen c.unread.ensures)

pub loop-step-preserved : goal.loop-step-preserved
loop-step-preserved g c =
    let at = telling_of g.P.Paths c.args.self.now.paths.now in
    let next = dues_left c.look_at.new.self.steps.items in
    let left = dues_left c.pop.new.self.items in
    let told = subst (λ paths. Sees (telling_of g.P.Paths paths.now) (due_of c.in-Some.step) (Ok c.in-Ok-Folder.field-0) left next) c.loop-step.invariant.paths c.in-Ok-Folder.ensures.seen in
    let last = weight_last c.loop-step.self.steps.items c.pop.new.self.items c.in-Some.step c.in-Some.ensures.items in
    record {
      paths = c.in-Ok-Folder.ensures.paths ∙ c.loop-step.invariant.paths;
      walked = λ result later on. c.loop-step.invariant.walked result later
          (sees_folder at c.loop-step.self.steps.items c.pop.new.self.items c.in-Some.step next c.in-Ok-Folder.field-0 result later c.in-Some.ensures.items c.in-Ok-Folder.field-0-is told on);
      lighter = omega (arith, last, c.in-Ok-Folder.ensures.lighter, c.loop-step.invariant.lighter);
    }

pub returns-clause-walks : goal.returns-clause-walks
returns-clause-walks g c =
    let before : c.loop-step.self.steps.items ≡ [] = search rules in
    let after : c.pop.new.self.items ≡ [] = search rules in
    c.loop-step.invariant.walked (Ok None) (dues_left c.pop.new.self.items) (sees_end (telling_of g.P.Paths c.args.self.now.paths.now) c.loop-step.self.steps.items c.pop.new.self.items before after)

use Rattle.std.proofs.Common.{◌≡◌, ◌≤◌, List}
use Rattle.std.specs.Prelude.{Option, Result, String}
use Rattle.std.specs.declared.alloc.Global.{Global}
use Rattle.zeb_paths.specs.Walks.{Due, WalksOn, dues_left, telling_of, walk_weight}
use Rattle.zeb_paths.specs.declared.walk.WalkFault.{WalkFault}
use Rattle.zeb_paths.proofs.walk.Walk.next_file.Given as goal

-- where the walk goes on to from what is left, it goes on to from what was left at first
abbrev pub invariant-loop-step : goal.invariant-loop-step
invariant-loop-step g l =
    record {
      paths : l.self.paths ≡ l.initial.self.paths;
      walked : (result : Result (Option (String Global)) WalkFault) (later : List Due)
          → WalksOn (telling_of g.P.Paths l.initial.self.paths.now) (dues_left l.self.steps.items) result later
          → WalksOn (telling_of g.P.Paths l.initial.self.paths.now) (dues_left l.initial.self.steps.items) result later;
      lighter : walk_weight l.self.steps.items ≤ walk_weight l.initial.self.steps.items;
    }

abbrev pub decreases-loop-step : goal.decreases-loop-step
decreases-loop-step g l = walk_weight l.self.steps.items

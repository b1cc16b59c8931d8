use Rattle.std.proofs.Common.{◌≡◌, ◌+◌, ◌*◌, ◌++◌, map, string_bytes, vec_len}
use Rattle.zeb_paths.specs.Walks.{due_of, dues_in, dues_left, level_weight, walk_weight}
use Rattle.zeb_paths.proofs.walk.put_names.Given as goal

-- what is left has become heavier by each name that was put in, and stands behind those that weren't yet
abbrev pub invariant-loop-name : goal.invariant-loop-name
invariant-loop-name l =
    record {
      entered : dues_in (due_of l.folder) (map string_bytes l.names.items) ++ dues_left l.steps.items
          ≡ dues_in (due_of l.folder) (map string_bytes l.initial.names.items) ++ dues_left l.initial.steps.items;
      weight : walk_weight l.steps.items + level_weight (l.folder.level + 1) * vec_len l.names ≡ walk_weight l.initial.steps.items + level_weight (l.folder.level + 1) * vec_len l.initial.names;
    }

abbrev pub decreases-loop-name : goal.decreases-loop-name
decreases-loop-name l = vec_len l.names

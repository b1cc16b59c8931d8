use Rattle.std.proofs.Common.{◌≡◌, map, string_bytes, take}
use Rattle.zeb_paths.specs.Walks.{due, due_of, step_path}
use Rattle.zeb_paths.proofs.walk.steps_of.Given as goal

abbrev pub invariant-loop-path : goal.invariant-loop-path
invariant-loop-path l =
    record {
      paths : map step_path l.steps.items ≡ map string_bytes (take l.path-index l.named);
      levels : map due_of l.steps.items ≡ map (λ path. due (string_bytes path) 1) (take l.path-index l.named);
    }

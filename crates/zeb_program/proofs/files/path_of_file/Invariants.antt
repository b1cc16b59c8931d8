use Rattle.zeb_program.proofs.Cited.{◌≡◌, ◌≤◌, ◌+◌, ℕ, List, length, map, string_bytes, ◌⊎◌, dues_left, telling_of, WalksFrom}
use Rattle.zeb_program.proofs.files.path_of_file.Given as goal

-- So many files were passed, and the paths of the others are left.
abbrev pub invariant-loop-nth : goal.invariant-loop-nth
invariant-loop-nth g l =
    record {
      paths : l.walk.paths.now ≡ l.paths;
      walked : (files : List (List ℕ)) × (length files + 1 ≡ l._nth)
          × WalksFrom (telling_of g.P.Paths l.paths) (map string_bytes l.named) files (dues_left l.walk.steps.items);
      early : (l._nth ≤ 1) ⊎ (l._nth ≤ l.number);
    }

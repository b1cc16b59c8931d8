use Rattle.zeb_program.proofs.Cited.{◌≡◌, ℕ, List, map, string_bytes, dues_left, paths_left, telling_of, walk_weight, WalksFrom}
use Rattle.zeb_program.proofs.AnalysisLemmas.{IsRead}
use Rattle.zeb_program.proofs.analyses.analyse_files.Given as goal

-- The files before are read, and the paths of the others are left.
abbrev pub invariant-loop-walk : goal.invariant-loop-walk
invariant-loop-walk g l =
    record {
      paths : l.walk.paths.now ≡ l.paths;
      so_far : (files : List (List ℕ)) × WalksFrom (telling_of g.P.Paths l.paths) (map string_bytes l.named) files (dues_left l.walk.steps.items)
          × IsRead (g.P.Paths.tells l.paths) l.session.profile l.session.limits.records (map string_bytes l.named) files l.file l.lines l.unmarked.items (paths_left l.walk.steps.items);
    }

abbrev pub decreases-loop-walk : goal.decreases-loop-walk
decreases-loop-walk g l = walk_weight l.walk.steps.items

use Rattle.zeb_program.proofs.Cited.{◌≡◌, List, ℕ, map, string_bytes, dues_left, paths_left, telling_of, walk_weight, sure_bytes, AreTold}
use Rattle.zeb_program.proofs.ReaderLemmas.{IsMet, ReadsSoFar}
use Rattle.zeb_program.proofs.files.readers_of.Given as goal

-- The readers of the first files are there, and the paths of the others are left.
abbrev pub invariant-loop-walk : goal.invariant-loop-walk
invariant-loop-walk g l =
    record {
      paths : l.walk.paths.now ≡ l.paths;
      met : (files : List (List ℕ)) → AreTold (g.P.Paths.tells l.paths) (map string_bytes l.named) files
          → IsMet (sure_bytes g.P.Reader.Source.remaining g.P.Reader.Source.may_fail g.P.Reader.Source.has_failed) (g.P.Paths.tells l.paths) files l.readers.items (paths_left l.walk.steps.items);
      so_far : ReadsSoFar (sure_bytes g.P.Reader.Source.remaining g.P.Reader.Source.may_fail g.P.Reader.Source.has_failed) (telling_of g.P.Paths l.paths) (map string_bytes l.named) l.readers.items (dues_left l.walk.steps.items);
    }

abbrev pub decreases-loop-walk : goal.decreases-loop-walk
decreases-loop-walk g l = walk_weight l.walk.steps.items

use Rattle.zeb_text.proofs.Cited.{◌≡◌, ◌++◌, [], map, take, chars, string_bytes, starred}
use Rattle.zeb_text.proofs.patterns.append.Given as goal

abbrev pub invariant-loop-piece : goal.invariant-loop-piece
invariant-loop-piece l =
    l.to ≡ l.initial.to ++ starred (map (λ s. chars (string_bytes s)) (take l.piece-index l.pattern-inside.before_stars.items)) []

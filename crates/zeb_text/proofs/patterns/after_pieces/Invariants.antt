use Rattle.zeb_text.proofs.Cited.{◌↔◌, ℕ, List, ◌∷◌, chars, drop, Utf8, shadow, Star, starred, texts_of, Matches}
use Rattle.zeb_text.proofs.patterns.after_pieces.Given as goal

abbrev pub invariant-loop-piece : goal.invariant-loop-piece
invariant-loop-piece l =
    shadow (Utf8 l.rest)
    × ((last : List ℕ) → (Matches (Star ∷ starred (texts_of l.pieces) last) (chars l.text)) ↔ (Matches (Star ∷ starred (texts_of (drop l.piece-index l.pieces)) last) (chars l.rest)))

use Rattle.zeb_text.proofs.Cited.{◌+◌, ◌∷◌, drop, sym, ap, ◌∙◌, drop_more, drop_all, Star, starred, texts_of}
use Rattle.zeb_text.proofs.MatchLemmas.{missing, found, after_is_utf8, before_is_utf8}
use Rattle.zeb_text.proofs.patterns.after_pieces.Goals as goal

pub loop-piece-preserved : goal.loop-piece-preserved
loop-piece-preserved c =
    let pieces = c.args.pieces.now in
    let i = c.loop-piece.piece-index in
    let piece = c.as_str.result.now in
    let rest = c.loop-piece.rest.now in
    let before = c.in_ok-after.field-0-0.now in
    let after = c.in_ok-after.after.now in
    let cut = c.in_ok-after.ensures.cases in
    let next = drop_more pieces i c.piece-item.result c.loop-piece-test.true ∙ ap (λ p. p ∷ drop (i + 1) pieces) (sym c.piece-item.is) in (
      after_is_utf8 piece rest before after c.loop-piece.invariant.0 cut,
      λ last. let so_far = rw (next, ← c.as_str.ensures.value) at c.loop-piece.invariant.1 last in
          let here = found piece rest (starred (texts_of (drop (i + 1) pieces)) last) before after c.loop-piece.invariant.0 c.as_str.utf8 (before_is_utf8 piece rest before after c.loop-piece.invariant.0 c.as_str.utf8 cut) cut in
          (λ m. here.0 (so_far.0 m), λ m. so_far.1 (here.1 m)),
    )

pub returns-in_err-after-clause-rest : goal.returns-in_err-after-clause-rest
returns-in_err-after-clause-rest c =
    let pieces = c.args.pieces.now in
    let i = c.loop-piece.piece-index in
    let piece = c.as_str.result.now in
    let next = drop_more pieces i c.piece-item.result c.loop-piece-test.true ∙ ap (λ p. p ∷ drop (i + 1) pieces) (sym c.piece-item.is) in
    rw c.from_residual.ensures
    (λ last m. let so_far = rw (next, ← c.as_str.ensures.value) at c.loop-piece.invariant.1 last in
    missing piece c.loop-piece.rest.now c.loop-piece.invariant.0 c.as_str.utf8 (Star ∷ starred (texts_of (drop (i + 1) pieces)) last) c.in_err-after.ensures.cases (so_far.0 m))

pub returns-clause-rest : goal.returns-clause-rest
returns-clause-rest c =
    let all = drop_all c.loop-piece.piece-index c.args.pieces.now c.loop-piece-test.false in
    λ last. rw all at c.loop-piece.invariant.1 last

use Rattle.zeb_text.proofs.Cited.{◌≡◌, ◌++◌, [], ◌∷◌, arith, length, take, sym, ap, ◌∙◌, length-take, take_more}
use Rattle.zeb_text.proofs.SymbolLemmas.{join-more, join-first}
use Rattle.zeb_text.proofs.patterns.join_patterns.Goals as goal
use Rattle.zeb_text.proofs.patterns.join_patterns.Goals.{then-at-gt0+in_ok-push_char, else-at-gt0}

pub loop-at-preserved : goal.loop-at-preserved
loop-at-preserved c =
    let patterns = c.args.patterns.now in
    let i = c.loop-at.at in
    let front = take i patterns in
    let pattern = c.index-patterns-at.result in
    let more = take_more patterns i pattern c.loop-at-test.true ∙ ap (λ p. front ++ p ∷ []) (sym c.index-patterns-at.is) in
    let long : length front ≡ i = simp length-take (omega arith) in
    elim c.if-at-gt0.branch [
      | then-at-gt0+in_ok-push_char w ↦ rw (c.in_ok-append.ensures, w.joined-is, w.in_ok-push_char.ensures, c.loop-at.invariant, more, join-more front pattern (omega arith))
      | else-at-gt0 w ↦ rw (c.in_ok-append.ensures, w.joined-is, c.loop-at.invariant, more, join-first front pattern (omega arith))
    ]

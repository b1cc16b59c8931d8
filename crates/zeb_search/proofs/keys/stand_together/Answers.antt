use Rattle.zeb_search.proofs.Cited.{◌≡◌, ◌∙◌, ◌+◌, ◌++◌, ◌∷◌, [], true, false, take, ap, arith, refl, sym, subst, take_all, take_more, IsWanted, StandTogether}
use Rattle.zeb_search.proofs.NeighbourLemmas.{rise_up_to, walked_as, walked_before, walked_none, walked_on, walked_past}
use Rattle.zeb_search.proofs.keys.stand_together.Goals as goal
use Rattle.zeb_search.proofs.keys.stand_together.Goals.{then-takes+else-has_ended, else-takes+then-has_begun, else-takes+else-has_begun}

pub loop-term-init : goal.loop-term-init
loop-term-init c up = walked_none c.args.wanted

pub loop-term-preserved : goal.loop-term-preserved
loop-term-preserved c up =
    let wanted = c.args.wanted in
    let terms = c.args.terms.now in
    let i = c.loop-term.term-index in
    let t = c.term-item.result in
    let begun = c.loop-term.has_begun in
    let ended = c.loop-term.has_ended in
    let more : take (i + 1) terms ≡ take i terms ++ t ∷ [] = take_more terms i t c.loop-term-test.true ∙ ap (λ s. take i terms ++ s ∷ []) (sym c.term-item.is) in
    let rises = rise_up_to terms i t up more in
    let so_far = c.loop-term.invariant up in
    elim c.if-takes.branch [
      | then-takes+else-has_ended w ↦
          let asked : IsWanted wanted t.term = subst (IsWanted wanted) c.as_str.ensures (c.takes.ensures.0 w.if-takes.true) in
          walked_as wanted (take (i + 1) terms) (take i terms ++ t ∷ []) c.if-takes.has_begun true c.if-takes.has_ended false more w.has_begun-is (w.has_ended-is ∙ w.if-has_ended.false)
          (walked_on wanted (take i terms) t rises begun asked (walked_as wanted (take i terms) (take i terms) begun begun false ended refl refl (sym w.if-has_ended.false) so_far))
      | else-takes+then-has_begun w ↦
          let never : ¬ IsWanted wanted t.term = λ asked. (let is = c.takes.ensures.1 (subst (IsWanted wanted) (sym c.as_str.ensures) asked) in let e : true ≡ false = sym is ∙ w.if-takes.false in cc) in
          walked_as wanted (take (i + 1) terms) (take i terms ++ t ∷ []) c.if-takes.has_begun true c.if-takes.has_ended true more (w.has_begun-is ∙ w.if-has_begun.true) w.has_ended-is
          (walked_past wanted (take i terms) t rises never ended (walked_as wanted (take i terms) (take i terms) true begun ended ended refl (sym w.if-has_begun.true) refl so_far))
      | else-takes+else-has_begun w ↦
          let never : ¬ IsWanted wanted t.term = λ asked. (let is = c.takes.ensures.1 (subst (IsWanted wanted) (sym c.as_str.ensures) asked) in let e : true ≡ false = sym is ∙ w.if-takes.false in cc) in
          walked_as wanted (take (i + 1) terms) (take i terms ++ t ∷ []) c.if-takes.has_begun false c.if-takes.has_ended ended more (w.has_begun-is ∙ w.if-has_begun.false) w.has_ended-is
          (walked_before wanted (take i terms) t rises never ended (walked_as wanted (take i terms) (take i terms) false begun ended ended refl (sym w.if-has_begun.false) refl so_far))
    ]

pub returns : goal.returns
returns c up yes' =
    let whole = take_all c.loop-term.term-index c.args.terms.now (omega (arith, c.loop-term-test.false)) in
    subst (StandTogether c.args.wanted) whole (c.loop-term.invariant up).together

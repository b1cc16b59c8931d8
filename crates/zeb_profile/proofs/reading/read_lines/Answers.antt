use Rattle.zeb_profile.proofs.Cited.{rules, ◌≡◌, ℕ, ◌+◌, List, [], ◌∷◌, ◌++◌, map, get_or, Bor, true, false, Ok, ap, ◌∙◌, lines_of, Placed, says_something, trimmed, directive_after, directives_in}
use Rattle.zeb_profile.proofs.Clashes.{notes_clashes-push, says_beside}
use Rattle.zeb_profile.proofs.TellingLines.{placed_lines_fails, read_on, read_past}
use Rattle.zeb_profile.proofs.reading.read_lines.Goals.{then-says_something+in-Ok+in_ok-push-in-Ok, else-says_something}
use Rattle.zeb_profile.proofs.reading.read_lines.Goals as goal

pub returns-in-Err : goal.returns-in-Err
returns-in-Err c =
    let e : map (λ line. line.now) c.deref-line-items.result.now ≡ lines_of c.args.text.now = rw c.deref-line-items.ensures.value (search rules) in
    let beside = says_beside c.loop-index.repeats (directives_in c.loop-index.placed.items) c.trim-content.result.now c.loop-index.invariant.clashes in
    placed_lines_fails c.args.text.now c.deref-line-items.result.now c.loop-index.placed.items c.loop-index.index (record { ref_ptr = (0, 0); now = [] }) c.in-Err.kind c.at_line.result
    e c.loop-index.invariant.read c.loop-index-test.true
    (rw (← c.trim-content.ensures, ← c.says_something.ensures) c.if-says_something.true)
    (rw (← c.trim-content.ensures, ← beside) c.in-Err.ensures.gives)
    c.at_line.ensures.kind c.at_line.ensures.memory c.at_line.ensures.other

pub loop-index-preserved : goal.loop-index-preserved
loop-index-preserved c =
    let none : Bor (List ℕ) = record { ref_ptr = (0, 0); now = [] } in
    elim c.if-says_something.branch [
      | then-says_something+in-Ok+in_ok-push-in-Ok w ↦
          let new : Placed = record { line = c.loop-index.index + 1; directive = w.in-Ok.directive } in
          let items : c.if-says_something.placed.items ≡ c.loop-index.placed.items ++ new ∷ [] = ap (λ v. v.items) w.placed-is ∙ w.in_ok-push-in-Ok.ensures.items in
          let tells : says_something (trimmed (get_or c.deref-line-items.result.now c.loop-index.index none).now) ≡ true = rw (← c.trim-content.ensures, ← c.says_something.ensures) w.if-says_something.true in
          let beside = says_beside c.loop-index.repeats (directives_in c.loop-index.placed.items) c.trim-content.result.now c.loop-index.invariant.clashes in
          let says : directive_after (directives_in c.loop-index.placed.items) (trimmed (get_or c.deref-line-items.result.now c.loop-index.index none).now) ≡ Ok w.in-Ok.directive =
          rw (← c.trim-content.ensures, ← beside) w.in-Ok.ensures.gives in
          rw (items, w.repeats-is) (record {
            clashes = notes_clashes-push c.loop-index.repeats w.read_line.new.repeats c.loop-index.placed.items new c.loop-index.invariant.clashes w.in-Ok.ensures.notes;
            read = read_on c.loop-index.placed.items c.deref-line-items.result.now c.loop-index.index none w.in-Ok.directive c.loop-index-test.true tells says ∙ c.loop-index.invariant.read;
          })
      | else-says_something w ↦
          let items : c.if-says_something.placed.items ≡ c.loop-index.placed.items = ap (λ v. v.items) w.placed-is in
          let silent : says_something (trimmed (get_or c.deref-line-items.result.now c.loop-index.index none).now) ≡ false = rw (← c.trim-content.ensures, ← c.says_something.ensures) w.if-says_something.false in
          rw (items, w.repeats-is) (record {
            clashes = c.loop-index.invariant.clashes;
            read = read_past c.loop-index.placed.items c.deref-line-items.result.now c.loop-index.index none c.loop-index-test.true silent ∙ c.loop-index.invariant.read;
          })
    ]

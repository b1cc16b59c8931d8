use Rattle.zeb_text.proofs.Cited.{◌≡◌, ℕ, ◌+◌, ◌<◌, ◌∷◌, length, drop, Bool, true, false, ◌==◌, string_len, chars, sym, ap, ◌∙◌, arith, nat_tests, drop_more, length_push, map-append, drop_all, YieldsList-from_chars, YieldsList-turn, YieldsList-end, belongs_to_word}
use Rattle.zeb_text.proofs.RunsSoFar.{at_start, grows, ends, skips, last_run, no_run}
use Rattle.zeb_text.proofs.cutting.runs.Goals as goal
use Rattle.zeb_text.proofs.cutting.runs.Goals.{After-is_in_word, then-not-is_empty-2+in_ok-push-3, else-not-is_empty-2}

not_empty : (n : ℕ) (r : Bool) → r ≡ (n == 0) → r ≡ false → 0 < n
not_empty n r e h = grind (arith, nat_tests)

is_zero : (n : ℕ) (r : Bool) → r ≡ (n == 0) → r ≡ true → n ≡ 0
is_zero n r e h = grind (arith, nat_tests)

-- the character of this turn is the next of the text
turn : (c : After-is_in_word) → drop (length c.loop-c.yielded) (chars c.args.text.now) ≡ c.in-Some.c ∷ drop (length c.loop-c.yielded + 1) (chars c.args.text.now)
turn c =
    let t = YieldsList-turn (YieldsList-from_chars c.args.text.now c.utf8.text cc) c.loop-c.yielded _ c.loop-c.yielded_by _ _ c.in-Some.c c.in-Some.is c.next.ensures.steps in
    let n = length c.loop-c.yielded in
    drop_more (chars c.args.text.now) n c.in-Some.c t.0 ∙ ap (λ d. d ∷ drop (n + 1) (chars c.args.text.now)) (sym t.1)

pub loop-c-init : goal.loop-c-init
loop-c-init c = rw (c.new-found.ensures.items, c.new-run.ensures.bytes) (at_start (belongs_to_word c.args.cut) (chars c.args.text.now))

pub loop-c-preserved-in-Continue-1 : goal.loop-c-preserved-in-Continue-1
loop-c-preserved-in-Continue-1 c =
    let next = turn (goal.at.loop-c-preserved-in-Continue-1 c).After-is_in_word in
    rw (length_push c.loop-c.yielded c.in-Some.c, c.in_ok-push.ensures.bytes)
    (grows _ _ _ _ _ _ c.loop-c.invariant next (sym c.is_in_word.ensures ∙ c.if-is_in_word.true))

pub loop-c-preserved-in-Continue-branch-2 : goal.loop-c-preserved-in-Continue-branch-2
loop-c-preserved-in-Continue-branch-2 c =
    let next = turn (goal.at.loop-c-preserved-in-Continue-branch-2 c).After-is_in_word in
    let some : 0 < string_len c.loop-c.run = not_empty _ _ c.is_empty.ensures c.if-not-is_empty.true in
    rw (length_push c.loop-c.yielded c.in-Some.c, c.in_ok-push-2.ensures.items, c.replace.ensures.value, c.replace.ensures.after, c.new.ensures.bytes, map-append)
    (ends _ _ _ _ _ _ c.loop-c.invariant next (sym c.is_in_word.ensures ∙ c.if-is_in_word.false) (omega (arith, c.loop-c.run.bytes.ok.0)))

pub loop-c-preserved : goal.loop-c-preserved
loop-c-preserved c =
    let next = turn (goal.at.loop-c-preserved c).After-is_in_word in
    let none : string_len c.loop-c.run ≡ 0 = is_zero _ _ c.is_empty.ensures c.if-not-is_empty.false in
    rw (length_push c.loop-c.yielded c.in-Some.c)
    (skips _ _ _ _ _ _ c.loop-c.invariant next (sym c.is_in_word.ensures ∙ c.if-is_in_word.false) (omega (arith, c.loop-c.run.bytes.ok.0)))

pub returns : goal.returns
returns c =
    let end = YieldsList-end (YieldsList-from_chars c.args.text.now c.utf8.text cc) c.loop-c.yielded _ c.loop-c.yielded_by _ _ c.in-None.is c.next.ensures.steps in
    let over = drop_all (length c.loop-c.yielded) (chars c.args.text.now) (omega (arith, end.1)) in
    elim c.if-not-is_empty-2.branch [
      | then-not-is_empty-2+in_ok-push-3 w ↦
          let some : 0 < string_len c.loop-c.run = not_empty _ _ c.is_empty-2.ensures w.if-not-is_empty-2.true in
          rw (w.found-is, w.in_ok-push-3.ensures.items, map-append)
          (last_run _ _ _ _ _ c.loop-c.invariant over (omega (arith, c.loop-c.run.bytes.ok.0)))
      | else-not-is_empty-2 w ↦
          let none : string_len c.loop-c.run ≡ 0 = is_zero _ _ c.is_empty-2.ensures w.if-not-is_empty-2.false in
          rw w.found-is (no_run _ _ _ _ _ c.loop-c.invariant over (omega (arith, c.loop-c.run.bytes.ok.0)))
    ]

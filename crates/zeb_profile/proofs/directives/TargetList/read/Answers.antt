use Rattle.zeb_profile.proofs.Cited.{◌≡◌, [], Bor, List, ℕ, map, true, false, rules, sym, ◌∙◌, list_any, slice_split, contains, string_cmp, same_target, is_comma}
use Rattle.zeb_profile.proofs.KnownKeys.{holds_target, holds_target-push, insert_refused, insert_took}
use Rattle.zeb_profile.proofs.WordReads.{targets_after-again, targets_after-further}
use Rattle.zeb_profile.proofs.directives.TargetList.read.Goals as goal

pub returns-then-not-branch : goal.returns-then-not-branch
returns-then-not-branch c = λ _.
    let none : Bor (List ℕ) = record { ref_ptr = (0, 0); now = [] } in
    let found : contains string_cmp c.loop-part.known c.in_ok-key.field-0 ≡ list_any (same_target c.in_ok-target.target) c.loop-part.items.items =
    holds_target c.loop-part.known c.loop-part.items.items c.in_ok-target.target c.in_ok-key.field-0 c.loop-part.invariant.known c.in_ok-key.ensures in
    let among : list_any (same_target c.in_ok-target.target) c.loop-part.items.items ≡ true =
    insert_refused c.in_ok-insert.field-0 (contains string_cmp c.loop-part.known c.in_ok-key.field-0) (list_any (same_target c.in_ok-target.target) c.loop-part.items.items) c.in_ok-insert.ensures.added c.if-not-branch.true found in
    let whole : map (λ part. part.now) c.deref-part-items.result.now ≡ slice_split is_comma c.args.word.now = search rules in
    let again = targets_after-again c.loop-part.items.items c.deref-part-items.result.now c.loop-part.part-index none c.in_ok-target.target c.loop-part-test.true c.in_ok-target.ensures among in
    rw (← whole) (sym c.loop-part.invariant.read ∙ again)

pub loop-part-preserved : goal.loop-part-preserved
loop-part-preserved c =
    let none : Bor (List ℕ) = record { ref_ptr = (0, 0); now = [] } in
    let found : contains string_cmp c.loop-part.known c.in_ok-key.field-0 ≡ list_any (same_target c.in_ok-target.target) c.loop-part.items.items =
    holds_target c.loop-part.known c.loop-part.items.items c.in_ok-target.target c.in_ok-key.field-0 c.loop-part.invariant.known c.in_ok-key.ensures in
    let new : list_any (same_target c.in_ok-target.target) c.loop-part.items.items ≡ false =
    insert_took c.in_ok-insert.field-0 (contains string_cmp c.loop-part.known c.in_ok-key.field-0) (list_any (same_target c.in_ok-target.target) c.loop-part.items.items) c.in_ok-insert.ensures.added c.if-not-branch.false found in
    let further = targets_after-further c.loop-part.items.items c.deref-part-items.result.now c.loop-part.part-index none c.in_ok-target.target c.loop-part-test.true c.in_ok-target.ensures new in
    rw c.in_ok-push.ensures.items (record {
      known = holds_target-push c.loop-part.known c.insert.new.self c.loop-part.items.items c.in_ok-target.target c.in_ok-key.field-0 c.loop-part.invariant.known c.in_ok-key.ensures c.in_ok-insert.ensures.updates;
      read = sym further ∙ c.loop-part.invariant.read;
    })

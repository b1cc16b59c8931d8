-- Each posting stands behind those before it.
use Rattle.zeb_blocks.proofs.Cited.{◌≡◌, ◌<◌, length, ap, arith, common_steps}
use Rattle.zeb_blocks.proofs.Counting.{counted_none, counted_more, counted_all, counted_damaged}
use Rattle.zeb_blocks.proofs.Lists.{length-bytes}
use Rattle.zeb_blocks.proofs.reading.count_postings.Goals as goal

pub loop-left-init : goal.loop-left-init
loop-left-init c = counted_none c.args.start c.args.bytes.now

pub returns-in_err-posting : goal.returns-in_err-posting
returns-in_err-posting c =
    let some : 0 < length c.loop-left.left.now = grind (arith, common_steps) in
    rw c.from_residual.ensures (counted_damaged c.args.start c.args.bytes.now c.loop-left.count c.loop-left.last c.loop-left.left.now c.loop-left.invariant some c.in_err-posting.ensures)

pub overflow_add-count : goal.overflow_add-count
overflow_add-count c =
    let shorter = length-bytes c.loop-left.last c.in_ok-posting.posting c.in_ok-posting.behind.now c.in_ok-posting.ensures.0 in
    let e = ap length c.in_ok-posting.ensures.1 in
    let room = c.loop-left.invariant.room in
    omega arith

pub loop-left-smaller : goal.loop-left-smaller
loop-left-smaller c =
    let shorter = length-bytes c.loop-left.last c.in_ok-posting.posting c.in_ok-posting.behind.now c.in_ok-posting.ensures.0 in
    let e = ap length c.in_ok-posting.ensures.1 in
    omega arith

pub loop-left-preserved : goal.loop-left-preserved
loop-left-preserved c =
    counted_more c.args.start c.args.bytes.now c.loop-left.count c.loop-left.last c.in_ok-posting.posting c.loop-left.left.now c.in_ok-posting.behind.now c.loop-left.invariant c.in_ok-posting.ensures.0 c.in_ok-posting.ensures.1

pub returns : goal.returns
returns c =
    let none : length c.loop-left.left.now ≡ 0 = grind (arith, common_steps) in
    let all = counted_all c.args.start c.args.bytes.now c.loop-left.count c.loop-left.last c.loop-left.left.now c.loop-left.invariant none in
    (all.0, all.1, omega arith)

-- Each posting stands behind those before it.
use Rattle.zeb_blocks.proofs.Cited.{◌<◌, ◌≡◌, length, ap, arith, common_steps}
use Rattle.zeb_blocks.proofs.Lists.{length-bytes}
use Rattle.zeb_blocks.proofs.Walking.{walked_all, walked_damaged, walked_few, walked_more, walked_none}
use Rattle.zeb_blocks.proofs.reading.push_postings.Goals as goal

pub loop-left-init : goal.loop-left-init
loop-left-init c = walked_none c.args.start c.args.bytes.now c.args.postings.now.items

pub returns-in_default-clause-found : goal.returns-in_default-clause-found
returns-in_default-clause-found c =
    let some : 0 < length c.loop-left.left.now = grind (arith, common_steps) in
    walked_damaged c.args.start c.args.bytes.now c.args.postings.now.items c.loop-left.postings.items c.loop-left.last c.loop-left.left.now c.loop-left.records c.loop-left.invariant some c.in_default.ensures

pub loop-left-smaller : goal.loop-left-smaller
loop-left-smaller c =
    let shorter = length-bytes c.loop-left.last c.in-Some.posting c.in-Some.behind.now c.in-Some.ensures.0 in
    let e = ap length c.in-Some.ensures.1 in
    omega arith

pub records_after-records-requires : goal.records_after-records-requires
records_after-records-requires c =
    let few = walked_few c.args.start c.args.bytes.now c.args.postings.now.items c.loop-left.postings.items c.loop-left.last c.loop-left.left.now c.loop-left.records c.loop-left.invariant in
    grind (arith, common_steps, few)

pub loop-left-preserved : goal.loop-left-preserved
loop-left-preserved c =
    let old = c.args.postings.now.items in
    let walked = walked_more c.args.start c.args.bytes.now old c.loop-left.postings.items c.loop-left.last c.in-Some.posting c.loop-left.left.now c.in-Some.behind.now c.loop-left.records c.loop-left.invariant c.in-Some.ensures.0 c.in-Some.ensures.1 in
    rw (c.in_ok-push.ensures.items, c.records_after-records.ensures) walked

pub returns-clause-found : goal.returns-clause-found
returns-clause-found c =
    let none : length c.loop-left.left.now ≡ 0 = grind (arith, common_steps) in
    walked_all c.args.start c.args.bytes.now c.args.postings.now.items c.loop-left.postings.items c.loop-left.last c.loop-left.left.now c.loop-left.records c.loop-left.invariant none

use Rattle.zeb_search.proofs.Comparisons.{gt_stands}
use Rattle.zeb_search.proofs.RangeLemmas.{past_front}
use Rattle.zeb_search.proofs.ranges.is_past.Goals as goal

pub returns-then-is_gt : goal.returns-then-is_gt
returns-then-is_gt c =
    past_front c.args.text.now c.args.front.now c.starts_with.result c.starts_with.ensures.cases ((gt_stands c.args.text.now c.args.front.now c.cmp.result c.cmp.ensures).0 (let e = c.is_gt.ensures in let t = c.if-is_gt.true in cc))

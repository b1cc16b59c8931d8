use Rattle.zeb_search.proofs.Comparisons.{le_stands, eq_stands, ge_stands, gt_stands}
use Rattle.zeb_search.proofs.terms.stands_in_order.Goals as goal

pub returns-in-LessOrEqual : goal.returns-in-LessOrEqual
returns-in-LessOrEqual c = rw (c.in-LessOrEqual.is, c.is_le.ensures) (le_stands c.args.text.now c.args.start.now c.cmp-ordering.result c.cmp-ordering.ensures)

pub returns-in-Equal : goal.returns-in-Equal
returns-in-Equal c = rw (c.in-Equal.is, c.is_eq.ensures) (eq_stands c.args.text.now c.args.start.now c.cmp-ordering.result c.cmp-ordering.ensures)

pub returns-in-GreaterOrEqual : goal.returns-in-GreaterOrEqual
returns-in-GreaterOrEqual c = rw (c.in-GreaterOrEqual.is, c.is_ge.ensures) (ge_stands c.args.text.now c.args.start.now c.cmp-ordering.result c.cmp-ordering.ensures)

pub returns-in-Greater : goal.returns-in-Greater
returns-in-Greater c = rw (c.in-Greater.is, c.is_gt.ensures) (gt_stands c.args.text.now c.args.start.now c.cmp-ordering.result c.cmp-ordering.ensures)

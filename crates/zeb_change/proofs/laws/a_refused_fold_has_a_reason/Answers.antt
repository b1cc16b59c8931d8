use Rattle.zeb_change.proofs.Cited.{state}
use Rattle.zeb_change.proofs.ChangeLaws as law
use Rattle.zeb_change.proofs.ReadFaults.{never_unready}
use Rattle.zeb_change.proofs.laws.a_refused_fold_has_a_reason.Goals as goal

pub returns-clause-reasons : goal.returns-clause-reasons
returns-clause-reasons g c setting format row_work db splits first last = law.reasons setting format row_work db splits (state g.S.Store c.args.old.now) (state g.S.Store c.args.new.now) first last

pub returns-clause-ready : goal.returns-clause-ready
returns-clause-ready g c setting format row_work db splits first last store refusal folds = never_unready refusal (law.ready setting format row_work db splits (state g.S.Store c.args.old.now) (state g.S.Store c.args.new.now) first last store refusal folds)

pub returns-clause-elder : goal.returns-clause-elder
returns-clause-elder g c setting format row_work db splits first last = law.elder setting format row_work db splits (state g.S.Store c.args.old.now) (state g.S.Store c.args.new.now) first last

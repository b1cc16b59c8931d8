use Rattle.zeb_change.proofs.Cited.{state}
use Rattle.zeb_change.proofs.ChangeLaws as law
use Rattle.zeb_change.proofs.laws.a_fold_follows_the_definition.Goals as goal

pub returns-clause-folded : goal.returns-clause-folded
returns-clause-folded g c setting format row_work db splits first last = law.folds_files setting format row_work db splits (state g.S.Store c.args.old.now) (state g.S.Store c.args.new.now) first last

pub returns-clause-honest : goal.returns-clause-honest
returns-clause-honest g c setting format row_work db splits first last = law.honest setting format row_work db splits (state g.S.Store c.args.old.now) (state g.S.Store c.args.new.now) first last

pub returns-clause-work : goal.returns-clause-work
returns-clause-work g c setting format row_work db splits first last = law.works setting format row_work db splits (state g.S.Store c.args.old.now) (state g.S.Store c.args.new.now) first last

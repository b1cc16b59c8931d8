use Rattle.zeb_change.proofs.Cited.{state}
use Rattle.zeb_change.proofs.ChangeLaws as law
use Rattle.zeb_change.proofs.laws.an_accepted_fold_passes_on.Goals as goal

pub returns-clause-passes : goal.returns-clause-passes
returns-clause-passes g c setting format row_work db splits first last = law.passes setting format row_work db splits (state g.S.Store c.args.old.now) (state g.S.Store c.args.new.now) first last

pub returns-clause-named : goal.returns-clause-named
returns-clause-named g c setting format row_work db splits first last = law.named setting format row_work db splits (state g.S.Store c.args.old.now) (state g.S.Store c.args.new.now) first last

pub returns-clause-most : goal.returns-clause-most
returns-clause-most g c setting format row_work db splits first last = law.most setting format row_work db splits (state g.S.Store c.args.old.now) (state g.S.Store c.args.new.now) first last

pub returns-clause-elders : goal.returns-clause-elders
returns-clause-elders g c setting format row_work db splits first last = law.elders setting format row_work db splits (state g.S.Store c.args.old.now) (state g.S.Store c.args.new.now) first last

use Rattle.zeb_register.proofs.RunSplits.{parted}
use Rattle.zeb_register.proofs.RunTurns.{none_put, put_more, refused_first, refused_later}
use Rattle.zeb_register.proofs.run_laws.runs_are_keys_in_turn.Goals as goal

pub returns-clause-none : goal.returns-clause-none
returns-clause-none c = none_put

pub returns-clause-joined : goal.returns-clause-joined
returns-clause-joined c format db one run rise old mid new first rest = put_more format db one run rise old mid first new rest

pub returns-clause-parted : goal.returns-clause-parted
returns-clause-parted c format keeps db one run rise old new puts = parted db one run rise old new format keeps puts

pub returns-clause-first : goal.returns-clause-first
returns-clause-first c = refused_first

pub returns-clause-later : goal.returns-clause-later
returns-clause-later c format db one run rise old mid first fault refused = refused_later format db one run rise old mid first fault refused

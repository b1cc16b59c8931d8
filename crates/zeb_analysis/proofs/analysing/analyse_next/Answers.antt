use Rattle.zeb_analysis.proofs.Cited.{refl, next_of}
use Rattle.zeb_analysis.proofs.FileWalk.{next_refused}
use Rattle.zeb_analysis.proofs.analysing.analyse_next.Goals as goal

pub returns-in-Err : goal.returns-in-Err
returns-in-Err c =
    next_refused c.args.setting.now c.args.before c.args.place (next_of c.args.left.now) c.in-Err.fault c.next_record.new.buffer c.next_record.new.reader (c.in-Err.ensures.told c.args.left.now refl refl)

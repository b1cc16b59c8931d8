use Rattle.zeb_laws.proofs.Lasting.{idents_last, bytes_last}
use Rattle.zeb_laws.proofs.DeletedRecords.{records_left}
use Rattle.zeb_laws.proofs.holding_laws.the_last_record_stays.Goals as goal

pub returns-clause-idents : goal.returns-clause-idents
returns-clause-idents c = idents_last

pub returns-clause-bytes : goal.returns-clause-bytes
returns-clause-bytes c = bytes_last

pub returns-clause-deleted : goal.returns-clause-deleted
returns-clause-deleted c = records_left

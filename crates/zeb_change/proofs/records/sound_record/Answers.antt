use Rattle.zeb_change.proofs.Cited.{record_faults}
use Rattle.zeb_change.proofs.ReadFaults.{no_read_fault}
use Rattle.zeb_change.proofs.records.sound_record.Goals as goal

pub of_marc-fault-requires : goal.of_marc-fault-requires
of_marc-fault-requires c = no_read_fault c.in-Err.fault (record_faults c.args.incoming.bytes.now c.in-Err.fault c.in-Err.ensures)

-- What the engine answers where a lower layer answers a fault.
use Rattle.std.specs.Prelude.{ℕ}
use Rattle.zeb_marc.specs.declared.faults.MarcFault.{MarcFault}
use Rattle.zeb_marc.specs.declared.faults.MarcFault.TheVariants as marc
use Rattle.zeb_extract.specs.declared.naming.IdentFault.{IdentFault}
use Rattle.zeb_extract.specs.declared.naming.IdentFault.TheVariants as ident
use Rattle.zeb_analysis.specs.declared.faults.AnalysisFault.{AnalysisFault}
use Rattle.zeb_analysis.specs.declared.faults.AnalysisFault.TheVariants as analysis
use Rattle.zeb_query.specs.declared.faults.QueryFault.{QueryFault}
use Rattle.zeb_query.specs.declared.faults.QueryFault.TheVariants as query
use Rattle.zeb_register.specs.declared.RegFault.{RegFault}
use Rattle.zeb_register.specs.declared.RegFault.TheVariants as register
use Rattle.zeb_change.specs.declared.faults.RecordFault.TheVariants as fault
use Rattle.zeb_change.specs.declared.part_faults.IncomingFault.{IncomingFault}
use Rattle.zeb_change.specs.declared.part_faults.IncomingFault.TheVariants as incoming
use Rattle.zeb_change.specs.declared.part_faults.TurnFault.{TurnFault}
use Rattle.zeb_change.specs.declared.part_faults.TurnFault.TheVariants as turn
use Rattle.zeb_change.specs.declared.part_faults.ChangeFault.{ChangeFault}
use Rattle.zeb_change.specs.declared.part_faults.ChangeFault.TheVariants as change
use Rattle.zeb_change.specs.declared.part_faults.TakeFault.{TakeFault}
use Rattle.zeb_change.specs.declared.part_faults.TakeFault.TheVariants as take
use Rattle.zeb_change.specs.declared.part_faults.FoldFault.{FoldFault}
use Rattle.zeb_change.specs.declared.part_faults.FoldFault.TheVariants as fold
use Rattle.zeb_change.specs.declared.refusals.Refusal.{Refusal}
use Rattle.zeb_change.specs.declared.refusals.Refusal.TheVariants.{DatabaseFull, Diagnostic, Record, TooManyRecords, Unknown, Damaged, ReadFault, Store, Memory}

-- the refusal by which damage in the register's tables, a failed store and want of memory are told
abbrev pub register_refusal : RegFault → Refusal
register_refusal register.Damaged = Damaged
register_refusal register.Store = Store
register_refusal register.Memory = Memory

-- the refusal of a query by its diagnostic, or for want of memory
abbrev pub query_refusal : QueryFault → Refusal
query_refusal (query.Diagnostic number place addinfo) = Diagnostic number place addinfo
query_refusal query.Memory = Memory

-- a reader that failed is refused by its file, any other fault by its record
abbrev pub marc_refusal : ℕ → ℕ → MarcFault → Refusal
marc_refusal file nth marc.LengthDigits = Record file nth fault.LengthDigits
marc_refusal file nth marc.LengthRange = Record file nth fault.LengthRange
marc_refusal file nth marc.Truncated = Record file nth fault.Truncated
marc_refusal file nth marc.NoTerminator = Record file nth fault.NoTerminator
marc_refusal file nth marc.LeaderCounts = Record file nth fault.LeaderCounts
marc_refusal file nth marc.BaseAddress = Record file nth fault.BaseAddress
marc_refusal file nth marc.DirectoryLength = Record file nth fault.DirectoryLength
marc_refusal file nth marc.EntryDigits = Record file nth fault.EntryDigits
marc_refusal file nth marc.EntryTag = Record file nth fault.EntryTag
marc_refusal file nth marc.EntryRange = Record file nth fault.EntryRange
marc_refusal file nth marc.FieldEnd = Record file nth fault.FieldEnd
marc_refusal file nth marc.TooManySeparators = Record file nth fault.TooManySeparators
marc_refusal file nth marc.ReadFault = ReadFault file

-- the refusal of a record whose identifier is at fault, by its file and its place, or for want of memory
abbrev pub identifier_refusal : ℕ → ℕ → IdentFault → Refusal
identifier_refusal file nth ident.NoIdentifier = Record file nth fault.NoIdentifier
identifier_refusal file nth ident.BadIdentifier = Record file nth fault.BadIdentifier
identifier_refusal file nth ident.Memory = Memory

-- an analysis ends by the fault of a record, or of its identifier, as a change does
abbrev pub analysis_refusal : AnalysisFault → Refusal
analysis_refusal (analysis.Marc place fault) = marc_refusal place.file place.nth fault
analysis_refusal (analysis.Ident place fault) = identifier_refusal place.file place.nth fault
analysis_refusal analysis.TooManyRecords = TooManyRecords
analysis_refusal analysis.Memory = Memory

-- ---- what a part of a change tells

-- the refusal of a record that has a fault, by its file and its place, or for want of memory
abbrev pub incoming_refusal : IncomingFault → Refusal
incoming_refusal (incoming.Record file nth fault) = Record file nth fault
incoming_refusal incoming.Memory = Memory

-- the refusal of a sound record: its identifier is unknown, the limits leave no number, or a call on the register is refused
abbrev pub turn_refusal : TurnFault → Refusal
turn_refusal (turn.Unknown file nth) = Unknown file nth
turn_refusal turn.DatabaseFull = DatabaseFull
turn_refusal (turn.Register fault) = register_refusal fault

-- the refusal of one record: of its bytes, or, where it is sound, of what it makes of the database
abbrev pub change_refusal : ChangeFault → Refusal
change_refusal (change.Incoming fault) = incoming_refusal fault
change_refusal (change.Turn fault) = turn_refusal fault

-- the refusal of one record more than a command may have, or of a record
abbrev pub take_refusal : TakeFault → Refusal
take_refusal take.TooManyRecords = TooManyRecords
take_refusal (take.Change fault) = change_refusal fault

-- the refusal of files: by a reader that failed, or by a record
abbrev pub fold_refusal : FoldFault → Refusal
fold_refusal (fold.ReadFault file) = ReadFault file
fold_refusal (fold.Take fault) = take_refusal fault

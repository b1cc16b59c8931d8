-- What only the contracts of private functions speak of; no public clause reaches it.
-- The fault of an analysis where a record has no identifier that is taken (this project's own).
use Rattle.zeb_extract.specs.declared.naming.IdentFault.{IdentFault}
use Rattle.zeb_extract.specs.declared.naming.IdentFault.TheVariants as ident
use Rattle.zeb_analysis.specs.declared.faults.Place.{Place}
use Rattle.zeb_analysis.specs.declared.faults.AnalysisFault.{AnalysisFault}
use Rattle.zeb_analysis.specs.declared.faults.AnalysisFault.TheVariants.{Ident, Memory}

-- want of memory is of no record
abbrev pub ident_fault : Place → IdentFault → AnalysisFault
ident_fault place ident.Memory = Memory
ident_fault place ident.NoIdentifier = Ident place ident.NoIdentifier
ident_fault place ident.BadIdentifier = Ident place ident.BadIdentifier

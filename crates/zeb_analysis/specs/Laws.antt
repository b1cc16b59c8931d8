-- What the laws of an analysis speak of.
use Rattle.std.specs.Prelude.{◌≡◌, ◌≢◌, ℕ, ◌<◌, List, Some, None, slice_get, ⊤}
use Rattle.zeb_profile.specs.declared.directives.Directive.{Directive}
use Rattle.zeb_marc.specs.declared.faults.MarcFault.TheVariants.{ReadFault}
use Rattle.zeb_extract.specs.declared.naming.IdentFault.TheVariants as ident
use Rattle.zeb_analysis.specs.declared.faults.AnalysisFault.{AnalysisFault}
use Rattle.zeb_analysis.specs.declared.faults.AnalysisFault.TheVariants.{Marc, Ident, TooManyRecords, Memory}
use Rattle.zeb_analysis.specs.Analysing.{Standing, refusal_at}

-- one of what stands there is refused so, and none before it is refused
pub record IsFirstRefused (profile : List Directive) (limit : ℕ) (standings : List Standing) (fault : AnalysisFault) : Type 0 where
  pub before : ℕ
  pub standing : Standing
  pub there : slice_get standings before ≡ Some standing
  pub refused : refusal_at profile limit before standing ≡ Some fault
  pub earlier : (k : ℕ) (other : Standing) → k < before → slice_get standings k ≡ Some other
      → refusal_at profile limit k other ≡ None

-- a refusal by what files hold, not by a reader that failed and not by want of memory
abbrev pub IsRefusal : AnalysisFault → Type 0
IsRefusal (Marc place fault) = fault ≢ ReadFault
IsRefusal (Ident place fault) = fault ≢ ident.Memory
IsRefusal TooManyRecords = ⊤
IsRefusal Memory = ⊥

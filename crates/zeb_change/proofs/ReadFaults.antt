-- Of which faults it is told that a reader failed, and which refusals come of no fold.
use Rattle.zeb_change.proofs.Cited.{◌≡◌, ◌≢◌, ℕ, ℤ, List, [], ◌∷◌, Option, Some, None, Result, Err, inl, inr, subst, sym, ⊤, Trees, MarcFault, IsRecordFault, Split, Directive, IdentFault, Kind, Limits, RegFault, FoldFault, TakeFault, Refusal, Damaged, ReadFault, TooManyRecords, Unknown, as_refusal, fold_refusal, identifier_refusal, marc_refusal, register_refusal, take_refusal, IsAtFault, IsRefusedFor, NeverUnready, Why, why_of, not_initialised, old_format, profile_changed, DatabaseFull, NotInitialised, OldFormat, ProfileChanged}
use Rattle.zeb_marc.specs.declared.faults.MarcFault.TheVariants as marc
use Rattle.zeb_extract.specs.declared.naming.IdentFault.TheVariants as ident
use Rattle.zeb_register.specs.declared.faults.RegFault.TheVariants as register
use Rattle.zeb_change.specs.declared.part_faults.IncomingFault.TheVariants as incoming
use Rattle.zeb_change.specs.declared.part_faults.TurnFault.TheVariants as turn
use Rattle.zeb_change.specs.declared.part_faults.ChangeFault.TheVariants as change
use Rattle.zeb_change.specs.declared.part_faults.TakeFault.TheVariants as take
use Rattle.zeb_change.specs.declared.part_faults.FoldFault.TheVariants as fold

-- a text that is no record is no reader that failed
pub no_read_fault : (fault : MarcFault) → IsRecordFault fault → fault ≢ marc.ReadFault
no_read_fault fault is same = subst IsRecordFault same is

-- a record that isn't taken is told as no reader that failed
take_reads : (f : TakeFault) (file : ℕ) → take_refusal f ≢ ReadFault file
take_reads take.TooManyRecords file is = cc
take_reads (take.Change (change.Incoming (incoming.Record of nth wrong))) file is = cc
take_reads (take.Change (change.Incoming incoming.Memory)) file is = cc
take_reads (take.Change (change.Turn (turn.Unknown of nth))) file is = cc
take_reads (take.Change (change.Turn turn.DatabaseFull)) file is = cc
take_reads (take.Change (change.Turn (turn.Register register.Damaged))) file is = cc
take_reads (take.Change (change.Turn (turn.Register register.Store))) file is = cc
take_reads (take.Change (change.Turn (turn.Register register.Memory))) file is = cc

pub never_reads : {T : Type 0} (f : TakeFault) (result : Result T FoldFault) → result ≡ Err (fold.Take f) → (file : ℕ) → as_refusal fold_refusal result ≢ Err (ReadFault file)
never_reads {T} f result told file is =
    let so = subst (λ (r : Result T FoldFault). as_refusal fold_refusal r ≡ Err (ReadFault file)) told is in
    let same : take_refusal f ≡ ReadFault file = cc in
    take_reads f file same

-- so is no fault of the store
pub no_register_reads : {T : Type 0} (f : RegFault) (file : ℕ) → ◌≢◌ {A = Result T Refusal} (Err (register_refusal f)) (Err (ReadFault file))
no_register_reads register.Damaged file is = cc
no_register_reads _ file is = cc

-- ---- no fold is refused for a register that isn't ready

-- this refuses a command where the register is ready
abbrev pub IsOfReady : Why → Type 0
IsOfReady not_initialised = ⊥
IsOfReady old_format = ⊥
IsOfReady profile_changed = ⊥
IsOfReady why = ⊤

marc_ready : (file nth : ℕ) (fault : MarcFault) → IsOfReady (why_of (marc_refusal file nth fault))
marc_ready file nth marc.LengthDigits = tt
marc_ready file nth _ = tt

ident_ready : (file nth : ℕ) (fault : IdentFault) → IsOfReady (why_of (identifier_refusal file nth fault))
ident_ready file nth ident.NoIdentifier = tt
ident_ready file nth _ = tt

told_ready : (refusal other : Refusal) → refusal ≡ other → IsOfReady (why_of other) → IsOfReady (why_of refusal)
told_ready refusal other same = subst (λ (r : Refusal). IsOfReady (why_of r)) (sym same)

fault_ready : (profile : List Directive) (file nth : ℕ) (behind : List (List ℕ)) (fault : Option MarcFault) (refusal : Refusal) → IsAtFault profile file nth behind fault refusal → IsOfReady (why_of refusal)
fault_ready profile file nth [] None refusal never = absurd never
fault_ready profile file nth [] (Some fault) refusal is = told_ready refusal (marc_refusal file nth fault) is (marc_ready file nth fault)
fault_ready profile file nth (bytes ∷ behind) fault refusal (inl is) = told_ready refusal (marc_refusal file nth is.0) is.2 (marc_ready file nth is.0)
fault_ready profile file nth (bytes ∷ behind) fault refusal (inr is) = told_ready refusal (identifier_refusal file nth is.0) is.3 (ident_ready file nth is.0)

pub why_ready : (profile : List Directive) (kind : Kind) (limits : Limits) (last taken : ℕ) (trees : Trees) (db : ℤ) (splits : List Split) (refusal : Refusal)
    → IsRefusedFor profile kind limits last taken trees db splits refusal → IsOfReady (why_of refusal)
why_ready profile kind limits last taken trees db splits refusal (inl at) = elim at.reason [
  | inl many ↦ told_ready refusal TooManyRecords many.0 tt
  | inr other ↦ elim other.1 [
    | inl faulty ↦ fault_ready profile at.file at.nth at.behind at.fault refusal faulty
    | inr (inl unlisted) ↦ told_ready refusal (Unknown at.file at.nth) unlisted.1 tt
    | inr (inr full) ↦ told_ready refusal DatabaseFull full.1 tt
  ]
]
why_ready profile kind limits last taken trees db splits refusal (inr (inl is)) = told_ready refusal Damaged is tt
why_ready profile kind limits last taken trees db splits refusal (inr (inr (inl failed))) = subst IsOfReady (sym failed) tt
why_ready profile kind limits last taken trees db splits refusal (inr (inr (inr failed))) = subst IsOfReady (sym failed) tt

unerr : {T : Type 0} (one other : Refusal) → ◌≡◌ {A = Result T Refusal} (Err one) (Err other) → one ≡ other
unerr one other same = cc

pub never_unready : {T : Type 0} (refusal : Refusal) → IsOfReady (why_of refusal) → NeverUnready {T = T} (Err refusal)
never_unready {T} refusal ready =
    let never : (other : Refusal) → (IsOfReady (why_of other) → ⊥) → ◌≢◌ {A = Result T Refusal} (Err refusal) (Err other) =
    λ other no same. no (subst (λ (r : Refusal). IsOfReady (why_of r)) (unerr {T = T} refusal other same) ready) in
    (never NotInitialised (λ no. no), never OldFormat (λ no. no), never ProfileChanged (λ no. no))

-- Why a change is refused, step by step, whatever rows the tables have.
use Rattle.zeb_engine.proofs.Cited.{◌≡◌, ◌≢◌, ◌⊎◌, ℕ, ℤ, pos, List, Option, Result, Err, inl, inr, refl, subst, Row, State, Trees, MarcFault, Split, Directive, RegFault, AreCountedDatabases, PutsDatabase, Changes, HasRecord, databases_tree, Refusal, Kind, Update, Limits, AreWholeBefore, IsUpTo, splits_of, register_refusal, HasReasonAt, IsNewAt, IsRefusedAt, IsRefusedFor, NamesAny, why_of, IsFailure, refused, ReasonsOver, BeginsWith, IsMissedFor, last_of, MissesDatabase}
use Rattle.zeb_register.specs.declared.catalog.Database as catalog
use Rattle.zeb_register.specs.declared.RegFault.TheVariants as register
use Rattle.zeb_engine.proofs.ChangeElders.{becomes}
use Rattle.zeb_engine.proofs.ChangeSteps.{kept_records}
use Rattle.zeb_engine.proofs.OverTables.{IsFew}

-- a delete doesn't find it
pub missed_for : (kind : Kind) → kind ≢ Update → (trees : Trees) (name : List ℕ) (why : Refusal) → IsFailure (refused (why_of why)) ⊎ MissesDatabase trees name why → IsMissedFor kind trees name why
missed_for kind other trees name why (inl failed) = inr (inr failed)
missed_for kind other trees name why (inr (inl none)) = inl (other, none.0, none.1)
missed_for kind other trees name why (inr (inr damaged)) = inr (inl damaged)

-- its row can't be read
pub missed_fault : (kind : Kind) (trees : Trees) (name : List ℕ) (fault : RegFault) → (fault ≡ register.Damaged → ¬ AreCountedDatabases trees name) → IsMissedFor kind trees name (register_refusal fault)
missed_fault kind trees name register.Damaged hidden = inr (inl (refl, hidden refl))
missed_fault kind trees name register.Store hidden = inr (inr (inl refl))
missed_fault kind trees name register.Memory hidden = inr (inr (inr refl))

module _ (profile : List Directive) (kind : Kind) (limits : Limits) where
  module _ (last : ℕ) (old mid : Trees) (db : ℤ) (same : mid 4 ≡ old 4) where
    -- under whose identifier nothing was kept goes by the rows of records alone
    new_there : (before behind : List (List ℕ)) → IsNewAt profile last mid db before behind → IsNewAt profile last old db before behind
    new_there before behind is = record {
      bytes = is.bytes;
      rest = is.rest;
      ident = is.ident;
      there = is.there;
      named = is.named;
      unkept = subst (λ (rows : List Row). (sysno : ℤ) (kept : List ℕ) → HasRecord (λ tree. rows) db sysno is.ident kept → IsUpTo last sysno → NamesAny profile before is.ident) same is.unkept;
    }

    reason_there : (taken file nth : ℕ) (before behind : List (List ℕ)) (fault : Option MarcFault) (refusal : Refusal) → HasReasonAt profile kind limits last taken mid db file nth before behind fault refusal
        → HasReasonAt profile kind limits last taken old db file nth before behind fault refusal
    reason_there taken file nth before behind fault refusal (inl many) = inl many
    reason_there taken file nth before behind fault refusal (inr other) = inr (
      other.0,
      elim other.1 [
        | inl faulty ↦ inl faulty
        | inr (inl unknown) ↦ inr (inl (unknown.0, unknown.1, new_there before behind unknown.2))
        | inr (inr full) ↦ inr (inr (full.0, full.1, full.2, new_there before behind full.3))
      ],
    )

    -- and so does each reason
    refused_there : (taken : ℕ) (splits : List Split) (refusal : Refusal) → IsRefusedAt profile kind limits last taken mid db splits refusal → IsRefusedAt profile kind limits last taken old db splits refusal
    refused_there taken splits refusal at = record {
      file = at.file;
      nth = at.nth;
      before = at.before;
      behind = at.behind;
      fault = at.fault;
      place = at.place;
      named = at.named;
      whole = subst (λ (rows : List Row). AreWholeBefore profile last (λ tree. rows) db at.before) same at.whole;
      reason = reason_there taken at.file at.nth at.before at.behind at.fault refusal at.reason;
    }

  module _ (name : List ℕ) (texts : List (List ℕ)) where
    -- damage and a failure need no reason
    pub few_reasons : {T : Type 0} (trees : Trees) (why : Refusal) (result : Result T Refusal) → result ≡ Err why → IsFew why → ReasonsOver profile kind limits name texts trees result
    few_reasons trees why result told few = rw told (inr few)

    -- the database wasn't found
    pub missed_reasons : (T : Type 0) (trees : Trees) (why : Refusal) → IsMissedFor kind trees name why → ReasonsOver {T = T} profile kind limits name texts trees (Err why)
    missed_reasons T trees why (inl missed) = inl (inl missed)
    missed_reasons T trees why (inr (inl damaged)) = inr (inl damaged.0)
    missed_reasons T trees why (inr (inr failed)) = inr (inr failed)

    module _ (old mid : State) (id : ℤ) where
      -- the row of the database is written before the records
      pub put_reasons : {T : Type 0} (found : Option catalog.Database) → Changes databases_tree (PutsDatabase id name (pos (last_of found))) old mid → BeginsWith kind old.now.trees name found
          → (why : Refusal) (result : Result T Refusal) → result ≡ Err why → IsRefusedFor profile kind limits (last_of found) 0 mid.now.trees id (splits_of texts) why
          → ReasonsOver profile kind limits name texts old.now.trees result
      put_reasons found put is why result told (inr few) = rw told (inr few)
      put_reasons found put is why result told (inl at) =
          let last = last_of found in
          rw told (inl (inr (id, last, becomes kind name old mid id found put is, refused_there last old.now.trees mid.now.trees id (kept_records id name (pos last) old mid put) 0 (splits_of texts) why at)))

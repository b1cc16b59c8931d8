-- What is said of a line at which memory runs out, and of a change by a path.
use Rattle.zeb_program.proofs.Cited.{◌≡◌, ◌⊎◌, inl, inr, List, [], ◌∷◌, ap, map, refl, subst, sym, ℕ, Option, Some, None, Result, Ok, Err, IfSome, OnErr, String, string_bytes, AllocError, Global, Held, state, Ghosts, Conditions, Format, Fault, Reply, PathChange, IsDone, PathOver, LineFault, Unreadable, Memory, name_bytes, Status, Failed, Tells, KeepsUnread, TellsFault, profile_line, unreadable_path, refusal_line, ChangesOver, IsUnread, fault_status, refusal_status}
use Rattle.zeb_program.specs.FaultAnswers.{Reaches}
use Rattle.zeb_program.specs.OverTables.{IsTold}
use Rattle.zeb_program.specs.declared.faults.Fault.TheVariants as fault

-- ---- one line

-- nothing is done for it
pub stopped_still : {S : Type 0} (g : Ghosts S) (at : Tells) (format : Format) (c : Conditions) (why : LineFault) (left : Option (List ℕ)) (held : Held S) → IfSome left (λ l. KeepsUnread g at format c why l held held)
stopped_still g at format c why None held = tt
stopped_still g at format c (Unreadable cause) (Some l) held = refl
stopped_still g at format c Memory (Some l) held = inl refl

-- ---- a change by a path

-- what would be written of a fault, but for want of memory in the program itself
told_fault : (why : Fault) → (why ≡ fault.Memory) ⊎ ((bytes : List ℕ) × (status : Status) × TellsFault why bytes status)
told_fault (fault.Profile file why) = inr (profile_line (string_bytes file) why, fault_status why.kind, (refl, refl))
told_fault (fault.Unreadable path) = inr (unreadable_path (string_bytes path), Failed, (refl, refl))
told_fault (fault.Refused refusal) = inr (refusal_line refusal, refusal_status refusal, (refl, refl))
told_fault fault.Memory = inl refl

module _ {S : Type 0} (g : Ghosts S) (at : Tells) (format : Format) (c : Conditions) (change : PathChange) (old new : Held S) (named : List (String Global)) (one : named ≡ change.path ∷ []) where
  -- what is told of its answer, which is given for the path as a slice
  pub path_over : (result : Result Reply Fault) (bytes : List ℕ) (status : Status) → Reaches at ⊥ (map string_bytes named) result
      → ChangesOver at format c change.kind (name_bytes change.database) (map string_bytes named) (state g old) (state g new) result → IsTold result bytes status
      → PathOver at format c change (state g old) bytes status (state g new)
  path_over result bytes status reaches over told =
      let done = subst (λ paths. Reaches at ⊥ paths result × ChangesOver at format c change.kind (name_bytes change.database) paths (state g old) (state g new) result) (ap (map string_bytes) one) (reaches, over) in
      (result, told, done.0, done.1)

  -- where there is no memory to tell why it is refused, it is done all the same, or nothing is
  pub path_stops : (why : Fault) → (IsUnread why → new ≡ old) → Reaches {T = Reply} at ⊥ (map string_bytes named) (Err why)
      → ChangesOver at format c change.kind (name_bytes change.database) (map string_bytes named) (state g old) (state g new) (Err why)
      → (new ≡ old) ⊎ IsDone (λ bytes status. PathOver at format c change (state g old) bytes status (state g new))
  path_stops why unread reaches over = elim (told_fault why) [
    | inl is ↦ inl (unread (subst IsUnread (sym is) tt))
    | inr (bytes, status, tells) ↦ inr (bytes, status, path_over (Err why) bytes status reaches over tells)
  ]

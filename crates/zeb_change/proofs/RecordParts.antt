-- The parts of one record's change, as calls say them, put together.
use Rattle.zeb_change.proofs.Cited.{◌≡◌, ◌⊎◌, ℕ, ℤ, List, [], ◌∷◌, Option, Some, None, Result, Ok, Err, inl, inr, refl, sym, subst, Database, State, Trees, RegFault, first_fault, Directive, Elder, Alters, AreNumbered, IsElderOf, IsStore, records_tree, KeptFault, Pending, Refusal, Kind, Update, Delete, Adelete, Setting, Fate, register_refusal, kept_fault, as_refusal, Answers, FailsTurn, FailsWhole, TellsFailure, IsUnsound, ChangesRecord, IsSound, Point, RefusesSound, RefusesTurn, TurnsRecord, WritesRecords, point, IsAtFault}
use Rattle.zeb_register.specs.declared.faults.RegFault.TheVariants as fault
use Rattle.zeb_change.specs.declared.kept.KeptFault.TheVariants as kept
use Rattle.zeb_change.proofs.Elders.{kept_whole}

-- ---- answers

-- a fault is told as the refusal that it is
pub refused_as : {T E : Type 0} (refusal_of : E → Refusal) (Fails Refused : Refusal → Type 0) (Done : T → Type 0) (fault : E) (result : Result T E) → result ≡ Err fault
    → Fails (refusal_of fault) ⊎ Refused (refusal_of fault) → Answers Fails Refused Done (as_refusal refusal_of result)
refused_as {T} {E} refusal_of Fails Refused Done fault result told so = subst (λ (r : Result T E). Answers Fails Refused Done (as_refusal refusal_of r)) (sym told) so

-- what is answered says more
pub answers_more : {T : Type 0} (F G R S : Refusal → Type 0) (D E : T → Type 0) (result : Result T Refusal) → ((refusal : Refusal) → F refusal → G refusal) → ((refusal : Refusal) → R refusal → S refusal)
    → ((x : T) → D x → E x) → Answers F R D result → Answers G S E result
answers_more F G R S D E (Ok x) fails refuses does done = does x done
answers_more F G R S D E (Err refusal) fails refuses does (inl failing) = inl (fails refusal failing)
answers_more F G R S D E (Err refusal) fails refuses does (inr so) = inr (refuses refusal so)

-- the elder isn't read again
pub unread : (profile : List Directive) (ident : List ℕ) (elder : Elder) (f : KeptFault) → (f ≡ kept.Damaged → ¬ IsSound profile ident elder.bytes.items) → (f ≡ kept.Memory → first_fault elder.bytes.items ≡ None)
    → FailsWhole elder (register_refusal (kept_fault f)) ⊎ IsUnsound profile ident elder (register_refusal (kept_fault f))
unread profile ident elder kept.Damaged damaged memory = inr (refl, damaged refl)
unread profile ident elder kept.Memory damaged memory = inl (memory refl, inr refl)

-- ---- rows

-- the table of records is written
pub wrote : (Rows : ℕ → Trees → Trees → Type 0) (old new : State) → IsStore old → Alters records_tree Rows old new → WritesRecords Rows old.now new.now
wrote Rows old new store alters =
    let rows = alters.rows store in
    record { store = record { is = rows.layout.is; sound = rows.layout.sound; keyed = rows.layout.keyed }; rows = rows.rows; others = rows.others }

-- ---- a sound record, whose elder was looked for

module _ (setting : Setting) (db : ℤ) (file nth : ℕ) (bytes : List ℕ) (old : State) (store : IsStore old) (before : Pending) (last : ℕ) (ident : List ℕ) (sound : IsSound setting.profile.now ident bytes) where
  abbrev IsRefused : Refusal → Type 0
  IsRefused refusal = IsAtFault setting.profile.now file nth (bytes ∷ []) None refusal ⊎ RefusesSound setting db file nth bytes (point old before last) refusal

  -- the look fails
  pub look_failed : (f : RegFault) → (f ≡ fault.Damaged → ¬ AreNumbered old.now.trees db ident) → TellsFailure (register_refusal f) ⊎ IsRefused (register_refusal f)
  look_failed fault.Damaged honest = inr (inr (record { ident = ident; sound = sound; why = inl (refl, λ whole. honest refl (λ sysno kept there. let it = whole sysno kept there in (it.0, it.1))) }))
  look_failed fault.Store honest = inl (inl refl)
  look_failed fault.Memory honest = inl (inr refl)

  fails : (elder : Option Elder) (kind : Kind) (refusal : Refusal) → FailsTurn setting elder kind last refusal → TellsFailure refusal
  fails (Some elder) kind refusal failing = failing.1
  fails None Update refusal failing = failing.1
  fails None Delete refusal never = absurd never
  fails None Adelete refusal never = absurd never

  refuses : (elder : Option Elder) → IsElderOf old.now.trees db ident elder → (refusal : Refusal) → RefusesTurn setting file nth ident elder setting.kind last refusal → IsRefused refusal
  refuses None none refusal why = inr (record { ident = ident; sound = sound; why = inr (none, why) })
  refuses (Some elder) there refusal why =
      inr (record { ident = ident; sound = sound; why = inl (why.0, λ whole. why.1 (kept_whole setting.profile.now old store db ident (Some elder) there whole)) })

  -- what is done behind the look, which changes nothing
  pub turned : (mid : State) → mid.now ≡ old.now → (elder : Option Elder) → IsElderOf old.now.trees db ident elder → (new : Point) (result : Result Fate Refusal)
      → TurnsRecord setting db file nth ident bytes setting.kind elder (point mid before last) new result → ChangesRecord setting db file nth bytes (point old before last) new result
  turned mid seen elder there new result turns =
      answers_more _ _ _ _ _ _ result (fails elder setting.kind) (refuses elder there) (λ fate done. record { ident = ident; sound = sound; elder = elder; there = there; done = done })
      (subst (λ (d : Database). TurnsRecord setting db file nth ident bytes setting.kind elder (record { tables = d; pending = before; last = last }) new result) seen turns)

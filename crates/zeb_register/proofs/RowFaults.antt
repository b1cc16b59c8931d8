-- What a call answers where rows that it read tell nothing.
use Rattle.zeb_register.proofs.Cited.{◌≡◌, ◌≢◌, ◌∙◌, refl, sym, Result, Err, RegFault, Damaged, Store, RowFault, DamagedRow, NoMemory, fault_of_rows}
use Rattle.std.specs.Result.{IsErrAnd}
use Rattle.zeb_register.proofs.Answered.{fault_met, refused_so}
use Rattle.zeb_register.specs.Answers.{Answers, IfDamaged, IfRowDamaged}

no_store : (rows : RowFault) → fault_of_rows rows ≢ Store
no_store DamagedRow is = cc
no_store NoMemory is = cc

are_damaged : (rows : RowFault) → fault_of_rows rows ≡ Damaged → rows ≡ DamagedRow
are_damaged DamagedRow is = refl
are_damaged NoMemory is = cc

-- the call is refused as the rows are: a `?` handed their fault on
abbrev pub IsRefusedBy : {A : Type 0} → RowFault → Result A RegFault → Type 0
IsRefusedBy rows result = IsErrAnd result (λ met. met ≡ fault_of_rows rows)

module _ {A : Type 0} (rows : RowFault) (result : Result A RegFault) (refused : IsRefusedBy rows result) where
  handed_on : result ≡ Err (fault_of_rows rows)
  handed_on = fault_met result (fault_of_rows rows) refused

  -- damage that the call tells is that of the rows
  pub damaged_rows : result ≡ Err Damaged → rows ≡ DamagedRow
  damaged_rows is = are_damaged rows (let e : ◌≡◌ {A = Result A RegFault} (Err (fault_of_rows rows)) (Err Damaged) = sym handed_on ∙ is in cc)

  -- it is no failure of the store
  pub never_store : result ≢ Err Store
  never_store is = no_store rows (let e : ◌≡◌ {A = Result A RegFault} (Err (fault_of_rows rows)) (Err Store) = sym handed_on ∙ is in cc)

  -- it has the reason that the rows have
  pub refused_rows : (Damage : Type 0) (Done : A → Type 0) → IfRowDamaged Damage rows → Answers (IfDamaged Damage) Done result
  refused_rows Damage Done damage = refused_so (IfDamaged Damage) Done result (fault_of_rows rows) handed_on (λ is. damage (are_damaged rows is))

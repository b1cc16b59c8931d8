-- The rows of databases, and the databases that they are the image of.
use Rattle.zeb_engine.proofs.Cited.{◌≡◌, ◌⊎◌, ℕ, ℤ, pos, List, Option, Some, None, refl, sym, subst, inl, inr, Trees, has_contained, contains_had, Directive, HasDatabase, AreCountedDatabases, IsDatabaseOf, RegFault, why_of, IsFailure, refused, Base, base_named, AreBases, AreListed, register_refusal, MissesDatabase, named_found, named_there}
use Rattle.zeb_register.specs.declared.catalog.Database.{Database}
use Rattle.zeb_register.specs.declared.RegFault.TheVariants as register
use Rattle.zeb_change.specs.declared.refusals.Refusal.TheVariants as refusal

pub fault_fails : (fault : RegFault) → (fault ≡ register.Damaged → ⊥) → IsFailure (refused (why_of (register_refusal fault)))
fault_fails register.Damaged whole = absurd (whole refl)
fault_fails register.Store whole = inl refl
fault_fails register.Memory whole = inr refl

-- a fault of the tables is a failure, or damage that has a cause
pub fault_or_damage : (X : Type 0) (fault : RegFault) → (fault ≡ register.Damaged → X)
    → IsFailure (refused (why_of (register_refusal fault))) ⊎ ((register_refusal fault ≡ refusal.Damaged) × X)
fault_or_damage X register.Damaged damaged = inr (refl, damaged refl)
fault_or_damage X register.Store damaged = inl (inl refl)
fault_or_damage X register.Memory damaged = inl (inr refl)

-- a fault while a database is looked up
pub fault_misses : (trees : Trees) (name : List ℕ) (fault : RegFault) → (fault ≡ register.Damaged → ¬ AreCountedDatabases trees name)
    → IsFailure (refused (why_of (register_refusal fault))) ⊎ MissesDatabase trees name (register_refusal fault)
fault_misses trees name register.Damaged hidden = inr (inr (refl, hidden refl))
fault_misses trees name register.Store hidden = inl (inl refl)
fault_misses trees name register.Memory hidden = inl (inr refl)

module _ (trees : Trees) (bases : List Base) (id_of : List ℕ → ℤ) (listed : AreListed trees bases id_of) where
  pub counted : (name : List ℕ) → AreCountedDatabases trees name
  counted name id last there = let found = (listed id name last).0 there in (found.0.last, found.4)

  -- a row names a database, which has its id and its last number
  pub row_named : (profile : List Directive) → AreBases profile bases → (id : ℤ) (name : List ℕ) (last : ℕ) → HasDatabase trees id name (pos last)
      → (base : Base) × (base_named name bases ≡ Some base) × (id ≡ id_of base.name) × (name ≡ base.name) × (last ≡ base.last)
  row_named profile are id name last there =
      let found = (listed id name (pos last)).0 there in
      let same : last ≡ found.0.last = let e = found.4 in cc in
      (found.0, subst (λ n. base_named n bases ≡ Some found.0) (sym found.3) (named_there bases found.0 are.rising (has_contained bases found.0 found.1)), found.2, found.3, same)

  -- a name without a row names none
  pub none_named : (name : List ℕ) → ((id last : ℤ) → ¬ HasDatabase trees id name last) → base_named name bases ≡ None
  none_named name none = from (base_named name bases) refl
    where
      from : (o : Option Base) → base_named name bases ≡ o → base_named name bases ≡ None
      from None is = is
      from (Some base) is =
          let found = named_found name bases base is in
          absurd (none (id_of base.name) (pos base.last) ((listed (id_of base.name) name (pos base.last)).1 (base, contains_had bases base found.0, refl, found.1, refl)))

-- the row of a database that was found
pub named_row : (trees : Trees) (asked name : List ℕ) → asked ≡ name → (o : Option Database) (found : Database) → o ≡ Some found → IsDatabaseOf trees asked o → (found : Database) × IsDatabaseOf trees name (Some found)
named_row trees asked name same o found is value = (found, subst (λ n. IsDatabaseOf trees n (Some found)) same (subst (IsDatabaseOf trees asked) is value))

-- The definition of a change never tells damage. So where it says what a call answers, damage is no answer.
use Rattle.zeb_change.proofs.Cited.{◌≢◌, ◌+◌, ℕ, [], ◌∷◌, true, false, cond, List, Option, Some, None, Result, Ok, Err, nat_le, inl, inr, subst, ⊤, MarcFault, first_fault, Split, IdentFault, Kind, Update, Delete, Adelete, Inserted, PassedOver, Refusal, Damaged, Why, why_of, damaged, database_full, too_many_records, unknown, IsFailing, Meets, Conditions, Changed, Progress, changed_by, counted, deleted, files_folded, ident_in, slices_folded, updated, with_ident, with_record, ◌then◌, Base, Kept, kept_as, with_new, marc_refusal}
use Rattle.zeb_marc.specs.declared.faults.MarcFault.TheVariants as marc
use Rattle.zeb_extract.specs.declared.naming.IdentFault.TheVariants as ident
use Rattle.zeb_change.specs.Folding.{changed_record, file_folded, record_folded}

abbrev IsNoDamage : Why → Type 0
IsNoDamage damaged = ⊥
IsNoDamage why = ⊤

abbrev TellsNoDamage : {A : Type 0} → Result A Why → Type 0
TellsNoDamage (Ok a) = ⊤
TellsNoDamage (Err why) = IsNoDamage why

-- ---- the definition

marc_tells : (file nth : ℕ) (fault : MarcFault) → IsNoDamage (why_of (marc_refusal file nth fault))
marc_tells file nth marc.LengthDigits = tt
marc_tells file nth _ = tt

updated_tells : (c : Conditions) (ident bytes : List ℕ) (base : Base) (elder : Option Kept) → TellsNoDamage (updated c ident bytes base elder)
updated_tells c ident bytes base (Some kept) = tt
updated_tells c ident bytes base None = elim (nat_le c.limits.numbers base.last)
    as (λ b. TellsNoDamage {A = Changed} (cond b (Err database_full) (Ok (with_new ident bytes base, Inserted)))) [ true ↦ tt | false ↦ tt ]

deleted_tells : (absent : Result Changed Why) (ident : List ℕ) (base : Base) (elder : Option Kept) → TellsNoDamage absent → TellsNoDamage (deleted absent ident base elder)
deleted_tells absent ident base (Some kept) is = tt
deleted_tells absent ident base None is = is

module _ (c : Conditions) (file nth : ℕ) (bytes : List ℕ) (base : Base) where
  changed_tells : (kind : Kind) (ident : List ℕ) → TellsNoDamage (changed_by c kind file nth bytes ident base)
  changed_tells Update ident = updated_tells c ident bytes base (kept_as ident base)
  changed_tells Delete ident = deleted_tells (Err (unknown file nth)) ident base (kept_as ident base) tt
  changed_tells Adelete ident = deleted_tells (Ok (base, PassedOver)) ident base (kept_as ident base) tt

  ident_tells : (kind : Kind) (said : Result (List ℕ) IdentFault) → TellsNoDamage (with_ident c kind file nth bytes base said)
  ident_tells kind (Ok name) = changed_tells kind name
  ident_tells kind (Err ident.NoIdentifier) = tt
  ident_tells kind (Err ident.BadIdentifier) = tt
  ident_tells kind (Err ident.Memory) = tt

  with_record_tells : (kind : Kind) (fault : Option MarcFault) → TellsNoDamage (with_record c kind file nth bytes base fault)
  with_record_tells kind (Some fault) = marc_tells file nth fault
  with_record_tells kind None = ident_tells kind (ident_in c.profile bytes)

  pub record_tells : (kind : Kind) → TellsNoDamage (changed_record c kind file nth bytes base)
  unfolding changed_record
  record_tells kind = with_record_tells kind (first_fault bytes)

then_tells : {A B : Type 0} (said : Result A Why) (f : A → Result B Why) → TellsNoDamage said → ((a : A) → TellsNoDamage (f a)) → TellsNoDamage (said then f)
then_tells (Ok a) f tells next = next a
then_tells (Err why) f tells next = tells

module _ (c : Conditions) (kind : Kind) where
  folded_tells : (file nth : ℕ) (bytes : List ℕ) (p : Progress) → TellsNoDamage (record_folded c kind file nth bytes p)
  unfolding record_folded
  folded_tells file nth bytes p = elim (nat_le c.limits.records p.taken)
      as (λ b. TellsNoDamage {A = Progress} (cond b (Err too_many_records) (changed_record c kind file nth bytes p.base then λ changed. Ok (counted changed.0 p changed.1)))) [
        | true ↦ tt
        | false ↦ then_tells (changed_record c kind file nth bytes p.base) (λ changed. Ok (counted changed.0 p changed.1)) (record_tells c file nth bytes p.base kind) (λ changed. tt)
      ]

  slices_tell : (file : ℕ) (slices : List (List ℕ)) (fault : Option MarcFault) (nth : ℕ) (p : Progress) → TellsNoDamage (slices_folded c kind file nth slices fault p)
  slices_tell file [] None nth p = tt
  slices_tell file [] (Some fault) nth p = marc_tells file nth fault
  slices_tell file (slice ∷ slices) fault nth p =
      then_tells (record_folded c kind file nth slice p) (slices_folded c kind file (nth + 1) slices fault) (folded_tells file nth slice p) (slices_tell file slices fault (nth + 1))

  file_tells : (file : ℕ) (split : Split) (p : Progress) → TellsNoDamage (file_folded c kind file split p)
  unfolding file_folded
  file_tells file split p = slices_tell file split.slices split.fault 1 p

  pub files_tell : (splits : List Split) (file : ℕ) (p : Progress) → TellsNoDamage (files_folded c kind file splits p)
  files_tell [] file p = tt
  files_tell (split ∷ splits) file p =
      then_tells (file_folded c kind file split p) (files_folded c kind (file + 1) splits) (file_tells file split p) (files_tell splits (file + 1))

-- ---- what is answered then

pub refused_honest : {A X : Type 0} (Good : A → X → Type 0) (said : Result A Why) (refusal : Refusal) → TellsNoDamage said → Meets Good said (Err refusal) → refusal ≢ Damaged
refused_honest {A} {X} Good said refusal tells met same = by said tells (subst (λ r. Meets {X = X} Good said (Err r)) same met)
  where
    no_failing : IsFailing damaged → ⊥
    no_failing (inl is) = cc
    no_failing (inr is) = cc

    by : (said : Result A Why) → TellsNoDamage said → Meets {X = X} Good said (Err Damaged) → ⊥
    by (Ok a) told (inl failed) = no_failing failed
    by (Ok a) told (inr is) = cc
    by (Err why) told (inl failed) = no_failing failed
    by (Err why) told (inr is) = subst (λ (r : Result A Why). TellsNoDamage r) is told

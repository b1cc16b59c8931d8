-- What is kept still while records of a change are taken, whatever rows the tables have.
use Rattle.zeb_change.proofs.Cited.{◌≡◌, ◌≢◌, ◌↔◌, ◌⊎◌, ◌∙◌, ◌≤◌, ◌+◌, ◌∷◌, ℕ, ℤ, pos, true, false, List, [], Some, Result, Ok, Err, OnOk, inl, inr, sym, ap, subst, arith, bytes_eq, bytes_eq-Decides, Int, Text, Database, Row, State, Trees, Has, Directive, Elder, Format, IsElderOf, KeepsRegisters, keeps_malformed, KeepsRowsBeside, KeepsOthers, Loses, Replaces, Changes, HasNumber, HasRecord, IsStore, KeepsLists, SharesRecord, databases_tree, meta_tree, record_row, records_tree, store_schema, store_same, beside_same, beside_seen, beside_then, malformed_same, malformed_seen, malformed_then, one_number, Refusal, IsSoOrDamaged, IsUpTo, KeepsWhole, KeepsWholeTo, PassesOn, KeepsOtherRecords, KeepsNames}
use Rattle.zeb_change.proofs.KeptLemmas.{tests}

pub same_ident : (one two : List ℕ) → (one ≡ two) ⊎ (one ≢ two)
same_ident one two = elim (tests (bytes_eq one two)) [
  | inl is ↦ inl ((bytes_eq-Decides one two).0 is)
  | inr differs ↦ inr (λ same. let e : true ≡ false = sym ((bytes_eq-Decides one two).1 same) ∙ differs in cc)
]

pub up_more : (last after : ℕ) (sysno : ℤ) → last ≤ after → IsUpTo last sysno → IsUpTo after sysno
up_more last after sysno rises up n is = let below = up n is in omega (arith, rises, below)

-- ---- the table of records is written

other_database : (other db : ℤ) → other ≢ db → ¬ (Int other ≡ Int db)
other_database other db differs is = differs (cc)

module _ (db : ℤ) (ident : List ℕ) (number last after : ℕ) (rises : last ≤ after) (old new : State)
    (owner : (other bytes : List ℕ) → HasRecord old.now.trees db (pos number) other bytes → number ≤ last → other ≡ ident) where
  -- a row of this number is of the record with this identifier
  its_own : (other : List ℕ) (sysno : ℤ) (bytes : List ℕ) → other ≢ ident → HasRecord old.now.trees db sysno other bytes → IsUpTo last sysno → ¬ HasNumber db (pos number) (record_row db sysno other bytes)
  its_own other sysno bytes differs there up numbers =
      let number_is : Int sysno ≡ Int (pos number) = numbers.1 in
      let same : sysno ≡ pos number = cc in
      differs (owner other bytes (subst (λ (n : ℤ). HasRecord old.now.trees db n other bytes) same there) (up number same))

  -- no row of another database is one of this record
  not_shared : (other sysno : ℤ) (name bytes : List ℕ) → other ≢ db → ¬ SharesRecord db (pos number) ident (record_row other sysno name bytes)
  not_shared other sysno name bytes differs (inl numbers) = other_database other db differs numbers.0
  not_shared other sysno name bytes differs (inr names) = other_database other db differs names.0

  not_put : (other sysno : ℤ) (name bytes put : List ℕ) → other ≢ db → ¬ (record_row other sysno name bytes ≡ record_row db (pos number) ident put)
  not_put other sysno name bytes put differs is =
      let first : Int other ≡ Int db = cc in
      other_database other db differs first

  -- each other table is as it was
  module _ (others : KeepsOthers store_schema records_tree old.now.trees new.now.trees) where
    names_stay : KeepsNames old new
    names_stay = (others.0 (λ e. absurd (omega (arith, e))), others.1.0 (λ e. absurd (omega (arith, e))))

    registers_still : KeepsRegisters old.now.trees new.now.trees
    registers_still = (
      others.1.1.1.0 (λ e. absurd (omega (arith, e))),
      others.1.1.1.1.0 (λ e. absurd (omega (arith, e))),
      others.1.1.1.1.1.0 (λ e. absurd (omega (arith, e))),
    )

  pub put_keeps : (bytes : List ℕ) → Changes records_tree (Replaces (SharesRecord db (pos number) ident) (record_row db (pos number) ident bytes)) old new → KeepsOtherRecords db ident last after old new
  put_keeps row put = record {
    store = put.layout;
    rises = rises;
    others = λ other differs sysno bytes there up. (put.rows (record_row db sysno other bytes)).1 (inl (
      there,
      λ shares. elim shares [
        | inl numbers ↦ its_own other sysno bytes differs there up numbers
        | inr names ↦ (let name : Text other ≡ Text ident = names.1 in differs (cc))
      ],
    ));
    aside = λ other sysno name kept differs. (
      λ after. elim ((put.rows (record_row other sysno name kept)).0 after) [
        | inl before ↦ before.0
        | inr same ↦ absurd (not_put other sysno name kept row differs same)
      ],
      λ before. (put.rows (record_row other sysno name kept)).1 (inl (before, not_shared other sysno name kept differs)),
    );
    registers = registers_still put.others;
    names = names_stay put.others;
  }

  pub take_keeps : Changes records_tree (Loses (HasNumber db (pos number))) old new → KeepsOtherRecords db ident last after old new
  take_keeps take = record {
    store = take.layout;
    rises = rises;
    others = λ other differs sysno bytes there up. (take.rows (record_row db sysno other bytes)).1 (there, its_own other sysno bytes differs there up);
    aside = λ other sysno name kept differs. (
      λ after. ((take.rows (record_row other sysno name kept)).0 after).0,
      λ before. (take.rows (record_row other sysno name kept)).1 (before, λ numbers. other_database other db differs numbers.0),
    );
    registers = registers_still take.others;
    names = names_stay take.others;
  }

-- the row with the elder's number is the elder's
pub elder_owns : (s : State) (store : IsStore s) (db : ℤ) (ident : List ℕ) (elder : Elder) → IsElderOf s.now.trees db ident (Some elder)
    → (last : ℕ) (other bytes : List ℕ) → HasRecord s.now.trees db (pos elder.sysno) other bytes → elder.sysno ≤ last → other ≡ ident
elder_owns s store db ident elder is last other bytes there below = (one_number s store db (pos elder.sysno) other ident bytes elder.bytes.items there is).0

-- no row up to the last number has the next one
pub none_owns : (trees : Trees) (db : ℤ) (ident : List ℕ) (last : ℕ) (other bytes : List ℕ) → HasRecord trees db (pos (last + 1)) other bytes → last + 1 ≤ last → other ≡ ident
none_owns trees db ident last other bytes there below = absurd (omega (arith, below))

-- ---- records are passed on

pub rows_same : (old new : Trees) → new records_tree ≡ old records_tree → (db sysno : ℤ) (ident bytes : List ℕ) → HasRecord old db sysno ident bytes → HasRecord new db sysno ident bytes
rows_same old new same db sysno ident bytes there = (there.0, subst (λ (rows : List Row). Has rows (Int there.0 ∷ record_row db sysno ident bytes)) (sym same) there.1)

both_ways : {A B C : Type 0} → A ↔ B → B ↔ C → A ↔ C
both_ways one two = (λ a. two.0 (one.0 a), λ c. one.1 (two.1 c))

-- the one database is the other
pub beside_id : (one two : ℤ) (old new : Trees) → one ≡ two → KeepsRowsBeside (Int one ∷ []) old new → KeepsRowsBeside (Int two ∷ []) old new
beside_id one two old new same kept = subst (λ (db : ℤ). KeepsRowsBeside (Int db ∷ []) old new) same kept

module _ (format : Format) (profile : List Directive) (db : ℤ) where
  -- what is kept under the one identifier was found whole
  pub passes_by : (ident : List ℕ) (last after : ℕ) (old new : State) {T : Type 0} (result : Result T Refusal) → IsSoOrDamaged (KeepsWhole profile old.now.trees db ident) result
      → OnOk result (KeepsOtherRecords db ident last after old new) → OnOk result (PassesOn format profile db last after old new)
  passes_by ident last after old new (Ok x) whole kept = record {
    store = kept.store;
    rises = kept.rises;
    each = λ sysno other bytes there up. elim (same_ident other ident) [
      | inl same ↦ inl (subst (λ (i : List ℕ). KeepsWhole profile old.now.trees db i) (sym same) whole sysno bytes there)
      | inr differs ↦ inr (kept.others other differs sysno bytes there up)
    ];
    aside = kept.aside;
    beside = beside_same (Int db ∷ []) old.now.trees new.now.trees kept.registers;
    names = kept.names;
    malformed = malformed_same format old.now.trees new.now.trees kept.registers.1 kept.registers.2;
  }
  passes_by ident last after old new (Err refusal) whole kept = tt

  -- the lists are as they were
  pub passes_same : (last : ℕ) (old new : State) → IsStore new → KeepsLists old.now.trees new.now.trees → KeepsRowsBeside (Int db ∷ []) old.now.trees new.now.trees
      → keeps_malformed format old.now.trees new.now.trees → PassesOn format profile db last last old new
  passes_same last old new store lists beside malformed = record {
    store = store;
    rises = omega arith;
    each = λ sysno ident bytes there up. inr (rows_same old.now.trees new.now.trees lists.2 db sysno ident bytes there);
    aside = λ other sysno ident bytes differs. (
      rows_same new.now.trees old.now.trees (sym lists.2) other sysno ident bytes,
      rows_same old.now.trees new.now.trees lists.2 other sysno ident bytes,
    );
    beside = beside;
    names = (lists.0, lists.1);
    malformed = malformed;
  }

  -- a look left everything as it was
  pub passes_seen : (last : ℕ) (old new : State) → IsStore old → new.now ≡ old.now → PassesOn format profile db last last old new
  passes_seen last old new store same =
      passes_same last old new (store_same old new same store)
      (ap (λ (d : Database). d.trees meta_tree) same, ap (λ (d : Database). d.trees databases_tree) same, ap (λ (d : Database). d.trees records_tree) same)
      (beside_seen (Int db ∷ []) old.now new.now same) (malformed_seen format old.now new.now same)

  module _ (last mid : ℕ) (a b : State) (one : PassesOn format profile db last mid a b) where
    pub passes_then : (after : ℕ) (c : State) → PassesOn format profile db mid after b c → PassesOn format profile db last after a c
    passes_then after c two = record {
      store = two.store;
      rises = omega (arith, one.rises, two.rises);
      each = λ sysno ident bytes there up. elim (one.each sysno ident bytes there up) [
        | inl whole ↦ inl whole
        | inr kept ↦ two.each sysno ident bytes kept (up_more last mid sysno one.rises up)
      ];
      aside = λ other sysno ident bytes differs. both_ways (two.aside other sysno ident bytes differs) (one.aside other sysno ident bytes differs);
      beside = beside_then (Int db ∷ []) a.now.trees b.now.trees c.now.trees one.beside two.beside;
      names = (two.names.0 ∙ one.names.0, two.names.1 ∙ one.names.1);
      malformed = malformed_then format a.now.trees b.now.trees c.now.trees one.malformed two.malformed;
    }

    -- what is whole now was whole before
    pub whole_before : (ident : List ℕ) → KeepsWholeTo profile mid b.now.trees db ident → KeepsWholeTo profile last a.now.trees db ident
    whole_before ident now sysno bytes there up = elim (one.each sysno ident bytes there up) [
      | inl whole ↦ whole
      | inr kept ↦ now sysno bytes kept (up_more last mid sysno one.rises up)
    ]

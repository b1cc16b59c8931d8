-- Units of plain rows, changed one after the other.
use Rattle.zeb_register.proofs.Cited.{suc, ◌≡◌, ◌≢◌, ◌⊎◌, ◌∙◌, ◌++◌, ◌==◌, ℕ, ℤ, pos, Bool, Result, Ok, Err, List, [], ◌∷◌, drop, refl, sym, ap, subst, inl, inr, if◌then◌else◌, eq-eqb, eqb_tells, IsUtf8, AllByRecursion, Int, Row, column, Trees, Key, RegFault, Damaged, Place, RecordChange, plain_rows, HasRow, key_row, postings_tree, IsPlaceIn, zero, State, place_cmp, IsStore, Loses, KeepsBesidePostings, Puts, RowsRead, TurnsRows, AllowsChanges, IsChanged, IsRefusedAs, IsStorableChange, KeyUnits, PutsAny, PutsPlaces, PutsUnits, TurnsUnit, TurnsUnits}
use Rattle.std.specs.List.Sorted.{IsStrictlySortedBy}
use Rattle.zeb_register.proofs.UnitRows.{rows_turned}
use Rattle.zeb_register.specs.Answers.{Answers}
use Rattle.zeb_register.proofs.Malformed.{row_same}
use Rattle.zeb_register.proofs.RowUnits.{one_rows_read}

-- ---- units of which one is another

abbrev with_unit : ℕ → List Place → KeyUnits → KeyUnits
with_unit n places units = record { places = λ m. if m == n then places else units.places m; records = units.records }

module _ (n : ℕ) (places : List Place) (units : KeyUnits) where
  own_unit : (with_unit n places units).places n ≡ places
  own_unit = ap (λ (b : Bool). if b then places else units.places n) (eq-eqb n n refl)

  other_unit : (m : ℕ) → m ≢ n → (with_unit n places units).places m ≡ units.places m
  other_unit m other = elim (eqb_tells m n) [
    | inl same ↦ absurd (other same.1)
    | inr apart ↦ ap (λ (b : Bool). if b then places else units.places m) apart.0
  ]

-- changes of other records turn the units whatever one record has
beside_same : (n : ℕ) (places : List Place) (a b : KeyUnits) → ((m : ℕ) → m ≢ n → b.places m ≡ a.places m) → (m : ℕ) → (with_unit n places b).places m ≡ (with_unit n places a).places m
beside_same n places a b same m = elim (eqb_tells m n) [
  | inl is ↦ subst (λ k. (with_unit n places b).places k ≡ (with_unit n places a).places k) (sym is.1) (own_unit n places b ∙ sym (own_unit n places a))
  | inr other ↦ other_unit n places b m other.1 ∙ same m other.1 ∙ sym (other_unit n places a m other.1)
]

turn_beside : (n : ℕ) (places : List Place) (x : RecordChange) (a b : KeyUnits) → x.sysno ≢ n → TurnsUnit plain_rows x a b → TurnsUnit plain_rows x (with_unit n places a) (with_unit n places b)
turn_beside n places x a b other turns = record {
  found = other_unit n places a x.sysno other ∙ turns.found;
  put = other_unit n places b x.sysno other ∙ turns.put;
  kept = λ m far. elim (eqb_tells m n) [
    | inl is ↦ subst (λ k. (with_unit n places b).places k ≡ (with_unit n places a).places k) (sym is.1) (own_unit n places b ∙ sym (own_unit n places a))
    | inr apart ↦ other_unit n places b m apart.1 ∙ turns.kept m far ∙ sym (other_unit n places a m apart.1)
  ];
  count = tt;
}

turns_beside : (n : ℕ) (places : List Place) (xs : List RecordChange) (a b : KeyUnits) → ¬ IsChanged xs n → TurnsUnits plain_rows xs a b → TurnsUnits plain_rows xs (with_unit n places a) (with_unit n places b)
turns_beside n places [] a b none turns = (beside_same n places a b (λ m other. turns.0 m), turns.1)
turns_beside n places (x ∷ xs) a b none turns = (
  with_unit n places turns.0,
  turn_beside n places x a turns.0 (λ same. none (x, inl refl, same)) turns.1,
  turns_beside n places xs turns.0 b (λ it. none (it.0, inr it.1, it.2)) turns.2,
)

pub changed : (xs : List RecordChange) (n : ℕ) → IsChanged xs n ⊎ ¬ IsChanged xs n
changed [] n = inr (λ it. it.1)
changed (x ∷ xs) n = elim (eqb_tells x.sysno n) [
  | inl same ↦ inl (x, inl refl, same.1)
  | inr other ↦ elim (changed xs n) [
    | inl later ↦ inl (later.0, inr later.1, later.2)
    | inr none ↦ inr (λ it. elim it.1 [ inl first ↦ other.1 (sym (ap (λ (y : RecordChange). y.sysno) first) ∙ it.2) | inr later ↦ none (it.0, later, it.2) ])
  ]
]

-- ---- units of other records

one_number : (m n : ℕ) → Int (pos m) ≡ Int (pos n) → m ≡ n
one_number m n same = cc

-- a unit reads alike from the same rows of its record
reads_alike : (one two : Trees) (db : ℤ) (key : Key) (n : ℕ) (places : List Place)
    → ((row : Row) → column row 0 ≡ Int (pos n) → HasRow one postings_tree (key_row db key ++ row) → HasRow two postings_tree (key_row db key ++ row))
    → ((row : Row) → column row 0 ≡ Int (pos n) → HasRow two postings_tree (key_row db key ++ row) → HasRow one postings_tree (key_row db key ++ row))
    → RowsRead one db key n places → RowsRead two db key n places
reads_alike one two db key n places there back reads = record {
  rising = reads.rising;
  shown = λ row of. reads.shown row (back row of.1 of.0, of.1);
  there = λ place here. let it = reads.there place here in (it.0, there it.0 it.2.0 it.1, it.2);
}

module _ (db : ℤ) (key : Key) (xs : List RecordChange) (n : ℕ) (none : ¬ IsChanged xs n) (old new : Trees) (puts : PutsPlaces db key xs old new) where
  stays : (row : Row) → column row 0 ≡ Int (pos n) → HasRow old postings_tree (key_row db key ++ row) → HasRow new postings_tree (key_row db key ++ row)
  stays row at there = puts.postings.stays (key_row db key ++ row) (λ among. none (subst (IsChanged xs) (one_number among.0 n (sym among.2.4 ∙ at)) among.1)) there

  comes : (row : Row) → column row 0 ≡ Int (pos n) → HasRow new postings_tree (key_row db key ++ row) → HasRow old postings_tree (key_row db key ++ row)
  comes row at there = elim (puts.postings.comes (key_row db key ++ row) there) [
    | inl was ↦ was.0
    | inr own ↦ absurd (none (subst (IsChanged xs) (one_number own.0 n (sym (ap (λ (r : Row). column r 4) own.3) ∙ at)) own.2))
  ]

  -- the unit of a record that isn't changed stays
  pub unit_kept : (places : List Place) → RowsRead old db key n places → RowsRead new db key n places
  unit_kept places = reads_alike old new db key n places stays comes

  pub unit_was : (places : List Place) → RowsRead new db key n places → RowsRead old db key n places
  unit_was places = reads_alike new old db key n places comes stays

-- one unit that is turned, as places that are put
turned_puts : (db : ℤ) (key : Key) (x : RecordChange) (old new : Trees) → TurnsRows db key x.sysno x.old.now x.new.now old new → PutsPlaces db key (x ∷ []) old new
turned_puts db key x old new turns = record {
  postings = record {
    stays = λ row out there. turns.rows.stays row (λ in_it. out (x.sysno, (x, inl refl, refl), in_it)) there;
    comes = λ row there. elim (turns.rows.comes row there) [
      | inl was ↦ inl (was.0, λ among. was.1 (subst (λ m. IsPlaceIn db key m row) (only among.0 among.1) among.2))
      | inr own ↦ inr (x.sysno, own.0, (x, inl refl, refl), own.1)
    ];
  };
  blocks = turns.others.1;
  dict = turns.others.2;
}
  where
    only : (m : ℕ) → IsChanged (x ∷ []) m → m ≡ x.sysno
    only m it = elim it.1 [ inl first ↦ sym it.2 ∙ ap (λ (y : RecordChange). y.sysno) first | inr none ↦ absurd none ]

apart : (x : RecordChange) (m : ℕ) → m ≢ x.sysno → ¬ IsChanged (x ∷ []) m
apart x m other it = elim it.1 [ inl first ↦ other (sym it.2 ∙ ap (λ (y : RecordChange). y.sysno) first) | inr none ↦ none ]

-- ---- one change before others

none_put : (db : ℤ) (key : Key) (trees new : Trees) → IsUtf8 key.term → ((tree : ℕ) → new tree ≡ trees tree) → PutsUnits plain_rows db key [] trees new
none_put db key trees new text same = record {
  text = text;
  stored = tt;
  were = record { places = λ n. []; records = 0 };
  are = record { places = λ n. []; records = 0 };
  allowed = record { count = tt; found = λ n it. absurd it.1; turns = (λ n. refl, refl) };
  put = λ n it. absurd it.1;
  rows = record {
    postings = record {
      stays = λ row out there. row_same postings_tree trees new (same postings_tree) row there;
      comes = λ row there. inl (row_same postings_tree new trees (sym (same postings_tree)) row there, λ among. absurd among.1.1);
    };
    blocks = same 9;
    dict = same 11;
  };
  lists = (same 0, same 2, same 4);
}

any_put : (db : ℤ) (key : Key) (xs : List RecordChange) (old new : Trees) → IsUtf8 key.term → PutsAny plain_rows db key xs old new → PutsUnits plain_rows db key xs old new
any_put db key [] old new text same = none_put db key old new text same
any_put db key (x ∷ xs) old new text puts = puts

module _ (db : ℤ) (key : Key) (x : RecordChange) (xs : List RecordChange) (old mid : Trees) (first : TurnsRows db key x.sysno x.old.now x.new.now old mid) where
  abbrev n : ℕ
  n = x.sysno

  later : (m : ℕ) → m ≢ n → IsChanged (x ∷ xs) m → IsChanged xs m
  later m other it = elim it.1 [ inl same ↦ absurd (other (sym it.2 ∙ ap (λ (y : RecordChange). y.sysno) same)) | inr there ↦ (it.0, there, it.2) ]

  first_puts : PutsPlaces db key (x ∷ []) old mid
  first_puts = turned_puts db key x old mid first

  -- what allowed these changes allows those behind the first
  pub allows_next : (were are : KeyUnits) → AllowsChanges plain_rows db key (x ∷ xs) old were are → (next : KeyUnits) × AllowsChanges plain_rows db key xs mid next are
  allows_next were are allows = (
    allows.turns.0,
    record {
      count = tt;
      found = λ m it. elim (eqb_tells m n) [
        | inl same ↦ subst (λ k. RowsRead mid db key k (allows.turns.0.places k)) (sym same.1) (subst (RowsRead mid db key n) (sym allows.turns.1.put) first.put)
        | inr other ↦
            let was = allows.found m (it.0, inr it.1, it.2) in
            subst (RowsRead mid db key m) (sym (allows.turns.1.kept m other.1)) (unit_kept db key (x ∷ []) m (apart x m other.1) old mid first_puts (were.places m) was)
      ];
      turns = allows.turns.2;
    },
  )

  module _ (own : IsStorableChange x) (new : Trees) (rest : PutsUnits plain_rows db key xs mid new) where
    abbrev were : KeyUnits
    were = with_unit n x.old.now rest.were

    found : (m : ℕ) → IsChanged (x ∷ xs) m → RowsRead old db key m (were.places m)
    found m it = elim (eqb_tells m n) [
      | inl same ↦ subst (λ k. RowsRead old db key k (were.places k)) (sym same.1) (subst (RowsRead old db key n) (sym (own_unit n x.old.now rest.were)) first.found)
      | inr other ↦
          subst (RowsRead old db key m) (sym (other_unit n x.old.now rest.were m other.1))
          (unit_was db key (x ∷ []) m (apart x m other.1) old mid first_puts (rest.were.places m) (rest.allowed.found m (later m other.1 it)))
    ]

    rows : PutsPlaces db key (x ∷ xs) old new
    rows = record {
      postings = record {
        stays = λ row out there.
            rest.rows.postings.stays row (λ among. out (among.0, (among.1.0, inr among.1.1, among.1.2), among.2)) (first.rows.stays row (λ in_it. out (n, (x, inl refl, refl), in_it)) there);
        comes = λ row there. elim (rest.rows.postings.comes row there) [
          | inl was ↦ elim (first.rows.comes row was.0) [
            | inl before ↦ inl (
              before.0,
              λ among. elim (eqb_tells among.0 n) [
                | inl same ↦ before.1 (subst (λ m. IsPlaceIn db key m row) same.1 among.2)
                | inr other ↦ was.1 (among.0, later among.0 other.1 among.1, among.2)
              ],
            )
            | inr own ↦ inr (n, own.0, (x, inl refl, refl), own.1)
          ]
          | inr own ↦ inr (own.0, own.1, (own.2.0, inr own.2.1, own.2.2), own.3)
        ];
      };
      blocks = rest.rows.blocks ∙ first.others.1;
      dict = rest.rows.dict ∙ first.others.2;
    }

    both : IsChanged xs n ⊎ ¬ IsChanged xs n → PutsUnits plain_rows db key (x ∷ xs) old new
    both (inl again) = record {
      text = first.text;
      stored = (own, rest.stored);
      were = were;
      are = rest.are;
      allowed = record {
        count = tt;
        found = found;
        turns = (
          rest.were,
          record {
            found = own_unit n x.old.now rest.were;
            put = one_rows_read mid db key n (rest.were.places n) x.new.now (rest.allowed.found n again) first.put;
            kept = λ m other. sym (other_unit n x.old.now rest.were m other);
            count = tt;
          },
          rest.allowed.turns,
        );
      };
      put = λ m it. elim (eqb_tells m n) [ inl same ↦ rest.put m (subst (IsChanged xs) (sym same.1) again) | inr other ↦ rest.put m (later m other.1 it) ];
      rows = rows;
      lists = (rest.lists.0 ∙ first.others.0.0, rest.lists.1 ∙ first.others.0.1, rest.lists.2 ∙ first.others.0.2);
    }
    both (inr none) = record {
      text = first.text;
      stored = (own, rest.stored);
      were = were;
      are = with_unit n x.new.now rest.are;
      allowed = record {
        count = tt;
        found = found;
        turns = (
          with_unit n x.new.now rest.were,
          record {
            found = own_unit n x.old.now rest.were;
            put = own_unit n x.new.now rest.were;
            kept = λ m other. other_unit n x.new.now rest.were m other ∙ sym (other_unit n x.old.now rest.were m other);
            count = tt;
          },
          turns_beside n x.new.now xs rest.were rest.are none rest.allowed.turns,
        );
      };
      put = λ m it. elim (eqb_tells m n) [
        | inl same ↦
            subst (λ k. RowsRead new db key k ((with_unit n x.new.now rest.are).places k)) (sym same.1)
            (subst (RowsRead new db key n) (sym (own_unit n x.new.now rest.are)) (unit_kept db key xs n none mid new rest.rows x.new.now first.put))
        | inr other ↦ subst (RowsRead new db key m) (sym (other_unit n x.new.now rest.are m other.1)) (rest.put m (later m other.1 it))
      ];
      rows = rows;
      lists = (rest.lists.0 ∙ first.others.0.0, rest.lists.1 ∙ first.others.0.1, rest.lists.2 ∙ first.others.0.2);
    }

    pub put_more : PutsUnits plain_rows db key (x ∷ xs) old new
    put_more = both (changed xs n)

-- ---- all changes

abbrev pub Answered : ℤ → Key → List RecordChange → (old new : Trees) → Result (Unit {0}) RegFault → Type 0
Answered db key xs old new = Answers (IsRefusedAs plain_rows db key xs old) (λ done. PutsAny plain_rows db key xs old new)

-- what is left leads from here to any end as all changes do from the start
abbrev pub LeadsOn : ℤ → Key → List RecordChange → ℕ → (old mid : Trees) → Type 0
LeadsOn db key xs i old mid = (end : Trees) (result : Result (Unit {0}) RegFault) → Answered db key (drop i xs) mid end result → Answered db key xs old end result

pub one_more : (db : ℤ) (key : Key) (x : RecordChange) (xs : List RecordChange) (old mid new : Trees) (result : Result (Unit {0}) RegFault) → IsStorableChange x → TurnsRows db key x.sysno x.old.now x.new.now old mid
    → Answered db key xs mid new result → Answered db key (x ∷ xs) old new result
one_more db key x xs old mid new (Ok done) stored first rest = put_more db key x xs old mid first stored new (any_put db key xs mid new first.text rest)
one_more db key x xs old mid new (Err fault) stored first rest = (
  λ none. rest.0 (λ others. none (stored, others)),
  λ told. let it = rest.1 told in (
    (stored, it.0),
    λ were are allows. let next = allows_next db key x xs old mid first were are allows in it.1 next.0 are next.1,
  ),
)

-- a change that is refused refuses all
pub first_refused : (db : ℤ) (key : Key) (x : RecordChange) (xs : List RecordChange) (trees : Trees) (fault : RegFault) → AllByRecursion IsStorableChange (x ∷ xs) → (fault ≡ Damaged → ¬ RowsRead trees db key x.sysno x.old.now)
    → IsRefusedAs plain_rows db key (x ∷ xs) trees fault
first_refused db key x xs trees fault stored refused = (
  λ none. absurd (none stored),
  λ told. (
    stored,
    λ were are allows. refused told (subst (RowsRead trees db key x.sysno) allows.turns.1.found (allows.found x.sysno (x, inl refl, refl))),
  ),
)

-- ---- changes that are left

pub all_left : (i : ℕ) (changes : List RecordChange) → AllByRecursion IsStorableChange changes → AllByRecursion IsStorableChange (drop i changes)
all_left zero changes all = all
all_left (suc i) [] all = tt
all_left (suc i) (x ∷ changes) all = all_left i changes all.1

-- ---- one change, as it was told

pub unit_turned : (db : ℤ) (key : Key) (sysno : ℕ) (past next : List Place) (s mid t : State) → IsUtf8 key.term → RowsRead s.now.trees db key sysno past → IsStrictlySortedBy place_cmp next
    → Loses (IsPlaceIn db key sysno) postings_tree s.now.trees mid.now.trees → KeepsBesidePostings s.now.trees mid.now.trees → Puts db key sysno next mid t → IsStore t × TurnsRows db key sysno past next s.now.trees t.now.trees
unit_turned db key sysno past next s mid t text found rising lost left put =
    (put.store, rows_turned s.now.trees mid.now.trees t.now.trees db key sysno past next text found rising lost left put.rows put.others)

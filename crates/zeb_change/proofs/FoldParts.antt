-- The parts of the fold of files, as calls say them, put together.
use Rattle.zeb_change.proofs.Cited.{◌≡◌, ◌∙◌, ◌+◌, ◌<◌, ℕ, ℤ, Bool, true, false, List, [], ◌∷◌, drop, get_or, length, map, Option, Some, None, Result, Ok, Err, inl, inr, refl, sym, ap, subst, arith, drop_more, Int, State, Trees, MarcFault, Split, a_fault, a_slice, next_of, split_of-next, RegFault, Elder, Work, Format, keeps_malformed, KeepsOthers, KeepsRowsBeside, IsStore, blocks_tree, records_tree, store_schema, CountsNothing, Fold, Pending, Refusal, Kind, Update, Delete, Adelete, Limits, Setting, Fate, IsSettled, marc_refusal, register_refusal, AreInRange, AreStores, Point, Steps, Turns, Advances, AreReadAs, At, FoldsRecord, IsReadAs, IsUnsettled, OfReaders, SettlesNotes, TakesFiles, TakesReader, TakesReaders, TakesRecord, TakesRest, ThenSettles, at, point_in}
use Rattle.zeb_marc.specs.Splits.{at_end, split_of}
use Rattle.zeb_register.specs.declared.faults.RegFault.TheVariants as fault
use Rattle.zeb_change.specs.declared.records.Progress.{Progress}
use Rattle.zeb_change.proofs.SettledChanges.{worked}

-- ---- the tables of a store

pub stores : (s : State) → IsStore s → AreStores s.now
stores s store = record { is = store.is; sound = store.sound; keyed = store.keyed }

pub store_of : (s : State) → AreStores s.now → IsStore s
store_of s are = record { is = are.is; sound = are.sound; keyed = are.keyed }

stay_stores : (old new : Point) → new ≡ old → AreStores old.tables → AreStores new.tables
stay_stores old new same = subst (λ (p : Point). AreStores p.tables) (sym same)

turned_stores : (setting : Setting) (db : ℤ) (ident bytes : List ℕ) (kind : Kind) (elder : Option Elder) (old new : Point) (fate : Fate) → AreStores old.tables → Turns setting db ident bytes kind elder old new fate
    → AreStores new.tables
turned_stores setting db ident bytes Update None old new fate are done = done.3.rows.store
turned_stores setting db ident bytes Update (Some elder) old new fate are (inl same) = stay_stores old new same.2 are
turned_stores setting db ident bytes Update (Some elder) old new fate are (inr put) = put.4.rows.store
turned_stores setting db ident bytes Delete None old new fate are done = absurd done
turned_stores setting db ident bytes Delete (Some elder) old new fate are done = done.3.rows.store
turned_stores setting db ident bytes Adelete None old new fate are done = stay_stores old new done.1 are
turned_stores setting db ident bytes Adelete (Some elder) old new fate are done = done.3.rows.store

-- one record is folded in
pub folded_stores : (setting : Setting) (db : ℤ) (file nth : ℕ) (bytes : List ℕ) (old new : At) → AreStores old.tables → FoldsRecord setting db file nth bytes old new (Ok tt) → AreStores new.tables
folded_stores setting db file nth bytes old new are folds =
    turned_stores setting db folds.1.1.ident bytes setting.kind folds.1.1.elder _ _ folds.1.0 are folds.1.1.done

-- ---- the registers stay as they are when a record is folded in

record_blocks : (old new : Trees) → KeepsOthers store_schema records_tree old new → new blocks_tree ≡ old blocks_tree
record_blocks old new others = others.1.1.1.1.0 (λ e. absurd (omega (arith, e)))

stay_blocks : (old new : Point) → new ≡ old → new.tables.trees blocks_tree ≡ old.tables.trees blocks_tree
stay_blocks old new same = ap (λ (p : Point). p.tables.trees blocks_tree) same

turned_blocks : (setting : Setting) (db : ℤ) (ident bytes : List ℕ) (kind : Kind) (elder : Option Elder) (old new : Point) (fate : Fate) → Turns setting db ident bytes kind elder old new fate
    → new.tables.trees blocks_tree ≡ old.tables.trees blocks_tree
turned_blocks setting db ident bytes Update None old new fate done = record_blocks old.tables.trees new.tables.trees done.3.rows.others
turned_blocks setting db ident bytes Update (Some elder) old new fate (inl same) = stay_blocks old new same.2
turned_blocks setting db ident bytes Update (Some elder) old new fate (inr put) = record_blocks old.tables.trees new.tables.trees put.4.rows.others
turned_blocks setting db ident bytes Delete None old new fate done = absurd done
turned_blocks setting db ident bytes Delete (Some elder) old new fate done = record_blocks old.tables.trees new.tables.trees done.3.rows.others
turned_blocks setting db ident bytes Adelete None old new fate done = stay_blocks old new done.1
turned_blocks setting db ident bytes Adelete (Some elder) old new fate done = record_blocks old.tables.trees new.tables.trees done.3.rows.others

pub folded_blocks : (setting : Setting) (db : ℤ) (file nth : ℕ) (bytes : List ℕ) (old new : At) → FoldsRecord setting db file nth bytes old new (Ok tt) → new.tables.trees blocks_tree ≡ old.tables.trees blocks_tree
folded_blocks setting db file nth bytes old new folds = turned_blocks setting db folds.1.1.ident bytes setting.kind folds.1.1.elder (point_in old) (point_in new) folds.1.0 folds.1.1.done

-- ---- how far it goes

pub advanced : (limits : Limits) (format : Format) (row_work : ℕ) (old new : Progress) → Steps limits old new → Advances limits format row_work old new
advanced limits format row_work old new steps = record { database = steps.database; most = steps.most; work = λ none. steps.work }

pub advances_then : (limits : Limits) (format : Format) (row_work : ℕ) (old mid new : Progress) → Advances limits format row_work old mid → Advances limits format row_work mid new
    → Advances limits format row_work old new
advances_then limits format row_work old mid new one two = record {
  database = two.database ∙ one.database;
  most = λ most below limit. two.most most (one.most most below limit) limit;
  work = λ none. two.work none ∙ one.work none;
}

pub advances_worked : (limits : Limits) (format : Format) (row_work : ℕ) (old mid : Progress) (work : Work) → Advances limits format row_work old mid → (CountsNothing format row_work → work ≡ mid.work)
    → Advances limits format row_work old (record { database = mid.database; last = mid.last; work = work })
advances_worked limits format row_work old mid work one same = record { database = one.database; most = one.most; work = λ none. same none ∙ one.work none }

-- ---- what is noted is written

module _ (format : Format) (row_work : ℕ) (db : ℤ) where
  pub settled_at : (old new : State) (before after : Pending) (fold : Fold) (work : Work) → IsSettled format row_work db old new before after fold.progress.work work
      → KeepsRowsBeside (Int db ∷ []) old.now.trees new.now.trees → keeps_malformed format old.now.trees new.now.trees → AreInRange work
      → SettlesNotes format row_work db (at old before fold) (at new after (worked fold work))
  settled_at old new before after fold work is beside malformed counts = record {
    store = stores new is.0;
    lists = is.1;
    beside = beside;
    malformed = malformed;
    holds = is.2;
    counts = counts;
    last = refl;
    tally = refl;
  }

  -- it isn't, since other places stand in the registers, or since the store or the memory failed
  pub write_failed : (Does : At → At → Result (Unit {0}) Refusal → Type 0) (old mid new : At) → Does old mid (Ok tt) → (f : RegFault) → (f ≡ fault.Damaged → IsUnsettled format db mid)
      → (result : Result (Unit {0}) Refusal) → result ≡ Err (register_refusal f) → ThenSettles format row_work db Does old new result
  write_failed Does old mid new done f honest result told = subst (ThenSettles format row_work db Does old new) (sym told) (by f honest)
    where
      by : (g : RegFault) → (g ≡ fault.Damaged → IsUnsettled format db mid) → ThenSettles format row_work db Does old new (Err (register_refusal g))
      by fault.Damaged unsettled = inr (inr (refl, (mid, done, unsettled refl)))
      by fault.Store unsettled = inl (inl refl)
      by fault.Memory unsettled = inl (inr refl)

-- ---- the tables when records and files are taken in

module _ (setting : Setting) (format : Format) (row_work : ℕ) (db : ℤ) where
  pub rest_stores : (file : ℕ) (slices : List (List ℕ)) (fault : Option MarcFault) (n : ℕ) (old new : At) → AreStores old.tables
      → TakesRest setting format row_work db file n (record { slices = slices; fault = fault }) old new (Ok tt) → AreStores new.tables
  rest_stores file [] None n old new are ends = subst (λ (a : At). AreStores a.tables) (sym ends.1) are
  rest_stores file [] (Some fault) n old new are ends = let no = ends.0 in absurd (cc)
  rest_stores file (bytes ∷ slices) fault n old new are (inl refused) = let no = refused.1 in absurd (cc)
  rest_stores file (bytes ∷ slices) fault n old new are (inr takes) = rest_stores file slices fault (n + 1) takes.0 new takes.1.2.store takes.2

  pub files_stores : (splits : List Split) (file : ℕ) (old new : At) → AreStores old.tables → TakesFiles setting format row_work db file splits old new (Ok tt) → AreStores new.tables
  files_stores [] file old new are ends = subst (λ (a : At). AreStores a.tables) (sym ends.1) are
  files_stores (split ∷ splits) file old new are (inl refused) = let no = refused.1 in absurd (cc)
  files_stores (split ∷ splits) file old new are (inr takes) =
      files_stores splits (file + 1) takes.0 new (rest_stores file split.slices split.fault 1 old takes.0 are takes.1) takes.2

-- ---- what is read

pub sound : (b : Bool) → (b ≡ true → ⊥) → b ≡ false
sound false never = refl
sound true never = absurd (never refl)

-- what the reader at a place would tell, and those behind it
pub next_remains : {R : Type 0} (remaining : R → Option (List ℕ)) (readers : List R) (i : ℕ) (d : R) → i < length readers
    → map remaining (drop i readers) ≡ remaining (get_or readers i d) ∷ map remaining (drop (i + 1) readers)
next_remains remaining readers i d within = ap (map remaining) (drop_more readers i d within)

-- what is done says more
pub of_more : (Fine : Type 0) (remains : List (Option (List ℕ))) (Does More : List Split → Result (Unit {0}) Refusal → Type 0) (result : Result (Unit {0}) Refusal)
    → ((splits : List Split) → Does splits result → More splits result) → OfReaders Fine remains Does result → OfReaders Fine remains More result
of_more Fine remains Does More result more of = (of.0, of.1, more of.0 of.2)

-- files that are refused
pub of_refused : (failed : Bool) (Fine : Type 0) (remains : List (Option (List ℕ))) (Does : List Split → Result (Unit {0}) Refusal → Type 0) (refusal : Refusal) → (Fine → failed ≡ false)
    → (splits : List Split) × AreReadAs failed remains splits × Does splits (Err refusal) → OfReaders Fine remains Does (Err refusal)
of_refused failed Fine remains Does refusal fine all = (
  all.0,
  λ either texts is. elim either [
    | inl sound ↦ all.1 (fine sound) texts is
    | inr done ↦ absurd (cc)
  ],
  all.2,
)

-- what a reader would tell
abbrev pub left_of : Option (List ℕ) → Split
left_of None = record { slices = []; fault = None }
left_of (Some text) = split_of text

module _ (failed : Bool) where
  pub left_read : (remaining : Option (List ℕ)) → IsReadAs failed remaining (left_of remaining)
  unfolding split_of
  left_read None fine text is = absurd (cc)
  left_read (Some left) fine text is = let same : left ≡ text = cc in ap split_of same

  slice_read : (remaining left : Option (List ℕ)) (slice : List ℕ) (split : Split) → ((text : List ℕ) → remaining ≡ Some text → (rest : List ℕ) × (next_of text ≡ a_slice slice rest) × (left ≡ Some rest))
      → IsReadAs failed left split → IsReadAs failed remaining (record { slices = slice ∷ split.slices; fault = split.fault })
  slice_read remaining left slice split told read fine text is =
      let next = told text is in
      ap (λ (s : Split). cons s) (read fine next.0 next.2) ∙ sym (of_slice next.0 next.1)
    where
      cons : Split → Split
      cons s = record { slices = slice ∷ s.slices; fault = s.fault }

      of_slice : (rest : List ℕ) → next_of text ≡ a_slice slice rest → split_of text ≡ cons (split_of rest)
      of_slice rest next = rw (split_of-next text, next) refl

  module _ (setting : Setting) (format : Format) (row_work : ℕ) (db : ℤ) (file nth : ℕ) (remaining : Option (List ℕ)) (now : At) where
    pub rest_ends : ((text : List ℕ) → remaining ≡ Some text → next_of text ≡ at_end) → TakesReader setting format row_work db failed remaining file nth now now (Ok tt)
    rest_ends told = (record { slices = []; fault = None }, λ fine text is. sym (of_end text (told text is)), (refl, refl))
      where
        of_end : (text : List ℕ) → next_of text ≡ at_end → split_of text ≡ record { slices = []; fault = None }
        of_end text next = rw (split_of-next text, next) refl

    pub rest_fault : (fault : MarcFault) → (failed ≡ false → (text : List ℕ) → remaining ≡ Some text → next_of text ≡ a_fault fault)
        → TakesReader setting format row_work db failed remaining file nth now now (Err (marc_refusal file nth fault))
    rest_fault fault told = (record { slices = []; fault = Some fault }, λ fine text is. sym (of_fault text (told fine text is)), (refl, refl))
      where
        of_fault : (text : List ℕ) → next_of text ≡ a_fault fault → split_of text ≡ record { slices = []; fault = Some fault }
        of_fault text next = rw (split_of-next text, next) refl

    module _ (slice : List ℕ) (left : Option (List ℕ)) (told : (text : List ℕ) → remaining ≡ Some text → (rest : List ℕ) × (next_of text ≡ a_slice slice rest) × (left ≡ Some rest)) where
      pub rest_refused : (end : At) (refusal : Refusal) → TakesRecord setting format row_work db file nth slice now end (Err refusal)
          → TakesReader setting format row_work db failed remaining file nth now end (Err refusal)
      rest_refused end refusal takes =
          (record { slices = slice ∷ (left_of left).slices; fault = (left_of left).fault }, slice_read remaining left slice (left_of left) told (left_read left), inl (refusal, refl, takes))

      pub rest_further : (mid : At) → TakesRecord setting format row_work db file nth slice now mid (Ok tt) → (end : At) (result : Result (Unit {0}) Refusal)
          → TakesReader setting format row_work db failed left file (nth + 1) mid end result → TakesReader setting format row_work db failed remaining file nth now end result
      rest_further mid takes end result rest =
          (record { slices = slice ∷ rest.0.slices; fault = rest.0.fault }, slice_read remaining left slice rest.0 told rest.1, inr (mid, takes, rest.2))

-- ---- files

module _ (failed : Bool) where
  first_read : (remaining : Option (List ℕ)) (remains : List (Option (List ℕ))) (split : Split) (splits : List Split) → IsReadAs failed remaining split → AreReadAs failed remains splits
      → AreReadAs failed (remaining ∷ remains) (split ∷ splits)
  first_read remaining remains split splits one rest fine [] is = absurd (cc)
  first_read remaining remains split splits one rest fine (text ∷ texts) is =
      let here : remaining ≡ Some text = cc in
      let behind : remains ≡ map Some texts = cc in
      let a = one fine text here in
      let b = rest fine texts behind in
      cc

  abbrev pub all_left : List (Option (List ℕ)) → List Split
  all_left remains = map left_of remains

  left_all : (remains : List (Option (List ℕ))) → AreReadAs failed remains (all_left remains)
  left_all [] fine [] is = refl
  left_all [] fine (text ∷ texts) is = absurd (cc)
  left_all (remaining ∷ remains) fine texts is = first_read remaining remains (left_of remaining) (all_left remains) (left_read failed remaining) (left_all remains) fine texts is

  module _ (setting : Setting) (format : Format) (row_work : ℕ) (db : ℤ) (file : ℕ) (remaining : Option (List ℕ)) (remains : List (Option (List ℕ))) (now : At) where
    pub files_refused : (end : At) (refusal : Refusal) → TakesReader setting format row_work db failed remaining file 1 now end (Err refusal)
        → TakesReaders setting format row_work db failed (remaining ∷ remains) file now end (Err refusal)
    files_refused end refusal takes =
        (takes.0 ∷ all_left remains, first_read remaining remains takes.0 (all_left remains) takes.1 (left_all remains), inl (refusal, refl, takes.2))

    pub files_further : (mid : At) (split : Split) → IsReadAs false remaining split → TakesRest setting format row_work db file 1 split now mid (Ok tt) → (end : At) (result : Result (Unit {0}) Refusal)
        → TakesReaders setting format row_work db failed remains (file + 1) mid end result → TakesReaders setting format row_work db failed (remaining ∷ remains) file now end result
    files_further mid split read takes end result rest =
        (split ∷ rest.0, first_read remaining remains split rest.0 (λ fine. read refl) rest.1, inr (mid, takes, rest.2))

  pub files_end : (setting : Setting) (format : Format) (row_work : ℕ) (db : ℤ) (file : ℕ) (now : At) → TakesReaders setting format row_work db failed [] file now now (Ok tt)
  files_end setting format row_work db file now = ([], left_all [], (refl, refl))

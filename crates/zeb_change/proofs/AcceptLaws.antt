-- What an accepted change leaves and loses, of any tables of a store.
use Rattle.zeb_change.proofs.Cited.{◌≡◌, ◌+◌, ◌≤◌, ◌++◌, ℕ, ℤ, List, [], ◌∷◌, Option, Some, None, Ok, inl, inr, refl, sym, ap, subst, arith, flat_map, Database, State, MarcFault, Split, Elder, Format, IsStore, Kind, Update, Delete, Adelete, Setting, Fate, Tally, PassesOn, TakesNamed, Point, Turns, At, FoldsRecord, SettlesNotes, TakesFiles, TakesRecord, TakesRest, point_in}
use Rattle.zeb_change.proofs.FoldParts.{store_of}
use Rattle.zeb_change.proofs.KeptStill.{passes_same, passes_seen, passes_then}
use Rattle.zeb_change.proofs.Reasons.{counted_one, none_taken, one_taken, taken_written, takes_then}
use Rattle.zeb_change.proofs.RecordLaws as law

-- the last number rises by one at most
stay_last : (old new : Point) → new ≡ old → new.last ≤ old.last + 1
stay_last old new same = let is = ap (λ (p : Point). p.last) same in omega (arith, is)

turned_last : (setting : Setting) (db : ℤ) (ident bytes : List ℕ) (kind : Kind) (elder : Option Elder) (old new : Point) (fate : Fate) → Turns setting db ident bytes kind elder old new fate → new.last ≤ old.last + 1
turned_last setting db ident bytes Update None old new fate done = omega (arith, done.2)
turned_last setting db ident bytes Update (Some elder) old new fate (inl same) = stay_last old new same.2
turned_last setting db ident bytes Update (Some elder) old new fate (inr put) = omega (arith, put.2)
turned_last setting db ident bytes Delete None old new fate done = absurd done
turned_last setting db ident bytes Delete (Some elder) old new fate done = omega (arith, done.1)
turned_last setting db ident bytes Adelete None old new fate done = stay_last old new done.1
turned_last setting db ident bytes Adelete (Some elder) old new fate done = omega (arith, done.1)

-- the records of these files, in their order
abbrev pub slices_in : List Split → List (List ℕ)
slices_in splits = flat_map (λ (split : Split). split.slices) splits

module _ (s : State) (setting : Setting) (format : Format) (row_work : ℕ) (db : ℤ) where
  -- a connection that shows these tables
  abbrev pub showing : Database → State
  showing tables = record s { now = tables }

  -- these records are taken: what else the tables have is passed on, and no more of them are taken than the limit allows
  pub record IsAccepted (slices : List (List ℕ)) (old new : At) : Type 0 where
    pub passes : PassesOn format setting.profile.now db old.fold.progress.last new.fold.progress.last (showing old.tables) (showing new.tables)
    pub takes : TakesNamed setting.profile.now db slices old.fold.progress.last old.fold.tally.records old.tables.trees new.fold.progress.last new.fold.tally.records new.tables.trees
    pub most : old.fold.tally.records ≤ setting.limits.records → new.fold.tally.records ≤ setting.limits.records

  pub accepts_none : (a : At) → IsStore (showing a.tables) → IsAccepted [] a a
  accepts_none a store = record {
    passes = passes_seen format setting.profile.now db a.fold.progress.last (showing a.tables) (showing a.tables) store refl;
    takes = none_taken setting.profile.now db a.fold.progress.last a.fold.tally.records a.tables.trees;
    most = λ few. few;
  }

  pub accepts_same : (old new : At) → new ≡ old → IsStore (showing old.tables) → IsAccepted [] old new
  accepts_same old new same store = subst (IsAccepted [] old) (sym same) (accepts_none old store)

  pub accepts_one : (file nth : ℕ) (bytes : List ℕ) (old new : At) → IsStore (showing old.tables) → FoldsRecord setting db file nth bytes old new (Ok tt) → IsAccepted (bytes ∷ []) old new
  accepts_one file nth bytes old new store folds =
      let fate = folds.1.0 in
      let accepts = folds.1.1 in
      let one = counted_one fate old.fold.tally new.fold.tally folds.1.2 in
      let below = folds.0 in
      record {
        passes = law.passes setting db bytes (showing old.tables) (showing new.tables) old.pending new.pending old.fold.progress.last new.fold.progress.last store fate accepts refl format;
        takes = one_taken setting.profile.now db bytes old.fold.progress.last old.fold.tally.records old.tables.trees new.fold.progress.last new.fold.tally.records new.tables.trees
            (turned_last setting db accepts.ident bytes setting.kind accepts.elder (point_in old) (point_in new) fate accepts.done) one (accepts.ident, (accepts.sound.whole, accepts.sound.named))
            (law.named setting db bytes (showing old.tables) (showing new.tables) old.pending new.pending old.fold.progress.last new.fold.progress.last store fate accepts refl)
            (λ ident sound named sysno kept there up.
            (law.finds setting db file nth bytes (showing old.tables) (showing new.tables) old.pending new.pending old.fold.progress.last new.fold.progress.last store (Ok fate) accepts ident sound named).0 sysno kept there);
        most = λ few. omega (arith, one, below);
      }

  -- what is noted is written
  pub accepts_settled : (slices : List (List ℕ)) (old mid new : At) → IsAccepted slices old mid → SettlesNotes format row_work db mid new → IsAccepted slices old new
  accepts_settled slices old mid new one settles = record {
    passes = passes_then format setting.profile.now db old.fold.progress.last mid.fold.progress.last (showing old.tables) (showing mid.tables) one.passes new.fold.progress.last (showing new.tables)
        (subst (λ (l : ℕ). PassesOn format setting.profile.now db mid.fold.progress.last l (showing mid.tables) (showing new.tables)) (sym settles.last)
        (passes_same format setting.profile.now db mid.fold.progress.last (showing mid.tables) (showing new.tables) (store_of (showing new.tables) settles.store) settles.lists settles.beside settles.malformed));
    takes = subst (λ (l : ℕ). TakesNamed setting.profile.now db slices old.fold.progress.last old.fold.tally.records old.tables.trees l new.fold.tally.records new.tables.trees) (sym settles.last)
        (subst (λ (t : Tally). TakesNamed setting.profile.now db slices old.fold.progress.last old.fold.tally.records old.tables.trees mid.fold.progress.last t.records new.tables.trees) (sym settles.tally)
        (taken_written setting.profile.now db slices old.fold.progress.last old.fold.tally.records old.tables.trees mid.fold.progress.last mid.fold.tally.records mid.tables.trees new.tables.trees one.takes settles.lists.2));
    most = λ few. subst (λ (t : Tally). t.records ≤ setting.limits.records) (sym settles.tally) (one.most few);
  }

  -- others behind them
  pub accepts_then : (xs ys : List (List ℕ)) (old mid new : At) → IsAccepted xs old mid → IsAccepted ys mid new → IsAccepted (xs ++ ys) old new
  accepts_then xs ys old mid new one two = record {
    passes = passes_then format setting.profile.now db old.fold.progress.last mid.fold.progress.last (showing old.tables) (showing mid.tables) one.passes new.fold.progress.last (showing new.tables) two.passes;
    takes = takes_then setting.profile.now db old.fold.progress.last old.fold.tally.records (showing old.tables) mid.fold.progress.last mid.fold.tally.records (showing mid.tables) xs one.passes one.takes
        ys new.fold.progress.last new.fold.tally.records new.tables.trees two.takes;
    most = λ few. two.most (one.most few);
  }

  pub accepts_record : (file nth : ℕ) (bytes : List ℕ) (old new : At) → IsStore (showing old.tables) → TakesRecord setting format row_work db file nth bytes old new (Ok tt) → IsAccepted (bytes ∷ []) old new
  accepts_record file nth bytes old new store takes = accepts_settled (bytes ∷ []) old takes.0 new (accepts_one file nth bytes old takes.0 store takes.1) takes.2

  pub accepts_rest : (file : ℕ) (slices : List (List ℕ)) (fault : Option MarcFault) (n : ℕ) (old new : At) → IsStore (showing old.tables)
      → TakesRest setting format row_work db file n (record { slices = slices; fault = fault }) old new (Ok tt) → IsAccepted slices old new × (fault ≡ None)
  accepts_rest file [] None n old new store ends = (accepts_same old new ends.1 store, refl)
  accepts_rest file [] (Some fault) n old new store ends = let told = ends.0 in absurd (cc)
  accepts_rest file (bytes ∷ slices) fault n old new store (inl refused) = let told = refused.1 in absurd (cc)
  accepts_rest file (bytes ∷ slices) fault n old new store (inr takes) =
      let one = accepts_record file n bytes old takes.0 store takes.1 in
      let rest = accepts_rest file slices fault (n + 1) takes.0 new one.passes.store takes.2 in
      (accepts_then (bytes ∷ []) slices old takes.0 new one rest.0, rest.1)

  pub accepts_files : (splits : List Split) (file : ℕ) (old new : At) → IsStore (showing old.tables) → TakesFiles setting format row_work db file splits old new (Ok tt) → IsAccepted (slices_in splits) old new
  accepts_files [] file old new store ends = accepts_same old new ends.1 store
  accepts_files (split ∷ splits) file old new store (inl refused) = let told = refused.1 in absurd (cc)
  accepts_files (split ∷ splits) file old new store (inr takes) =
      let one = (accepts_rest file split.slices split.fault 1 old takes.0 store takes.1).0 in
      accepts_then split.slices (slices_in splits) old takes.0 new one (accepts_files splits (file + 1) takes.0 new one.passes.store takes.2)

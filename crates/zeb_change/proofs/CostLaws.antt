-- What a change costs, of tables that are an image.
use Rattle.zeb_change.proofs.Cited.{◌≡◌, ◌+◌, ℕ, ℤ, List, [], ◌∷◌, Option, Some, None, Result, Ok, Err, inl, inr, refl, sym, subst, arith, State, MarcFault, Split, Work, Format, Setting, Kept, IsCostIn, IsFilesCost, IsSlicesCost, Progress, IsDueFor, noted_count, AreInRange, At, TakesFiles, TakesRecord, TakesRest, point_in, Meets, Why, conditions_of, file_folded, record_folded}
use Rattle.zeb_change.proofs.CostLemmas.{due_more, due_noted, due_then}
use Rattle.zeb_change.proofs.FoldLaws.{IsFoldedTo, IsUnder, content_storable, file_takes, record_folds, record_takes, showing}
use Rattle.zeb_change.proofs.FoldParts.{folded_blocks}
use Rattle.zeb_change.proofs.RecordLaws as law

module _ (s : State) (version : List ℕ) (setting : Setting) (format : Format) (row_work : ℕ) (db : ℤ) (records_of : ℤ → List Kept) where
  abbrev Under : At → Progress → Type 0
  Under = IsUnder s version setting format db records_of

  abbrev Folded : At → At → Progress → Unit {0} → Type 0
  Folded = IsFoldedTo s version setting format db records_of

  -- so many keys have come up, those that were written are counted, and the counts are numbers of their type
  abbrev pub IsDue : ℕ → At → At → Type 0
  IsDue n old new =
      IsDueFor format row_work n old.tables.trees new.tables.trees old.fold.progress.work new.fold.progress.work old.pending new.pending × AreInRange new.fold.progress.work

  none_due : (old new : At) → new ≡ old → AreInRange old.fold.progress.work → IsDue 0 old new
  none_due old new same are =
      subst (IsDue 0 old) (sym same) (due_noted format row_work 0 old.tables.trees old.tables.trees old.fold.progress.work old.pending old.pending refl (omega arith), are)

  more_due : (m n : ℕ) (old mid new : At) → IsDue m old mid → IsDue n mid new → IsDue (m + n) old new
  more_due m n old mid new one two = (
    due_then format row_work m n old.tables.trees mid.tables.trees new.tables.trees old.fold.progress.work mid.fold.progress.work new.fold.progress.work
        old.pending mid.pending new.pending two.1 one.0 two.0,
    two.1,
  )

  -- one record
  record_costs : (file nth : ℕ) (bytes : List ℕ) (old new : At) (p : Progress) → Under old p → TakesRecord setting format row_work db file nth bytes old new (Ok tt)
      → (n : ℕ) × IsCostIn setting.profile.now setting.kind bytes p.base n × IsDue n old new
  record_costs file nth bytes old new p under takes =
      let folds = takes.1 in
      let noted = law.cost setting db records_of file nth bytes (showing s version setting format db records_of old.tables) (point_in takes.0) old.pending old.fold.progress.last p.base format under.1 (Ok folds.1.0) folds.1.1 in (
        noted.0,
        noted.1,
        (
          by noted.0 noted.2 (record_folded (conditions_of version setting) setting.kind file nth bytes p)
              (record_folds s version setting format db records_of file nth bytes old takes.0 p under (Ok tt) folds),
          takes.2.counts,
        ),
      )
    where
      by : (n : ℕ) → noted_count takes.0.pending ≡ noted_count old.pending + n → (said : Result Progress Why) → Meets (Folded old takes.0) said (Ok tt)
          → IsDueFor format row_work n old.tables.trees new.tables.trees old.fold.progress.work new.fold.progress.work old.pending new.pending
      by n more (Err why) never = absurd never
      by n more (Ok q) one =
          let due = (takes.2.holds one.under_way.1.content (content_storable s version setting format db records_of takes.0 q (one.stands, one.under_way)) one.under_way.1.held).1 in
          due_more format row_work n old.tables.trees takes.0.tables.trees new.tables.trees old.fold.progress.work new.fold.progress.work old.pending takes.0.pending new.pending takes.2.counts
          (folded_blocks setting db file nth bytes old takes.0 takes.1) more
          (subst (λ (w : Work). IsDueFor format row_work 0 takes.0.tables.trees new.tables.trees w new.fold.progress.work takes.0.pending new.pending) takes.1.1.3 due)

  pub rest_costs : (file : ℕ) (slices : List (List ℕ)) (fault : Option MarcFault) (nth : ℕ) (old new : At) (p : Progress) → Under old p → AreInRange old.fold.progress.work
      → TakesRest setting format row_work db file nth (record { slices = slices; fault = fault }) old new (Ok tt)
      → (n : ℕ) × IsSlicesCost (conditions_of version setting) setting.kind file nth slices p n × IsDue n old new
  rest_costs file [] None nth old new p under are ends = (0, refl, none_due old new ends.1 are)
  rest_costs file [] (Some fault) nth old new p under are ends = let told = ends.0 in absurd (cc)
  rest_costs file (bytes ∷ slices) fault nth old new p under are (inl refused) = let told = refused.1 in absurd (cc)
  rest_costs file (bytes ∷ slices) fault nth old new p under are (inr takes) =
      by (record_folded (conditions_of version setting) setting.kind file nth bytes p) refl (record_takes s version setting format db records_of row_work file nth bytes old takes.0 p under (Ok tt) takes.1)
      (record_costs file nth bytes old takes.0 p under takes.1) (λ q now range. rest_costs file slices fault (nth + 1) takes.0 new q now range takes.2)
    where
      by : (said : Result Progress Why) → record_folded (conditions_of version setting) setting.kind file nth bytes p ≡ said → Meets (Folded old takes.0) said (Ok tt)
          → (n : ℕ) × IsCostIn setting.profile.now setting.kind bytes p.base n × IsDue n old takes.0
          → ((q : Progress) → Under takes.0 q → AreInRange takes.0.fold.progress.work → (n : ℕ) × IsSlicesCost (conditions_of version setting) setting.kind file (nth + 1) slices q n × IsDue n takes.0 new)
          → (n : ℕ) × IsSlicesCost (conditions_of version setting) setting.kind file nth (bytes ∷ slices) p n × IsDue n old new
      by (Err why) is never one next = absurd never
      by (Ok q) is folded one next =
          let rest = next q (folded.stands, folded.under_way) one.2.1 in
          (one.0 + rest.0, (one.0, rest.0, q, one.1, is, rest.1, refl), more_due one.0 rest.0 old takes.0 new one.2 rest.2)

  pub files_cost : (splits : List Split) (file : ℕ) (old new : At) (p : Progress) → Under old p → AreInRange old.fold.progress.work → TakesFiles setting format row_work db file splits old new (Ok tt)
      → (n : ℕ) × IsFilesCost (conditions_of version setting) setting.kind file splits p n × IsDue n old new
  files_cost [] file old new p under are ends = (0, refl, none_due old new ends.1 are)
  files_cost (split ∷ splits) file old new p under are (inl refused) = let told = refused.1 in absurd (cc)
  files_cost (split ∷ splits) file old new p under are (inr takes) =
      by (file_folded (conditions_of version setting) setting.kind file split p) refl (file_takes s version setting format db records_of row_work file split old takes.0 p under (Ok tt) takes.1)
      (rest_costs file split.slices split.fault 1 old takes.0 p under are takes.1) (λ q now range. files_cost splits (file + 1) takes.0 new q now range takes.2)
    where
      by : (said : Result Progress Why) → file_folded (conditions_of version setting) setting.kind file split p ≡ said → Meets (Folded old takes.0) said (Ok tt)
          → (n : ℕ) × IsSlicesCost (conditions_of version setting) setting.kind file 1 split.slices p n × IsDue n old takes.0
          → ((q : Progress) → Under takes.0 q → AreInRange takes.0.fold.progress.work → (n : ℕ) × IsFilesCost (conditions_of version setting) setting.kind (file + 1) splits q n × IsDue n takes.0 new)
          → (n : ℕ) × IsFilesCost (conditions_of version setting) setting.kind file (split ∷ splits) p n × IsDue n old new
      by (Err why) is never one next = absurd never
      by (Ok q) is folded one next =
          let rest = next q (folded.stands, folded.under_way) one.2.1 in
          (one.0 + rest.0, (one.0, rest.0, q, one.1, is, rest.1, refl), more_due one.0 rest.0 old takes.0 new one.2 rest.2)

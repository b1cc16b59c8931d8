-- What follows from what a change does with the records of a file, of tables that are an image.
use Rattle.zeb_change.proofs.Cited.{◌≡◌, ◌⊎◌, ◌∙◌, ◌+◌, ◌<◌, ◌≤◌, ℕ, ℤ, List, [], ◌∷◌, Option, Some, None, Result, Ok, Err, true, false, nat_le, inl, inr, refl, sym, ap, subst, arith, nat_tests, Database, State, MarcFault, Split, IsStorable, Format, Refusal, Setting, Tally, Kept, Progress, at_end, files_folded, slices_folded, ◌then◌, marc_refusal, WillBe, WillBeFolded, WillBeTaken, standing, At, ChangesFiles, Each, EndsAll, EndsFile, FoldsRecord, SettlesNotes, TakesFiles, TakesRecord, TakesRest, ThenSettles, IsFailing, Meets, Why, why_of, StandsFor, conditions_of, with_records}
use Rattle.zeb_change.specs.Folding.{changed_record, file_folded, record_folded}
use Rattle.zeb_change.proofs.BaseLemmas.{with_numbered}
use Rattle.zeb_change.proofs.FoldSteps.{folded_err, one_folded, too_many}
use Rattle.zeb_change.proofs.RecordLaws.{taken}
use Rattle.zeb_change.proofs.TermTexts.{posted_storable}
use Rattle.zeb_change.proofs.UnderWay.{meets_so, same_kept}

not_many : (limit counted taken : ℕ) → counted ≡ taken → counted < limit → nat_le limit taken ≡ false
not_many limit counted taken same = grind (arith, nat_tests)

many : (limit counted taken : ℕ) → counted ≡ taken → limit ≤ counted → nat_le limit taken ≡ true
many limit counted taken same = grind (arith, nat_tests)

-- a refusal, as a definition says
refuses_so : {A X : Type 0} (Good : A → X → Type 0) (said : Result A Why) (refusal : Refusal) → IsFailing (why_of refusal) ⊎ (said ≡ Err (why_of refusal)) → Meets Good said (Err refusal)
refuses_so Good (Ok a) refusal so = so
refuses_so Good (Err why) refusal so = so

so_refuses : {A X : Type 0} (Good : A → X → Type 0) (said : Result A Why) (refusal : Refusal) → Meets Good said (Err refusal) → IsFailing (why_of refusal) ⊎ (said ≡ Err (why_of refusal))
so_refuses Good (Ok a) refusal so = so
so_refuses Good (Err why) refusal so = so

module _ (s : State) (version : List ℕ) (setting : Setting) (format : Format) (db : ℤ) (records_of : ℤ → List Kept) where
  -- a connection that shows these tables
  abbrev pub showing : Database → State
  showing tables = record s { now = tables }

  -- so much is folded in as the definition says
  abbrev pub IsFoldedTo : At → At → Progress → Unit {0} → Type 0
  IsFoldedTo old new q done =
      WillBeFolded format setting.profile.now db records_of (standing (showing old.tables) old.pending) (standing (showing new.tables) new.pending) new.fold q

  abbrev pub IsUnder : At → Progress → Type 0
  IsUnder a p = StandsFor a.fold p × WillBe format setting.profile.now db records_of (standing (showing a.tables) a.pending) p.base

  -- one record
  pub record_folds : (file nth : ℕ) (bytes : List ℕ) (old new : At) (p : Progress) → IsUnder old p → (result : Result (Unit {0}) Refusal) → FoldsRecord setting db file nth bytes old new result
      → Meets (IsFoldedTo old new) (record_folded (conditions_of version setting) setting.kind file nth bytes p) result
  record_folds file nth bytes old new p under (Ok done) folds =
      let room = not_many setting.limits.records old.fold.tally.records p.taken under.0.taken folds.0 in
      one_folded format (conditions_of version setting) db records_of (standing (showing old.tables) old.pending) (standing (showing new.tables) new.pending) setting.kind file nth bytes p old.fold new.fold folds.1.0
      room under.0 folds.1.2 (taken version setting format db records_of file nth bytes (showing old.tables) (showing new.tables) old.pending new.pending old.fold.progress.last new.fold.progress.last
      p.base under.0.last under.1 (Ok folds.1.0) refl folds.1.1) done
  record_folds file nth bytes old new p under (Err refusal) (inl over) =
      refuses_so (IsFoldedTo old new) (record_folded (conditions_of version setting) setting.kind file nth bytes p) refusal
      (inr (too_many (conditions_of version setting) setting.kind file nth bytes p (many setting.limits.records old.fold.tally.records p.taken under.0.taken over.1) ∙ ap (λ (r : Refusal). Err (why_of r)) (sym over.0)))
  record_folds file nth bytes old new p under (Err refusal) (inr changes) =
      refuses_so (IsFoldedTo old new) (record_folded (conditions_of version setting) setting.kind file nth bytes p) refusal (elim (so_refuses (WillBeTaken format setting.profile.now db records_of (standing (showing old.tables) old.pending) (standing (showing new.tables) new.pending) new.fold.progress.last)
      (changed_record (conditions_of version setting) setting.kind file nth bytes p.base) refusal (taken version setting format db records_of file nth bytes (showing old.tables) (showing new.tables) old.pending new.pending
      old.fold.progress.last new.fold.progress.last p.base under.0.last under.1 (Err refusal) tt changes.1)) [
        | inl failing ↦ inl failing
        | inr why ↦ inr (folded_err (conditions_of version setting) setting.kind file nth bytes p (not_many setting.limits.records old.fold.tally.records p.taken under.0.taken changes.0) (why_of refusal) why)
      ])

  -- one behind the other
  module _ {X : Type 0} (Step : ℕ → X → At → At → Result (Unit {0}) Refusal → Type 0) (End : ℕ → At → At → Result (Unit {0}) Refusal → Type 0)
      (said_of : ℕ → X → Progress → Result Progress Why) (said_end : ℕ → Progress → Result Progress Why)
      (step : (n : ℕ) (x : X) (old new : At) (p : Progress) → IsUnder old p → (result : Result (Unit {0}) Refusal) → Step n x old new result → Meets (IsFoldedTo old new) (said_of n x p) result)
      (end : (n : ℕ) (old new : At) (p : Progress) → IsUnder old p → (result : Result (Unit {0}) Refusal) → End n old new result → Meets (IsFoldedTo old new) (said_end n p) result) where
    -- what is said of all
    pub said_all : ℕ → List X → Progress → Result Progress Why
    said_all n [] p = said_end n p
    said_all n (x ∷ xs) p = said_of n x p then said_all (n + 1) xs

    pub each_folds : (xs : List X) (n : ℕ) (old new : At) (p : Progress) → IsUnder old p → (result : Result (Unit {0}) Refusal) → Each Step End n xs old new result
        → Meets (IsFoldedTo old new) (said_all n xs p) result
    unfolding said_all
    each_folds [] n old new p under result ends = end n old new p under result ends
    each_folds (x ∷ xs) n old new p under result (inl refused) =
        subst (Meets (IsFoldedTo old new) (said_of n x p then said_all (n + 1) xs)) (sym refused.1)
        (refuses_so (IsFoldedTo old new) (said_of n x p then said_all (n + 1) xs) refused.0 (elim (so_refuses (IsFoldedTo old new) (said_of n x p) refused.0 (step n x old new p under (Err refused.0) refused.2)) [
          | inl failing ↦ inl failing
          | inr why ↦ inr (ap (λ (r : Result Progress Why). r then said_all (n + 1) xs) why)
        ]))
    each_folds (x ∷ xs) n old new p under result (inr folds) =
        further (said_of n x p) (step n x old folds.0 p under (Ok tt) folds.1) (λ q now. each_folds xs (n + 1) folds.0 new q now result folds.2)
      where
        further : (said : Result Progress Why) → Meets (IsFoldedTo old folds.0) said (Ok tt) → ((q : Progress) → IsUnder folds.0 q → Meets (IsFoldedTo folds.0 new) (said_all (n + 1) xs q) result)
            → Meets (IsFoldedTo old new) (said then said_all (n + 1) xs) result
        further (Err why) never next = absurd never
        further (Ok q) one next =
            meets_so (IsFoldedTo folds.0 new) (IsFoldedTo old new) (said_all (n + 1) xs q) result
            (λ last done folded. record { stands = folded.stands; under_way = folded.under_way; names = (folded.names.0 ∙ one.names.0, folded.names.1 ∙ one.names.1) }) (next q (one.stands, one.under_way))

  -- ---- what is noted is written

  pub content_storable : (a : At) (p : Progress) (under : IsUnder a p) → IsStorable under.1.1.content
  content_storable a p under = posted_storable setting.profile.now (with_records db p.base.records records_of) (with_numbered setting.profile.now db records_of p.base under.1.2 under.1.3) under.1.1.content under.1.1.posted

  settles_so : (row_work : ℕ) (mid new : At) (q : Progress) → IsUnder mid q → SettlesNotes format row_work db mid new → IsFoldedTo mid new q tt
  settles_so row_work mid new q under settles = record {
    stands = record {
      last = settles.last ∙ under.0.last;
      taken = ap (λ (t : Tally). t.records) settles.tally ∙ under.0.taken;
      inserted = ap (λ (t : Tally). t.inserted) settles.tally ∙ under.0.inserted;
      updated = ap (λ (t : Tally). t.updated) settles.tally ∙ under.0.updated;
      deleted = ap (λ (t : Tally). t.deleted) settles.tally ∙ under.0.deleted;
    };
    under_way = (
      record { is = settles.store.is; sound = settles.store.sound; keyed = settles.store.keyed },
      record {
        kept = same_kept mid.tables.trees new.tables.trees (with_records db q.base.records records_of) settles.lists.2 under.1.1.kept;
        content = under.1.1.content;
        held = (settles.holds under.1.1.content (content_storable mid q under) under.1.1.held).0;
        posted = under.1.1.posted;
      },
      under.1.2,
      under.1.3,
    );
    names = (settles.lists.0, settles.lists.1);
  }

  -- what is done before, by its law
  module _ (Does : At → At → Result (Unit {0}) Refusal → Type 0) (said_of : Progress → Result Progress Why)
      (law : (old new : At) (p : Progress) → IsUnder old p → (result : Result (Unit {0}) Refusal) → Does old new result → Meets (IsFoldedTo old new) (said_of p) result) where
    pub then_folds : (row_work : ℕ) (old new : At) (p : Progress) → IsUnder old p → (result : Result (Unit {0}) Refusal) → ThenSettles format row_work db Does old new result → Meets (IsFoldedTo old new) (said_of p) result
    then_folds row_work old new p under (Ok done) does = by (said_of p) (law old does.0 p under (Ok done) does.1)
      where
        by : (said : Result Progress Why) → Meets (IsFoldedTo old does.0) said (Ok done) → Meets (IsFoldedTo old new) said (Ok done)
        by (Err why) never = absurd never
        by (Ok q) one =
            let settled = settles_so row_work does.0 new q (one.stands, one.under_way) does.2 in
            record { stands = settled.stands; under_way = settled.under_way; names = (settled.names.0 ∙ one.names.0, settled.names.1 ∙ one.names.1) }
    then_folds row_work old new p under (Err refusal) (inl failing) = refuses_so (IsFoldedTo old new) (said_of p) refusal (inl failing)
    then_folds row_work old new p under (Err refusal) (inr (inl does)) = law old new p under (Err refusal) does
    then_folds row_work old new p under (Err refusal) (inr (inr damaged)) = absurd (by (said_of p) (law old damaged.1.0 p under (Ok tt) damaged.1.1))
      where
        by : (said : Result Progress Why) → Meets (IsFoldedTo old damaged.1.0) said (Ok tt) → ⊥
        by (Err why) never = never
        by (Ok q) one = damaged.1.2 one.under_way.1.content (content_storable damaged.1.0 q (one.stands, one.under_way)) one.under_way.1.held

  pub record_takes : (row_work file nth : ℕ) (bytes : List ℕ) (old new : At) (p : Progress) → IsUnder old p → (result : Result (Unit {0}) Refusal) → TakesRecord setting format row_work db file nth bytes old new result
      → Meets (IsFoldedTo old new) (record_folded (conditions_of version setting) setting.kind file nth bytes p) result
  record_takes row_work file nth bytes = then_folds (FoldsRecord setting db file nth bytes) (record_folded (conditions_of version setting) setting.kind file nth bytes) (record_folds file nth bytes) row_work

  -- ---- a file

  ends_so : (file : ℕ) (fault : Option MarcFault) (n : ℕ) (old new : At) (p : Progress) → IsUnder old p → (result : Result (Unit {0}) Refusal) → EndsFile file fault n old new result
      → Meets (IsFoldedTo old new) (at_end file n fault p) result
  ends_so file None n old new p under result ends =
      subst (Meets (IsFoldedTo old new) (Ok p)) (sym ends.0) (subst (λ (a : At). IsFoldedTo old a p tt) (sym ends.1) (record { stands = under.0; under_way = under.1; names = (refl, refl) }))
  ends_so file (Some fault) n old new p under result ends =
      subst (Meets (IsFoldedTo old new) (at_end file n (Some fault) p)) (sym ends.0) (refuses_so (IsFoldedTo old new) (at_end file n (Some fault) p) (marc_refusal file n fault) (inr refl))

  said_slices : (file : ℕ) (fault : Option MarcFault) (slices : List (List ℕ)) (row_work n : ℕ) (p : Progress)
      → said_all (λ m bytes. TakesRecord setting format row_work db file m bytes) (EndsFile file fault) (record_folded (conditions_of version setting) setting.kind file) (λ m. at_end file m fault)
      (record_takes row_work file) (ends_so file fault) n slices p ≡ slices_folded (conditions_of version setting) setting.kind file n slices fault p
  unfolding said_all
  said_slices file fault [] row_work n p = refl
  said_slices file fault (bytes ∷ rest) row_work n p = by (record_folded (conditions_of version setting) setting.kind file n bytes p) (said_slices file fault rest row_work (n + 1))
    where
      by : (said : Result Progress Why) {f g : Progress → Result Progress Why} → ((q : Progress) → f q ≡ g q) → (said then f) ≡ (said then g)
      by (Ok q) same = same q
      by (Err why) same = refl

  pub rest_takes : (row_work file n : ℕ) (split : Split) (old new : At) (p : Progress) → IsUnder old p → (result : Result (Unit {0}) Refusal) → TakesRest setting format row_work db file n split old new result
      → Meets (IsFoldedTo old new) (slices_folded (conditions_of version setting) setting.kind file n split.slices split.fault p) result
  rest_takes row_work file n split old new p under result takes =
      subst (λ (said : Result Progress Why). Meets (IsFoldedTo old new) said result) (said_slices file split.fault split.slices row_work n p)
      (each_folds _ _ _ _ (record_takes row_work file) (ends_so file split.fault) split.slices n old new p under result takes)

  -- ---- files

  pub file_takes : (row_work file : ℕ) (split : Split) (old new : At) (p : Progress) → IsUnder old p → (result : Result (Unit {0}) Refusal) → TakesRest setting format row_work db file 1 split old new result
      → Meets (IsFoldedTo old new) (file_folded (conditions_of version setting) setting.kind file split p) result
  unfolding file_folded
  file_takes row_work file split old new p under result takes = rest_takes row_work file 1 split old new p under result takes

  all_ends : (n : ℕ) (old new : At) (p : Progress) → IsUnder old p → (result : Result (Unit {0}) Refusal) → EndsAll old new result → Meets (IsFoldedTo old new) (Ok p) result
  all_ends n old new p under result ends =
      subst (Meets (IsFoldedTo old new) (Ok p)) (sym ends.0) (subst (λ (a : At). IsFoldedTo old a p tt) (sym ends.1) (record { stands = under.0; under_way = under.1; names = (refl, refl) }))

  said_files : (splits : List Split) (row_work n : ℕ) (p : Progress)
      → said_all (λ file split. TakesRest setting format row_work db file 1 split) (λ m. EndsAll) (file_folded (conditions_of version setting) setting.kind) (λ m q. Ok q)
      (file_takes row_work) all_ends n splits p ≡ files_folded (conditions_of version setting) setting.kind n splits p
  unfolding said_all
  said_files [] row_work n p = refl
  said_files (split ∷ splits) row_work n p = by (file_folded (conditions_of version setting) setting.kind n split p) (said_files splits row_work (n + 1))
    where
      by : (said : Result Progress Why) {f g : Progress → Result Progress Why} → ((q : Progress) → f q ≡ g q) → (said then f) ≡ (said then g)
      by (Ok q) same = same q
      by (Err why) same = refl

  pub files_take : (row_work n : ℕ) (splits : List Split) (old new : At) (p : Progress) → IsUnder old p → (result : Result (Unit {0}) Refusal) → TakesFiles setting format row_work db n splits old new result
      → Meets (IsFoldedTo old new) (files_folded (conditions_of version setting) setting.kind n splits p) result
  files_take row_work n splits old new p under result takes =
      subst (λ (said : Result Progress Why). Meets (IsFoldedTo old new) said result) (said_files splits row_work n p)
      (each_folds _ _ _ _ (file_takes row_work) all_ends splits n old new p under result takes)

  pub change_takes : (row_work : ℕ) (splits : List Split) (old new : At) (p : Progress) → IsUnder old p → (result : Result (Unit {0}) Refusal) → ChangesFiles setting format row_work db splits old new result
      → Meets (IsFoldedTo old new) (files_folded (conditions_of version setting) setting.kind 1 splits p) result
  change_takes row_work splits old new p under result changes =
      then_folds (TakesFiles setting format row_work db 1 splits) (files_folded (conditions_of version setting) setting.kind 1 splits) (files_take row_work 1 splits) row_work old new p under result changes.0

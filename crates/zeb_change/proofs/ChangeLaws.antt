-- What follows from what a change does with files (`FoldsFiles`): what the calls above draw from it.
use Rattle.zeb_change.proofs.Cited.{◌≡◌, ◌≢◌, ◌+◌, ◌<◌, ◌≤◌, ℕ, ℤ, List, [], ◌∷◌, ◌++◌, length, Result, Ok, Err, OnOk, inl, inr, refl, subst, arith, flat_map, State, Has, Split, Format, IsStore, works_for, Fold, Pending, Refusal, Damaged, Setting, Base, Kept, IsFilesCost, AllFindWhole, FirstFindsWhole, PassesOn, Progress, files_folded, HoldsSome, IsDueFor, IsNothingNoted, WillBe, standing, IsRefusedFor, LosesNamedAlone, FoldsFiles, TakesFiles, ThenSettles, at, Meets, Why, why_of, IsFolded, IsUnderWay, StandsFor, conditions_of}
use Rattle.zeb_change.proofs.AcceptLaws.{IsAccepted, accepts_files, accepts_settled, showing, slices_in}
use Rattle.zeb_change.proofs.CostLaws.{files_cost}
use Rattle.zeb_change.proofs.CostLemmas.{due_end}
use Rattle.zeb_change.proofs.FoldLaws as folds
use Rattle.zeb_change.proofs.FoldParts.{store_of, stores}
use Rattle.zeb_change.proofs.NoDamage.{files_tell, refused_honest}
use Rattle.zeb_change.proofs.NotedChanges.{nothing_count}
use Rattle.zeb_change.proofs.ReadFaults.{IsOfReady, why_ready}
use Rattle.zeb_change.proofs.RefuseLaws.{finds_files, refused_at, refuses_files}
use Rattle.zeb_change.proofs.SettledChanges.{begun, ended}

-- each of some files is among their records
has_left : {A : Type 0} (xs ys : List A) (x : A) → Has xs x → Has (xs ++ ys) x
has_left (x ∷ xs) ys y (inl is) = inl is
has_left (x ∷ xs) ys y (inr there) = inr (has_left xs ys y there)
has_left [] ys y there = absurd there

has_right : {A : Type 0} (xs ys : List A) (y : A) → Has ys y → Has (xs ++ ys) y
has_right [] ys y there = there
has_right (x ∷ xs) ys y there = inr (has_right xs ys y there)

has_slice : (splits : List Split) (split : Split) → Has splits split → (slice : List ℕ) → Has split.slices slice → Has (slices_in splits) slice
has_slice (first ∷ splits) split (inl is) slice there = has_left first.slices (slices_in splits) slice (subst (λ (s : Split). Has s.slices slice) is there)
has_slice (first ∷ splits) split (inr later) slice there = has_right first.slices (slices_in splits) slice (has_slice splits split later slice there)
has_slice [] split none slice there = absurd none

module _ (setting : Setting) (format : Format) (row_work : ℕ) (db : ℤ) (splits : List Split) (a b : State) (fold folded : Fold) where
  abbrev Folds : Result (Unit {0}) Refusal → Type 0
  Folds = FoldsFiles setting format row_work db splits a.now b.now fold folded

  module _ (store : IsStore a) where
    shown : IsStore (showing b setting format row_work db a.now)
    shown = store_of (showing b setting format row_work db a.now) (stores a store)

    -- ---- an accepted one, of any tables

    accepted : (f : Folds (Ok tt)) → IsAccepted b setting format row_work db (slices_in splits) (at a f.none fold) (at b f.pending folded)
    accepted f =
        let taken = f.changes.0 in
        accepts_settled b setting format row_work db (slices_in splits) (at a f.none fold) taken.0 (at b f.pending folded) (accepts_files b setting format row_work db splits 1 (at a f.none fold) taken.0 shown taken.1) taken.2

    pub passes : Folds (Ok tt) → PassesOn format setting.profile.now db fold.progress.last folded.progress.last a b
    passes f =
        let is = (accepted f).passes in
        record {
          store = is.store;
          rises = is.rises;
          each = is.each;
          aside = is.aside;
          beside = is.beside;
          names = is.names;
          malformed = is.malformed;
        }

    pub named : Folds (Ok tt) → LosesNamedAlone setting.profile.now fold.progress.last db splits a.now.trees b.now.trees
    named f = (accepted f).takes.named

    pub most : Folds (Ok tt) → fold.tally.records ≤ setting.limits.records
        → fold.tally.records + length (flat_map (λ (split : Split). split.slices) splits) ≤ setting.limits.records
    most f few =
        let is = accepted f in
        let all = is.takes.all in
        let below = is.most few in
        omega (arith, all, below)

    pub elders : Folds (Ok tt) → AllFindWhole setting.profile.now fold.progress.last a.now.trees db splits
    elders f = λ split there slice here. (accepted f).takes.whole slice (has_slice splits split there slice here)

    -- ---- a refused one

    pub reasons : (refusal : Refusal) → Folds (Err refusal) → IsRefusedFor setting.profile.now setting.kind setting.limits fold.progress.last fold.tally.records a.now.trees db splits refusal
    reasons refusal f = by f.changes.0
      where
        by : ThenSettles format row_work db (TakesFiles setting format row_work db 1 splits) (at a f.none fold) (at b f.pending folded) (Err refusal)
            → IsRefusedFor setting.profile.now setting.kind setting.limits fold.progress.last fold.tally.records a.now.trees db splits refusal
        by (inl failing) = inr (inr failing)
        by (inr (inl takes)) = elim (refuses_files b setting format row_work db splits 1 (at a f.none fold) (at b f.pending folded) shown refusal takes) [
          | inl from ↦ inl (refused_at b setting format row_work db splits (at a f.none fold) refusal from)
          | inr failing ↦ inr failing
        ]
        by (inr (inr damaged)) = inr (inl damaged.0)

    pub elder : fold.tally.records < setting.limits.records → (result : Result (Unit {0}) Refusal) → Folds result → FirstFindsWhole setting.profile.now a.now.trees db splits result
    elder few result f = by result f.changes.0
      where
        by : (told : Result (Unit {0}) Refusal) → ThenSettles format row_work db (TakesFiles setting format row_work db 1 splits) (at a f.none fold) (at b f.pending folded) told
            → FirstFindsWhole setting.profile.now a.now.trees db splits told
        by (Ok tt) taken = finds_files b setting format row_work db splits 1 (at a f.none fold) taken.0 shown few (Ok tt) taken.1
        by (Err refusal) (inl failing) = λ bytes is ident sound is_named. inr (inr failing)
        by (Err refusal) (inr (inl takes)) = finds_files b setting format row_work db splits 1 (at a f.none fold) (at b f.pending folded) shown few (Err refusal) takes
        by (Err refusal) (inr (inr damaged)) = λ bytes is ident sound is_named. inr (inl damaged.0)

    -- for a reason of a register that is ready
    pub ready : (refusal : Refusal) → Folds (Err refusal) → IsOfReady (why_of refusal)
    ready refusal f = why_ready setting.profile.now setting.kind setting.limits fold.progress.last fold.tally.records a.now.trees db splits refusal (reasons refusal f)

  -- ---- on an image

  module _ (version : List ℕ) (records_of : ℤ → List Kept) where
    -- what will be held is held, for nothing is noted
    under_first : (first : Pending) → IsNothingNoted first → (base : Base) → IsUnderWay format setting.profile.now db records_of a base
        → WillBe format setting.profile.now db records_of (standing (showing b setting format row_work db a.now) first) base
    under_first first none base under =
        let will = begun format setting.profile.now db records_of first none a base under in (
          store_of (showing b setting format row_work db a.now) (stores a will.0),
          record { kept = will.1.kept; content = will.1.content; held = will.1.held; posted = will.1.posted },
          will.2,
          will.3,
        )

    abbrev pub Good : Progress → Unit {0} → Type 0
    Good q done = IsFolded format setting.profile.now db records_of a b folded q

    folded_end : (first last : Pending) (result : Result (Unit {0}) Refusal) → OnOk result (IsNothingNoted last) → (said : Result Progress Why)
        → Meets (folds.IsFoldedTo b version setting format db records_of (at a first fold) (at b last folded)) said result
        → Meets Good said result
    folded_end first last (Ok tt) all (Ok q) one =
        record { stands = one.stands; under_way = ended format setting.profile.now db records_of last all b q.base one.under_way; names = one.names }
    folded_end first last (Ok tt) all (Err why) never = never
    folded_end first last (Err refusal) all (Ok q) so = so
    folded_end first last (Err refusal) all (Err why) so = so

    pub folds_files : (result : Result (Unit {0}) Refusal) → Folds result → (p : Progress) → StandsFor fold p
        → IsUnderWay format setting.profile.now db records_of a p.base
        → Meets Good (files_folded (conditions_of version setting) setting.kind 1 splits p) result
    folds_files result f p stands under =
        folded_end f.none f.pending result f.changes.1 (files_folded (conditions_of version setting) setting.kind 1 splits p)
        (folds.change_takes b version setting format db records_of row_work splits (at a f.none fold) (at b f.pending folded) p (stands, under_first f.none f.unnoted p.base under) result f.changes)

    -- ---- whatever was read, some database is held

    held : (result : Result (Unit {0}) Refusal) (said : Result Progress Why) → Meets Good said result → OnOk result (HoldsSome format setting.profile.now db records_of b folded.progress.last)
    held (Ok tt) (Ok q) one = (q.base, one.stands.last, one.under_way)
    held (Ok tt) (Err why) never = absurd never
    held (Err refusal) said so = tt

    sound : (base : Base) → fold.progress.last ≡ base.last → StandsFor fold (record { base = base; taken = fold.tally.records; inserted = fold.tally.inserted; updated = fold.tally.updated; deleted = fold.tally.deleted })
    sound base is = record { last = is; taken = refl; inserted = refl; updated = refl; deleted = refl }

    undamaged : (result : Result (Unit {0}) Refusal) (p : Progress) → Meets Good (files_folded (conditions_of version setting) setting.kind 1 splits p) result → result ≢ Err Damaged
    undamaged (Ok tt) p so is = cc
    undamaged (Err refusal) p so is =
        let told : refusal ≡ Damaged = cc in
        refused_honest {A = Progress} {X = Unit {0}} Good (files_folded (conditions_of version setting) setting.kind 1 splits p) refusal
        (files_tell (conditions_of version setting) setting.kind splits 1 p) so told

    pub honest : (result : Result (Unit {0}) Refusal) → Folds result → HoldsSome format setting.profile.now db records_of a fold.progress.last
        → (result ≢ Err Damaged) × OnOk result (HoldsSome format setting.profile.now db records_of b folded.progress.last)
    honest result f some =
        let p : Progress = record { base = some.0; taken = fold.tally.records; inserted = fold.tally.inserted; updated = fold.tally.updated; deleted = fold.tally.deleted } in
        let so = folds_files result f p (sound some.0 some.1) some.2 in
        (undamaged result p so, held result (files_folded (conditions_of version setting) setting.kind 1 splits p) so)

    -- ---- what it costs

    pub works : Folds (Ok tt) → (p : Progress) → StandsFor fold p → IsUnderWay format setting.profile.now db records_of a p.base
        → (n : ℕ) × IsFilesCost (conditions_of version setting) setting.kind 1 splits p n × works_for format row_work n a.now.trees b.now.trees fold.progress.work folded.progress.work
    works f p stands under =
        let old = at a f.none fold in
        let will : folds.IsUnder b version setting format db records_of old p = (stands, under_first f.none f.unnoted p.base under) in
        let cost = files_cost b version setting format row_work db records_of splits 1 old f.changes.0.0 p will f.counts f.changes.0.1 in (
          cost.0,
          cost.1,
          by cost.0 cost.2.0 (files_folded (conditions_of version setting) setting.kind 1 splits p)
              (folds.files_take b version setting format db records_of row_work 1 splits old f.changes.0.0 p will (Ok tt) f.changes.0.1),
        )
      where
        by : (n : ℕ) → IsDueFor format row_work n a.now.trees f.changes.0.0.tables.trees fold.progress.work f.changes.0.0.fold.progress.work f.none f.changes.0.0.pending → (said : Result Progress Why)
            → Meets (folds.IsFoldedTo b version setting format db records_of (at a f.none fold) f.changes.0.0) said (Ok tt)
            → works_for format row_work n a.now.trees b.now.trees fold.progress.work folded.progress.work
        by n due (Err why) never = absurd never
        by n due (Ok q) one =
            let taken = f.changes.0 in
            let more = (taken.2.holds one.under_way.1.content (folds.content_storable b version setting format db records_of taken.0 q (one.stands, one.under_way)) one.under_way.1.held).1 in
            due_end format row_work n a.now.trees taken.0.tables.trees b.now.trees fold.progress.work taken.0.fold.progress.work folded.progress.work f.none taken.0.pending f.pending taken.2.counts
            (nothing_count f.none f.unnoted) (nothing_count f.pending f.changes.1) due more

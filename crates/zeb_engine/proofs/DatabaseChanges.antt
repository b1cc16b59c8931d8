-- What follows from what a change of a database does, in rows (`ChangesDatabase`): all that a session promises of a change.
use Rattle.zeb_engine.proofs.Cited.{◌≡◌, ◌≢◌, ◌⊎◌, ◌∙◌, ◌<◌, ◌≤◌, ℕ, ℤ, pos, length, map, List, Option, Some, None, Result, Ok, Err, OnOk, IsTrue, inl, inr, refl, sym, ap, subst, subst₂, arith, flat_map, Database, State, Trees, HasCleanDisk, works_for, Split, Directive, IsProfile, Work, PutsDatabase, IsDatabaseOf, AreCountedDatabases, version_of, Changes, IsStore, databases_tree, registers_stay, Refusal, Damaged, Kind, Update, AllFindWhole, PassesOn, Progress, at_first, files_folded, splits_of, LosesNamedAlone, IsRefusedFor, FoldsFiles, NeverUnready, IsFailing, Meets, Why, why_of, IsFolded, IsUnderWay, conditions_of, Conditions, AreSessions, Holdings, Base, IsImage, Keeps, name_bytes, Reply, refused, IsFailure, no_database, start_of, Outcome, Costs, ElderOver, EldersOver, LeavesRows, LosesNamedOver, ReasonsOver, BeginsWith, IsMissedFor, comes_to, last_of, IsMisnumbered, Asked, FoldsInto, AcceptsChange, ChangesDatabase, CommitsRows, Transacts, Commanded, IsReady, Serves, Commits, StandsFor, ready, IsOfReady, never_unready}
use Rattle.zeb_register.specs.declared.catalog.Database as catalog
use Rattle.zeb_change.proofs.CostLemmas.{works_beside}
use Rattle.zeb_change.proofs.ChangeLaws as law
use Rattle.zeb_engine.proofs.ChangeBegins.{may_begin, none_starts}
use Rattle.zeb_engine.proofs.ChangeElders.{begins_at, few_elder, found_elder, leaves_same, missed_elder, put_elder, put_elders, put_leaves, put_named}
use Rattle.zeb_engine.proofs.ChangeNumbers.{begins_sound, put_blocks, put_row, showing}
use Rattle.zeb_engine.proofs.ChangeReasons.{missed_reasons, put_reasons}
use Rattle.zeb_engine.proofs.ChangeSteps.{IsBegun, begun, change_leads, first_way, fold_done, fold_refused}
use Rattle.zeb_engine.proofs.ListedDatabases.{counted, none_named}
use Rattle.zeb_engine.proofs.NoDamageAnswered.{failure_honest}
use Rattle.zeb_engine.proofs.ReadyImages.{image_some}
use Rattle.zeb_engine.proofs.TransactedOutcomes.{LeadsOn, rows_commit, rows_serve}
use Rattle.zeb_engine.proofs.TurnedOutcomes.{Leads, step_unbegun}

of_ready : (refusal : Refusal) (why : Why) → why_of refusal ≡ why → IsOfReady why → IsOfReady (why_of refusal)
of_ready refusal why is = subst IsOfReady (sym is)

failing_ready : (refusal : Refusal) → IsFailing (why_of refusal) → IsOfReady (why_of refusal)
failing_ready refusal (inl is) = of_ready refusal _ is tt
failing_ready refusal (inr is) = of_ready refusal _ is tt

missed_ready : (kind : Kind) (trees : Trees) (name : List ℕ) (refusal : Refusal) → IsMissedFor kind trees name refusal → IsOfReady (why_of refusal)
missed_ready kind trees name refusal (inl none) = of_ready refusal (no_database name) none.2 tt
missed_ready kind trees name refusal (inr (inl damaged)) = of_ready refusal (why_of Damaged) (ap why_of damaged.0) tt
missed_ready kind trees name refusal (inr (inr failed)) = failing_ready refusal failed

module _ (Fine : Type 0) (a : Asked) (work : Work) (s : State) where
  abbrev profile : List Directive
  profile = a.setting.profile.now

  abbrev kind : Kind
  kind = a.setting.kind

  abbrev name : List ℕ
  name = name_bytes a.name

  abbrev under : Conditions
  under = conditions_of (version_of a.format) a.setting

  -- what the definition says of a change by these files
  abbrev Said : List (List ℕ) → Holdings → Outcome
  Said = comes_to (version_of a.format) a.setting name

  -- the readers told these texts
  abbrev Told : List (List ℕ) → Type 0
  Told texts = a.remains ≡ map Some texts

  module _ (found : Option catalog.Database) (begins : BeginsWith kind s.now.trees name found) where
    -- ---- the files were folded in, up to some place

    module _ (result : Result (Unit {0}) Refusal) (f : FoldsInto Fine a (last_of found) work s.now result) where
      abbrev db : ℤ
      db = f.first.progress.database.0

      abbrev mid : State
      mid = showing s f.mid

      abbrev now : State
      now = showing s f.now

      put : Changes databases_tree (PutsDatabase db name (pos (last_of found))) (showing s s.now) mid
      put = put_row s s.now f.mid db name (last_of found) f.put

      abbrev Folds : List Split → Type 0
      Folds splits = FoldsFiles a.setting a.format a.row_work db splits f.mid f.now f.first f.fold result

      read : (texts : List (List ℕ)) → Told texts → Fine ⊎ (result ≡ Ok tt) → Folds (splits_of texts)
      read texts told fine = subst Folds (f.folds.1 fine texts told) f.folds.2

      few : f.first.tally.records < a.setting.limits.records
      few = omega (arith, f.at_first.taken, a.setting.limits.some_record)

      elder_in : (texts : List (List ℕ)) → Told texts → Fine → ElderOver {T = Unit {0}} profile name texts s.now.trees result
      elder_in texts told fine = put_elder profile name texts (showing s s.now) mid db (pos (last_of found)) result put
          (law.elder a.setting a.format a.row_work db (splits_of texts) mid now f.first f.fold put.layout few result (read texts told (inl fine)))

      -- ---- from an image

      module _ (sound : ∥ IsProfile profile ∥₁) (before : Holdings) (image : IsImage s.now.trees before) (bases : List Base) (is : ready under before ≡ Ok bases) where
        session : AreSessions a.format under
        session = record { version_is = refl; sound = sound }

        start : IsBegun a.format under kind name before db (last_of found) mid
        start = begun a.format (registers_stay a.format) under session kind name a.name.named before (showing s s.now) mid image db found (may_begin under s before bases is image kind name found begins) put

        way : IsUnderWay a.format profile db start.image.lists.records_of mid start.start
        way = first_way a.format (registers_stay a.format) under session kind name a.name.named before mid db (last_of found) start

        stands : StandsFor f.first (at_first start.start)
        stands = record { last = f.at_first.last_is ∙ start.last_is; taken = f.at_first.taken; inserted = f.at_first.inserted; updated = f.at_first.updated; deleted = f.at_first.deleted }

        abbrev Good : Progress → Unit {0} → Type 0
        Good q done = IsFolded a.format profile db start.image.lists.records_of mid now f.fold q

        met : (texts : List (List ℕ)) → Folds (splits_of texts) → Meets Good (files_folded under kind 1 (splits_of texts) (at_first start.start)) result
        met texts folds =
            law.folds_files a.setting a.format a.row_work db (splits_of texts) mid now f.first f.fold (version_of a.format) start.image.lists.records_of result folds (at_first start.start) stands way

        undamaged : result ≢ Err Damaged
        undamaged =
            (law.honest a.setting a.format a.row_work db f.folds.0 mid now f.first f.fold (version_of a.format) start.image.lists.records_of result f.folds.2
            (start.start, f.at_first.last_is ∙ start.last_is, way)).0

    -- ---- one of them was refused

    module _ (refusal : Refusal) (f : FoldsInto Fine a (last_of found) work s.now (Err refusal)) where
      abbrev it : ℤ
      it = f.first.progress.database.0

      reasons_in : (texts : List (List ℕ)) → Told texts → Fine → ReasonsOver {T = Reply} profile kind a.setting.limits name texts s.now.trees (Err refusal)
      reasons_in texts told fine =
          let layout = (put (Err refusal) f).layout in
          put_reasons profile kind a.setting.limits name texts (showing s s.now) (showing s f.mid) it {T = Reply} found (put (Err refusal) f) begins refusal (Err refusal) refl
          (subst₂ (λ (l taken : ℕ). IsRefusedFor profile kind a.setting.limits l taken f.mid.trees it (splits_of texts) refusal) f.at_first.last_is f.at_first.taken
          (law.reasons a.setting a.format a.row_work it (splits_of texts) (showing s f.mid) (showing s f.now) f.first f.fold layout refusal (read (Err refusal) f texts told (inl fine))))

      ready_in : IsOfReady (why_of refusal)
      ready_in = law.ready a.setting a.format a.row_work it f.folds.0 (showing s f.mid) (showing s f.now) f.first f.fold (put (Err refusal) f).layout refusal f.folds.2

      refused_in : (sound : ∥ IsProfile profile ∥₁) (before : Holdings) (image : IsImage s.now.trees before) (bases : List Base) (is : ready under before ≡ Ok bases) → (texts : List (List ℕ)) → Told texts → Fine
          → IsFailure (refused (why_of refusal)) ⊎ (Said texts before ≡ (refused (why_of refusal), before))
      refused_in sound before image bases is texts told fine =
          let b = start (Err refusal) f sound before image bases is in
          fold_refused a.format (registers_stay a.format) under (session (Err refusal) f sound before image bases is) kind name a.name.named before (showing s f.mid) it (last_of found) b (splits_of texts) refusal
          (Good (Err refusal) f sound before image bases is) (met (Err refusal) f sound before image bases is texts (read (Err refusal) f texts told (inl fine)))

    -- ---- all were taken in

    module _ (worked : Work) (new : Database) (told : Reply) (accepts : AcceptsChange Fine a (last_of found) work worked s.now new told) where
      abbrev f : FoldsInto Fine a (last_of found) work s.now (Ok tt)
      f = accepts.folded

      abbrev its : ℤ
      its = f.first.progress.database.0

      first_put : Changes databases_tree (PutsDatabase its name (pos (last_of found))) (showing s s.now) (showing s f.mid)
      first_put = put (Ok tt) f

      last_put : Changes databases_tree (PutsDatabase accepts.id name (pos f.fold.progress.last)) (showing s f.now) (showing s new)
      last_put = put_row s f.now new accepts.id name f.fold.progress.last accepts.put

      all_read : (texts : List (List ℕ)) → Told texts → FoldsFiles a.setting a.format a.row_work its (splits_of texts) f.mid f.now f.first f.fold (Ok tt)
      all_read texts read_so = read (Ok tt) f texts read_so (inr refl)

      elders_in : IsStore s → (texts : List (List ℕ)) → Told texts → EldersOver {T = Reply} profile a.setting.limits name texts s.now.trees (Ok told)
      elders_in store texts read_so =
          let none = f.at_first.taken in
          let most = law.most a.setting a.format a.row_work its (splits_of texts) (showing s f.mid) (showing s f.now) f.first f.fold first_put.layout (all_read texts read_so) (omega (arith, none)) in
          let few_so : length (flat_map (λ (split : Split). split.slices) (splits_of texts)) ≤ a.setting.limits.records = omega (arith, most, none) in
          put_elders profile name texts a.setting.limits {T = Reply} (showing s s.now) (showing s f.mid) its found told (record { is = store.is; sound = store.sound; keyed = store.keyed }) first_put
          (begins_at kind s.now.trees name found begins) f.numbers
          (subst (λ (l : ℕ). AllFindWhole profile l f.mid.trees its (splits_of texts)) f.at_first.last_is
          (law.elders a.setting a.format a.row_work its (splits_of texts) (showing s f.mid) (showing s f.now) f.first f.fold first_put.layout (all_read texts read_so)))
          few_so

      named_in : (texts : List (List ℕ)) → Told texts → LosesNamedOver profile name texts s.now.trees new.trees
      named_in texts read_so =
          put_named a.format profile kind name (showing s s.now) (showing s f.mid) (showing s f.now) (showing s new) its texts found f.fold.progress.last first_put f.numbers
          (subst (λ (l : ℕ). LosesNamedAlone profile l its (splits_of texts) f.mid.trees f.now.trees) f.at_first.last_is
          (law.named a.setting a.format a.row_work its (splits_of texts) (showing s f.mid) (showing s f.now) f.first f.fold first_put.layout (all_read texts read_so)))
          accepts.id last_put

      leaves_in : (end : State) → end.now ≡ new → LeavesRows (version_of a.format) profile kind name s.now.trees end
      leaves_in end is =
          leaves_same (version_of a.format) profile kind name s.now.trees (showing s new) end is
          (put_leaves a.format profile kind name (showing s s.now) (showing s f.mid) (showing s f.now) (showing s new) its found f.fold.progress.last first_put begins f.numbers
          (subst (λ (l : ℕ). PassesOn a.format profile its l f.fold.progress.last (showing s f.mid) (showing s f.now)) f.at_first.last_is
          (law.passes a.setting a.format a.row_work its f.folds.0 (showing s f.mid) (showing s f.now) f.first f.fold first_put.layout f.folds.2))
          accepts.id last_put)

      module _ (sound : ∥ IsProfile profile ∥₁) (before : Holdings) (image : IsImage s.now.trees before) (bases : List Base) (is : ready under before ≡ Ok bases) (texts : List (List ℕ)) (read_so : Told texts) where
        begun_so : IsBegun a.format under kind name before its (last_of found) (showing s f.mid)
        begun_so = start (Ok tt) f sound before image bases is

        leads_in : Leads (showing s new) told (Said texts before)
        unfolding begun_so start
        leads_in =
            let at = session (Ok tt) f sound before image bases is in
            let done = fold_done a.format (registers_stay a.format) under at kind name a.name.named before (showing s f.mid) its (last_of found) begun_so (splits_of texts)
            (Good (Ok tt) f sound before image bases is) tt (met (Ok tt) f sound before image bases is texts (all_read texts read_so)) in
            subst (λ (r : Reply). Leads (showing s new) r (Said texts before)) (sym accepts.told_is)
            (change_leads a.format (registers_stay a.format) under at kind name a.name.named before (showing s f.mid) its (last_of found) begun_so (splits_of texts) done.0 done.1 (showing s f.now) (showing s new) f.fold done.2
            accepts.id last_put)

        costs_in : Costs a.format a.row_work under kind name texts work worked s.now.trees new.trees before
        unfolding begun_so start
        costs_in =
            let at = begun_so in
            let cost = law.works a.setting a.format a.row_work its (splits_of texts) (showing s f.mid) (showing s f.now) f.first f.fold (version_of a.format) at.image.lists.records_of
            (all_read texts read_so) (at_first at.start) (stands (Ok tt) f sound before image bases is) (way (Ok tt) f sound before image bases is) in (
              cost.0,
              record { bases = at.bases; is_ready = at.is_ready; start = at.start; starts = at.starts; cost = cost.1 },
              works_beside a.format a.row_work cost.0 s.now.trees f.mid.trees f.now.trees new.trees work worked (put_blocks s.now f.mid f.put) (put_blocks f.now new accepts.put)
                  (subst₂ (λ (old last : Work). works_for a.format a.row_work cost.0 f.mid.trees f.now.trees old last) f.at_first.work_is (sym accepts.work_is) cost.2),
            )

  -- ---- on any tables

  module _ (worked : Work) (new : Database) where
    abbrev Does : Result Reply Refusal → Type 0
    Does = ChangesDatabase Fine a work worked s.now new

    pub elder : (result : Result Reply Refusal) → Does result → (texts : List (List ℕ)) → Told texts → Fine → ElderOver profile name texts s.now.trees result
    elder (Ok told) does texts read_so fine =
        found_elder profile name texts {T = Reply} {X = Unit {0}} s.now.trees tt (Ok told) (elder_in does.found does.begins (Ok tt) does.applies.folded texts read_so fine)
    elder (Err refusal) does texts read_so fine = elim does [
      | inl missed ↦ missed_elder profile name texts Reply kind s.now.trees refusal missed
      | inr it ↦ elim it.applies [
        | inl failing ↦ few_elder profile name texts {T = Reply} s.now.trees refusal (Err refusal) refl (inr failing)
        | inr (inl wrong) ↦ few_elder profile name texts {T = Reply} s.now.trees refusal (Err refusal) refl (inl wrong.0)
        | inr (inr folds) ↦ elder_in it.found it.begins (Err refusal) folds texts read_so fine
      ]
    ]

    pub reasons : (result : Result Reply Refusal) → Does result → (texts : List (List ℕ)) → Told texts → Fine → ReasonsOver profile kind a.setting.limits name texts s.now.trees result
    reasons (Ok told) does texts read_so fine = tt
    reasons (Err refusal) does texts read_so fine = elim does [
      | inl missed ↦ missed_reasons profile kind a.setting.limits name texts Reply s.now.trees refusal missed
      | inr it ↦ elim it.applies [
        | inl failing ↦ inr (inr failing)
        | inr (inl wrong) ↦ inr (inl wrong.0)
        | inr (inr folds) ↦ reasons_in it.found it.begins refusal folds texts read_so fine
      ]
    ]

    -- it is refused so where the register is ready
    pub told_ready : (result : Result Reply Refusal) → Does result → NeverUnready result
    told_ready (Ok told) does = ((λ is. cc), (λ is. cc), (λ is. cc))
    told_ready (Err refusal) does = never_unready {T = Reply} refusal (elim does [
      | inl missed ↦ missed_ready kind s.now.trees name refusal missed
      | inr it ↦ elim it.applies [
        | inl failing ↦ failing_ready refusal failing
        | inr (inl wrong) ↦ of_ready refusal (why_of Damaged) (ap why_of wrong.0) tt
        | inr (inr folds) ↦ ready_in it.found it.begins refusal folds
      ]
    ])

    pub elders : IsStore s → (result : Result Reply Refusal) → Does result → (texts : List (List ℕ)) → Told texts → EldersOver profile a.setting.limits name texts s.now.trees result
    elders store (Ok told) does texts read_so = elders_in does.found does.begins worked new told does.applies store texts read_so
    elders store (Err refusal) does texts read_so = tt

    pub named : (result : Result Reply Refusal) → Does result → (texts : List (List ℕ)) → Told texts → OnOk result (LosesNamedOver profile name texts s.now.trees new.trees)
    named (Ok told) does texts read_so = named_in does.found does.begins worked new told does.applies texts read_so
    named (Err refusal) does texts read_so = tt

    pub leaves : (end : State) → end.now ≡ new → (result : Result Reply Refusal) → Does result → OnOk result (LeavesRows (version_of a.format) profile kind name s.now.trees end)
    leaves end is (Ok told) does = leaves_in does.found does.begins worked new told does.applies end is
    leaves end is (Err refusal) does = tt

    -- ---- from an image

    module _ (sound : ∥ IsProfile profile ∥₁) (before : Holdings) (image : IsImage s.now.trees before) (bases : List Base) (is : ready under before ≡ Ok bases) where
      all_counted : AreCountedDatabases s.now.trees name
      all_counted = let all = image_some under s.now.trees before bases is image in counted s.now.trees bases all.1.image.lists.id_of all.1.image.lists.listed name

      -- its records have numbers that they can have
      numbered : (found : Option catalog.Database) → BeginsWith kind s.now.trees name found → IsMisnumbered name (last_of found) s.now → ⊥
      numbered found begins =
          begins_sound a.format under (record { version_is = refl; sound = sound }) kind name a.name.named before s image found (may_begin under s before bases is image kind name found begins)

      missed_step : kind ≢ Update → IsDatabaseOf s.now.trees name None → (texts : List (List ℕ)) → Said texts before ≡ (refused (no_database name), before)
      missed_step other none texts =
          let all = image_some under s.now.trees before bases is image in
          step_unbegun under before name bases is kind (splits_of texts) (no_database name)
          (ap (start_of kind name) (none_named s.now.trees bases all.1.image.lists.id_of all.1.image.lists.listed name none) ∙ none_starts kind name other)

      refuses : (refusal : Refusal) → Does (Err refusal) → (texts : List (List ℕ)) → Told texts → Fine → IsFailure (refused (why_of refusal)) ⊎ (Said texts before ≡ (refused (why_of refusal), before))
      refuses refusal does texts read_so fine = elim does [
        | inl (inl none) ↦ inr (missed_step none.0 none.1 texts ∙ ap (λ (w : Why). (refused w, before)) (sym none.2))
        | inl (inr (inl damaged)) ↦ absurd (damaged.1 all_counted)
        | inl (inr (inr failed)) ↦ inl failed
        | inr it ↦ elim it.applies [
          | inl failing ↦ inl failing
          | inr (inl wrong) ↦ absurd (numbered it.found it.begins wrong.1)
          | inr (inr folds) ↦ refused_in it.found it.begins refusal folds sound before image bases is texts read_so fine
        ]
      ]

      leads : (told : Reply) → Does (Ok told) → (texts : List (List ℕ)) → Told texts → Leads (showing s new) told (Said texts before)
      leads told does texts read_so = leads_in does.found does.begins worked new told does.applies sound before image bases is texts read_so

      -- whatever the readers tell
      never_damaged : (refusal : Refusal) → Does (Err refusal) → refusal ≢ Damaged
      never_damaged refusal does = elim does [
        | inl (inl none) ↦ λ same. let e : no_database name ≡ why_of Damaged = sym none.2 ∙ ap why_of same in absurd cc
        | inl (inr (inl damaged)) ↦ absurd (damaged.1 all_counted)
        | inl (inr (inr failed)) ↦ failure_honest refusal failed
        | inr it ↦ elim it.applies [
          | inl failing ↦ failure_honest refusal failing
          | inr (inl wrong) ↦ absurd (numbered it.found it.begins wrong.1)
          | inr (inr folds) ↦ λ same. undamaged it.found it.begins (Err refusal) folds sound before image bases is (ap Err same)
        ]
      ]

      pub honest : (result : Result Reply Refusal) → Does result → result ≢ Err Damaged
      honest (Ok told) does same = cc
      honest (Err refusal) does same = let e : refusal ≡ Damaged = cc in never_damaged refusal does e

  -- ---- at the end of its transaction

  module _ (worked : Work) (sound : ∥ IsProfile profile ∥₁) (opened : IsTrue s.is_open) (texts : List (List ℕ)) (read_so : Told texts) where
    abbrev Changed : (old new : Database) → Result Reply Refusal → Type 0
    Changed = ChangesDatabase Fine a work worked

    leads_on : LeadsOn Changed (IsReady under) (Said texts) s
    leads_on before store image known new told does = leads worked new sound before image known.0 known.1 told does texts read_so

    pub serves : (new : State) (result : Result Reply Refusal) → Commanded s new result → Transacts Changed s new result → Fine → HasCleanDisk new → Serves (IsReady under) (Said texts) s new result
    serves new result call did fine = rows_serve Changed (IsReady under) (Said texts) s leads_on opened
        (λ before image known next refusal does. refuses worked next sound before image known.0 known.1 refusal does texts read_so fine) new result call did

    -- what may be committed is what the definition leaves
    pub commits : (disk : Trees) → CommitsRows Changed s disk → Commits (IsReady under) (Said texts) s disk
    commits = rows_commit Changed (IsReady under) (Said texts) s leads_on opened

  -- what an accepted change has counted
  pub costs : (worked : Work) (new : State) → HasCleanDisk new → (result : Result Reply Refusal) → Transacts (ChangesDatabase Fine a work worked) s new result → ∥ IsProfile profile ∥₁ → (texts : List (List ℕ)) → Told texts
      → OnOk result ((before : Holdings) → IsTrue s.is_open → IsReady under s.now.trees before → Keeps s before → Costs a.format a.row_work under kind name texts work worked s.now.trees new.now.trees before)
  costs worked new clean (Err refusal) did sound texts read_so = tt
  costs worked new clean (Ok told) did sound texts read_so = λ before opened known keeps.
      let at = (keeps opened).0 in
      let does = did.rows clean at.0 in
      costs_in does.found does.begins worked new.now told does.applies sound before at.1 known.0 known.1 texts read_so

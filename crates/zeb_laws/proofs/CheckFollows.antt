-- After a command that was accepted a check is accepted.
use Rattle.zeb_laws.proofs.Cited.{◌≡◌, ℕ, List, [], map, Result, Ok, Err, refl, sym, ap, subst, string_bytes, Command, Init, Check, Reindex, Upgrade, Create, Drop, Stat, Dump, Change, Find, Scan, Analyse, Base, Conditions, splits_of, Why, Holdings, name_bytes, Answer, done, Accepts, AskedFrom, CountedFrom, FindAnswers, ScanAnswers, Step, Turn, all_stay, checked_from, created, dropped, dumped_from, ends, holding, ruled, turned_from, upgradable, AsksStore, ready_good}
use Rattle.zeb_engine.specs.Steps.{changed_by_files, initialised, ready, reindexed, turned, upgraded}

abbrev IsFit : Conditions → Holdings → Type 0
IsFit c held = (bases : List Base) × (ready c held ≡ Ok bases)

module _ (c : Conditions) where
  fit_then : (held : Holdings) → IsFit c held → Step c Check held done held
  fit_then held fit = (sym (ap checked_from fit.1), refl)

  -- ---- commands that change what is held

  ends_fit : (before : Holdings) (said : Result (Answer × List Base) Why) → Accepts (ends c before said).0 → IsFit c (ends c before said).1
  ends_fit before (Ok told) accepts = ready_good c (holding c told.1) refl refl
  ends_fit before (Err why) accepts = absurd (accepts why refl)

  from_fit : (turn : Turn) (before : Holdings) (said : Result (List Base) Why) → Accepts (turned_from c turn before said).0 → IsFit c (turned_from c turn before said).1
  from_fit turn before (Ok bases) accepts = ends_fit before (turn bases) accepts
  from_fit turn before (Err why) accepts = absurd (accepts why refl)

  turned_fit : (turn : Turn) (before : Holdings) → Accepts (turned c turn before).0 → IsFit c (turned c turn before).1
  unfolding turned
  turned_fit turn before accepts = from_fit turn before (ready c before) accepts

  begun_fit : (before : Holdings) → IsFit c (initialised c before).1
  unfolding initialised
  begun_fit before = ready_good c (holding c []) refl refl

  reindexed_fit : (before : Holdings) → Accepts (reindexed c before).0 → IsFit c (reindexed c before).1
  unfolding reindexed
  reindexed_fit before accepts = from_fit all_stay before (ruled c before) accepts

  upgraded_fit : (before : Holdings) → Accepts (upgraded c before).0 → IsFit c (upgraded c before).1
  unfolding upgraded
  upgraded_fit before accepts = from_fit all_stay before (upgradable c before) accepts

  -- ---- commands that ask

  asked_fit : (Says : Base → Answer → Type 0) (name query : List ℕ) (answer : Answer) (said : Result (List Base) Why) → AskedFrom Says name query said answer → Accepts answer → (bases : List Base) × (said ≡ Ok bases)
  asked_fit Says name query answer (Ok bases) is accepts = (bases, refl)
  asked_fit Says name query answer (Err why) is accepts = absurd (accepts why is)

  counted_fit : (name : List ℕ) (answer : Answer) (said : Result (List Base) Why) → CountedFrom c name said answer → Accepts answer → (bases : List Base) × (said ≡ Ok bases)
  counted_fit name answer (Ok bases) is accepts = (bases, refl)
  counted_fit name answer (Err why) is accepts = absurd (accepts why is)

  dumped_fit : (name : List ℕ) (said : Result (List Base) Why) → Accepts (dumped_from name said) → (bases : List Base) × (said ≡ Ok bases)
  dumped_fit name (Ok bases) accepts = (bases, refl)
  dumped_fit name (Err why) accepts = absurd (accepts why refl)

  checked_fit : (said : Result (List Base) Why) → Accepts (checked_from said) → (bases : List Base) × (said ≡ Ok bases)
  checked_fit (Ok bases) accepts = (bases, refl)
  checked_fit (Err why) accepts = absurd (accepts why refl)

  module _ (before later : Holdings) (answer : Answer) (accepts : Accepts answer) where
    -- of an outcome that is computed
    left_fit : (told : Answer × Holdings) → (answer ≡ told.0) × (later ≡ told.1) → (Accepts told.0 → IsFit c told.1) → Step c Check later done later
    left_fit told step fit = fit_then later (subst (IsFit c) (sym step.1) (fit (subst Accepts step.0 accepts)))

    -- of what was held
    stays_fit : later ≡ before → IsFit c before → Step c Check later done later
    stays_fit same fit = fit_then later (subst (IsFit c) (sym same) fit)

    pub check_follows : (command : Command) → AsksStore command → Step c command before answer later → Step c Check later done later
    check_follows Init asks step = left_fit (initialised c before) step (λ _. begun_fit before)
    check_follows (Create name) asks step = left_fit (turned c (created (name_bytes name)) before) step (turned_fit (created (name_bytes name)) before)
    check_follows (Drop name) asks step = left_fit (turned c (dropped (name_bytes name)) before) step (turned_fit (dropped (name_bytes name)) before)
    check_follows (Change kind name files) asks step =
        let turn = changed_by_files c kind (name_bytes name) (splits_of (map (λ file. file.items) files.items)) in
        left_fit (turned c turn before) step (turned_fit turn before)
    check_follows Check asks step = stays_fit step.1 (checked_fit (ready c before) (subst Accepts step.0 accepts))
    check_follows Reindex asks step = left_fit (reindexed c before) step (reindexed_fit before)
    check_follows Upgrade asks step = left_fit (upgraded c before) step (upgraded_fit before)
    check_follows (Find name query first count) asks step =
        stays_fit step.1 (asked_fit (FindAnswers c.profile (string_bytes query) first count) (name_bytes name) (string_bytes query) answer (ready c before) step.0 accepts)
    check_follows (Scan name query number position) asks step =
        stays_fit step.1 (asked_fit (ScanAnswers c.profile (string_bytes query) number position) (name_bytes name) (string_bytes query) answer (ready c before) step.0 accepts)
    check_follows (Stat name) asks step = stays_fit step.1 (counted_fit (name_bytes name) answer (ready c before) step.0 accepts)
    check_follows (Dump name) asks step = stays_fit step.1 (dumped_fit (name_bytes name) (ready c before) (subst Accepts step.0 accepts))
    check_follows (Analyse files) asks step = absurd asks

-- What commands that change the databases come to, by what there is of the name.
use Rattle.zeb_engine.proofs.Cited.{◌≡◌, ◌∙◌, ℕ, List, [], Some, None, Ok, Err, refl, ap, Split, Kind, Why, exists, done, changed, refused, Conditions, Progress, at_first, files_folded, Holdings, new_base, base_named, without_base, Base, Turn, holding, ends, turned_from, created_in, dropped_in, change_from, change_ends, start_of, no_database, State, IsStore, IsImage, Reply, reply_answer, Outcome, with_base, ready}
use Rattle.zeb_engine.specs.Steps.{turned, created, dropped, changed_by_files, initialised}

-- what is left after an outcome
abbrev pub Leads : State → Reply → Outcome → Type 0
Leads new reply o = (o.0 ≡ reply_answer reply) × IsStore new × IsImage new.now.trees o.1

module _ (c : Conditions) (before : Holdings) where
  pub turn_refused : (turn : Turn) (why : Why) → ready c before ≡ Err why → turned c turn before ≡ (refused why, before)
  unfolding turned
  turn_refused turn why is = ap (turned_from c turn before) is

  pub turn_taken : (turn : Turn) (bases : List Base) → ready c before ≡ Ok bases → turned c turn before ≡ ends c before (turn bases)
  unfolding turned
  turn_taken turn bases is = ap (turned_from c turn before) is

  pub step_init : initialised c before ≡ (done, holding c [])
  unfolding initialised
  step_init = refl

  module _ (name : List ℕ) (bases : List Base) (is : ready c before ≡ Ok bases) where
    pub step_created : base_named name bases ≡ None → turned c (created name) before ≡ (done, holding c (with_base (new_base name) bases))
    unfolding created
    step_created none = turn_taken (created name) bases is ∙ ap (λ o. ends c before (created_in name bases o)) none

    pub step_exists : (base : Base) → base_named name bases ≡ Some base → turned c (created name) before ≡ (refused exists, before)
    unfolding created
    step_exists base found = turn_taken (created name) bases is ∙ ap (λ o. ends c before (created_in name bases o)) found

    pub step_dropped : (base : Base) → base_named name bases ≡ Some base → turned c (dropped name) before ≡ (done, holding c (without_base name bases))
    unfolding dropped
    step_dropped base found = turn_taken (dropped name) bases is ∙ ap (λ o. ends c before (dropped_in name bases o)) found

    pub step_unknown : base_named name bases ≡ None → turned c (dropped name) before ≡ (refused (no_database name), before)
    unfolding dropped
    step_unknown none = turn_taken (dropped name) bases is ∙ ap (λ o. ends c before (dropped_in name bases o)) none

    -- the records of files are folded into the database that a change begins with
    module _ (kind : Kind) (files : List Split) where
      pub step_unbegun : (why : Why) → start_of kind name (base_named name bases) ≡ Err why → turned c (changed_by_files c kind name files) before ≡ (refused why, before)
      unfolding changed_by_files
      step_unbegun why starts = turn_taken (changed_by_files c kind name files) bases is ∙ ap (λ s. ends c before (change_from c kind files bases s)) starts

      module _ (start : Base) (starts : start_of kind name (base_named name bases) ≡ Ok start) where
        step_begun : turned c (changed_by_files c kind name files) before ≡ ends c before (change_ends bases (files_folded c kind 1 files (at_first start)))
        unfolding changed_by_files
        step_begun = turn_taken (changed_by_files c kind name files) bases is ∙ ap (λ s. ends c before (change_from c kind files bases s)) starts

        pub step_changed : (p : Progress) → files_folded c kind 1 files (at_first start) ≡ Ok p
            → turned c (changed_by_files c kind name files) before ≡ (changed p.inserted p.updated p.deleted, holding c (with_base p.base bases))
        step_changed p folds = step_begun ∙ ap (λ r. ends c before (change_ends bases r)) folds

        pub step_unchanged : (why : Why) → files_folded c kind 1 files (at_first start) ≡ Err why → turned c (changed_by_files c kind name files) before ≡ (refused why, before)
        step_unchanged why folds = step_begun ∙ ap (λ r. ends c before (change_ends bases r)) folds

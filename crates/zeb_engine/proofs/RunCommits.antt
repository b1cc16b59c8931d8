-- What a list of commands may commit goes on by one command.
use Rattle.zeb_engine.proofs.Cited.{◌≡◌, ◌⊎◌, List, [], ◌∷◌, ◌++◌, Result, Ok, Err, IfErr, inl, inr, ap, subst, Trees, State, HasCleanDisk, Survives, Command, Reply, Refusal, Answer, answer_of, refused, reply_answer, why_of, Conditions, CommitsCommand, CommitsOne, IsCarriedOut, LeavesOne, Holdings, Keeps, Run, EnduresRefusal, Runs, ServesCommand}
use Rattle.zeb_change.specs.declared.refusals.Refusal.TheVariants as refusal
use Rattle.zeb_engine.proofs.CommitCrashes.{no_failure}
use Rattle.zeb_engine.proofs.OneAnswer.{steps_once}
use Rattle.zeb_engine.proofs.RunCrashes.{is_store}

-- what one command may leave, on whatever is held before it
abbrev Carries : Conditions → Command → State → Result Reply Refusal → Trees → Type 0
Carries c command now result db = (mid : Holdings) → Keeps now mid → IsCarriedOut c command mid (answer_of result) db

module _ (c : Conditions) (command : Command) (now next : State) where
  replied : (it : Reply) → ServesCommand c command now next (Ok it) → (db : Trees) → CommitsCommand c command now db → Carries c command now (Ok it) db
  replied it serves db commits mid keeps =
      let made = commits mid keeps in
      let served = serves mid keeps in (
        made.0,
        made.1,
        made.2,
        made.3,
        made.4,
        inl (elim served.1 [
          | inl step ↦ (steps_once c command mid (reply_answer it) made.0 served.0 made.1 step made.2).0
          | inr failed ↦ absurd (no_failure it failed.0)
        ]),
      )

  failed_store : (why : Refusal) → refused (why_of why) ≡ refused (why_of refusal.Store) → (db : Trees) → CommitsCommand c command now db → Carries c command now (Err why) db
  failed_store why is db commits mid keeps = let made = commits mid keeps in (made.0, made.1, made.2, made.3, made.4, inr is)

  -- only a command that was accepted, or whose store failed, may have committed anything
  pub carries : (result : Result Reply Refusal) → (HasCleanDisk next → ServesCommand c command now next result) → (HasCleanDisk next → IfErr result (EnduresRefusal now next))
      → Survives now next (CommitsCommand c command now) → Survives now next (Carries c command now result)
  carries result serves no_more survives = record {
    clean = survives.clean;
    counts = survives.counts;
    limit = survives.limit;
    closes = survives.closes;
    shield = survives.shield;
    crash = λ clean db left. elim (survives.crash clean db left) [
      | inl was ↦ inl was
      | inr made ↦ by_result result (serves clean) (no_more clean) db left made
    ];
  }
    where
      by_result : (r : Result Reply Refusal) → ServesCommand c command now next r → IfErr r (EnduresRefusal now next) → (db : Trees) → next.may_leave db → CommitsCommand c command now db
          → now.may_leave db ⊎ Carries c command now r db
      by_result (Ok it) serves no_more db left made = inr (replied it serves db made)
      by_result (Err why) serves no_more db left made = elim (is_store why) [
        | inl is ↦ inr (failed_store why (ap (λ (w : Refusal). refused (why_of w)) is) db made)
        | inr other ↦ inl (no_more other db left)
      ]

-- ---- a list of commands

-- one of the earlier commands
earlier : (c : Conditions) (commands : List Command) (answers : List Answer) (before : Holdings) (command : Command) (answer : Answer) (db : Trees) → LeavesOne c before commands answers db
    → LeavesOne c before (commands ++ command ∷ []) (answers ++ answer ∷ []) db
earlier c [] answers before command answer db left = absurd left
earlier c (first ∷ commands) [] before command answer db left = absurd left
earlier c (first ∷ commands) (one ∷ answers) before command answer db (inl carried) = inl carried
earlier c (first ∷ commands) (one ∷ answers) before command answer db (inr more) = inr (more.0, more.1, earlier c commands answers more.0 command answer db more.2)

-- the last one
latest : (c : Conditions) (commands : List Command) (answers : List Answer) (before mid : Holdings) (command : Command) (answer : Answer) (db : Trees) → Run c before commands answers mid
    → IsCarriedOut c command mid answer db → LeavesOne c before (commands ++ command ∷ []) (answers ++ answer ∷ []) db
latest c [] [] before mid command answer db run carried = inl (subst (λ held. IsCarriedOut c command held answer db) run carried)
latest c (first ∷ commands) (one ∷ answers) before mid command answer db run carried = inr (run.0, run.1, latest c commands answers run.0 mid command answer db run.2 carried)
latest c [] (one ∷ answers) before mid command answer db run carried = absurd run
latest c (first ∷ commands) [] before mid command answer db run carried = absurd run

module _ (c : Conditions) (old now : State) (commands : List Command) (answers : List Answer) (command : Command) (result : Result Reply Refusal) (db : Trees) where
  pub commits_earlier : CommitsOne c commands answers old db → CommitsOne c (commands ++ command ∷ []) (answers ++ answer_of result ∷ []) old db
  commits_earlier commits before keeps = earlier c commands answers before command (answer_of result) db (commits before keeps)

  pub commits_latest : Runs c commands answers old now → Carries c command now result db → CommitsOne c (commands ++ command ∷ []) (answers ++ answer_of result ∷ []) old db
  commits_latest runs carries before keeps = let so_far = runs before keeps in latest c commands answers before so_far.0 command (answer_of result) db so_far.1 (carries so_far.0 so_far.2)

-- What a crash leaves after a list of commands goes on by one command.
use Rattle.zeb_engine.proofs.Cited.{◌≡◌, ◌≢◌, ◌⊎◌, ◌∙◌, true, false, Bool, List, [], ◌∷◌, ◌++◌, Result, Ok, Err, inl, inr, refl, sym, ap, subst, IsTrue, Trees, State, HasCleanDisk, Survives, Command, Reply, Refusal, Answer, answer_of, refused, store_failed, why_of, Conditions, AreRefused, CommitsCommand, Endures, EnduresRun, IsRefused, RunLeft, Stands, Holdings, Keeps, TellsOrFails, Run, Step, AsksStore, Commanded, IsDurable, Runs, ServesCommand}
use Rattle.zeb_change.specs.declared.refusals.Refusal.TheVariants as refusal
use Rattle.zeb_engine.proofs.CommitCrashes.{endures, endures_still, keeps_stand}
use Rattle.zeb_engine.proofs.RefusedSteps.{refused_still}
use Rattle.zeb_engine.proofs.StepLemmas.{step_told}
use Rattle.zeb_engine.proofs.CommandedConnections.{AsksOrStays, unasked_still}

refused_more : (commands : List Command) (answers : List Answer) (command : Command) (answer : Answer) → AreRefused commands answers → (AsksStore command → IsRefused answer)
    → AreRefused (commands ++ command ∷ []) (answers ++ answer ∷ [])
refused_more [] [] command answer all it = (it, tt)
refused_more (first ∷ commands) (one ∷ answers) command answer all it = (all.0, refused_more commands answers command answer all.1 it)
refused_more [] (one ∷ answers) command answer all it = absurd all
refused_more (first ∷ commands) [] command answer all it = absurd all

run_left : (c : Conditions) (commands : List Command) (answers : List Answer) (before last : Holdings) → Run c before commands answers last → RunLeft c before commands answers last
run_left c [] [] before last run = run
run_left c (first ∷ commands) (told ∷ answers) before last run = inl (run.0, run.1, run_left c commands answers run.0 last run.2)
run_left c [] (told ∷ answers) before last run = absurd run
run_left c (first ∷ commands) [] before last run = absurd run

-- a command leaves what was held that is refused, or asks nothing of the store
still : (c : Conditions) (command : Command) (before later : Holdings) (answer : Answer) → TellsOrFails (Step c command) before answer later → IsRefused answer ⊎ (¬ AsksStore command) → later ≡ before
still c command before later answer (inl step) (inl refuses) = let told = step_told c command before answer later step in told.1 ∙ refused_still c command before answer told.0 refuses
still c command before later answer (inl step) (inr not) = unasked_still c command before later answer not step
still c command before later answer (inr failed) why = failed.1

-- so it is refused, where it asks the store
refused_so : (command : Command) (answer : Answer) → IsRefused answer ⊎ (¬ AsksStore command) → AsksStore command → IsRefused answer
refused_so command answer (inl refuses) asks = refuses
refused_so command answer (inr not) asks = absurd (not asks)

-- by a command that is refused, or asks nothing of the store
left_more : (c : Conditions) (commands : List Command) (answers : List Answer) (before last later : Holdings) (command : Command) (answer : Answer) → RunLeft c before commands answers last → IsRefused answer ⊎ (¬ AsksStore command)
    → TellsOrFails (Step c command) last answer later → RunLeft c before (commands ++ command ∷ []) (answers ++ answer ∷ []) later
left_more c [] [] before last later command answer left refuses told = inl (later, subst (λ held. TellsOrFails (Step c command) held answer later) left told, refl)
left_more c (first ∷ commands) (one ∷ answers) before last later command answer (inl left) refuses told = inl (left.0, left.1, left_more c commands answers left.0 last later command answer left.2 refuses told)
left_more c (first ∷ commands) (one ∷ answers) before last later command answer (inr left) refuses told =
    inr (left.0, refused_more commands answers command answer left.1 (refused_so command answer refuses), (left.2.0, subst (Step c first before left.2.0) (sym (still c command last later answer told refuses)) left.2.1))
left_more c [] (one ∷ answers) before last later command answer left refuses told = absurd left
left_more c (first ∷ commands) [] before last later command answer left refuses told = absurd left

-- by a command whose store failed
left_failed : (c : Conditions) (commands : List Command) (answers : List Answer) (before mid later : Holdings) (command : Command) (answer told : Answer) → Run c before commands answers mid
    → answer ≡ refused store_failed → Step c command mid told later → RunLeft c before (commands ++ command ∷ []) (answers ++ answer ∷ []) later
left_failed c [] [] before mid later command answer told run is step = inr (is, tt, (told, subst (λ held. Step c command held told later) run step))
left_failed c (first ∷ commands) (one ∷ answers) before mid later command answer told run is step = inl (run.0, run.1, left_failed c commands answers run.0 mid later command answer told run.2 is step)
left_failed c [] (one ∷ answers) before mid later command answer told run is step = absurd run
left_failed c (first ∷ commands) [] before mid later command answer told run is step = absurd run

pub is_store : (why : Refusal) → (why ≡ refusal.Store) ⊎ (why ≢ refusal.Store)
is_store refusal.Store = inl refl
is_store _ = inr (λ is. cc)

-- after one command
pub did_endures : (c : Conditions) (command : Command) (old new : State) (result : Result Reply Refusal) → HasCleanDisk new → IsDurable new → AsksOrStays command old new result → Survives old new (CommitsCommand c command old)
    → ServesCommand c command old new result → Endures (Step c command) old new result
did_endures c command old new result clean durable (inl asked) survives serves = endures (Step c command) old new result clean durable (asked.1.accepted clean) (asked.1.endures clean) survives serves
did_endures c command old new result clean durable (inr same) survives serves =
    endures_still (Step c command) old new result same.1.no_more (λ before later answer. unasked_still c command before later answer same.0) serves

module _ (c : Conditions) (old now next : State) (commands : List Command) (answers : List Answer) (command : Command) where
  -- what is left of these holdings
  abbrev IsLeft : List Command → List Answer → State → Holdings → Trees → Type 0
  IsLeft all told new before db = (last : Holdings) × RunLeft c before all told last × Stands db last × Keeps new last

  -- by a command that is refused, or asks nothing of the store, on a connection that is shut then
  as_before : (result : Result Reply Refusal) → (IsTrue next.is_open → ⊥) → ServesCommand c command now next result → IsRefused (answer_of result) ⊎ (¬ AsksStore command) → (before : Holdings) (db : Trees)
      → IsLeft commands answers now before db → IsLeft (commands ++ command ∷ []) (answers ++ answer_of result ∷ []) next before db
  as_before result shut serves why before db was =
      let served = serves was.0 was.3 in
      let same : served.0 ≡ was.0 = still c command was.0 served.0 (answer_of result) served.1 why in (
        served.0,
        left_more c commands answers before was.0 served.0 command (answer_of result) was.1 why served.1,
        subst (Stands db) (sym same) was.2,
        λ is_open. absurd (shut is_open),
      )

  -- on a connection that is shut then
  asked_more : (result : Result Reply Refusal) → (IsTrue next.is_open → ⊥) → Runs c commands answers old now → ServesCommand c command now next result → HasCleanDisk next
      → Commanded now next result → Survives now next (CommitsCommand c command now) → (before : Holdings) → Keeps old before
      → (db : Trees) → (now.may_leave db → IsLeft commands answers now before db) → next.may_leave db → IsLeft (commands ++ command ∷ []) (answers ++ answer_of result ∷ []) next before db
  asked_more (Ok reply) shut runs serves clean did survives before keeps db so_far left = absurd (shut (did.accepted clean).1)
  asked_more (Err why) shut runs serves clean did survives before keeps db so_far left = elim (survives.crash clean db left) [
    | inl was ↦ as_before (Err why) shut serves (inl (why_of why, refl)) before db (so_far was)
    | inr made ↦ elim (is_store why) [
      | inl is ↦
          let so = runs before keeps in
          let done = made so.0 so.2 in (
            done.1,
            left_failed c commands answers before so.0 done.1 command (refused (why_of why)) done.0 so.1 (ap (λ (w : Refusal). refused (why_of w)) is) done.2,
            done.4,
            λ is_open. absurd (shut is_open),
          )
      | inr other ↦ as_before (Err why) shut serves (inl (why_of why, refl)) before db (so_far (did.endures clean other db left))
    ]
  ]

  shut_more : (result : Result Reply Refusal) → (IsTrue next.is_open → ⊥) → Runs c commands answers old now → ServesCommand c command now next result → HasCleanDisk next
      → AsksOrStays command now next result → Survives now next (CommitsCommand c command now) → (before : Holdings) → Keeps old before
      → (db : Trees) → (now.may_leave db → IsLeft commands answers now before db) → next.may_leave db → IsLeft (commands ++ command ∷ []) (answers ++ answer_of result ∷ []) next before db
  shut_more result shut runs serves clean (inl asked) survives before keeps db so_far left = asked_more result shut runs serves clean asked.1 survives before keeps db so_far left
  shut_more result shut runs serves clean (inr same) survives before keeps db so_far left = as_before result shut serves (inr same.0) before db (so_far (same.1.no_more db left))

  pub crash_more : (result : Result Reply Refusal) → Runs c commands answers old now → Runs c (commands ++ command ∷ []) (answers ++ answer_of result ∷ []) old next → ServesCommand c command now next result
      → HasCleanDisk next → IsDurable next → AsksOrStays command now next result → Survives now next (CommitsCommand c command now)
      → EnduresRun c commands answers old now → EnduresRun c (commands ++ command ∷ []) (answers ++ answer_of result ∷ []) old next
  crash_more result runs more serves clean durable did survives so_far before keeps leaves db left = by_open next.is_open refl
    where
      by_open : (b : Bool) → next.is_open ≡ b → IsLeft (commands ++ command ∷ []) (answers ++ answer_of result ∷ []) next before db
      by_open true is_open =
          let end = more before keeps in (
            end.0,
            run_left c (commands ++ command ∷ []) (answers ++ answer_of result ∷ []) before end.0 end.1,
            subst (λ (trees : Trees). Stands trees end.0) (sym (durable is_open db left)) (keeps_stand next end.0 is_open end.2),
            end.2,
          )
      by_open false is_shut = shut_more result (λ is_open. absurd cc) runs serves clean did survives before keeps db (λ was. so_far before keeps leaves db was) left

-- A run goes on by one command.
use Rattle.zeb_engine.proofs.Cited.{List, [], ◌∷◌, ◌++◌, Result, Ok, Err, OnOk, OnErr, IsTrue, inl, inr, rules, refl, subst, sym, AllByRecursion, IsErr, Held, state, State, HasCleanDisk, Ghosts, ChangesNothing, nothing_then, Work, Command, Reply, Refusal, StaysOpen, Answer, answer_of, Conditions, Holdings, Run, AsksStore, NoneAsks, FindOpen, InTurn, Runs, ServesCommand}
use Rattle.zeb_engine.proofs.ServesLemmas.{on_ok}
use Rattle.zeb_engine.proofs.CommandedConnections.{AsksOrStays}

pub run_more : (c : Conditions) (commands : List Command) (answers : List Answer) (before mid last : Holdings) (command : Command) (answer : Answer) → Run c before commands answers mid → Run c mid (command ∷ []) (answer ∷ []) last
    → Run c before (commands ++ command ∷ []) (answers ++ answer ∷ []) last
run_more c [] [] before mid last command answer run took = subst (λ held. Run c held (command ∷ []) (answer ∷ []) last) run took
run_more c (first ∷ commands) (told ∷ answers) before mid last command answer run took = (run.0, run.1, run_more c commands answers run.0 mid last command answer run.2 took)
run_more c [] (told ∷ answers) before mid last command answer run took = absurd run
run_more c (first ∷ commands) [] before mid last command answer run took = absurd run

pub runs_more : (c : Conditions) (old now next : State) (commands : List Command) (answers : List Answer) (command : Command) (result : Result Reply Refusal) → Runs c commands answers old now
    → ServesCommand c command now next result → Runs c (commands ++ command ∷ []) (answers ++ answer_of result ∷ []) old next
runs_more c old now next commands answers command result runs serves before keeps =
    let so_far = runs before keeps in
    let served = serves so_far.0 so_far.2 in
    (served.0, run_more c commands answers before so_far.0 served.0 command (answer_of result) so_far.1 (served.0, served.1, refl), served.2)

-- ---- commands in turn

module _ {S : Type 0} (g : Ghosts S) (Does : Command → Result Reply Refusal → State → State → Work → Type 0) where
  pub one_turn_more : (old now next : Held S) (before counted work : Work) (command : Command) (result : Result Reply Refusal) → Does command result (state g now) (state g next) work
      → (commands : List Command) (results : List (Result Reply Refusal))
      → InTurn g Does commands results old before now counted → InTurn g Does (commands ++ command ∷ []) (results ++ result ∷ []) old before next work
  one_turn_more old now next before counted work command result does [] [] same =
      (next, work, subst (λ (h : Held S). Does command result (state g h) (state g next) work) same.0 does, (refl, refl))
  one_turn_more old now next before counted work command result does (c ∷ commands) (r ∷ results) turns =
      (turns.0, turns.1, turns.2, one_turn_more turns.0 now next turns.1 counted work command result does commands results turns.3)
  one_turn_more old now next before counted work command result does [] (r ∷ results) turns = absurd turns
  one_turn_more old now next before counted work command result does (c ∷ commands) [] turns = absurd turns

-- ---- commands that are all refused

all_last : {X : Type 0} (P : X → Type 0) (xs : List X) (x : X) → AllByRecursion P (xs ++ x ∷ []) → AllByRecursion P xs × P x
all_last P [] x all = (tt, all.0)
all_last P (y ∷ ys) x all = let rest = all_last P ys x all.1 in ((all.0, rest.0), rest.1)

on_err : {T E : Type 0} (r : Result T E) (P : Type 0) → IsErr r → OnErr r P → P
on_err (Ok x) P is p = search rules
on_err (Err e) P is p = p

pub refused_more : (old now next : State) (results : List (Result Reply Refusal)) (result : Result Reply Refusal) → (AllByRecursion IsErr results → ChangesNothing old now) → OnErr result (ChangesNothing now next)
    → AllByRecursion IsErr (results ++ result ∷ []) → ChangesNothing old next
refused_more old now next results result so_far refused all =
    let split = all_last IsErr results result all in
    nothing_then old now next (so_far split.0) (on_err result (ChangesNothing now next) split.1 refused)

-- ---- commands that are accepted

open_then : (old now next : State) (result : Result Reply Refusal) → (IsTrue now.is_open → IsTrue old.is_open) → OnOk result (StaysOpen now next) → OnErr result (ChangesNothing now next)
    → IsTrue next.is_open → IsTrue old.is_open
open_then old now next (Ok reply) was stays nothing is_open = was stays.0
open_then old now next (Err refusal) was stays nothing is_open = was (nothing is_open).0

module _ (old now next : State) (command : Command) (result : Result Reply Refusal) (clean : HasCleanDisk next) (was : IsTrue now.is_open → IsTrue old.is_open) where
  pub open_before : AsksOrStays command now next result → IsTrue next.is_open → IsTrue old.is_open
  open_before (inl asked) is_open = open_then old now next result was (asked.1.accepted clean) (asked.1.refused clean) is_open
  open_before (inr same) is_open = was (subst IsTrue same.1.is_open is_open)

  -- a command that asks nothing of the store leaves the connection open
  still_open : AsksOrStays command now next result → ¬ AsksStore command → IsTrue now.is_open → IsTrue next.is_open
  still_open (inl asked) not is_open = absurd (not asked.0)
  still_open (inr same) not is_open = subst IsTrue (sym same.1.is_open) is_open

  latest_open : AsksOrStays command now next result → AsksStore command → OnOk result (IsTrue old.is_open × (NoneAsks [] → IsTrue next.is_open))
  latest_open (inl asked) asks = on_ok result (StaysOpen now next) (IsTrue old.is_open × (NoneAsks [] → IsTrue next.is_open)) (λ both. (was both.0, λ none. both.1)) (asked.1.accepted clean)
  latest_open (inr same) asks = absurd (same.0 asks)

  pub open_more : AsksOrStays command now next result → (commands : List Command) (results : List (Result Reply Refusal)) → FindOpen commands results old now
      → FindOpen (commands ++ command ∷ []) (results ++ result ∷ []) old next
  open_more it [] [] so_far = (latest_open it, tt)
  open_more it [] (one ∷ results) so_far = absurd so_far
  open_more it (first ∷ commands) [] so_far = absurd so_far
  open_more it (first ∷ commands) (one ∷ results) so_far = (
    λ asks. on_ok one (IsTrue old.is_open × (NoneAsks commands → IsTrue now.is_open)) (IsTrue old.is_open × (NoneAsks (commands ++ command ∷ []) → IsTrue next.is_open))
        (λ both. (both.0, λ none. let split = all_last (λ c. ¬ AsksStore c) commands command none in still_open it split.1 (both.1 split.0))) (so_far.0 asks),
    open_more it commands results so_far.1,
  )

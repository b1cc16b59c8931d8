-- Rows that are read one at a time, beside what is expected of them.
use Rattle.zeb_register.proofs.Cited.{EndsIn, begins_shown, command_of, given_begin, unchanged_then, timed, Select, Database, HasBegun, HasGiven, Returns, Held, state, reads_listing, IsSourceOf, Row, Query, State, Fails, IsStatement, IsUnchanged, Error, Int, Compiled, CompileError, ◌≡◌, ◌↔◌, ◌⊎◌, ◌∙◌, ◌≤◌, ℕ, ℤ, Bool, true, false, IsTrue, IsSome, List, [], ◌∷◌, ◌++◌, length, map, drop, pos, Option, Some, None, Result, Ok, Err, MatchOption, inl, inr, refl, sym, ap, subst, append_assoc, append-nil, arith, Records, Postings, Blocks, Dict, ExpectedDatabase, KeyPosting, Store, ChangesNothing, MayRefuse, fault_of, record_shown, AsExpected, IsBlockBefore, IsInOrder, posting_shown, tree_of, TakeAll, IsRunBefore, Fits, rests_text, size_of, IsListOf, IsRest, IsStore, postings_tree, records_tree, store_schema}
use Rattle.sqlite.specs.Listing.{understood}
use Rattle.sqlite.specs.State.{FailsToQuery, Shown}
use Rattle.sqlite_trees.specs.declared.store.Store as store
use Rattle.zeb_register.specs.declared.agreeing.Table.{Table}
use Rattle.zeb_register.proofs.Calls.{IsSilent, never_returns, store_same}
use Rattle.zeb_register.proofs.ExpectedLists.{postings_rise, records_rise, rows_under, under_rows}
use Rattle.zeb_register.proofs.ExpectedStatements.{lists_blocks, lists_keys, lists_postings, postings_query, blocks_query, keys_query}
use Rattle.zeb_register.proofs.KeyRuns.{one_run, runs_all, runs_rest}
use Rattle.zeb_register.proofs.PackedBeside.{all_numbered, blocks_all, blocks_rest, drop_none, drop_over, map_none, one_before}
use Rattle.zeb_register.proofs.RecordStatements.{lists_all, all_query}
use Rattle.zeb_register.proofs.Refusals.{refused}
use Rattle.zeb_register.proofs.StatementForms.{alone}
use Rattle.zeb_register.proofs.YesNoAnswers.{told_so}

-- ---- a query that is read row by row

pub still : (s : State) → IsTrue s.is_open → IsUnchanged s s
still s open' = (record { was_open = open'; is_open = open'; now_is = refl; committed_is = refl; mode = refl }, record { changes = refl; last_rowid = refl }, refl)

module _ {S : Type 0} (g : store.Ghosts S) (sql : List ℕ) (params : Row) where
  never : IsSilent sql → (old : Held S) (r : Result Compiled CompileError) → understood old.schema sql ≡ r → ¬ Returns r
  never silent old (Ok c) is some = absurd (let none = subst IsSome (never_returns old.schema sql silent c is) some in let n : false ≡ true = none in cc)
  never silent old (Err e) is some = some

  pub begun_silent : IsSilent sql → (old new : Held S) → HasBegun g sql params old new → HasGiven g sql params new [] × IsUnchanged (state g old) (state g new)
  begun_silent silent old new (inl h) = h
  begun_silent silent old new (inr h) = absurd (never silent old (understood old.schema sql) refl h.0)

  ends : (q : Query) (names : List (List ℕ)) → command_of (understood store_schema sql) ≡ Select (alone q) names → (s : State) → IsStore s
      → (c : Compiled) (db : Database) (it : IsStatement s sql params c) → IsSourceOf (reads_listing s.now.schema sql) s.now db → EndsIn c.command db (timed params c.formats it.now)
  ends q names is s store c db it source =
      let same = sym is ∙ ap (λ d. command_of (understood d sql)) (sym store.is) ∙ ap command_of it.is in
      subst (λ k. EndsIn k db (timed params c.formats it.now)) same tt

  -- rows that were given are the first of the whole answer
  pub stopped : (q : Query) (names : List (List ℕ)) → command_of (understood store_schema sql) ≡ Select (alone q) names → (now : Held S) (given : List Row) → IsStore (state g now) → IsTrue (state g now).is_open
      → HasGiven g sql params now given → (tail : List Row) × Shown sql params (state g now) (state g now) (given ++ tail)
  stopped q names is now given store open' it = begins_shown sql params (state g now) (state g now) given (given_begin g sql params now given it) (still (state g now) open') (ends q names is (state g now) store)

pub same_nothing : (a b : State) → IsUnchanged a b → ChangesNothing a b
same_nothing a b it open' = (it.0.was_open, it.0.now_is, it.0.committed_is)

-- what is seen outside a transaction is what was committed, and so what a query goes back to that fails on its way
pub failed_nothing : (a b c : State) (e : Error) → IsUnchanged a b → Fails b c ⊥ e ⊎ IsUnchanged b c → (IsTrue a.is_open → a.now ≡ a.committed) → ChangesNothing a c
failed_nothing a b c e first (inr same) settled open' = let it = unchanged_then a b c first same in (it.0.was_open, it.0.now_is, it.0.committed_is)
failed_nothing a b c e first (inl failed) settled open' =
    let undone = failed.3.undone open' in
    (first.0.was_open, undone.0 ∙ first.0.committed_is ∙ sym (settled first.0.was_open), undone.1 ∙ first.0.committed_is)

-- ---- the queries

pub rests_silent : (t : Table) → IsSilent (rests_text t)
rests_silent Records = (all_query (pos 0)).silent
rests_silent Postings = (postings_query (pos 0)).silent
rests_silent Blocks = (blocks_query (pos 0)).silent
rests_silent Dict = (keys_query (pos 0)).silent

rests_is : (t : Table) → (q : Query) × (names : List (List ℕ)) × (command_of (understood store_schema (rests_text t)) ≡ Select (alone q) names)
rests_is Records = (_, _, (all_query (pos 0)).is)
rests_is Postings = (_, _, (postings_query (pos 0)).is)
rests_is Blocks = (_, _, (blocks_query (pos 0)).is)
rests_is Dict = (_, _, (keys_query (pos 0)).is)

lists_rests : (t : Table) (id : ℤ) (old new : State) (rows : List Row) → IsStore old → Shown (rests_text t) (Int id ∷ []) old new rows → IsListOf (IsRest (tree_of t) (Int id ∷ []) old.now.trees) rows
lists_rests Records = lists_all
lists_rests Postings = lists_postings
lists_rests Blocks = lists_blocks
lists_rests Dict = lists_keys

pub rests_refused : (t : Table) (id : ℤ) (old new : State) (e : Error) → IsStore old → fault_of e ≡ Store → FailsToQuery (rests_text t) (Int id ∷ []) old new e → MayRefuse old new
rests_refused Records id = refused (all_query id)
rests_refused Postings id = refused (postings_query id)
rests_refused Blocks id = refused (blocks_query id)
rests_refused Dict id = refused (keys_query id)

-- ---- one row more

-- where the list goes on behind a row
abbrev pub EndsAt : Table → ExpectedDatabase → Row → ℕ → Option ℕ → Type 0
EndsAt t d row at found =
    MatchOption found ((more : List Row) → ¬ Fits t d (row ∷ more) at) (λ end. (more : List Row) → Fits t d (row ∷ more) at ↔ Fits t d more end)

-- a row that takes its postings from the front does so in one way
taken_ends : (Before : Row → List KeyPosting → List KeyPosting → Type 0) → ((row : Row) (ps one two : List KeyPosting) → Before row ps one → Before row ps two → one ≡ two) → (ps : List KeyPosting) (row : Row) (at : ℕ) (found : Option ℕ)
    → MatchOption found ((rest : List KeyPosting) → ¬ Before row (drop at ps) rest) (λ end. Before row (drop at ps) (drop end ps))
    → MatchOption found ((more : List Row) → ¬ TakeAll Before (row ∷ more) (drop at ps)) (λ end. (more : List Row) → TakeAll Before (row ∷ more) (drop at ps) ↔ TakeAll Before more (drop end ps))
taken_ends Before one ps row at None none = λ more fits. none fits.0 fits.1
taken_ends Before one ps row at (Some end) it = λ more. (
  λ fits. subst (TakeAll Before more) (one row (drop at ps) fits.0 (drop end ps) fits.1 it) fits.2,
  λ later. (drop end ps, it, later),
)

pub block_ends : (d : ExpectedDatabase) (row : Row) (at : ℕ) (found : Option ℕ)
    → MatchOption found ((rest : List KeyPosting) → ¬ IsBlockBefore row (drop at d.postings.items) rest) (λ end. IsBlockBefore row (drop at d.postings.items) (drop end d.postings.items)) → EndsAt Blocks d row at found
block_ends d = taken_ends IsBlockBefore one_before d.postings.items

pub run_ends : (d : ExpectedDatabase) (row : Row) (at : ℕ) (found : Option ℕ)
    → MatchOption found ((rest : List KeyPosting) → ¬ IsRunBefore row (drop at d.postings.items) rest) (λ end. IsRunBefore row (drop at d.postings.items) (drop end d.postings.items)) → EndsAt Dict d row at found
run_ends d = taken_ends IsRunBefore one_run d.postings.items

over : {A B : Type 0} (f : A → B) (xs : List A) (at : ℕ) → at ≤ length xs → (at ≡ length xs) ↔ ([] ≡ map f (drop at xs))
over f xs at within = (
  λ whole. ap (map f) (sym (drop_over xs at (omega (arith, whole)))),
  λ none. let e = drop_none xs at (map_none f (drop at xs) (sym none)) in omega (arith, e, within),
)

-- no row is left to come just where the list is at its end
pub fits_none : (t : Table) (d : ExpectedDatabase) (at : ℕ) → at ≤ size_of t d → (at ≡ size_of t d) ↔ Fits t d [] at
fits_none Records d at within = over record_shown d.records.items at within
fits_none Postings d at within = over posting_shown d.postings.items at within
fits_none Blocks d at within = (
  λ whole. drop_over d.postings.items at (omega (arith, whole)),
  λ none. let e = drop_none d.postings.items at none in omega (arith, e, within),
)
fits_none Dict d at within = (
  λ whole. drop_over d.postings.items at (omega (arith, whole)),
  λ none. let e = drop_none d.postings.items at none in omega (arith, e, within),
)

-- what is so of the rows up to one, and of it
pub one_further : (t : Table) (d : ExpectedDatabase) (given : List Row) (row : Row) (more : List Row) (at end : ℕ) → ((more : List Row) → Fits t d (given ++ more) 0 ↔ Fits t d more at)
    → Fits t d (row ∷ more) at ↔ Fits t d more end → Fits t d ((given ++ row ∷ []) ++ more) 0 ↔ Fits t d more end
one_further t d given row more at end so one =
    let joined = append_assoc given (row ∷ []) more in (
      λ h. one.0 ((so (row ∷ more)).0 (subst (λ (l : List Row). Fits t d l 0) joined h)),
      λ h. subst (λ (l : List Row). Fits t d l 0) (sym joined) ((so (row ∷ more)).1 (one.1 h)),
    )

-- ---- what the answer tells

module _ {S : Type 0} (g : store.Ghosts S) (t : Table) (d : ExpectedDatabase) (id : ℤ) (old : State) (is_store : IsStore old) (now : Held S) (same : IsUnchanged old (state g now)) where
  abbrev pub Tells : Bool → Type 0
  Tells answer = (rows : List Row) × IsListOf (IsRest (tree_of t) (Int id ∷ []) old.now.trees) rows × (IsInOrder d → IsTrue answer ↔ Fits t d rows 0)

  listed : (new : State) (rows : List Row) → Shown (rests_text t) (Int id ∷ []) (state g now) new rows → IsListOf (IsRest (tree_of t) (Int id ∷ []) old.now.trees) rows
  listed new rows shown =
      subst (λ (db : Database). IsListOf (IsRest (tree_of t) (Int id ∷ []) db.trees) rows) same.0.now_is (lists_rests t id (state g now) new rows (store_same old (state g now) same.0.now_is is_store) shown)

  -- all rows were read
  pub tells_whole : (new : State) (given : List Row) (at : ℕ) (answer : Bool) → Shown (rests_text t) (Int id ∷ []) (state g now) new given
      → (IsInOrder d → (more : List Row) → Fits t d (given ++ more) 0 ↔ Fits t d more at) → IsTrue answer ↔ Fits t d [] at → Tells answer
  tells_whole new given at answer shown so is = (
    given,
    listed new given shown,
    λ order.
        let whole = subst (λ (l : List Row). Fits t d l 0 ↔ Fits t d [] at) (append-nil given) (so order []) in
        told_so (Fits t d [] at) (Fits t d given 0) answer (whole.1, whole.0) is,
  )

  -- a row was read that isn't the next
  pub tells_broken : (given : List Row) (row : Row) (at : ℕ) → HasGiven g (rests_text t) (Int id ∷ []) now (given ++ row ∷ [])
      → (IsInOrder d → (more : List Row) → Fits t d (given ++ more) 0 ↔ Fits t d more at) → (IsInOrder d → (more : List Row) → ¬ Fits t d (row ∷ more) at) → Tells false
  tells_broken given row at it so none =
      let known = rests_is t in
      let all = stopped g (rests_text t) (Int id ∷ []) known.0 known.1 known.2 now (given ++ row ∷ []) (store_same old (state g now) same.0.now_is is_store) same.0.is_open it in
      let rows : List Row = (given ++ row ∷ []) ++ all.0 in (
        rows,
        listed (state g now) rows all.1,
        λ order. (
          λ h. absurd (let e : false ≡ true = h in cc),
          λ fits. absurd (none order all.0 ((so order (row ∷ all.0)).0 (subst (λ (l : List Row). Fits t d l 0) (append_assoc given (row ∷ []) all.0) fits))),
        ),
      )

-- the rows are those of the whole list just where the table is as expected
pub fits_expected : (t : Table) (s : State) → IsStore s → (id : ℤ) (d : ExpectedDatabase) → IsInOrder d → (rows : List Row) → IsListOf (IsRest (tree_of t) (Int id ∷ []) s.now.trees) rows → Fits t d rows 0 ↔ AsExpected t id d s.now.trees
fits_expected Records s store id d order rows are = (
  λ fits. under_rows records_tree id s.now.trees rows (map record_shown d.records.items) are fits,
  λ has. rows_under records_tree id s.now.trees rows (map record_shown d.records.items) are (records_rise _ order.0) has,
)
fits_expected Postings s store id d order rows are = (
  λ fits. under_rows postings_tree id s.now.trees rows (map posting_shown d.postings.items) are fits,
  λ has. rows_under postings_tree id s.now.trees rows (map posting_shown d.postings.items) are (postings_rise _ order.1) has,
)
fits_expected Blocks s store id d order rows are = (
  λ all. (all_numbered s store id d.postings.items order.1 rows are all, blocks_rest s store id d.postings.items order.1 rows are all),
  λ has. blocks_all s store id d.postings.items order.1 rows are has.0 has.1,
)
fits_expected Dict s store id d order rows are = (
  λ fits row.
      let rest = runs_rest rows d.postings.items order.1 fits row in (
        λ h. rest.0 ((are.each row).1 h),
        λ h. (are.each row).0 (rest.1 h),
      ),
  λ has. runs_all rows d.postings.items order.1 are.rising (λ r. ((λ h. (has r).0 ((are.each r).0 h)), λ h. (are.each r).1 ((has r).1 h))),
)

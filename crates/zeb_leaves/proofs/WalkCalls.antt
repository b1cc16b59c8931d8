-- The rows of a database, read one at a time beside the postings that are left.
use Rattle.zeb_leaves.proofs.Cited.{Row, State, state, Int, ◌≡◌, ◌↔◌, ◌++◌, ◌∷◌, ℕ, ℤ, pos, List, [], Option, Some, None, sym, subst, IsRest, IsStore, blocks_tree, Database, FailsToQuery, IsUnchanged, Shown, AreWalked, Leaf, TakeEntries, TakesLeaf, HasGiven, blocks_query, lists_blocks, refused, stopped, MayRefuse, IsListOf, KeyPosting, Store}
use Rattle.std.proofs.Common.{Bool, true, false, append_assoc, append-nil}
use Rattle.std.specs.Bool.{IsTrue}
use Rattle.sqlite.specs.Held.{Held}
use Rattle.sqlite.specs.declared.error.Error.{Error}
use Rattle.sqlite_trees.specs.declared.store.Store as store
use Rattle.zeb_leaves.proofs.AgreeingEnds.{taken_once}
use Rattle.zeb_leaves.proofs.DatabaseRows.{one_leaf_shown}
use Rattle.zeb_leaves.specs.declared.agreeing_walk.TheConstants.{LEAVES}
use Rattle.zeb_register.proofs.Calls.{IsSilent, store_same}
use Rattle.zeb_register.proofs.YesNoAnswers.{told_so}
use Rattle.zeb_register.specs.Faults.{fault_of}

-- ---- the query

abbrev pub text : List ℕ
text = LEAVES.now

pub walk_silent : IsSilent text
walk_silent = (blocks_query (pos 0)).silent

pub walk_refused : (id : ℤ) (old new : State) (e : Error) → IsStore old → fault_of e ≡ Store → FailsToQuery text (Int id ∷ []) old new e → MayRefuse old new
walk_refused id = refused (blocks_query id)

-- ---- one row more

-- a leaf that takes its postings from the front does so in one way
one_step : (before : Option Leaf) (row : Row) (more : List Row) (leaf : Leaf) (left rest : List KeyPosting) → TakesLeaf before row leaf left rest → AreWalked before (row ∷ more) left ↔ AreWalked (Some leaf) more rest
one_step before row more leaf left rest takes = (
  λ walked.
      let same = one_leaf_shown row walked.0 leaf walked.2.shows takes.shows in
      let own = subst (λ (l : Leaf). TakeEntries l.key l.entries left walked.1) same walked.2.takes in
      let rests = taken_once leaf.key leaf.entries left walked.1 rest own takes.takes in
      subst (λ l. AreWalked (Some leaf) more l) rests (subst (λ (l : Leaf). AreWalked (Some l) more walked.1) same walked.3),
  λ walked. (leaf, rest, takes, walked),
)

-- the rows that were given, and more, are walked just where more are behind them
abbrev pub GoesOn : List KeyPosting → List Row → Option Leaf → List KeyPosting → Type 0
GoesOn postings given before left = (more : List Row) → AreWalked None (given ++ more) postings ↔ AreWalked before more left

pub walk_further : (postings : List KeyPosting) (given : List Row) (row : Row) (before : Option Leaf) (leaf : Leaf) (left rest : List KeyPosting) → GoesOn postings given before left → TakesLeaf before row leaf left rest → GoesOn postings (given ++ row ∷ []) (Some leaf) rest
walk_further postings given row before leaf left rest so takes more =
    let joined = append_assoc given (row ∷ []) more in
    let one = one_step before row more leaf left rest takes in (
      λ h. one.0 ((so (row ∷ more)).0 (subst (λ (l : List Row). AreWalked None l postings) joined h)),
      λ h. subst (λ (l : List Row). AreWalked None l postings) (sym joined) ((so (row ∷ more)).1 (one.1 h)),
    )

-- no walk begins with these rows
abbrev pub Breaks : List KeyPosting → List Row → Type 0
Breaks postings given = (more : List Row) → ¬ AreWalked None (given ++ more) postings

-- as where a row was read that isn't the next
pub walk_breaks : (postings : List KeyPosting) (given : List Row) (row : Row) (before : Option Leaf) (left : List KeyPosting) → GoesOn postings given before left → ((leaf : Leaf) (rest : List KeyPosting) → ¬ TakesLeaf before row leaf left rest)
    → Breaks postings (given ++ row ∷ [])
walk_breaks postings given row before left so none more walked =
    let it = (so (row ∷ more)).0 (subst (λ (l : List Row). AreWalked None l postings) (append_assoc given (row ∷ []) more) walked) in
    none it.0 it.1 it.2

-- ---- what the answer tells

module _ {S : Type 0} (g : store.Ghosts S) (postings : List KeyPosting) (id : ℤ) (old : State) (is_store : IsStore old) (now : Held S) (same : IsUnchanged old (state g now)) where
  abbrev pub Tells : Bool → Type 0
  Tells answer = (rows : List Row) × IsListOf (IsRest blocks_tree (Int id ∷ []) old.now.trees) rows × (IsTrue answer ↔ AreWalked None rows postings)

  listed : (new : State) (rows : List Row) → Shown text (Int id ∷ []) (state g now) new rows → IsListOf (IsRest blocks_tree (Int id ∷ []) old.now.trees) rows
  listed new rows shown =
      subst (λ (db : Database). IsListOf (IsRest blocks_tree (Int id ∷ []) db.trees) rows) same.0.now_is (lists_blocks id (state g now) new rows (store_same old (state g now) same.0.now_is is_store) shown)

  -- no row is left
  pub walk_whole : (new : State) (given : List Row) (before : Option Leaf) (left : List KeyPosting) (answer : Bool) → Shown text (Int id ∷ []) (state g now) new given → GoesOn postings given before left → IsTrue answer ↔ (left ≡ []) → Tells answer
  walk_whole new given before left answer shown so is = (
    given,
    listed new given shown,
    let whole = subst (λ (l : List Row). AreWalked None l postings ↔ (left ≡ [])) (append-nil given) (so []) in
        told_so (left ≡ []) (AreWalked None given postings) answer (whole.1, whole.0) is,
  )

  -- no walk begins with those that were read
  pub walk_broken : (given : List Row) → HasGiven g text (Int id ∷ []) now given → Breaks postings given → Tells false
  walk_broken given it breaks =
      let all = stopped g text (Int id ∷ []) _ _ (blocks_query (pos 0)).is now given (store_same old (state g now) same.0.now_is is_store) same.0.is_open it in
      (given ++ all.0, listed (state g now) (given ++ all.0) all.1, (λ h. absurd (let e : false ≡ true = h in cc), λ walked. absurd (breaks all.0 walked)))

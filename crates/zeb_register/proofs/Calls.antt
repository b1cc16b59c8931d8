-- What each call on the tables does to a connection, whatever its text is.
use Rattle.zeb_register.proofs.Cited.{unchanged_then, survives_weaker, timed, Command, first, with_command, small, Database, IsDatabase, reads_listing, listing_schema, is_select, if_select, Row, Schema, State, HasCleanDisk, IsUnchanged, IsRolledBack, KeepsCommit, Survives, Executes, ExecutesInside, ShowsRows, FailsToShow, IsTooLate, Trees, Error, and_then, Compiled, CompileError, ◌≡◌, ◌≢◌, ◌⊎◌, ◌+◌, ℕ, List, [], ◌∷◌, true, false, not, Bool, IsTrue, None, IsSome, Result, Ok, Err, OnOk, OnErr, IfOk, IfErr, inl, inr, refl, sym, ap, subst, ◌∙◌, arith, cases_Bool, AllByRecursion, Table, timed_in, store_schema, IsKeyed, KeepsOthers, IsListOf, IsStore, Changes, GoesOn, OnlyReads, ChangesNothing, Alters, Inside, Reading, Ran, ListsInside, ReadsInside}
use Rattle.sqlite.specs.Compile.{compiled, returning, planned, meaning, command}
use Rattle.sqlite.specs.Listing.{understood}
use Rattle.sqlite.specs.State.{Shown, FailsToQuery, IsNotRun, CommitsShowing}
use Rattle.zeb_register.proofs.WrittenRows.{same_value}
use Rattle.zeb_register.proofs.CallsInTurn.{inside_keeps, quiet_then}
pub use Rattle.zeb_register.specs.Queries.{IsSilent}

-- any number of writes inside a transaction, none too
pub record Stays (old new : State) : Type 0 where
  pub kept : KeepsCommit old new
  pub open_still : IsTrue old.is_open → IsTrue new.is_open
  pub inside : IsTrue new.in_transaction

-- ---- a text that is a query under every schema

pub got : {A B : Type 0} (r : Result A CompileError) (f : A → Result B CompileError) (b : B) → and_then r f ≡ Ok b → (a : A) × (r ≡ Ok a) × (f a ≡ Ok b)
got (Ok a) f b h = (a, refl, h)
got (Err e) f b h = absurd (cc)

silent_compiled : (schema : Schema) (text : List ℕ) → IsSilent text → (c : Compiled) → compiled schema text ≡ Ok c → c.returning ≡ None
unfolding compiled planned meaning
silent_compiled schema text silent c =
    elim (first text) as (λ r. ((base : ℕ) → and_then r (λ p. returning schema base p.statement) ≡ Ok None) → and_then r (λ p. and_then (planned schema p) (λ plan. Ok (with_command p plan))) ≡ Ok c → c.returning ≡ None) [
      | Err e ↦ λ quiet is. absurd (let h = quiet 0 in cc)
      | Ok p ↦ λ quiet is.
          let plan = got (planned schema p) _ c is in
          let found = got _ _ plan.0 plan.1 in
          let shown = got _ _ found.0 found.1 in
          let last = got {A = Command} (command schema p.formats (small p.names + small (timed_in schema p.formats p.statement)) p.statement) _ found.0 shown.2 in
          let none = same_value (sym shown.1 ∙ quiet _) in
          ap (λ (k : Compiled). k.returning) (sym (same_value plan.2)) ∙ ap (λ k. k.1.1) (sym (same_value found.2)) ∙ ap (λ k. k.1) (sym (same_value last.2)) ∙ none
    ] (silent schema)

silent_selected : (schema : Schema) (text : List ℕ) → IsSilent text → (c : Compiled) → if_select (compiled schema text) ≡ Ok c → c.returning ≡ None
silent_selected schema text silent c is = from (compiled schema text) refl is
  where
    from : (r : Result Compiled CompileError) → compiled schema text ≡ r → if_select r ≡ Ok c → c.returning ≡ None
    from (Err e) same h = absurd (cc)
    from (Ok k) same h = elim (cases_Bool (is_select k.command)) [
      | inl yes' ↦ let it : k ≡ c = same_value (rw yes' at h) in ap (λ (x : Compiled). x.returning) (sym it) ∙ silent_compiled schema text silent k same
      | inr no' ↦ absurd (let e = rw no' at h in cc)
    ]

pub never_returns : (schema : Schema) (text : List ℕ) → IsSilent text → (c : Compiled) → understood schema text ≡ Ok c → c.returning ≡ None
unfolding understood
never_returns schema text silent c is = elim (cases_Bool (reads_listing schema text)) [
  | inl listing ↦ silent_selected listing_schema text silent c (rw listing at is)
  | inr plain ↦ silent_compiled schema text silent c (rw plain at is)
]

-- ---- queries

pub shown_alone : (sql : List ℕ) (params : Row) (old new : State) (rows : List Row) → IsSilent sql → Shown sql params old new rows → IsUnchanged old new
unfolding Shown
shown_alone sql params old new rows silent h = (subst (ShowsRows old new sql h.0 (timed params h.0.formats h.1.now) rows) (never_returns old.now.schema sql silent h.0 h.1.is) h.2).3

rolled_back : (old new : State) (sql : List ℕ) (params : Row) (e : Error) → IsNotRun old new sql params e → IsUnchanged old new ⊎ IsRolledBack old new
unfolding IsNotRun
rolled_back old new sql params e (inl kept) = inl kept.1
rolled_back old new sql params e (inr failed) = inr failed.3

pub fails_alone : (sql : List ℕ) (params : Row) (old new : State) (e : Error) → IsSilent sql → FailsToQuery sql params old new e → IsUnchanged old new ⊎ IsRolledBack old new
unfolding FailsToQuery
fails_alone sql params old new e silent (inl kept) = rolled_back old new sql params e kept
fails_alone sql params old new e silent (inr h) = inl (subst (FailsToShow old new sql h.0 (timed params h.0.formats h.1.now) e) (never_returns old.now.schema sql silent h.0 h.1.is) h.2).3

-- a query commits nothing
pub quiet : (sql : List ℕ) (params : Row) (old new : State) → IsSilent sql → Survives old new (CommitsShowing sql params old) → Survives old new (λ _. ⊥)
unfolding CommitsShowing
quiet sql params old new silent = survives_weaker old new _ _ (λ clean db h. let none = subst IsSome (never_returns old.now.schema sql silent h.0 h.1.is) h.2 in absurd (let n : false ≡ true = none in cc))

-- ---- queries outside a transaction

same_nothing : (old new : State) → IsUnchanged old new → ChangesNothing old new
same_nothing old new same open' = (same.0.was_open, same.0.now_is, same.0.committed_is)

-- what is seen outside a transaction is what was committed, and so what a refused query goes back to
pub nothing : {A : Type 0} (rows : A → List Row) (sql : List ℕ) (params : Row) (old new : State) (r : Result A Error) (auto : Bool) → IsSilent sql → auto ≡ not old.in_transaction
    → (IsTrue auto → IsTrue old.is_open → old.now ≡ old.committed) → IfOk r (λ x. Shown sql params old new (rows x)) → IfErr r (FailsToQuery sql params old new) → old.in_transaction ≡ false → ChangesNothing old new
nothing rows sql params old new (Ok x) auto silent is settled shown failed idle = same_nothing old new (shown_alone sql params old new (rows x) silent shown)
nothing rows sql params old new (Err e) auto silent is settled shown failed idle = elim (fails_alone sql params old new e silent failed) [
  | inl same ↦ same_nothing old new same
  | inr back ↦ λ open'.
      let was = back.was_open open' in
      let undone = back.undone open' in
      (was, undone.0 ∙ sym (settled (is ∙ ap not idle) was), undone.1)
]

pub shown_each : {A : Type 0} (rows : A → List Row) (sql : List ℕ) (params : Row) (old new : State) (r : Result A Error) → IsSilent sql → IfOk r (λ x. Shown sql params old new (rows x)) → IfOk r (λ _. IsUnchanged old new)
shown_each rows sql params old new (Ok x) silent shown = shown_alone sql params old new (rows x) silent shown
shown_each rows sql params old new (Err e) silent shown = tt

-- ---- queries inside a transaction

pub alone_inside : (sql : List ℕ) (params : Row) (old new : State) (rows : List Row) → IsSilent sql → Shown sql params old new rows → IsTrue old.in_transaction → OnlyReads old new
alone_inside sql params old new rows silent shown inside =
    let same = shown_alone sql params old new rows silent shown in
    record { was_open = same.0.was_open; is_open = same.0.is_open; now_is = same.0.now_is; committed_is = same.0.committed_is; mode = same.0.mode ∙ inside }

pub lists_inside : {A : Type 0} (rows : A → List Row) (P : Trees → Row → Type 0) (sql : List ℕ) (params : Row) (old new : State) (r : Result A Error) → IsSilent sql → IfOk r (λ x. Shown sql params old new (rows x))
    → ((all : List Row) → IsStore old → Shown sql params old new all → IsListOf (P old.now.trees) all) → IsTrue old.in_transaction → IfOk r (λ x. ListsInside P old new (rows x))
lists_inside rows P sql params old new (Ok x) silent shown means inside = (alone_inside sql params old new (rows x) silent shown inside, λ store. means (rows x) store shown)
lists_inside rows P sql params old new (Err e) silent shown means inside = tt

-- the same for what is said of all rows at once
pub read_inside : {A : Type 0} (rows : A → List Row) (P : Trees → List Row → Type 0) (sql : List ℕ) (params : Row) (old new : State) (r : Result A Error) → IsSilent sql → IfOk r (λ x. Shown sql params old new (rows x))
    → ((all : List Row) → IsStore old → Shown sql params old new all → P old.now.trees all) → IsTrue old.in_transaction → IfOk r (λ x. ReadsInside P old new (rows x))
read_inside rows P sql params old new (Ok x) silent shown means inside = (alone_inside sql params old new (rows x) silent shown inside, λ store. means (rows x) store shown)
read_inside rows P sql params old new (Err e) silent shown means inside = tt

unchanged_keeps : (old new : State) → IsUnchanged old new → KeepsCommit old new
unchanged_keeps old new same = record { was_open = λ _. same.0.was_open; committed = λ _. same.0.committed_is }

pub query_keeps : {A : Type 0} (sql : List ℕ) (params : Row) (old new : State) (r : Result A Error) → IsSilent sql → IfErr r (λ e. FailsToQuery sql params old new e ⊎ IsTooLate sql params old new e) → OnErr r (KeepsCommit old new)
query_keeps sql params old new (Ok x) silent failed = tt
query_keeps sql params old new (Err e) silent (inl failed) = elim (fails_alone sql params old new e silent failed) [
  | inl same ↦ unchanged_keeps old new same
  | inr back ↦ record { was_open = back.was_open; committed = λ open'. (back.undone open').1 }
]
query_keeps sql params old new (Err e) silent (inr late) = unchanged_keeps old new late.5

-- ---- writes

pub alters : (tree : ℕ) (Rows : ℕ → Trees → Trees → Type 0) (sql : List ℕ) (params : Row) (old new : State) (r : Result ℕ Error) → ExecutesInside 0 sql params old new r
    → ((count : ℕ) → IsStore old → Executes sql params old new (Ok count) → Changes tree Rows old new) → OnOk r (Alters tree Rows old new)
alters tree Rows sql params old new (Ok count) ran means = record { on = ran.1; rows = λ store. means count store ran.0 }
alters tree Rows sql params old new (Err e) ran means = tt

-- what follows of a statement that was carried out
pub carried_out : (P : Type 0) (sql : List ℕ) (params : Row) (old new : State) (r : Result ℕ Error) → ExecutesInside 0 sql params old new r → ((count : ℕ) → Executes sql params old new (Ok count) → P) → OnOk r P
carried_out P sql params old new (Ok count) ran means = means count ran.0
carried_out P sql params old new (Err e) ran means = tt

pub refused_keeps : (sql : List ℕ) (params : Row) (old new : State) (r : Result ℕ Error) → ExecutesInside 0 sql params old new r → OnErr r (KeepsCommit old new)
refused_keeps sql params old new (Ok count) ran = tt
refused_keeps sql params old new (Err e) ran = inside_keeps sql params old new (Err e) ran

-- what a statement that was carried out makes of a table
pub written : {A E : Type 0} {sql : List ℕ} {params : Row} (tree : ℕ) (Rows : ℕ → Trees → Trees → Type 0) (old new : State) (r : Result A E) → ((count : ℕ) → IsStore old → Executes sql params old new (Ok count) → Changes tree Rows old new)
    → Ran sql params old new r → Inside old new r (λ _. Alters tree Rows)
written tree Rows old new (Ok x) means it = record { ok = λ clean inside. let ran = it.ok clean inside in record { on = ran.2; rows = λ store. means ran.0 store ran.1 }; err = λ clean inside. tt; crash = it.crash }
written tree Rows old new (Err e) means it = record { ok = λ clean inside. tt; err = it.err; crash = it.crash }

-- ---- one call after the other

pub stays_still : (s : State) → IsTrue s.in_transaction → Stays s s
stays_still s inside = record { kept = record { was_open = λ o. o; committed = λ _. refl }; open_still = λ o. o; inside = inside }

pub stays_then : (a b c : State) → Stays a b → GoesOn b c → Stays a c
stays_then a b c before next = record {
  kept = record { was_open = λ _. before.kept.was_open next.was_open; committed = λ _. next.committed_is ∙ before.kept.committed next.was_open };
  open_still = λ _. next.is_open;
  inside = next.mode;
}

pub nothing_still : (s : State) → ChangesNothing s s
nothing_still s o = (o, refl, refl)

pub nothing_then : (a b c : State) → ChangesNothing a b → ChangesNothing b c → ChangesNothing a c
nothing_then a b c before next o =
    let later = next o in
    let first = before later.0 in
    (first.0, later.1 ∙ first.1, later.2 ∙ first.2)

pub goes_then : (a b c : State) → GoesOn a b → GoesOn b c → GoesOn a c
goes_then a b c before next = record { was_open = before.was_open; is_open = next.is_open; now_is = refl; committed_is = next.committed_is ∙ before.committed_is; mode = next.mode }

pub reads_goes : (a b : State) → OnlyReads a b → GoesOn a b
reads_goes a b reads = record { was_open = reads.was_open; is_open = reads.is_open; now_is = refl; committed_is = reads.committed_is; mode = reads.mode }

pub goes_keeps : (a b c : State) → GoesOn a b → KeepsCommit b c → KeepsCommit a c
goes_keeps a b c before next = record { was_open = λ _. before.was_open; committed = λ o. next.committed o ∙ before.committed_is }

pub reads_keeps : (a b : State) → OnlyReads a b → KeepsCommit a b
reads_keeps a b reads = record { was_open = λ _. reads.was_open; committed = λ _. reads.committed_is }

pub on_err : {A E : Type 0} (r : Result A E) (P : Type 0) → P → OnErr r P
on_err (Ok x) P p = tt
on_err (Err e) P p = p

-- ---- the same tables after a call that changes nothing

pub store_same : (a b : State) → b.now ≡ a.now → IsStore a → IsStore b
store_same a b same store = record {
  is = ap (λ (d : Database). d.schema) same ∙ store.is;
  sound = subst IsDatabase (sym same) store.sound;
  keyed = subst (λ (d : Database). AllByRecursion (λ t. IsKeyed (d.trees t.tree)) store_schema.tables) (sym same) store.keyed;
}

pub changes_after : (tree : ℕ) (Rows : ℕ → Trees → Trees → Type 0) (a b c : State) → OnlyReads a b → IsTrue a.in_transaction → Changes tree Rows b c → Changes tree Rows a c
changes_after tree Rows a b c reads inside done = record {
  layout = done.layout;
  mode = done.mode ∙ reads.mode ∙ sym inside;
  rows = subst (λ (d : Database). Rows tree d.trees c.now.trees) reads.now_is done.rows;
  others = subst (λ (d : Database). KeepsOthers store_schema tree d.trees c.now.trees) reads.now_is done.others;
}

pub changes_so : (tree : ℕ) (P Q : ℕ → Trees → Trees → Type 0) (a b : State) → (P tree a.now.trees b.now.trees → Q tree a.now.trees b.now.trees) → Changes tree P a b → Changes tree Q a b
changes_so tree P Q a b so done = record { layout = done.layout; mode = done.mode; rows = so done.rows; others = done.others }

others_then : (tables : List Table) (tree : ℕ) (a b c : Trees) → AllByRecursion (λ t. t.tree ≢ tree → b t.tree ≡ a t.tree) tables → AllByRecursion (λ t. t.tree ≢ tree → c t.tree ≡ b t.tree) tables
    → AllByRecursion (λ t. t.tree ≢ tree → c t.tree ≡ a t.tree) tables
others_then [] tree a b c one two = tt
others_then (t ∷ tables) tree a b c one two = (λ other. two.0 other ∙ one.0 other, others_then tables tree a b c one.1 two.1)

others_none : (tables : List Table) (tree : ℕ) (a : Trees) → AllByRecursion (λ t. t.tree ≢ tree → a t.tree ≡ a t.tree) tables
others_none [] tree a = tt
others_none (t ∷ tables) tree a = (λ other. refl, others_none tables tree a)

-- a table is written twice, or not at all
pub changes_then : (tree : ℕ) (P Q R : ℕ → Trees → Trees → Type 0) (a b c : State) → (P tree a.now.trees b.now.trees → Q tree b.now.trees c.now.trees → R tree a.now.trees c.now.trees)
    → Changes tree P a b → Changes tree Q b c → Changes tree R a c
changes_then tree P Q R a b c so one two = record {
  layout = two.layout;
  mode = two.mode ∙ one.mode;
  rows = so one.rows two.rows;
  others = others_then store_schema.tables tree a.now.trees b.now.trees c.now.trees one.others two.others;
}

pub changes_none : (tree : ℕ) (P : ℕ → Trees → Trees → Type 0) (a : State) → P tree a.now.trees a.now.trees → IsStore a → Changes tree P a a
changes_none tree P a so store = record { layout = store; mode = refl; rows = so; others = others_none store_schema.tables tree a.now.trees }

pub alters_so : (tree : ℕ) (P Q : ℕ → Trees → Trees → Type 0) (a b : State) → (P tree a.now.trees b.now.trees → Q tree a.now.trees b.now.trees) → Alters tree P a b → Alters tree Q a b
alters_so tree P Q a b so done = record { on = done.on; rows = λ store. changes_so tree P Q a b so (done.rows store) }

pub inside_so : {A E : Type 0} (old new : State) (r : Result A E) (P Q : A → State → State → Type 0) → ((a : A) → P a old new → Q a old new) → Inside old new r P → Inside old new r Q
inside_so old new (Ok a) P Q so it = record { ok = λ clean inside. so a (it.ok clean inside); err = it.err; crash = it.crash }
inside_so old new (Err e) P Q so it = record { ok = it.ok; err = it.err; crash = it.crash }

pub on_err_so : {A E : Type 0} (r : Result A E) (P Q : Type 0) → (P → Q) → OnErr r P → OnErr r Q
on_err_so (Ok a) P Q so h = tt
on_err_so (Err e) P Q so h = so h

pub on_ok_so : {A E : Type 0} (r : Result A E) (P Q : Type 0) → (P → Q) → OnOk r P → OnOk r Q
on_ok_so (Ok a) P Q so h = so h
on_ok_so (Err e) P Q so h = tt

-- ---- one reading call after the other

-- a query that was accepted, behind calls that changed nothing
pub reading_behind : {A B E F : Type 0} (a b c : State) (x : A) (y : B) (Shown : A → State → State → Type 0) → (a.in_transaction ≡ false → b.in_transaction ≡ false) → (HasCleanDisk b → IsUnchanged a b)
    → (HasCleanDisk b → a.in_transaction ≡ false → ChangesNothing a b) → Survives a b (λ _. ⊥) → Reading {E = E} b c (Ok x) Shown → (Shown x b c → IsUnchanged b c)
    → Reading {E = F} a c (Ok y) (λ _. IsUnchanged)
reading_behind a b c x y Shown idle ok same crash next bare = record {
  idle = λ i. next.idle (idle i);
  ok = λ clean. unchanged_then a b c (ok (omega (arith, next.crash.clean))) (bare (next.ok clean));
  same = λ clean i. nothing_then a b c (same (omega (arith, next.crash.clean)) i) (next.same clean (idle i));
  crash = quiet_then a b c crash next.crash;
}

-- CREATE TABLE IF NOT EXISTS under any schema: each table that is there stays, with its rows.
use Rattle.zeb_register.proofs.Cited.{timed, Command, CreateTable, Nothing, first, with_command, small, is_attached, lacks_sequence, Database, reads_listing, listing_schema, is_select, if_select, Row, Schema, State, Runs, Writes, Executes, shows_rows, Statement, CreatesTable, and_then, Compiled, CompileError, Unsupported, all_has, has_left, Has, table_named, index_named, view_named, ◌≡◌, ◌⊎◌, ◌+◌, ℕ, Bool, true, false, not, ◌&&◌, ◌==◌, if◌then◌else◌, List, [], length, None, Result, Ok, Err, refl, sym, ap, subst, ◌∙◌, inl, inr, cases_Bool, option_or, Written, Table, creates, timed_in, KeepsTables}
use Rattle.sqlite.specs.Compile.{compiled, returning, planned, meaning, command, create_table}
use Rattle.sqlite.specs.Listing.{understood}
use Rattle.sqlite.specs.State.{ExecutesIn}
use Rattle.sqlite_ast.specs.declared.Statement.TheVariants as written
use Rattle.sqlite_resolve.specs.Define as define
use Rattle.sqlite.specs.State.{text_of}
use Rattle.zeb_register.proofs.Calls.{got}
use Rattle.zeb_register.proofs.WrittenRows.{went, same_value}

abbrev is_create : Statement → Bool
is_create (written.CreateTable def) = true
is_create _ = false

-- the text is one that makes a table
abbrev pub IsCreate : List ℕ → Type 0
IsCreate text = and_then (first text) (λ p. Ok (is_create p.statement)) ≡ Ok true

abbrev IsMaking : Command → Type 0
IsMaking c = (c ≡ CreateTable) ⊎ (c ≡ Nothing)

-- what is left of the meaning of the text, once its parts are known
makes_or_not : (attached : Bool) (is_new : Result Bool CompileError) (made : Result Table CompileError) (is_fine : Table → Bool) (c : Command)
    → (if attached then Err Unsupported else and_then is_new (λ n. if n then and_then made (λ t. if is_fine t then Ok CreateTable else Err Unsupported) else Ok Nothing)) ≡ Ok c → IsMaking c
makes_or_not true is_new made is_fine c h = absurd cc
makes_or_not false (Err e) made is_fine c h = absurd cc
makes_or_not false (Ok false) made is_fine c h = inr (sym (same_value h))
makes_or_not false (Ok true) (Err e) is_fine c h = absurd cc
makes_or_not false (Ok true) (Ok t) is_fine c h = elim (cases_Bool (is_fine t)) [
  | inl fine ↦ inl (sym (same_value (rw fine at h)))
  | inr other ↦ absurd (let e = rw other at h in cc)
]

create_makes : (schema : Schema) (formats : List (List ℕ)) (def : Written) (c : Command) → create_table schema formats def ≡ Ok c → IsMaking c
unfolding create_table
create_makes schema formats def c h = makes_or_not (is_attached schema def.name) (creates def.if_missing def.name (option_or (table_named schema def.name) (view_named schema def.name)) (index_named schema def.name)) (define.table formats def) (λ t. length t.computed == length t.stamps.places && not def.resolves) c h

command_makes : (schema : Schema) (formats : List (List ℕ)) (base : ℕ) (s : Statement) → is_create s ≡ true → (c : Command) → command schema formats base s ≡ Ok c → IsMaking c
unfolding command
command_makes schema formats base (written.CreateTable def) yes' c h = create_makes schema formats def c h
command_makes schema formats base s yes' c h = absurd cc

shows_nothing : (schema : Schema) (base : ℕ) (s : Statement) → is_create s ≡ true → returning schema base s ≡ Ok None
unfolding returning
shows_nothing schema base (written.CreateTable def) yes' = refl
shows_nothing schema base s yes' = absurd cc

create_compiled : (schema : Schema) (text : List ℕ) → IsCreate text → (c : Compiled) → compiled schema text ≡ Ok c → IsMaking c.command × (c.returning ≡ None)
unfolding compiled planned meaning
create_compiled schema text makes c =
    elim (first text) as (λ r. and_then r (λ p. Ok (is_create p.statement)) ≡ Ok true → and_then r (λ p. and_then (planned schema p) (λ plan. Ok (with_command p plan))) ≡ Ok c → IsMaking c.command × (c.returning ≡ None)) [
      | Err e ↦ λ yes' is. absurd (cc)
      | Ok p ↦ λ yes' is.
          let plan = got (planned schema p) _ c is in
          let found = got _ _ plan.0 plan.1 in
          let shown = got _ _ found.0 found.1 in
          let last = got {A = Command} (command schema p.formats (small p.names + small (timed_in schema p.formats p.statement)) p.statement) _ found.0 shown.2 in
          let none = same_value (sym shown.1 ∙ shows_nothing schema _ p.statement (same_value yes')) in
          let made : last.0 ≡ c.command = ap (λ k. k.0) (same_value last.2) ∙ ap (λ k. k.1.0) (same_value found.2) ∙ ap (λ (k : Compiled). k.command) (same_value plan.2) in (
            subst IsMaking made (command_makes schema p.formats _ p.statement (same_value yes') last.0 last.1),
            ap (λ (k : Compiled). k.returning) (sym (same_value plan.2)) ∙ ap (λ k. k.1.1) (sym (same_value found.2)) ∙ ap (λ k. k.1) (sym (same_value last.2)) ∙ none,
          )
    ] makes

create_selected : (schema : Schema) (text : List ℕ) → IsCreate text → (c : Compiled) → if_select (compiled schema text) ≡ Ok c → IsMaking c.command × (c.returning ≡ None)
create_selected schema text makes c is = from (compiled schema text) refl is
  where
    from : (r : Result Compiled CompileError) → compiled schema text ≡ r → if_select r ≡ Ok c → IsMaking c.command × (c.returning ≡ None)
    from (Err e) same h = absurd (cc)
    from (Ok k) same h = elim (cases_Bool (is_select k.command)) [
      | inl yes' ↦ let it : k ≡ c = same_value (rw yes' at h) in create_compiled schema text makes c (same ∙ ap Ok it)
      | inr no' ↦ absurd (let e = rw no' at h in cc)
    ]

create_understood : (schema : Schema) (text : List ℕ) → IsCreate text → (c : Compiled) → understood schema text ≡ Ok c → IsMaking c.command × (c.returning ≡ None)
unfolding understood
create_understood schema text makes c is = elim (cases_Bool (reads_listing schema text)) [
  | inl listing ↦ create_selected listing_schema text makes c (rw listing at is)
  | inr plain ↦ create_compiled schema text makes c (rw plain at is)
]

-- ---- what is kept

keeps_still : (a b : Database) → b ≡ a → KeepsTables a b
keeps_still a b same = record { each = λ table there. (subst (λ (d : Database). Has d.schema.tables table) (sym same) there, ap (λ (d : Database). d.trees table.tree) same) }

pub keeps_then : (a b c : Database) → KeepsTables a b → KeepsTables b c → KeepsTables a c
keeps_then a b c before next = record {
  each = λ table there.
      let one = before.each table there in
      let two = next.each table one.0 in
      (two.0, two.1 ∙ one.1);
}

keeps_created : (text : List ℕ) (a b : Database) → CreatesTable a.schema text a.trees b.schema b.trees → KeepsTables a b
keeps_created text a b made = record {
  each = λ table there. (
    subst (λ (s : Schema). Has s.tables table) (sym made.is) (has_left a.schema.tables _ table there),
    all_has _ a.schema.tables table made.others there,
  );
}

keeps_written : (old new : State) (text : List ℕ) (params : Row) (count : ℕ) → Writes old new None CreateTable text params count → KeepsTables old.now new.now
keeps_written old new text params count w =
    let all = went w.changed in
    let parts = went all.1 in
    let last : new.now ≡ all.0 = ap (λ p. p.1) (same_value all.2) in
    let sequenced : KeepsTables parts.0 all.0 = elim (cases_Bool (lacks_sequence parts.0.schema)) [
      | inl lacks ↦ keeps_created _ parts.0 all.0 (rw lacks at parts.2)
      | inr full ↦ keeps_still parts.0 all.0 (same_value (rw full at parts.2))
    ] in
    keeps_then old.now all.0 new.now (keeps_then old.now parts.0 all.0 (keeps_created text old.now parts.0 parts.1) sequenced) (keeps_still all.0 new.now last)

pub create_keeps : (text : List ℕ) → IsCreate text → (old new : State) (count : ℕ) → Executes text [] old new (Ok count) → KeepsTables old.now new.now
unfolding ExecutesIn
create_keeps text makes old new count h =
    let c = h.0 in
    let known = create_understood old.now.schema text makes c h.1.is in
    let params = timed [] c.formats h.1.now in
    elim (cases_Bool (shows_rows false c)) [
      | inl shows ↦ absurd (let e = (rw shows at h.2).0 in cc)
      | inr runs ↦
          let ran : Runs old new c.returning c.command (text_of text c) params count = rw runs at h.2 in
          let bare = subst (λ r. Runs old new r c.command (text_of text c) params count) known.1 ran in
          elim known.0 [
            | inl made ↦ keeps_written old new (text_of text c) params count (subst (λ k. Runs old new None k (text_of text c) params count) made bare)
            | inr nothing ↦ keeps_still old.now new.now (subst (λ k. Runs old new None k (text_of text c) params count) nothing bare).0.0.now_is
          ]
    ]

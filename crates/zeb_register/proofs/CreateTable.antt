-- CREATE TABLE IF NOT EXISTS.
use Rattle.zeb_register.proofs.Cited.{IsPlain, command_of, statement_of, runs_as, created, next_tree, KeepsRows, CreateTable, Nothing, table_defined_by, Tally, lacks_sequence, Database, Schema, State, Writes, Executes, IsUnchanged, all_has, all_from, ◌≡◌, ℕ, List, [], ◌∷◌, ◌++◌, Ok, sym, ap, subst, ◌∙◌, None, false, IsTrue, AllByRecursion, Table, HasLayout, IsKeyed, IsMade}
use Rattle.sqlite.specs.Listing.{understood}
use Rattle.zeb_register.proofs.WrittenRows.{went, same_value}

all_append : {X : Type 0} (P : X → Type 0) (xs : List X) (x : X) → AllByRecursion P xs → P x → AllByRecursion P (xs ++ x ∷ [])
all_append P [] x all here = (here, tt)
all_append P (y ∷ xs) x all here = (all.0, all_append P xs x all.1 here)

pub creates : (schema : Schema) (table : Table) (sql : List ℕ) → command_of (understood schema sql) ≡ CreateTable → statement_of sql (understood schema sql) ≡ sql → table_defined_by sql ≡ Ok table
    → IsPlain (understood schema sql) → lacks_sequence (created schema table) ≡ false → (old new : State) (count : ℕ) → old.now.schema ≡ schema → AllByRecursion (λ t. old.now.trees t.tree ≡ []) schema.tables
    → IsTrue old.in_transaction → Executes sql [] old new (Ok count) → IsMade (created schema table) new
creates schema table sql is text defined plain uncounted old new count has empty inside h =
    let w = subst (λ t. Writes old new None CreateTable t [] count) text (runs_as sql [] old new schema has CreateTable is plain count h) in
    let all = went w.changed in
    let first = went all.1 in
    let made = first.1 in
    let both : Ok made.table ≡ Ok table = sym made.defined ∙ defined in
    let same : made.table ≡ table = cc in
    let after : first.0.schema ≡ created schema table = made.is ∙ ap (λ s. created s made.table) has ∙ ap (created schema) same in
    let full : lacks_sequence first.0.schema ≡ false = ap lacks_sequence after ∙ uncounted in
    let now : new.now ≡ first.0 = ap (λ (p : Tally × Database). p.1) (same_value all.2) ∙ same_value (rw full at first.2) in
    let trees = λ (t : ℕ). ap (λ (d : Database). d.trees t) now in
    let kept = subst (λ s. KeepsRows s.tables old.now.trees first.0.trees) has made.others in
    record {
      is = ap (λ (d : Database). d.schema) now ∙ after;
      sound = w.sound;
      empty = all_append (λ t. new.now.trees t.tree ≡ []) schema.tables (record table { tree = next_tree schema })
          (all_from (λ t. new.now.trees t.tree ≡ []) schema.tables (λ t known. trees t.tree ∙ all_has _ schema.tables t kept known ∙ all_has _ schema.tables t empty known))
          (trees (next_tree schema) ∙ subst (λ s. first.0.trees (next_tree s) ≡ []) has made.empty);
      inside = w.shown.mode ∙ inside;
    }

-- where the table is there, the statement does nothing
pub spares : (schema : Schema) (sql : List ℕ) → command_of (understood schema sql) ≡ Nothing → IsPlain (understood schema sql) → (old new : State) (count : ℕ) → old.now.schema ≡ schema → Executes sql [] old new (Ok count)
    → IsUnchanged old new
spares schema sql is plain old new count has h = (runs_as sql [] old new schema has Nothing is plain count h).0

-- tables with no row are in order
pub made_layout : (schema : Schema) (s : State) → IsMade schema s → HasLayout schema s
made_layout schema s made = record { is = made.is; sound = made.sound; keyed = all_from _ schema.tables (λ t known. subst IsKeyed (sym (all_has _ schema.tables t made.empty known)) (tt, tt)) }

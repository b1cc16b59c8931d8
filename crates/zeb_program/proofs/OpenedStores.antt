-- A register that was opened well is this program's store, once it is taken over; and why one isn't closed whole.
use Rattle.zeb_program.proofs.Cited.{◌≡◌, ◌∙◌, ap, subst, sym, IsTrue, AllByRecursion, State, ChangesNothing, Database, IsDatabase, ◌⊎◌, ℕ, arith, inl, inr, Some, Closed}
use Rattle.sqlite.specs.Schema.{Schema}
use Rattle.sqlite.specs.Table.{Table}
use Rattle.sqlite_disk.specs.Disk.{MoreFaults}
use Rattle.sqlite_trees.specs.Tree.{Trees}
use Rattle.sqlite_trees.specs.View.{IsQuiet, View}
use Rattle.zeb_paths.specs.Closing.{HasReason}
use Rattle.zeb_paths.specs.Opened.{IsWellOpened}
use Rattle.zeb_paths.specs.declared.causes.StoreCause.TheVariants.{Memory}
use Rattle.zeb_register.specs.Sql.{IsKeyed}
use Rattle.zeb_register.specs.Store.{IsStore}
use Rattle.zeb_register.specs.Tables.{store_schema}

pub opened_store : (old new : State) → IsWellOpened old → old.now.schema ≡ store_schema → ChangesNothing old new → IsTrue new.is_open → IsStore new
opened_store old new well ours nothing is_open =
    let same = nothing is_open in
    record {
      is = ap (λ (db : Database). db.schema) same.1 ∙ ours;
      sound = subst IsDatabase (sym same.1) (well.live same.0).0;
      keyed = subst (λ (db : Database). AllByRecursion (λ (t : Table). IsKeyed (db.trees t.tree)) store_schema.tables) (sym same.1)
          (subst (λ (schema : Schema). AllByRecursion (λ (t : Table). IsKeyed (old.now.trees t.tree)) schema.tables) ours well.rising);
    }

-- what keeps a store from being closed whole is told of it as it was before a call that did nothing to it
pub reason_then : {S : Type 0} {view : S → View} {faults : S → ℕ} {recovers : S → Trees → Type 0} {Shielded : S → Type 0} {a b left : S} {closed : Closed} → IsQuiet view faults recovers Shielded a b → IsQuiet view faults recovers Shielded b left
    → HasReason view faults b left closed → HasReason view faults a left closed
reason_then {faults = faults} {a = a} {b = b} {left = left} {closed = closed} s t reason = λ part clean was_open.
    elim (s.closes (omega (arith, t.clean)) was_open) [ inl still ↦ since (reason part clean still) | inr fault ↦ inr (omega (arith, t.counts)) ]
  where
    since : (closed.cause ≡ Some Memory) ⊎ MoreFaults (faults b) (faults left) → (closed.cause ≡ Some Memory) ⊎ MoreFaults (faults a) (faults left)
    since (inl starved) = inl starved
    since (inr more) = inr (omega (arith, s.counts))

-- Reading calls one after the other: what the accepted ones leave of a connection, and what later ones tell of the tables at the first.
use Rattle.zeb_search.proofs.Cited.{◌≡◌, ◌∙◌, false, IsTrue, Result, Ok, Err, arith, refl, sym, ap, subst, Database, State, HasCleanDisk, IsUnchanged, Survives, unchanged_then, ChangesNothing, Reading, IsStore, nothing_still, nothing_then, store_same, quiet_still, quiet_then, IsUntouched}

-- every call so far was accepted
pub record IsRead (old new : State) : Type 0 where
  pub idle : old.in_transaction ≡ false → new.in_transaction ≡ false
  pub untouched : HasCleanDisk new → IsUntouched old new
  pub same : HasCleanDisk new → old.in_transaction ≡ false → ChangesNothing old new
  pub crash : Survives old new (λ _. ⊥)

unchanged_still : (s : State) → IsTrue s.is_open → IsUnchanged s s
unchanged_still s opened = (
  record { was_open = opened; is_open = opened; now_is = refl; committed_is = refl; mode = refl },
  record { changes = refl; last_rowid = refl },
  refl,
)

pub read_still : (s : State) → IsRead s s
read_still s = record {
  idle = λ h. h;
  untouched = λ _. (refl, unchanged_still s);
  same = λ _ _. nothing_still s;
  crash = quiet_still s;
}

-- a call of the register that was accepted
pub one_read : {A E : Type 0} (a b : State) (x : A) → Reading {E = E} a b (Ok x) (λ _. IsUnchanged) → IsRead a b
one_read a b x reading = record {
  idle = reading.idle;
  untouched = λ clean. let unchanged = reading.ok clean in (unchanged.0.now_is, λ _. unchanged);
  same = reading.same;
  crash = reading.crash;
}

-- a call of this crate that was accepted
pub as_read : {A E : Type 0} (a b : State) (x : A) → Reading {E = E} a b (Ok x) (λ _. IsUntouched) → IsRead a b
as_read a b x reading = record { idle = reading.idle; untouched = reading.ok; same = reading.same; crash = reading.crash }

pub clean_before : (a b : State) → Survives a b (λ _. ⊥) → HasCleanDisk b → HasCleanDisk a
clean_before a b crash clean = omega (arith, crash.clean)

untouched_then : (a b c : State) → IsUntouched a b → IsUntouched b c → IsUntouched a c
untouched_then a b c one two = (two.0 ∙ one.0, λ opened. let first = one.1 opened in unchanged_then a b c first (two.1 first.0.is_open))

pub read_then : (a b c : State) → IsRead a b → IsRead b c → IsRead a c
read_then a b c one two = record {
  idle = λ h. two.idle (one.idle h);
  untouched = λ clean. untouched_then a b c (one.untouched (clean_before b c two.crash clean)) (two.untouched clean);
  same = λ clean idle. nothing_then a b c (one.same (clean_before b c two.crash clean) idle) (two.same clean (one.idle idle));
  crash = quiet_then a b c one.crash two.crash;
}

-- ---- what is said of a call that makes such calls

pub accepted : {A E : Type 0} (a b : State) (r : Result A E) → IsRead a b → Reading a b r (λ _. IsUntouched)
accepted a b (Ok x) read = record { idle = read.idle; ok = read.untouched; same = read.same; crash = read.crash }
accepted a b (Err e) read = record { idle = read.idle; ok = λ _. tt; same = read.same; crash = read.crash }

-- the last of them is refused
pub refused : {A B E F : Type 0} (a b c : State) (P : A → State → State → Type 0) (e : E) (f : F) (r : Result B F) → r ≡ Err f → IsRead a b → Reading b c (Err e) P → Reading a c r (λ _. IsUntouched)
refused {B = B} {F = F} a b c P e f r is read last =
    let known : Reading {A = B} {E = F} a c (Err f) (λ _. IsUntouched) = record {
      idle = λ h. last.idle (read.idle h);
      ok = λ _. tt;
      same = λ clean idle. nothing_then a b c (read.same (clean_before b c last.crash clean) idle) (last.same clean (read.idle idle));
      crash = quiet_then a b c read.crash last.crash;
    } in
    subst (λ s. Reading a c s (λ _. IsUntouched)) (sym is) known

-- ---- what the tables are at the later call

pub still_store : (a b : State) → IsRead a b → HasCleanDisk b → IsStore a → IsStore b
still_store a b read clean store = store_same a b (read.untouched clean).0 store

pub still_trees : (a b : State) → IsRead a b → HasCleanDisk b → b.now.trees ≡ a.now.trees
still_trees a b read clean = ap (λ (d : Database). d.trees) (read.untouched clean).0

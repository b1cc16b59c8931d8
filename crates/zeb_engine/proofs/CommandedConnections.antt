-- What a command did to a connection, by whether it asked the store.
use Rattle.zeb_engine.proofs.Cited.{◌≡◌, ◌⊎◌, Result, Ok, Err, IfErr, OnErr, OnOk, inl, inr, refl, rules, subst, sym, Held, state, State, HasCleanDisk, Survives, Ghosts, ChangesNothing, nothing_then, Command, Analyse, Refusal, StaysOpen, Answer, Conditions, Holdings, Step, AsksStore, Commanded, CommandedBy, EnduresRefusal, LeavesNoMore}

-- the connection is as it was
pub record IsAsItWas (old new : State) : Type 0 where
  pub is_open : new.is_open ≡ old.is_open
  pub nothing : ChangesNothing old new
  pub no_more : LeavesNoMore old new

-- the store was asked, and it is said what came of it, or the connection is as it was
abbrev pub AsksOrStays : {T : Type 0} → Command → State → State → Result T Refusal → Type 0
AsksOrStays command old new result = (AsksStore command × Commanded old new result) ⊎ ((¬ AsksStore command) × IsAsItWas old new)

as_it_was : {S : Type 0} (g : Ghosts S) (old new : Held S) → new ≡ old → IsAsItWas (state g old) (state g new)
as_it_was g old new same =
    subst (λ (held : Held _). IsAsItWas (state g old) (state g held)) (sym same) record { is_open = refl; nothing = λ is_open. (is_open, refl, refl); no_more = λ db left. left }

pub did : {S T : Type 0} (g : Ghosts S) (command : Command) (old new : Held S) (result : Result T Refusal) → CommandedBy g command old new result → AsksOrStays command (state g old) (state g new) result
did g (Analyse files) old new result it = inr (λ asks. asks, as_it_was g old new it)
did g _ old new result it = inl (tt, it)

on_any : {T E : Type 0} (r : Result T E) (P : Type 0) → P → OnErr r P
on_any (Ok x) P p = search rules
on_any (Err e) P p = p

if_any : {T : Type 0} (r : Result T Refusal) (P : Refusal → Type 0) → ((why : Refusal) → P why) → IfErr r P
if_any (Ok x) P p = search rules
if_any (Err why) P p = p why

module _ {T : Type 0} (command : Command) (old new : State) (result : Result T Refusal) (clean : HasCleanDisk new) where
  pub did_refuse : AsksOrStays command old new result → OnErr result (ChangesNothing old new)
  did_refuse (inl asked) = asked.1.refused clean
  did_refuse (inr same) = on_any result (ChangesNothing old new) same.1.nothing

  pub did_endure : AsksOrStays command old new result → IfErr result (EnduresRefusal old new)
  did_endure (inl asked) = asked.1.endures clean
  did_endure (inr same) = if_any result (EnduresRefusal old new) (λ why other. same.1.no_more)

-- a command that asks nothing of the store leaves what is held
pub unasked_still : (c : Conditions) (command : Command) (before later : Holdings) (answer : Answer) → (¬ AsksStore command) → Step c command before answer later → later ≡ before
unasked_still c (Analyse files) before later answer not step = step.1
unasked_still c _ before later answer not step = absurd (not tt)

-- a command that reads
pub reads_command : {T : Type 0} (old new : State) (result : Result T Refusal) → (HasCleanDisk new → OnOk result (StaysOpen old new)) → (HasCleanDisk new → ChangesNothing old new) → Survives old new (λ _. ⊥)
    → Commanded old new result
reads_command old new result opens same survives = record {
  accepted = opens;
  refused = λ clean. on_any result (ChangesNothing old new) (same clean);
  endures = λ clean. if_any result (EnduresRefusal old new) (λ why other db left. elim (survives.crash clean db left) [ inl was ↦ was | inr none ↦ absurd none ]);
}

-- a command that goes on behind a call which reads
pub commanded_then : {T : Type 0} (old mid new : State) (result : Result T Refusal) → (HasCleanDisk new → HasCleanDisk mid) → Survives old mid (λ _. ⊥) → (HasCleanDisk mid → StaysOpen old mid) → (HasCleanDisk mid → ChangesNothing old mid)
    → Commanded mid new result → Commanded old new result
commanded_then old mid new (Ok x) first quiet opens same did = record {
  accepted = λ clean. ((opens (first clean)).0, (did.accepted clean).1);
  refused = λ clean. tt;
  endures = λ clean. tt;
}
commanded_then old mid new (Err why) first quiet opens same did = record {
  accepted = λ clean. tt;
  refused = λ clean. nothing_then old mid new (same (first clean)) (did.refused clean);
  endures = λ clean other db left. elim (quiet.crash (first clean) db (did.endures clean other db left)) [ inl was ↦ was | inr none ↦ absurd none ];
}

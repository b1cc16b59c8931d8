-- Calls that read, one after the other: what a command that makes them did to the connection, what they tell, and which refusals it gives.
use Rattle.zeb_engine.proofs.Cited.{◌≡◌, false, Result, Ok, Err, IfErr, ap, sym, subst, Contents, Held, state, State, HasCleanDisk, IsUnchanged, Survives, Ghosts, QueryFault, Diagnostic, Memory, RegFault, IsReasoned, ChangesNothing, IsStore, store_same, nothing_still, nothing_then, quiet_then, clean_before, Refusal, query_refusal, register_refusal, NeverUnready, NoReadFault, ReadsAlone, IsAskRefusal, Reading, quiet_still}
use Rattle.zeb_register.specs.declared.RegFault.TheVariants as register
use Rattle.zeb_search.proofs.ReadLemmas.{IsRead}
use Rattle.zeb_engine.proofs.StoreCauses.{HasCauseFor, fault_after, fault_caused}

-- ---- which refusals it gives

pub fault_asked : (fault : RegFault) → IsAskRefusal (register_refusal fault)
fault_asked register.Damaged = tt
fault_asked _ = tt

pub query_asked : (fault : QueryFault) → IsAskRefusal (query_refusal fault)
query_asked (Diagnostic number place addinfo) = tt
query_asked Memory = tt

pub fault_few : {T : Type 0} (fault : RegFault) (r : Result T Refusal) → r ≡ Err (register_refusal fault) → IfErr r IsAskRefusal
fault_few {T} fault r is = subst (λ (q : Result T Refusal). IfErr q IsAskRefusal) (sym is) (fault_asked fault)

pub asked_never : {T : Type 0} (r : Result T Refusal) → IfErr r IsAskRefusal → NeverUnready r
asked_never {T} r few = (
  λ is. subst (λ (q : Result T Refusal). IfErr q IsAskRefusal) is few,
  λ is. subst (λ (q : Result T Refusal). IfErr q IsAskRefusal) is few,
  λ is. subst (λ (q : Result T Refusal). IfErr q IsAskRefusal) is few,
)

pub asked_unread : {T : Type 0} (r : Result T Refusal) → IfErr r IsAskRefusal → NoReadFault r
asked_unread {T} r few file is = subst (λ (q : Result T Refusal). IfErr q IsAskRefusal) is few

-- ---- what it did to the connection

-- refused before it asked the store for anything
pub reads_none : {S T : Type 0} (g : Ghosts S) (held : Held S) → held.in_transaction ≡ false → (why : Refusal) → HasCauseFor (state g held) (state g held) why → (r : Result T Refusal) → r ≡ Err why → ReadsAlone g held held r
reads_none {T = T} g held idle why caused r is =
    let known : ReadsAlone {T = T} g held held (Err why) = record {
      idle = idle;
      same = λ clean. nothing_still (state g held);
      opened = λ clean. tt;
      crash = quiet_still (state g held);
      caused = λ clean. caused;
    } in
    subst (λ (q : Result T Refusal). ReadsAlone g held held q) (sym is) known

-- a look at the tables by one call
module _ {S A T : Type 0} (g : Ghosts S) (old new : Held S) (idle : old.in_transaction ≡ false) where
  pub look_done : (a : A) → Reading {A = A} {E = RegFault} (state g old) (state g new) (Ok a) (λ _. IsUnchanged) → (y : T) → ReadsAlone {T = T} g old new (Ok y)
  look_done a look y = record {
    idle = look.idle idle;
    same = λ clean. look.same clean idle;
    opened = λ clean. let shown = (look.ok clean).0 in (shown.was_open, shown.is_open);
    crash = look.crash;
    caused = λ clean store. tt;
  }

  pub look_fails : (P : A → State → State → Type 0) (fault : RegFault) → Reading {A = A} {E = RegFault} (state g old) (state g new) (Err fault) P → IsReasoned {A = A} (state g old) (state g new) (Err fault)
      → (r : Result T Refusal) → r ≡ Err (register_refusal fault) → ReadsAlone g old new r
  look_fails P fault look reasoned r is =
      let known : ReadsAlone {T = T} g old new (Err (register_refusal fault)) = record {
        idle = look.idle idle;
        same = λ clean. look.same clean idle;
        opened = λ clean. tt;
        crash = look.crash;
        caused = λ clean store. fault_caused fault (λ is. reasoned clean store (ap Err is));
      } in
      subst (λ (q : Result T Refusal). ReadsAlone g old new q) (sym is) known

-- a refusal that is passed on
pub reads_passed : {S A T : Type 0} (g : Ghosts S) (old new : Held S) (why : Refusal) → ReadsAlone {T = A} g old new (Err why) → (r : Result T Refusal) → r ≡ Err why → ReadsAlone g old new r
reads_passed {T = T} g old new why looked r is =
    let known : ReadsAlone {T = T} g old new (Err why) = record { idle = looked.idle; same = looked.same; opened = λ clean. tt; crash = looked.crash; caused = looked.caused } in
    subst (λ (q : Result T Refusal). ReadsAlone g old new q) (sym is) known

-- behind a look that was accepted
module _ {S X : Type 0} (g : Ghosts S) (old mid : Held S) (x : X) (looked : ReadsAlone g old mid (Ok x)) where
  -- what is shown is what was
  pub shown_still : HasCleanDisk (state g mid) → IsStore (state g old) → IsStore (state g mid) × ((state g mid).now.trees ≡ (state g old).now.trees)
  shown_still clean store =
      let same = looked.same clean (looked.opened clean).1 in
      (store_same (state g old) (state g mid) same.1 store, ap (λ (d : Contents). d.trees) same.1)

  -- calls that were accepted
  module _ (new : Held S) (read : IsRead (state g mid) (state g new)) where
    first : HasCleanDisk (state g new) → HasCleanDisk (state g mid)
    first = clean_before (state g mid) (state g new) read.crash

    same_on : HasCleanDisk (state g new) → ChangesNothing (state g old) (state g new)
    same_on clean = nothing_then (state g old) (state g mid) (state g new) (looked.same (first clean)) (read.same clean looked.idle)

    crash_on : Survives (state g old) (state g new) (λ _. ⊥)
    crash_on = quiet_then (state g old) (state g mid) (state g new) looked.crash read.crash

    pub reads_on : {T : Type 0} (y : T) → ReadsAlone {T = T} g old new (Ok y)
    reads_on y = record {
      idle = read.idle looked.idle;
      same = same_on;
      opened = λ clean. let was = looked.opened (first clean) in (was.0, ((read.untouched clean).1 was.1).0.is_open);
      crash = crash_on;
      caused = λ clean store. tt;
    }

    -- and the command was refused
    pub reads_end : {T : Type 0} (why : Refusal) → HasCauseFor (state g old) (state g new) why → (r : Result T Refusal) → r ≡ Err why → ReadsAlone g old new r
    reads_end {T} why caused r is =
        let known : ReadsAlone {T = T} g old new (Err why) = record { idle = read.idle looked.idle; same = same_on; opened = λ clean. tt; crash = crash_on; caused = λ clean. caused } in
        subst (λ (q : Result T Refusal). ReadsAlone g old new q) (sym is) known

  -- calls of which the last was refused
  pub reads_fail : {A T : Type 0} (late : State) (new : Held S) → IsRead (state g mid) late → (P : A → State → State → Type 0) (fault : RegFault) → Reading {A = A} {E = RegFault} late (state g new) (Err fault) P
      → IsReasoned {A = A} late (state g new) (Err fault) → (r : Result T Refusal) → r ≡ Err (register_refusal fault) → ReadsAlone g old new r
  reads_fail {T = T} late new read P fault last reasoned r is =
      let s = state g old in
      let m = state g mid in
      let n = state g new in
      let known : ReadsAlone {T = T} g old new (Err (register_refusal fault)) = record {
        idle = last.idle (read.idle looked.idle);
        same = λ clean.
            let before = clean_before late n last.crash clean in
            nothing_then s m n (looked.same (clean_before m late read.crash before)) (nothing_then m late n (read.same before looked.idle) (last.same clean (read.idle looked.idle)));
        opened = λ clean. tt;
        crash = quiet_then s m n looked.crash (quiet_then m late n read.crash last.crash);
        caused = λ clean.
            let before = clean_before late n last.crash clean in
            let begun = clean_before m late read.crash before in
            fault_after s late n (record {
              survives = quiet_then s m late looked.crash read.crash;
              opened = λ _. ((read.untouched before).1 (looked.opened begun).1).0.is_open;
              nothing = nothing_then s m late (looked.same begun) (read.same before looked.idle);
            }) fault clean reasoned;
      } in
      subst (λ (q : Result T Refusal). ReadsAlone g old new q) (sym is) known

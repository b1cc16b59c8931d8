-- Calls that search a store's tables, one after the other: what they find is told, or the refusal of one is handed on.
use Rattle.zeb_search.proofs.Cited.{◌≡◌, ◌≢◌, ◌∙◌, ℕ, Result, Ok, Err, OnOk, ap, refl, subst, sym, Trees, State, HasCleanDisk, RegFault, Work, Content, Format, holds_in, IsStore, OnStore, LooksInto, Searches, IsUntouched}
use Rattle.std.specs.Result.{IsErrAnd}
use Rattle.zeb_register.specs.declared.RegFault.TheVariants.{Damaged, Memory, Store}
use Rattle.zeb_register.proofs.Answered.{fault_met}
use Rattle.zeb_register.proofs.Causes.{may_after}
use Rattle.zeb_register.proofs.HandedOn.{as_met, not_refused}
use Rattle.zeb_search.proofs.ReadLemmas.{accepted, as_read, clean_before, one_read, read_still, read_then, refused, still_store, still_trees}

-- memory is no damage, and no failure of the store
no_damage : Memory ≢ Damaged
no_damage is = cc

no_failure : {A : Type 0} → ¬ (◌≡◌ {A = Result A RegFault} (Err Memory) (Err Store))
no_failure is = cc

-- a call of the register, as a search
pub as_searched : {A : Type 0} {format : Format} {row_work : ℕ} {D : Trees → Type 0} {F : Trees → A → Type 0} {C : Content → Work → Work → Type 0} {a b : State} {v w : Work} {r : Result A RegFault} → LooksInto D F a b r
    → (row_work ≡ 0 → w ≡ v) → OnOk r (OnStore a b (λ trees. (content : Content) → holds_in format trees content → C content v w)) → Searches format row_work D F C a b v w r
as_searched {a = a} {b = b} {r = Ok x} it none counts = record { call = accepted a b (Ok x) (one_read a b x it.call); finds = it.finds; refused = it.refused; work = counts; no_work = none }
as_searched {r = Err fault} it none counts = record {
  call = record { idle = it.call.idle; ok = λ clean. tt; same = it.call.same; crash = it.call.crash };
  finds = it.finds;
  refused = it.refused;
  work = tt;
  no_work = none;
}

module _ {format : Format} {row_work : ℕ} {B : Type 0} {E : Trees → Type 0} {G : Trees → B → Type 0} {K : Content → Work → Work → Type 0} where
  -- what is answered by the refusal that a `?` met
  met_so : {a b : State} {v w : Work} {fault : RegFault} {r : Result B RegFault} → Searches format row_work E G K a b v w (Err fault) → IsErrAnd r (λ met. met ≡ fault) → Searches format row_work E G K a b v w r
  met_so {a = a} {b = b} {v = v} {w = w} {fault = fault} {r = r} it failed = subst (Searches format row_work E G K a b v w) (sym (fault_met r fault failed)) it

  -- ---- no call

  -- nothing is asked
  pub searches_still : {s : State} {w : Work} {y : B} → (IsStore s → G s.now.trees y) → ((content : Content) → holds_in format s.now.trees content → K content w w) → Searches format row_work E G K s s w w (Ok y)
  searches_still {s = s} {w = w} {y = y} so counts = record {
    call = accepted s s (Ok y) (read_still s);
    finds = λ clean store. so store;
    refused = λ clean store is. absurd (not_refused y Store is);
    work = λ clean store content has. counts content has;
    no_work = λ none. refl;
  }

  -- memory ran out before anything was asked
  pub searches_starved : {s : State} {w : Work} {r : Result B RegFault} → IsErrAnd r (λ met. met ≡ Memory) → Searches format row_work E G K s s w w r
  searches_starved {s = s} failed = met_so (record {
    call = accepted s s (Err Memory) (read_still s);
    finds = λ clean store is. absurd (no_damage is);
    refused = λ clean store is. absurd (no_failure is);
    work = tt;
    no_work = λ none. refl;
  }) failed

  -- ---- one call

  module _ {A : Type 0} {a b : State} {v w : Work} {D : Trees → Type 0} {F : Trees → A → Type 0} {C : Content → Work → Work → Type 0} where
    -- another answer is given to what was found
    pub searches_so : {x : A} {y : B} → Searches format row_work D F C a b v w (Ok x) → (IsStore a → F a.now.trees x → G a.now.trees y)
        → ((content : Content) → holds_in format a.now.trees content → F a.now.trees x → C content v w → K content v w) → Searches format row_work E G K a b v w (Ok y)
    searches_so {x = x} {y = y} it so counts = record {
      call = accepted a b (Ok y) (as_read a b x it.call);
      finds = λ clean store. so store (it.finds clean store);
      refused = λ clean store is. absurd (not_refused y Store is);
      work = λ clean store content has. counts content has (it.finds clean store) (it.work clean store content has);
      no_work = it.no_work;
    }

    -- its refusal is handed on
    pub searches_handed : {fault : RegFault} {r : Result B RegFault} → Searches format row_work D F C a b v w (Err fault) → IsErrAnd r (λ met. met ≡ fault) → (IsStore a → D a.now.trees → E a.now.trees)
        → Searches format row_work E G K a b v w r
    searches_handed {fault = fault} it failed so = met_so {fault = fault} (record {
      call = record { idle = it.call.idle; ok = λ clean. tt; same = it.call.same; crash = it.call.crash };
      finds = λ clean store is. so store (it.finds clean store is);
      refused = λ clean store is. it.refused clean store (as_met {A = A} {B = B} (Err fault) fault Store refl is);
      work = tt;
      no_work = it.no_work;
    }) failed

    -- it was accepted, and then memory ran out
    pub searches_failed : {x : A} {r : Result B RegFault} → Searches format row_work D F C a b v w (Ok x) → IsErrAnd r (λ met. met ≡ Memory) → Searches format row_work E G K a b v w r
    searches_failed {x = x} it failed = met_so (record {
      call = accepted a b (Err Memory) (as_read a b x it.call);
      finds = λ clean store is. absurd (no_damage is);
      refused = λ clean store is. absurd (no_failure is);
      work = tt;
      no_work = it.no_work;
    }) failed

  -- its answer is given
  pub searches_as : {a b : State} {v w : Work} {r : Result B RegFault} {D : Trees → Type 0} {F : Trees → B → Type 0} {C : Content → Work → Work → Type 0} → Searches format row_work D F C a b v w r
      → (IsStore a → D a.now.trees → E a.now.trees) → (IsStore a → (x : B) → F a.now.trees x → G a.now.trees x) → ((content : Content) → C content v w → K content v w) → Searches format row_work E G K a b v w r
  searches_as {r = Ok x} it hides so counts = searches_so it (λ store. so store x) (λ content has found. counts content)
  searches_as {r = Err fault} it hides so counts = searches_handed it refl hides

  -- so is that of a call of the register
  pub looks_searched : {a b : State} {v w : Work} {r : Result B RegFault} {D : Trees → Type 0} {F : Trees → B → Type 0} → LooksInto D F a b r → (row_work ≡ 0 → w ≡ v)
      → OnOk r (OnStore a b (λ trees. (content : Content) → holds_in format trees content → K content v w)) → (IsStore a → D a.now.trees → E a.now.trees)
      → (IsStore a → (x : B) → F a.now.trees x → G a.now.trees x) → Searches format row_work E G K a b v w r
  looks_searched it none counts hides so = searches_as (as_searched {C = K} it none counts) hides so (λ content counted. counted)

  -- ---- one call behind another

  -- an answer is given to what both found
  pub searches_behind : {A H : Type 0} {a b c : State} {u v w : Work} {x : A} {y : H} {z : B} {D M : Trees → Type 0} {F : Trees → A → Type 0} {P : Trees → H → Type 0} {C N : Content → Work → Work → Type 0}
      → Searches format row_work D F C a b u v (Ok x) → Searches format row_work M P N b c v w (Ok y) → (IsStore a → F a.now.trees x → P a.now.trees y → G a.now.trees z)
      → ((content : Content) → holds_in format a.now.trees content → F a.now.trees x → P a.now.trees y → C content u v → N content v w → K content u w)
      → Searches format row_work E G K a c u w (Ok z)
  searches_behind {a = a} {b = b} {c = c} {x = x} {y = y} {z = z} {P = P} first second so counts =
      let read = as_read a b x first.call in
      let later : (clean : HasCleanDisk c) → IsStore a → P a.now.trees y = λ clean store.
      let before = clean_before b c second.call.crash clean in
      subst (λ (t : Trees). P t y) (still_trees a b read before) (second.finds clean (still_store a b read before store)) in
      record {
        call = accepted a c (Ok z) (read_then a b c read (as_read b c y second.call));
        finds = λ clean store. so store (first.finds (clean_before b c second.call.crash clean) store) (later clean store);
        refused = λ clean store is. absurd (not_refused z Store is);
        work = λ clean store content has.
            let before = clean_before b c second.call.crash clean in
            counts content has (first.finds before store) (later clean store) (first.work before store content has)
            (second.work clean (still_store a b read before store) content (subst (λ (t : Trees). holds_in format t content) (sym (still_trees a b read before)) has));
        no_work = λ none. second.no_work none ∙ first.no_work none;
      }

  -- the second is refused, and that is handed on
  pub searches_handed_behind : {A H : Type 0} {a b c : State} {u v w : Work} {x : A} {fault : RegFault} {r : Result B RegFault} {D M : Trees → Type 0} {F : Trees → A → Type 0} {P : Trees → H → Type 0}
      {C N : Content → Work → Work → Type 0} → Searches format row_work D F C a b u v (Ok x) → Searches format row_work M P N b c v w (Err fault) → IsErrAnd r (λ met. met ≡ fault)
      → (IsStore a → F a.now.trees x → M a.now.trees → E a.now.trees) → Searches format row_work E G K a c u w r
  searches_handed_behind {H = H} {a = a} {b = b} {c = c} {x = x} {fault = fault} {M = M} first second failed so =
      let read = as_read a b x first.call in
      met_so {fault = fault} (record {
        call = refused a b c (λ _. IsUntouched) fault fault (Err fault) refl read second.call;
        finds = λ clean store is.
            let before = clean_before b c second.call.crash clean in
            so store (first.finds before store) (subst M (still_trees a b read before) (second.finds clean (still_store a b read before store) is));
        refused = λ clean store is.
            let before = clean_before b c second.call.crash clean in
            may_after a b c read.crash (λ opened. ((read.untouched before).1 opened).0.is_open)
            (λ _. second.refused clean (still_store a b read before store) (as_met {A = H} {B = B} (Err fault) fault Store refl is));
        work = tt;
        no_work = λ none. second.no_work none ∙ first.no_work none;
      }) failed

  -- the same of a call of the register
  pub looks_handed_behind : {A H : Type 0} {a b c : State} {u v w : Work} {x : A} {fault : RegFault} {r : Result B RegFault} {D M : Trees → Type 0} {F : Trees → A → Type 0} {P : Trees → H → Type 0}
      {C : Content → Work → Work → Type 0} → Searches format row_work D F C a b u v (Ok x) → LooksInto M P b c (Err fault) → (row_work ≡ 0 → w ≡ v) → IsErrAnd r (λ met. met ≡ fault)
      → (IsStore a → F a.now.trees x → M a.now.trees → E a.now.trees) → Searches format row_work E G K a c u w r
  looks_handed_behind first second none failed so = searches_handed_behind first (as_searched {C = K} second none tt) failed so

  -- both were accepted, and then memory ran out
  pub searches_failed_behind : {A H : Type 0} {a b c : State} {u v w : Work} {x : A} {y : H} {r : Result B RegFault} {D M : Trees → Type 0} {F : Trees → A → Type 0} {P : Trees → H → Type 0}
      {C N : Content → Work → Work → Type 0} → Searches format row_work D F C a b u v (Ok x) → Searches format row_work M P N b c v w (Ok y) → IsErrAnd r (λ met. met ≡ Memory)
      → Searches format row_work E G K a c u w r
  searches_failed_behind {a = a} {b = b} {c = c} {x = x} {y = y} first second failed = met_so (record {
    call = accepted a c (Err Memory) (read_then a b c (as_read a b x first.call) (as_read b c y second.call));
    finds = λ clean store is. absurd (no_damage is);
    refused = λ clean store is. absurd (no_failure is);
    work = tt;
    no_work = λ none. second.no_work none ∙ first.no_work none;
  }) failed

  -- the answer is that of the second
  pub searches_then : {A : Type 0} {a b c : State} {u v w : Work} {x : A} {r : Result B RegFault} {D M : Trees → Type 0} {F : Trees → A → Type 0} {P : Trees → B → Type 0} {C N : Content → Work → Work → Type 0}
      → Searches format row_work D F C a b u v (Ok x) → Searches format row_work M P N b c v w r → (IsStore a → F a.now.trees x → M a.now.trees → E a.now.trees)
      → (IsStore a → F a.now.trees x → (y : B) → P a.now.trees y → G a.now.trees y)
      → ((content : Content) → holds_in format a.now.trees content → F a.now.trees x → C content u v → N content v w → K content u w) → Searches format row_work E G K a c u w r
  searches_then {r = Ok y} first second hides so counts = searches_behind first second (λ store found. so store found y) (λ content has found also. counts content has found)
  searches_then {r = Err fault} first second hides so counts = searches_handed_behind first second refl hides

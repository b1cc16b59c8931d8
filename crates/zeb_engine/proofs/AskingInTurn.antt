-- Calls that ask a store's tables, one after the other: what they find is answered, or the refusal of one is handed on.
use Rattle.zeb_engine.proofs.Cited.{◌≡◌, ℕ, false, Result, Ok, Err, refl, sym, subst, Held, state, State, HasCleanDisk, IsUnchanged, Ghosts, Trees, Content, Work, RegFault, IsStore, Format, clean_before, read_still, Refusal, register_refusal, AsksTables, IsAskRefusal, IfDamaged, IsUntouched, LooksInto, LooksThrough, Searches, as_read, accepted, no_work}
use Rattle.zeb_register.specs.declared.RegFault.TheVariants.{Damaged}
use Rattle.zeb_register.specs.Formats.{plain_rows}
use Rattle.zeb_search.proofs.SearchesInTurn.{as_searched}
use Rattle.zeb_engine.proofs.ReadsInTurn.{fault_asked, look_done, look_fails, reads_end, reads_fail, reads_none, reads_on, reads_passed, shown_still}
use Rattle.zeb_engine.proofs.StoreCauses.{HasCauseFor}

-- nothing is said of a count
abbrev pub Uncounted : Content → Work → Work → Type 0
Uncounted content before after = Unit {0}

-- a call that counts nothing, as a search
pub through_searched : {A : Type 0} {format : Format} {row_work : ℕ} {D : Trees → Type 0} {F : Trees → A → Type 0} {a b : State} {w : Work} (r : Result A RegFault) → LooksThrough a b r D F → Searches format row_work D F Uncounted a b w w r
through_searched (Ok x) it = record { call = it.call; finds = it.finds; refused = it.refused; work = λ clean store content has. tt; no_work = λ none. refl }
through_searched (Err fault) it = record { call = it.call; finds = it.finds; refused = it.refused; work = tt; no_work = λ none. refl }

-- a search of whatever layout that counts nothing
abbrev pub SearchesUncounted : {A : Type 0} → (D : Trees → Type 0) → (F : Trees → A → Type 0) → State → State → Result A RegFault → Type 0
SearchesUncounted D F a b r = Searches plain_rows 0 D F Uncounted a b no_work no_work r

pub searched_through : {A : Type 0} {D : Trees → Type 0} {F : Trees → A → Type 0} {a b : State} {r : Result A RegFault} → SearchesUncounted D F a b r → LooksThrough a b r D F
searched_through it = record { call = it.call; finds = it.finds; refused = it.refused }

-- a call of the register, as one
pub looks_uncounted : {A : Type 0} {D : Trees → Type 0} {F : Trees → A → Type 0} {a b : State} (r : Result A RegFault) → LooksInto D F a b r → SearchesUncounted D F a b r
looks_uncounted (Ok x) it = as_searched it (λ none. refl) (λ clean store content has. tt)
looks_uncounted (Err fault) it = as_searched it (λ none. refl) tt

-- damage is told for what was found
pub searches_damaged : {A B : Type 0} {format : Format} {row_work : ℕ} {D E : Trees → Type 0} {F : Trees → A → Type 0} {G : Trees → B → Type 0} {C K : Content → Work → Work → Type 0} {a b : State} {v w : Work} {x : A}
    → Searches format row_work D F C a b v w (Ok x) → (IsStore a → F a.now.trees x → E a.now.trees) → Searches format row_work E G K a b v w (Err Damaged)
searches_damaged {a = a} {b = b} {x = x} it so = record {
  call = accepted a b (Err Damaged) (as_read a b x it.call);
  finds = λ clean store is. so store (it.finds clean store);
  refused = λ clean store is. absurd cc;
  work = tt;
  no_work = it.no_work;
}

-- what a call and a search behind it found, of the tables before them
both_found : {S X A : Type 0} {F : Trees → Result X Refusal → Type 0} {format : Format} {row_work : ℕ} {D : Trees → Type 0} {P : Trees → A → Type 0} {C : Content → Work → Work → Type 0} {v w : Work} (g : Ghosts S) (old mid new : Held S) (x : X) (y : A)
    → AsksTables g old mid (Ok x) F → Searches format row_work D P C (state g mid) (state g new) v w (Ok y) → HasCleanDisk (state g new) → IsStore (state g old) → F (state g old).now.trees (Ok x) × P (state g old).now.trees y
both_found {P = P} g old mid new x y first it clean store =
    let before = clean_before (state g mid) (state g new) it.call.crash clean in
    let at = shown_still g old mid x first.reads before store in
    (first.tables before store, subst (λ (t : Trees). P t y) at.1 (it.finds clean at.0))

module _ {S : Type 0} {g : Ghosts S} {T : Type 0} {G : Trees → Result T Refusal → Type 0} where
  -- a refusal is answered
  answered : {old new : Held S} {r : Result T Refusal} (why : Refusal) → r ≡ Err why → AsksTables g old new (Err why) G → AsksTables g old new r G
  answered {old = old} {new = new} why is known = subst (λ (q : Result T Refusal). AsksTables g old new q G) (sym is) known

  -- ---- no call

  -- refused before anything was asked
  pub asks_none : {held : Held S} {r : Result T Refusal} → held.in_transaction ≡ false → (why : Refusal) → HasCauseFor (state g held) (state g held) why → IsAskRefusal why → r ≡ Err why
      → (IsStore (state g held) → G (state g held).now.trees (Err why)) → AsksTables g held held r G
  asks_none {held = held} idle why caused few is so = answered why is (record { reads = reads_none g held idle why caused (Err why) refl; tables = λ clean store. so store; few = few })

  -- ---- one call

  -- a look into the tables
  module _ {old new : Held S} {A : Type 0} {D : Trees → Type 0} {F : Trees → A → Type 0} (idle : old.in_transaction ≡ false) where
    pub looked_done : {a : A} {y : T} → LooksInto D F (state g old) (state g new) (Ok a) → (IsStore (state g old) → F (state g old).now.trees a → G (state g old).now.trees (Ok y)) → AsksTables g old new (Ok y) G
    looked_done {a = a} {y = y} it so = record { reads = look_done g old new idle a it.call y; tables = λ clean store. so store (it.finds clean store); few = tt }

    pub looked_fails : {fault : RegFault} {r : Result T Refusal} → LooksInto D F (state g old) (state g new) (Err fault) → r ≡ Err (register_refusal fault)
        → (IsStore (state g old) → IfDamaged (D (state g old).now.trees) fault → G (state g old).now.trees (Err (register_refusal fault))) → AsksTables g old new r G
    looked_fails {fault = fault} it is so = answered (register_refusal fault) is (record {
      reads = look_fails {A = A} g old new idle (λ _. IsUnchanged) fault it.call it.refused (Err (register_refusal fault)) refl;
      tables = λ clean store. so store (it.finds clean store);
      few = fault_asked fault;
    })

    -- it was accepted, and the command is refused
    pub looked_ends : {a : A} {r : Result T Refusal} → LooksInto D F (state g old) (state g new) (Ok a) → (why : Refusal) → HasCauseFor (state g old) (state g new) why → IsAskRefusal why → r ≡ Err why
        → (IsStore (state g old) → F (state g old).now.trees a → G (state g old).now.trees (Err why)) → AsksTables g old new r G
    looked_ends {a = a} it why caused few is so = answered why is (record {
      reads = reads_end {X = A} g old new a (look_done g old new idle a it.call a) new (read_still (state g new)) why caused (Err why) refl;
      tables = λ clean store. so store (it.finds clean store);
      few = few;
    })

  -- the refusal of a call is handed on
  pub asks_handed : {old new : Held S} {A : Type 0} {F : Trees → Result A Refusal → Type 0} {r : Result T Refusal} (why : Refusal) → AsksTables g old new (Err why) F → r ≡ Err why
      → (IsStore (state g old) → F (state g old).now.trees (Err why) → G (state g old).now.trees (Err why)) → AsksTables g old new r G
  asks_handed {old = old} {new = new} {A = A} why it is so = answered why is (record {
    reads = reads_passed {A = A} g old new why it.reads (Err why) refl;
    tables = λ clean store. so store (it.tables clean store);
    few = it.few;
  })

  -- what it found is answered
  pub asks_given : {old new : Held S} {A : Type 0} {F : Trees → Result A Refusal → Type 0} {x : A} {y : T} → AsksTables g old new (Ok x) F → (IsStore (state g old) → F (state g old).now.trees (Ok x) → G (state g old).now.trees (Ok y)) → AsksTables g old new (Ok y) G
  asks_given it so = record {
    reads = record { idle = it.reads.idle; same = it.reads.same; opened = it.reads.opened; crash = it.reads.crash; caused = λ clean store. tt };
    tables = λ clean store. so store (it.tables clean store);
    few = tt;
  }

  -- ---- behind a call that was accepted

  module _ {X : Type 0} {F : Trees → Result X Refusal → Type 0} {old mid : Held S} {x : X} (first : AsksTables g old mid (Ok x) F) where
    -- no other was asked
    pub asks_stopped : {r : Result T Refusal} (why : Refusal) → HasCauseFor (state g old) (state g mid) why → IsAskRefusal why → r ≡ Err why
        → (IsStore (state g old) → F (state g old).now.trees (Ok x) → G (state g old).now.trees (Err why)) → AsksTables g old mid r G
    asks_stopped why caused few is so = answered why is (record {
      reads = reads_end g old mid x first.reads mid (read_still (state g mid)) why caused (Err why) refl;
      tables = λ clean store. so store (first.tables clean store);
      few = few;
    })

    module _ {A : Type 0} {format : Format} {row_work : ℕ} {D : Trees → Type 0} {P : Trees → A → Type 0} {C : Content → Work → Work → Type 0} {new : Held S} {v w : Work} where
      -- what a search found is answered
      pub asks_on : {y : A} {z : T} → Searches format row_work D P C (state g mid) (state g new) v w (Ok y) → (IsStore (state g old) → F (state g old).now.trees (Ok x) → P (state g old).now.trees y → G (state g old).now.trees (Ok z))
          → AsksTables g old new (Ok z) G
      asks_on {y = y} {z = z} it so = record {
        reads = reads_on g old mid x first.reads new (as_read (state g mid) (state g new) y it.call) z;
        tables = λ clean store. let found = both_found g old mid new x y first it clean store in so store found.0 found.1;
        few = tt;
      }

      -- it was accepted, and the command is refused
      pub asks_end : {y : A} {r : Result T Refusal} → Searches format row_work D P C (state g mid) (state g new) v w (Ok y) → (why : Refusal) → HasCauseFor (state g old) (state g new) why → IsAskRefusal why → r ≡ Err why
          → (IsStore (state g old) → F (state g old).now.trees (Ok x) → P (state g old).now.trees y → G (state g old).now.trees (Err why)) → AsksTables g old new r G
      asks_end {y = y} it why caused few is so = answered why is (record {
        reads = reads_end g old mid x first.reads new (as_read (state g mid) (state g new) y it.call) why caused (Err why) refl;
        tables = λ clean store. let found = both_found g old mid new x y first it clean store in so store found.0 found.1;
        few = few;
      })

      -- it is refused, and that is handed on
      pub asks_fail : {fault : RegFault} {r : Result T Refusal} → Searches format row_work D P C (state g mid) (state g new) v w (Err fault) → r ≡ Err (register_refusal fault)
          → (IsStore (state g old) → F (state g old).now.trees (Ok x) → IfDamaged (D (state g old).now.trees) fault → G (state g old).now.trees (Err (register_refusal fault))) → AsksTables g old new r G
      asks_fail {fault = fault} it is so = answered (register_refusal fault) is (record {
        reads = reads_fail g old mid x first.reads (state g mid) new (read_still (state g mid)) (λ _. IsUntouched) fault it.call it.refused (Err (register_refusal fault)) refl;
        tables = λ clean store.
            let before = clean_before (state g mid) (state g new) it.call.crash clean in
            let at = shown_still g old mid x first.reads before store in
            so store (first.tables before store) (λ damaged. subst D at.1 (it.finds clean at.0 damaged));
        few = fault_asked fault;
      })

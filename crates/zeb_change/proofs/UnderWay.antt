-- A change on its way, one record further: the table of records is written first, and then the registers.
use Rattle.zeb_change.proofs.Cited.{◌≡◌, ◌≢◌, ℕ, ℤ, List, ◌∷◌, Result, Ok, Err, inl, inr, refl, sym, ap, subst, arith, Int, Trees, Database, State, Has, Directive, Occurrence, Content, HasRisingLists, Changes, KeepsRegisters, records_tree, record_row, store_same, Refusal, Why, why_of, Meets, IsFailing, ArePostingsOf, IsReposted, Base, Kept, Pending, LeadsTo, WillHold, WillBe, standing, IsBase, AreKept, register_refusal, KeepsNames, with_records, Format, holds_in}
use Rattle.zeb_register.specs.declared.RegFault.{RegFault}
use Rattle.zeb_register.specs.declared.RegFault.TheVariants as fault
use Rattle.zeb_change.proofs.PostedLemmas.{IsSwap, posted_elder, posted_after}
use Rattle.zeb_change.proofs.Reposted.{reposted, reposted_is}

-- the registers are as they were where the table of records is written
pub registers_still : (old new : State) (Rows : ℕ → Trees → Trees → Type 0) → Changes records_tree Rows old new → KeepsRegisters old.now.trees new.now.trees
registers_still old new Rows put = (
  put.others.1.1.1.0 (λ same. omega (arith, same)),
  put.others.1.1.1.1.0 (λ same. omega (arith, same)),
  put.others.1.1.1.1.1.0 (λ same. omega (arith, same)),
)

-- ---- an answer, as a definition says

pub meets_so : {A X : Type 0} (One Two : A → X → Type 0) (said : Result A Why) (r : Result X Refusal) → ((a : A) (x : X) → One a x → Two a x) → Meets One said r → Meets Two said r
meets_so One Two (Ok a) (Ok x) so met = so a x met
meets_so One Two (Ok a) (Err refusal) so met = met
meets_so One Two (Err why) (Ok x) so met = met
meets_so One Two (Err why) (Err refusal) so met = met

-- a fault of the store that is no damage is a failure
pub fault_fails : (f : RegFault) → f ≢ fault.Damaged → IsFailing (why_of (register_refusal f))
fault_fails fault.Damaged sound = absurd (sound refl)
fault_fails fault.Store sound = inl refl
fault_fails fault.Memory sound = inr refl

-- ---- tables

pub same_kept : (old new : Trees) (records_of : ℤ → List Kept) → new records_tree ≡ old records_tree → AreKept old records_of → AreKept new records_of
same_kept old new records_of same are i sysno ident bytes = (
  λ there. (are i sysno ident bytes).0 (there.0, subst (λ rows. Has rows (Int there.0 ∷ record_row i sysno ident bytes)) same there.1),
  λ row. let there = (are i sysno ident bytes).1 row in (there.0, subst (λ rows. Has rows (Int there.0 ∷ record_row i sysno ident bytes)) (sym same) there.1),
)

module _ (format : Format) (profile : List Directive) (id : ℤ) (records_of : ℤ → List Kept) where
  -- what is seen tells how far a change is
  pub same_way : (old new : State) (pending : Pending) (base : Base) → new.now ≡ old.now → WillBe format profile id records_of (standing old pending) base → WillBe format profile id records_of (standing new pending) base
  same_way old new pending base same under = (
    store_same old new same under.0,
    record {
      kept = subst (λ (db : Database). AreKept db.trees (with_records id base.records records_of)) (sym same) under.1.kept;
      content = under.1.content;
      held = subst (λ (db : Database). WillHold format db.trees id pending under.1.content) (sym same) under.1.held;
      posted = under.1.posted;
    },
    under.2,
    under.3,
  )

  pub same_names : (old new : State) → new.now ≡ old.now → KeepsNames old new
  same_names old new same = (ap (λ (db : Database). db.trees 0) same, ap (λ (db : Database). db.trees 2) same)

  -- the keys of one record are noted
  abbrev pub IsMoved : ℕ → List Occurrence → List Occurrence → Pending → Pending → Type 0
  IsMoved sysno elder newer pending pending' =
      (behind before after : Content) → LeadsTo id pending behind before → HasRisingLists before → ArePostingsOf sysno elder (before id) → IsReposted id sysno newer before after
      → LeadsTo id pending' behind after

  module _ (stays : (old new : Trees) (content : Content) → KeepsRegisters old new → holds_in format old content → holds_in format new content) (old mid : State) (pending : Pending) (base next : Base)
      (under : WillBe format profile id records_of (standing old pending) base) (Rows : ℕ → Trees → Trees → Type 0) (put : Changes records_tree Rows old mid) where
    module _ (sysno : ℕ) (elder newer : List Occurrence) (swap : IsSwap profile sysno elder newer base.records next.records) where
      -- what the registers will hold of the record
      found_still : ArePostingsOf sysno elder (under.1.content id)
      found_still = posted_elder profile id records_of sysno elder newer base.records next.records swap under.1.content under.1.posted

      pub further : (pending' : Pending) → AreKept mid.now.trees (with_records id next.records records_of) → IsBase profile next → IsMoved sysno elder newer pending pending'
          → WillBe format profile id records_of (standing mid pending') next × KeepsNames old mid
      further pending' kept is moved =
          let after = reposted id sysno newer under.1.content in
          let change = reposted_is id sysno newer under.1.content under.1.posted.rising in
          let holds = under.1.held in (
            (
              put.layout,
              record {
                kept = kept;
                content = after;
                held = record {
                  behind = holds.behind;
                  held = stays old.now.trees mid.now.trees holds.behind (registers_still old mid Rows put) holds.held;
                  storable = holds.storable;
                  leads = moved holds.behind under.1.content after holds.leads under.1.posted.rising found_still change;
                };
                posted = posted_after profile id records_of sysno elder newer base.records next.records swap under.1.content under.1.posted after change;
              },
              is,
              under.3,
            ),
            (put.others.0 (λ same. omega (arith, same)), put.others.1.0 (λ same. omega (arith, same))),
          )

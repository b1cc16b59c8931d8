-- What is noted is written in runs of keys: that is what all keys come to as one run, and the registers hold what they would have held then.
use Rattle.zeb_change.proofs.Cited.{◌≡◌, ◌∙◌, ◌++◌, ℕ, ℤ, List, [], Result, Ok, Err, OnOk, map, sym, subst, inl, inr, AllZip, Has, all_from, has_left, has_mapped, has_right, State, Trees, Key, key_order, RegFault, Work, AreListChanges, OldsRise, Content, Format, holds_in, IsStore, registers_rise, with_list, KeyNotes, Pending, IsNothingNoted, LeadsList, Settles, IsSettled, KeepsUnwritten, WillHold, notes_at, CountsInStore, HasCleanDisk, IsTrue}
use Rattle.std.specs.List.Sorted.{IsStrictlySortedBy}
use Rattle.zeb_register.specs.declared.faults.RegFault.TheVariants.{Damaged, Memory}
use Rattle.zeb_register.specs.Answers.{IfDamaged}
use Rattle.zeb_register.specs.Clauses.{InStore}
use Rattle.zeb_register.specs.RunChanges.{AreChangedBy, ChangesKeys, IsOfRun, KeysRise, run_key}
use Rattle.zeb_register.specs.declared.registers.KeyChanges.{KeyChanges}
use Rattle.zeb_register.proofs.AlikeRows.{allows_alike, are_alike}
use Rattle.zeb_register.proofs.ListChanges.{content_changed}
use Rattle.zeb_register.proofs.RunLaws.{beside_database, run_beside, run_held, run_malformed}
use Rattle.zeb_register.proofs.RunRows.{beside_alike, rows_beside}
use Rattle.zeb_register.proofs.RunTurns.{none_put}
use Rattle.zeb_register.proofs.UnitChangeLaws.{allows_held}
use Rattle.zeb_change.specs.Inside.{WorksInside}
use Rattle.zeb_change.specs.PrivatePending.{DoKeysRise}
use Rattle.zeb_change.specs.PrivateWriting.{IsGivenOf, LacksLeaveFor, PutsNotes, WritesInStore, WritesNotes}
use Rattle.zeb_change.proofs.Commuting.{olds_rise, put_in_order}
use Rattle.zeb_change.proofs.LeadsToContent.{unled, will_begin}
use Rattle.zeb_change.proofs.NotedEntries.{key_noted, keys_apart_by, noted_nowhere, noted_there}
use Rattle.zeb_change.proofs.RunsInTurn.{runs_then}
use Rattle.zeb_change.proofs.StoredLemmas.{told_id}
use Rattle.zeb_change.proofs.ZippedLists.{zip_both, zip_left, zip_right, zip_same}

-- ---- the keys of a run are those that are noted

module _ (entries : List (Key × KeyNotes)) (run : List KeyChanges) (given : AllZip IsGivenOf entries run) where
  keys_same : map run_key run ≡ map key_noted entries
  keys_same = zip_same IsGivenOf key_noted run_key (λ entry one is. is.key) entries run given

  run_rises : DoKeysRise entries → KeysRise run
  run_rises rise = subst (IsStrictlySortedBy key_order) (sym keys_same) rise

  noted_rise : KeysRise run → DoKeysRise entries
  noted_rise rise = subst (IsStrictlySortedBy key_order) keys_same rise

-- ---- run by run, in rows

module _ (format : Format) (db : ℤ) where
  -- a call of a layout that changes the keys of a run
  pub run_written : (entries : List (Key × KeyNotes)) (run : List KeyChanges) → AllZip IsGivenOf entries run → KeysRise run → (s t : State) (result : Result (Unit {0}) RegFault) → ChangesKeys format db run s t result
      → WritesInStore format db entries s t result
  run_written entries run given rise s t (Ok done) changes clean inside store =
      let it = changes clean inside store in (it.0, record { run = run; given = given; rising = rise; puts = it.1 })
  run_written entries run given rise s t (Err fault) changes clean inside store = (
    tt,
    λ damaged.
        let it = changes clean inside store damaged in
        let from = zip_right IsGivenOf entries run given it.0 it.1 in
        record { entry = from.0; one = it.0; there = from.1; given = from.2; rising = noted_rise entries run given rise; stored = it.2; refused = it.3 },
  )

  pub unwritten : (entries : List (Key × KeyNotes)) (s t : State) (result : Result (Unit {0}) RegFault) → result ≡ Err Memory → WritesInStore format db entries s t result
  unwritten entries s t (Ok done) is clean inside store = absurd (cc)
  unwritten entries s t (Err fault) is clean inside store = (tt, λ damaged. absurd (let e : fault ≡ Memory = cc in cc))

  pub nothing_written : (entries : List (Key × KeyNotes)) (trees : Trees) → entries ≡ [] → WritesNotes format db entries trees trees (Ok tt)
  unfolding IsStrictlySortedBy
  nothing_written entries trees none =
      subst (λ (es : List (Key × KeyNotes)). PutsNotes format db es trees trees) (sym none) (record { run = []; given = tt; rising = tt; puts = none_put format db trees })

  module _ (front back : List (Key × KeyNotes)) (rise : DoKeysRise (front ++ back)) where
    pub first_refused : (trees : Trees) (fault : RegFault) → IfDamaged (LacksLeaveFor format db front trees) fault → IfDamaged (LacksLeaveFor format db (front ++ back) trees) fault
    first_refused trees fault refused damaged =
        let it = refused damaged in
        record { entry = it.entry; one = it.one; there = has_left front back it.entry it.there; given = it.given; rising = rise; stored = it.stored; refused = it.refused }

    module _ (old mid : Trees) (one : PutsNotes format db front old mid) where
      both_put : (new : Trees) → PutsNotes format db back mid new → PutsNotes format db (front ++ back) old new
      both_put new two =
          let run = one.run ++ two.run in
          let given = zip_both IsGivenOf front one.run back two.run one.given two.given in
          let rising = run_rises (front ++ back) run given rise in
          record { run = run; given = given; rising = rising; puts = runs_then one.run two.run old mid new format db rising one.puts two.puts }

      later_refused : LacksLeaveFor format db back mid → LacksLeaveFor format db (front ++ back) old
      later_refused it = record {
        entry = it.entry;
        one = it.one;
        there = has_right front back it.entry it.there;
        given = it.given;
        rising = rise;
        stored = it.stored;
        refused = λ were are allows. it.refused were are (allows_alike format db it.one.key.now old mid alike it.one.changes.now were are allows);
      }
        where
          apart : ¬ IsOfRun one.run it.one.key.now
          apart of =
              let from = zip_right IsGivenOf front one.run one.given of.0 of.1 in
              keys_apart_by key_noted front back rise from.0 it.entry from.1 it.there (sym it.given.key ∙ sym of.2 ∙ from.2.key)

          alike : are_alike format db it.one.key.now old mid
          alike = beside_alike format db one.run it.one.key.now old mid apart (rows_beside format db one.run old mid one.puts.rows)

      pub then_written : (new : Trees) (result : Result (Unit {0}) RegFault) → WritesNotes format db back mid new result → WritesNotes format db (front ++ back) old new result
      then_written new (Ok done) two = both_put new two
      then_written new (Err fault) two = λ damaged. later_refused (two damaged)

-- ---- as contents

module _ (format : Format) (db : ℤ) (pending : Pending) (trees : Trees) (ahead : Content) (will : WillHold format trees db pending ahead) where
  abbrev behind : Content
  behind = will.behind

  -- what a key's changes make of its list
  list_led : DoKeysRise pending.notes.entries → (entry : Key × KeyNotes) → Has pending.notes.entries entry → (one : KeyChanges) → IsGivenOf entry one
      → AreListChanges one.changes.now (behind db one.key.now) (ahead db one.key.now) × OldsRise one.changes.now
  list_led rise entry there one given =
      let leads = subst (λ o. LeadsList o (behind db entry.0) (ahead db entry.0)) (noted_there pending rise entry there) (will.leads.each entry.0) in
      let in_order = given.told leads.0 leads.1 in
      let up = registers_rise format trees behind will.held db entry.0 in (
        subst (λ k. AreListChanges one.changes.now (behind db k) (ahead db k)) (sym given.key)
            (put_in_order leads.0 one.changes.now in_order (behind db entry.0) (ahead db entry.0) up leads.2),
        olds_rise leads.0 one.changes.now in_order (behind db entry.0) (ahead db entry.0) leads.2,
      )

  pub not_lacking : ¬ LacksLeaveFor format db pending.notes.entries trees
  not_lacking it =
      let key = it.one.key.now in
      let changes = it.one.changes.now in
      let led = list_led it.rising it.entry it.there it.one it.given in
      let allows = allows_held format db key changes trees behind will.held will.storable it.stored led.1 (with_list db key (ahead db key) behind) (content_changed db key changes behind (ahead db key) led.0) in
      it.refused allows.0 allows.1 allows.2

  module _ (new : Trees) (it : PutsNotes format db pending.notes.entries trees new) where
    abbrev rise : DoKeysRise pending.notes.entries
    rise = noted_rise pending.notes.entries it.run it.given it.rising

    changed : AreChangedBy db it.run behind ahead
    changed = record {
      lists = all_from (λ (one : KeyChanges). AreListChanges one.changes.now (behind db one.key.now) (ahead db one.key.now)) it.run (λ one here.
          let from = zip_right IsGivenOf pending.notes.entries it.run it.given one here in
          (list_led rise from.0 from.1 one from.2).0);
      others = λ d k out. elim (told_id d db) [
        | inr other ↦ will.leads.others d k other
        | inl same ↦ subst (λ x. ahead x k ≡ behind x k) (sym same)
            (unled (notes_at pending k) (behind db k) (ahead db k) (noted_nowhere pending k (λ there.
            let entry = has_mapped key_noted pending.notes.entries k there in
            let one = zip_left IsGivenOf pending.notes.entries it.run it.given entry.0 entry.1 in
            out (same, (one.0, one.1, one.2.key ∙ sym entry.2)))) (will.leads.each k))
      ];
    }

    pub put_ahead : holds_in format new ahead
    put_ahead = run_held format db it.run trees new it.rising it.puts behind ahead will.held changed

-- ---- a call that writes all that is noted

module _ (format : Format) (db : ℤ) (before : Pending) (s t : State) where
  abbrev Writes : Result (Unit {0}) RegFault → Type 0
  Writes result = WritesInStore format db before.notes.entries s t result

  pub settles : (row_work : ℕ) (after : Pending) (work worked : Work) (result : Result (Unit {0}) RegFault) → WorksInside s t result → Writes result
      → OnOk result (IsNothingNoted after × CountsInStore format row_work s t work worked before after) → Settles format row_work db s t before after work worked result
  settles row_work after work worked result inside writes all = record {
    stays = inside.stays;
    written = λ clean mode store. put clean mode store result (writes clean mode store) all;
    honest = λ clean mode store told ahead storable will. lacking result (writes clean mode store) told ahead will;
    crash = inside.crash;
  }
    where
      put : HasCleanDisk t → IsTrue s.in_transaction → IsStore s → (r : Result (Unit {0}) RegFault) → OnOk r (IsStore t) × WritesNotes format db before.notes.entries s.now.trees t.now.trees r
          → OnOk r (IsNothingNoted after × CountsInStore format row_work s t work worked before after) → OnOk r (IsSettled format row_work db s t before after work worked)
      put clean mode store (Ok done) it noted = (
        it.0,
        it.1.puts.lists,
        λ ahead storable will.
            (will_begin format t.now.trees db after ahead noted.0 (put_ahead format db before s.now.trees ahead will t.now.trees it.1) storable, noted.1 clean mode store),
      )
      put clean mode store (Err fault) it noted = tt

      lacking : (r : Result (Unit {0}) RegFault) → OnOk r (IsStore t) × WritesNotes format db before.notes.entries s.now.trees t.now.trees r → r ≡ Err Damaged
          → (ahead : Content) → ¬ WillHold format s.now.trees db before ahead
      lacking (Ok done) it told ahead will = absurd (cc)
      lacking (Err fault) it told ahead will = not_lacking format db before s.now.trees ahead will (it.1 (let e : fault ≡ Damaged = cc in e))

  pub settled_keeps : (result : Result (Unit {0}) RegFault) → Writes result → InStore s t (λ trees. OnOk result (KeepsUnwritten format db trees t.now.trees))
  settled_keeps (Ok done) writes clean mode store =
      let it = (writes clean mode store).1 in
      record {
        beside = beside_database format db it.run s.now.trees t.now.trees (run_beside format db it.run s.now.trees t.now.trees it.puts);
        malformed = run_malformed format db it.run s.now.trees t.now.trees it.rising it.puts;
      }
  settled_keeps (Err fault) writes clean mode store = tt

-- A register in the layout in which it is used, and looks at a store.
use Rattle.zeb_program.proofs.Cited.{Database, IsDatabase, Held, state, HasCleanDisk, State, Survives, ◌≡◌, ◌∙◌, Bool, List, ap, arith, codes, false, inl, inr, refl, subst, sym, true, AllByRecursion, IsTrue, MatchResult, Result, Ok, Err, Conditions, conditions, Refusal, Damaged, Limits, CommitsAdopted, RefusesText, TellsText, TellsVersion, IsImage, Directive, OnlyLooked, format_of, FailsLook, IsTakenOver, UsedAs, AreConditionsIn, AreScriptConditions, Blocks, Leaves, ChangesNothing, Format, packed_blocks, packed_leaves, version_of, Unsaid}
use Rattle.sqlite.proofs.StateLemmas.{survives_then}
use Rattle.sqlite.specs.Store.{Ghosts}
use Rattle.sqlite.specs.Table.{Table}
use Rattle.zeb_engine.specs.Causes.{HasStoreCause, OnlyLooks}
use Rattle.zeb_register.specs.Sql.{IsKeyed}
use Rattle.zeb_register.specs.Store.{IsStore}
use Rattle.zeb_register.specs.Tables.{store_schema}
use Rattle.zeb_program.specs.declared.opening.UsedLayout.{UsedLayout}

-- nothing is done where no look is taken
pub unlooked : {T : Type 0} (s : State) (x : T) → OnlyLooked s s (Ok x)
unlooked s x = record {
  looks = λ clean. record { nothing = λ is_open. (is_open, refl, refl); caused = λ store. tt };
  survives = record {
    clean = omega arith;
    counts = omega arith;
    limit = refl;
    closes = λ clean is_open. inl is_open;
    shield = λ shielded. shielded;
    crash = λ clean db left. inl left;
  };
}

-- nor where a look is taken that says so, whatever is told of what it found; the store is told as failed only where it is
pub looked_once : {T U : Type 0} (old new : State) (r : Result T Refusal) (given : Result U Refusal) → (HasCleanDisk new → OnlyLooks old new r) → Survives old new (λ _. ⊥)
    → (HasStoreCause old new r → HasStoreCause old new given) → OnlyLooked old new given
looked_once old new r given looks lasts tells = record { looks = λ clean. record { nothing = (looks clean).nothing; caused = tells (looks clean).caused }; survives = lasts }

abbrev untold_layout : Refusal → Result UsedLayout Refusal
untold_layout why = Err why

pub failed_so : (old new : State) (r : Result Bool Refusal) (why : Refusal) → r ≡ Err why → HasStoreCause old new r → HasStoreCause old new (untold_layout why)
failed_so old new r why is caused = subst (HasStoreCause old new) is caused

-- a store that was taken over, and then only looked at
pub looked_at : {S : Type 0} (g : Ghosts S) (opened taken last : Held S) (why : Refusal) → (HasCleanDisk (state g taken) → IsTakenOver g opened taken) → OnlyLooked (state g taken) (state g last) (untold_layout why)
    → HasCleanDisk (state g last) → IsTakenOver g opened taken × FailsLook (state g taken) (state g last) why
looked_at g opened taken last why takes looked clean =
    let first : HasCleanDisk (state g taken) = omega (arith, looked.survives.clean) in
    let it = looked.looks clean in
    (takes first, record { nothing = it.nothing; caused = it.caused })

-- the tables of a store that are the same are those of a store
stays : (old new : State) → new.now ≡ old.now → IsStore old → IsStore new
stays old new same store = record {
  is = ap (λ (db : Database). db.schema) same ∙ store.is;
  sound = subst IsDatabase (sym same) store.sound;
  keyed = subst (λ (db : Database). AllByRecursion (λ (t : Table). IsKeyed (db.trees t.tree)) store_schema.tables) (sym same) store.keyed;
}

-- a store that was taken over is still after a look
pub looked_over : {S T : Type 0} (g : Ghosts S) (opened taken last : Held S) (r : Result T Refusal) → (HasCleanDisk (state g taken) → IsTakenOver g opened taken) → OnlyLooked (state g taken) (state g last) r
    → HasCleanDisk (state g last) → IsTakenOver g opened last
looked_over g opened taken last r takes looked clean =
    let first : HasCleanDisk (state g taken) = omega (arith, looked.survives.clean) in
    let was = takes first in
    record {
      keeps = λ before bears is_open.
          let same = (looked.looks clean).nothing is_open in
          let kept = was.keeps before bears same.0 in
          ((stays (state g taken) (state g last) same.1 kept.0.0, subst (λ (db : Database). IsImage db.trees before) (sym same.1) kept.0.1), same.2 ∙ kept.1 ∙ sym same.1);
      store = λ ours is_open.
          let same = (looked.looks clean).nothing is_open in
          stays (state g taken) (state g last) same.1 (was.store ours same.0);
      lasts = record {
        survives = survives_then (state g opened) (state g taken) (state g last) (CommitsAdopted (state g opened)) (λ _. ⊥) (CommitsAdopted (state g opened)) (λ _ db made. made) (λ _ db none. absurd none)
            was.lasts.survives looked.survives;
        crash = λ whole before bears leaves db left. elim (looked.survives.crash whole db left) [ inl was_left ↦ was.lasts.crash first before bears leaves db was_left | inr none ↦ absurd none ];
      };
    }

-- the conditions of a session in another format
pub conditions_in : (format : Format) (directives profile : List Directive) (limits : Limits) → AreScriptConditions directives (conditions (version_of packed_blocks) profile limits)
    → AreConditionsIn format directives (conditions (version_of format) profile limits)
conditions_in format directives profile limits under = record { version = refl; profile = under.profile; records = under.records; numbers = under.numbers }

-- what is so in packed blocks, or in leaves, is so in the format of the layout
pub in_blocks : {S : Type 0} (P : Format → Conditions → Held S → Type 0) (layout : UsedLayout) (profile : List Directive) (limits : Limits) (held : Held S) → layout ≡ Blocks
    → P packed_blocks (conditions (version_of packed_blocks) profile limits) held → P (format_of layout) (conditions (version_of (format_of layout)) profile limits) held
in_blocks P layout profile limits held is so = subst (λ it. P (format_of it) (conditions (version_of (format_of it)) profile limits) held) (sym is) so

pub in_leaves : {S : Type 0} (P : Format → Conditions → Held S → Type 0) (layout : UsedLayout) (profile moved_profile : List Directive) (limits moved_limits : Limits) (held moved : Held S) → layout ≡ Leaves
    → (moved ≡ held) × ((moved_profile ≡ profile) × (moved_limits ≡ limits))
    → P packed_leaves (conditions (version_of packed_leaves) moved_profile moved_limits) moved → P (format_of layout) (conditions (version_of (format_of layout)) profile limits) held
in_leaves P layout profile moved_profile limits moved_limits held moved is same so =
    subst (λ it. P (format_of it) (conditions (version_of (format_of it)) profile limits) held) (sym is)
    (subst (λ h. P packed_leaves (conditions (version_of packed_leaves) profile limits) h) same.0
    (subst (λ p. P packed_leaves (conditions (version_of packed_leaves) p limits) moved) same.1.0
    (subst (λ l. P packed_leaves (conditions (version_of packed_leaves) moved_profile l) moved) same.1.1 so)))

-- ---- which version a store keeps

module _ (old new : State) (r : Result Bool Refusal) (tells : TellsVersion (version_of packed_leaves) old r) (nothing : ChangesNothing old new) where
  told : IsTrue new.is_open → IsStore new → MatchResult r (TellsText (codes "version") (version_of packed_leaves) new.now.trees) (RefusesText (codes "version") new.now.trees)
  told is_open store =
      let same = nothing is_open in
      subst (λ (db : Database). MatchResult r (TellsText (codes "version") (version_of packed_leaves) db.trees) (RefusesText (codes "version") db.trees)) (sym same.1)
      (tells (stays new old (sym same.1) store))

  pub keeps_leaves : r ≡ Ok true → UsedAs Unsaid new packed_leaves
  keeps_leaves is is_open store =
      let it = subst (λ r. MatchResult r (TellsText (codes "version") (version_of packed_leaves) new.now.trees) (RefusesText (codes "version") new.now.trees)) is (told is_open store) in
      (it.0.0 refl, it.1)

  pub lacks_leaves : r ≡ Ok false → UsedAs Unsaid new packed_blocks
  lacks_leaves is is_open store keeps =
      let it = subst (λ r. MatchResult r (TellsText (codes "version") (version_of packed_leaves) new.now.trees) (RefusesText (codes "version") new.now.trees)) is (told is_open store) in
      let bad : false ≡ true = it.0.1 keeps.0 in
      cc

  pub unread_leaves : r ≡ Err Damaged → UsedAs Unsaid new packed_blocks
  unread_leaves is is_open store keeps =
      let it = subst (λ r. MatchResult r (TellsText (codes "version") (version_of packed_leaves) new.now.trees) (RefusesText (codes "version") new.now.trees)) is (told is_open store) in
      it keeps.1

-- What follows from what a change does with one record: of tables that are an image, and of any tables of a store.
use Rattle.zeb_change.proofs.Cited.{◌≡◌, ◌≢◌, ◌⊎◌, ◌↔◌, ◌∙◌, ◌+◌, ◌<◌, ◌≤◌, ℕ, ℤ, List, [], ◌∷◌, Option, Some, None, Result, Ok, Err, IfErr, OnOk, IsUtf8, inl, inr, refl, sym, ap, subst, subst₂, arith, nat_le, true, Contains, nat_tests, Database, State, Trees, has_contained, Occurrence, Directive, Elder, Format, IsElderOf, Changes, IsStore, databases_tree, meta_tree, records_tree, registers_stay, store_same, first_fault, Pending, Refusal, Damaged, Kind, Update, Delete, Adelete, Setting, Fate, Updated, PassedOver, Base, Kept, kept_as, IsCostIn, IsRecordCost, newer_of, occurs_by, KeepsWhole, PassesOn, Changed, changed_by, deleted, ident_in, updated, noted_count, AreOccurrencesOf, identifier_refusal, KeepsOtherRecords, IsRecordRefused, LosesJustNamed, GoesBy, IsElderAs, IsNewer, IsWholeElder, elder_bytes, WillBe, WillBeTaken, standing, IsNamed, Accepts, ChangesRecord, HasOccurrences, IsSound, IsWithdrawn, NotesRecord, Point, RefusesTurn, Turns, WritesRecords, point, IsFailing, Meets, Why, unknown, why_of, conditions_of}
use Rattle.zeb_register.specs.Store.{blocks_tree, dict_tree, postings_tree}
use Rattle.zeb_change.specs.Folding.{changed_record}
use Rattle.zeb_change.proofs.BaseLemmas.{one_ident}
use Rattle.zeb_change.proofs.CostLemmas.{cost_as, cost_in, same_cost}
use Rattle.zeb_change.proofs.Elders.{failed_so, so_undamaged, whole_kept}
use Rattle.zeb_change.proofs.EqualReplacements.{updated_alike}
use Rattle.zeb_change.proofs.FoldLemmas.{named_record, no_ident, no_record}
use Rattle.zeb_change.proofs.KeptStill.{elder_owns, none_owns, passes_by, put_keeps, rows_same, take_keeps}
use Rattle.zeb_change.proofs.Reasons.{fault_refuses, full_refuses, loses_own, unknown_refuses}
use Rattle.zeb_change.proofs.StoredLemmas.{elder_is, record_has}
use Rattle.zeb_change.proofs.TurnLemmas.{inserted, passed_over, replaced, withdrawn}
use Rattle.zeb_change.proofs.UnderWay.{IsMoved}

-- ---- parts

-- the table of records is written, as the calls on tables say it
changes_of : (Rows : ℕ → Trees → Trees → Type 0) (old new : State) → new.in_transaction ≡ old.in_transaction → WritesRecords Rows old.now new.now → Changes records_tree Rows old new
changes_of Rows old new mode wrote =
    record { layout = record { is = wrote.store.is; sound = wrote.store.sound; keyed = wrote.store.keyed }; mode = mode; rows = wrote.rows; others = wrote.others }

module _ (setting : Setting) (db : ℤ) (bytes : List ℕ) (old new : State) (before after : Pending) (last next : ℕ) where
  -- ---- the elder is whole

  elder_whole : (ident : List ℕ) → IsSound setting.profile.now ident bytes → (kind : Kind) (elder : Option Elder) (fate : Fate)
      → Turns setting db ident bytes kind elder (point old before last) (point new after next) fate → IsWholeElder setting.profile.now ident elder
  elder_whole ident sound kind None fate done = tt
  elder_whole ident sound Update (Some elder) fate (inl same) = subst (IsSound setting.profile.now ident) (sym same.0) sound
  elder_whole ident sound Update (Some elder) fate (inr put) = put.3
  elder_whole ident sound Delete (Some elder) fate done = done.2
  elder_whole ident sound Adelete (Some elder) fate done = done.2

  module _ (store : IsStore old) (fate : Fate) (accepts : Accepts setting db bytes (point old before last) (point new after next) fate) where
    accepts_whole : KeepsWhole setting.profile.now old.now.trees db accepts.ident
    accepts_whole = whole_kept setting.profile.now old store db accepts.ident accepts.elder accepts.there (elder_whole accepts.ident accepts.sound setting.kind accepts.elder fate accepts.done)

    -- ---- what is kept still

    module _ (mode : new.in_transaction ≡ old.in_transaction) where
      rests : (ident : List ℕ) → point new after next ≡ point old before last → KeepsOtherRecords db ident last next old new
      rests ident same =
          let now = ap (λ (p : Point). p.tables) same in
          let lists = ap (λ (d : Database). d.trees records_tree) now in
          record {
            store = store_same old new now store;
            rises = let is = ap (λ (p : Point). p.last) same in omega (arith, is);
            others = λ other differs sysno kept there up. rows_same old.now.trees new.now.trees lists db sysno other kept there;
            aside = λ other sysno name kept differs.
                (rows_same new.now.trees old.now.trees (sym lists) other sysno name kept, rows_same old.now.trees new.now.trees lists other sysno name kept);
            registers = (ap (λ (d : Database). d.trees postings_tree) now, ap (λ (d : Database). d.trees blocks_tree) now, ap (λ (d : Database). d.trees dict_tree) now);
            names = (ap (λ (d : Database). d.trees meta_tree) now, ap (λ (d : Database). d.trees databases_tree) now);
          }

      takes_others : (ident : List ℕ) (elder : Elder) → IsElderOf old.now.trees db ident (Some elder) → IsWithdrawn setting db ident elder (point old before last) (point new after next) fate → KeepsOtherRecords db ident last next old new
      takes_others ident elder there done =
          take_keeps db ident elder.sysno last next (omega (arith, done.1)) old new (elder_owns old store db ident elder there last) (changes_of _ old new mode done.3.rows)

      turns_others : (ident : List ℕ) (kind : Kind) (elder : Option Elder) → IsElderOf old.now.trees db ident elder
          → Turns setting db ident bytes kind elder (point old before last) (point new after next) fate → KeepsOtherRecords db ident last next old new
      turns_others ident Update None none done =
          put_keeps db ident (last + 1) last next (omega (arith, done.2)) old new (none_owns old.now.trees db ident last) bytes (changes_of _ old new mode done.3.rows)
      turns_others ident Update (Some elder) there (inl same) = rests ident same.2
      turns_others ident Update (Some elder) there (inr put) =
          put_keeps db ident elder.sysno last next (omega (arith, put.2)) old new (elder_owns old store db ident elder there last) bytes (changes_of _ old new mode put.4.rows)
      turns_others ident Delete (Some elder) there done = takes_others ident elder there done
      turns_others ident Delete None none done = absurd done
      turns_others ident Adelete (Some elder) there done = takes_others ident elder there done
      turns_others ident Adelete None none done = rests ident done.1

      keeps_others : KeepsOtherRecords db accepts.ident last next old new
      keeps_others = turns_others accepts.ident setting.kind accepts.elder accepts.there accepts.done

      pub passes : (format : Format) → PassesOn format setting.profile.now db last next old new
      passes format = passes_by format setting.profile.now db accepts.ident last next old new (Ok fate) accepts_whole keeps_others

      pub named : LosesJustNamed setting.profile.now last db (bytes ∷ []) old.now.trees new.now.trees
      named = loses_own setting.profile.now db bytes last accepts.ident (accepts.sound.whole, accepts.sound.named) next old new keeps_others

-- ---- why it is refused

module _ (setting : Setting) (db : ℤ) (file nth : ℕ) (bytes : List ℕ) (old new : Point) where
  module _ (taken : ℕ) (few : taken < setting.limits.records) where
    new_refused : (kind : Kind) (ident : List ℕ) → IsNamed setting.profile.now bytes ident → IsElderOf old.tables.trees db ident None → (refusal : Refusal) → RefusesTurn setting file nth ident None kind old.last refusal
        → IsRecordRefused setting.profile.now kind setting.limits old.last taken old.tables.trees db file nth bytes refusal
    new_refused Update ident is_named none refusal full =
        full_refuses setting.profile.now Update setting.limits old.last taken old.tables.trees db file nth bytes few refl ident is_named None none refusal (inl (refl, inl full))
    new_refused Delete ident is_named none refusal is =
        subst (IsRecordRefused setting.profile.now Delete setting.limits old.last taken old.tables.trees db file nth bytes) (sym is)
        (unknown_refuses setting.profile.now Delete setting.limits old.last taken old.tables.trees db file nth bytes few refl ident is_named none)
    new_refused Adelete ident is_named none refusal is = absurd is

    pub reasons : (result : Result Fate Refusal) → ChangesRecord setting db file nth bytes old new result
        → IfErr result (IsRecordRefused setting.profile.now setting.kind setting.limits old.last taken old.tables.trees db file nth bytes)
    reasons (Ok fate) changes = tt
    reasons (Err refusal) (inl failing) = inr (inr failing)
    reasons (Err refusal) (inr (inl at)) = fault_refuses setting.profile.now setting.kind setting.limits old.last taken old.tables.trees db file nth bytes few refusal (inr at)
    reasons (Err refusal) (inr (inr sound)) = elim sound.why [
      | inl damaged ↦ inr (inl damaged.0)
      | inr new ↦ new_refused setting.kind sound.ident (sound.sound.whole, sound.sound.named) new.0 refusal new.1
    ]

-- ---- on an image

-- what a database keeps is whole
keeps_whole : (profile : List Directive) (db : ℤ) (records_of : ℤ → List Kept) (s : State) (pending : Pending) (format : Format) (base : Base) → WillBe format profile db records_of (standing s pending) base
    → (ident : List ℕ) → KeepsWhole profile s.now.trees db ident
keeps_whole profile db records_of s pending format base under ident sysno bytes there =
    let it = record_has db records_of s.now.trees base under.1.kept sysno ident bytes there in
    let sound = under.2.sound it.0 it.1 in (
      it.0.sysno,
      it.2,
      record {
        whole = subst (λ (b : List ℕ). first_fault b ≡ None) (sym it.4) sound.whole;
        named = ap (ident_in profile) it.4 ∙ sound.named ∙ ap Ok (sym it.3);
        text = subst IsUtf8 (sym it.3) sound.text;
      },
    )

-- ---- it is taken as the definition says

full_so : (numbers last other : ℕ) → last ≡ other → numbers ≤ last → nat_le numbers other ≡ true
full_so numbers last other same = grind (arith, nat_tests)

-- its keys are noted, as it is moved
moved_as : (profile : List Directive) (format : Format) (db : ℤ) (records_of : ℤ → List Kept) (sysno : ℕ) (elder newer : Option (List ℕ)) (before after : Pending)
    → (noted : NotesRecord profile sysno elder newer before after) → IsMoved format profile db records_of sysno noted.were noted.are before after
moved_as profile format db records_of sysno elder newer before after noted = noted.keys.moved db

module _ (version : List ℕ) (setting : Setting) (format : Format) (db : ℤ) (records_of : ℤ → List Kept) (file nth : ℕ) (bytes : List ℕ) (old new : State) (before after : Pending) (last next : ℕ) (base : Base)
    (is_last : last ≡ base.last) (under : WillBe format setting.profile.now db records_of (standing old before) base) where
  -- what is said of the record
  abbrev IsAsSaid : Result Changed Why → Result Fate Refusal → Type 0
  IsAsSaid = Meets (WillBeTaken format setting.profile.now db records_of (standing old before) (standing new after) next)

  module _ (mode : new.in_transaction ≡ old.in_transaction) (ident : List ℕ) (sound : IsSound setting.profile.now ident bytes) where
    newer_is : (are : List Occurrence) → AreOccurrencesOf setting.profile.now bytes are → IsNewer setting.profile.now ident bytes are
    newer_is are found = record { whole = sound.whole; named = sound.named; text = sound.text; found = found }

    rests_so : (fate : Fate) → point new after next ≡ point old before last → IsAsSaid (Ok (base, fate)) (Ok fate)
    rests_so fate same = subst₂ (λ (pending : Pending) (l : ℕ). WillBeTaken format setting.profile.now db records_of (standing old before) (standing new pending) l (base, fate) fate)
        (sym (ap (λ (p : Point). p.pending) same)) (sym (ap (λ (p : Point). p.last) same))
        (passed_over format setting.profile.now db records_of old new before last base fate (ap (λ (p : Point). p.tables) same) is_last under)

    withdraws_so : (elder : Elder) → IsElderAs ident base (Some elder) → (absent : Result Changed Why) (fate : Fate) → Turns setting db ident bytes Delete (Some elder) (point old before last) (point new after next) fate
        → IsAsSaid (deleted absent ident base (kept_as ident base)) (Ok fate)
    withdraws_so elder there absent fate done = subst (λ (f : Fate). IsAsSaid (deleted absent ident base (kept_as ident base)) (Ok f)) (sym done.0)
        (withdrawn format (registers_stay format) setting.profile.now db records_of old new before after base under ident elder there done.3.noted.were done.3.noted.had
        (changes_of _ old new mode done.3.rows) absent next (done.1 ∙ is_last)
        (subst (λ (are : List Occurrence). IsMoved format setting.profile.now db records_of elder.sysno done.3.noted.were are before after) done.3.noted.has
        (moved_as setting.profile.now format db records_of elder.sysno _ _ before after done.3.noted)))

    turns_so : (kind : Kind) (elder : Option Elder) → IsElderAs ident base elder → (fate : Fate) → Turns setting db ident bytes kind elder (point old before last) (point new after next) fate
        → IsAsSaid (changed_by (conditions_of version setting) kind file nth bytes ident base) (Ok fate)
    turns_so Update None none fate done = subst (λ (f : Fate). IsAsSaid (updated (conditions_of version setting) ident bytes base (kept_as ident base)) (Ok f)) (sym done.0)
        (inserted format (registers_stay format) setting.profile.now db records_of old new before after base under ident bytes done.3.noted.are (newer_is _ done.3.noted.has) (conditions_of version setting) last next is_last none
        (changes_of _ old new mode done.3.rows) done.2 done.1 setting.limits.most_numbers
        (subst (λ (were : List Occurrence). IsMoved format setting.profile.now db records_of (last + 1) were done.3.noted.are before after) done.3.noted.had
        (moved_as setting.profile.now format db records_of (last + 1) _ _ before after done.3.noted)))
    turns_so Update (Some elder) there fate (inl same) = subst (λ (f : Fate). IsAsSaid (updated (conditions_of version setting) ident bytes base (kept_as ident base)) (Ok f)) (sym same.1)
        (subst (λ (said : Result Changed Why). IsAsSaid said (Ok Updated)) (sym (updated_alike setting.profile.now (conditions_of version setting) base under.2 ident bytes (Some elder) there (ap Some same.0))) (rests_so Updated same.2))
    turns_so Update (Some elder) there fate (inr put) = subst (λ (f : Fate). IsAsSaid (updated (conditions_of version setting) ident bytes base (kept_as ident base)) (Ok f)) (sym put.1)
        (replaced format (registers_stay format) setting.profile.now db records_of old new before after base under ident bytes put.4.noted.are (newer_is _ put.4.noted.has) (conditions_of version setting) elder there
        put.4.noted.were put.4.noted.had (changes_of _ old new mode put.4.rows) next (put.2 ∙ is_last)
        (moved_as setting.profile.now format db records_of elder.sysno _ _ before after put.4.noted))
    turns_so Delete (Some elder) there fate done = withdraws_so elder there (Err (unknown file nth)) fate done
    turns_so Delete None none fate done = absurd done
    turns_so Adelete (Some elder) there fate done = withdraws_so elder there (Ok (base, PassedOver)) fate done
    turns_so Adelete None none fate done = subst (λ (f : Fate). IsAsSaid (deleted (Ok (base, PassedOver)) ident base (kept_as ident base)) (Ok f)) (sym done.0)
        (subst (λ (kept : Option Kept). IsAsSaid (deleted (Ok (base, PassedOver)) ident base kept) (Ok PassedOver)) (sym none) (rests_so PassedOver done.1))

  -- a refusal, too
  refuses_so : (said : Result Changed Why) (refusal : Refusal) → IsFailing (why_of refusal) ⊎ (said ≡ Err (why_of refusal)) → IsAsSaid said (Err refusal)
  refuses_so (Ok changed) refusal so = so
  refuses_so (Err why) refusal so = so

  new_so : (kind : Kind) (ident : List ℕ) → kept_as ident base ≡ None → (refusal : Refusal) → RefusesTurn setting file nth ident None kind last refusal
      → changed_by (conditions_of version setting) kind file nth bytes ident base ≡ Err (why_of refusal)
  new_so Update ident none refusal full = ap (updated (conditions_of version setting) ident bytes base) none
      ∙ (let is_full : nat_le setting.limits.numbers base.last ≡ true = full_so setting.limits.numbers last base.last is_last full.1 in rw is_full (ap (λ (r : Refusal). Err (why_of r)) (sym full.0)))
  new_so Delete ident none refusal is = ap (deleted (Err (unknown file nth)) ident base) none ∙ ap (λ (r : Refusal). Err (why_of r)) (sym is)
  new_so Adelete ident none refusal is = absurd is

  elder_so : (ident : List ℕ) (elder : Option Elder) → IsElderOf old.now.trees db ident elder → IsElderAs ident base elder
  elder_so ident elder there = elder_is db records_of old.now.trees base under.1.kept ident (one_ident setting.profile.now base under.2) elder there

  pub taken : (result : Result Fate Refusal) → OnOk result (new.in_transaction ≡ old.in_transaction) → ChangesRecord setting db file nth bytes (point old before last) (point new after next) result
      → IsAsSaid (changed_record (conditions_of version setting) setting.kind file nth bytes base) result
  taken (Ok fate) mode accepts =
      subst (λ (said : Result Changed Why). IsAsSaid said (Ok fate)) (sym (named_record (conditions_of version setting) setting.kind file nth bytes base accepts.ident accepts.sound.whole accepts.sound.named))
      (turns_so mode accepts.ident accepts.sound setting.kind accepts.elder (elder_so accepts.ident accepts.elder accepts.there) fate accepts.done)
  taken (Err refusal) mode (inl failing) = refuses_so (changed_record (conditions_of version setting) setting.kind file nth bytes base) refusal (inl failing)
  taken (Err refusal) mode (inr (inl (inl fault))) = refuses_so (changed_record (conditions_of version setting) setting.kind file nth bytes base) refusal
      (inr (no_record (conditions_of version setting) setting.kind file nth bytes base fault.0 fault.1 ∙ ap (λ (r : Refusal). Err (why_of r)) (sym fault.2)))
  taken (Err refusal) mode (inr (inl (inr fault))) = subst (λ (r : Refusal). IsAsSaid (changed_record (conditions_of version setting) setting.kind file nth bytes base) (Err r)) (sym fault.3)
      (refuses_so (changed_record (conditions_of version setting) setting.kind file nth bytes base) (identifier_refusal file nth fault.0)
      (no_ident (conditions_of version setting) setting.kind file nth bytes base fault.0 fault.1 (λ other. fault.2)))
  taken (Err refusal) mode (inr (inr refuses)) = elim refuses.why [
    | inl damaged ↦ absurd (damaged.1 (keeps_whole setting.profile.now db records_of old before format base under refuses.ident))
    | inr new_one ↦ refuses_so (changed_record (conditions_of version setting) setting.kind file nth bytes base) refusal
        (inr (named_record (conditions_of version setting) setting.kind file nth bytes base refuses.ident refuses.sound.whole refuses.sound.named
        ∙ new_so setting.kind refuses.ident (elder_so refuses.ident None new_one.0) refusal new_one.1))
  ]

-- ---- which keys it costs

-- the occurrences are those of the record with these bytes
occurs_as : (profile : List Directive) (bytes : Option (List ℕ)) (all : List Occurrence) → HasOccurrences profile bytes all → (o : Occurrence) → Contains all o ↔ occurs_by profile bytes o
occurs_as profile None all none o = subst (λ (l : List Occurrence). Contains l o ↔ ⊥) (sym none) (λ there. absurd (has_contained [] o there), λ never. absurd never)
occurs_as profile (Some bytes) all are o = are.each o

noted_cost : (profile : List Directive) (sysno : ℕ) (elder newer : Option (List ℕ)) (before after : Pending) → NotesRecord profile sysno elder newer before after
    → (n : ℕ) × IsRecordCost (occurs_by profile elder) (occurs_by profile newer) n × (noted_count after ≡ noted_count before + n)
noted_cost profile sysno elder newer before after noted =
    let cost = noted.keys.cost in
    (cost.0, cost_as _ _ _ _ cost.0 (occurs_as profile elder noted.were noted.had) (occurs_as profile newer noted.are noted.has) cost.1, cost.2)

module _ (setting : Setting) (db : ℤ) (records_of : ℤ → List Kept) (file nth : ℕ) (bytes : List ℕ) (old : State) (new : Point) (before : Pending) (last : ℕ) (base : Base) (format : Format)
    (under : WillBe format setting.profile.now db records_of (standing old before) base) where
  rests_cost : new ≡ point old before last → (bytes : Option (List ℕ)) → (n : ℕ) × IsRecordCost (occurs_by setting.profile.now bytes) (occurs_by setting.profile.now bytes) n × (noted_count new.pending ≡ noted_count before + n)
  rests_cost same bytes = (0, same_cost setting.profile.now bytes, ap (λ (p : Point). noted_count p.pending) same ∙ omega arith)

  turns_cost : (ident : List ℕ) (kind : Kind) (elder : Option Elder) (fate : Fate) → Turns setting db ident bytes kind elder (point old before last) new fate
      → (n : ℕ) × IsRecordCost (occurs_by setting.profile.now (elder_bytes elder)) (occurs_by setting.profile.now (newer_of kind bytes)) n × (noted_count new.pending ≡ noted_count before + n)
  turns_cost ident Update None fate done = noted_cost setting.profile.now _ _ _ before new.pending done.3.noted
  turns_cost ident Update (Some elder) fate (inl same) =
      subst (λ (b : List ℕ). (n : ℕ) × IsRecordCost (occurs_by setting.profile.now (Some b)) (occurs_by setting.profile.now (Some bytes)) n × (noted_count new.pending ≡ noted_count before + n)) (sym same.0)
      (rests_cost same.2 (Some bytes))
  turns_cost ident Update (Some elder) fate (inr put) = noted_cost setting.profile.now _ _ _ before new.pending put.4.noted
  turns_cost ident Delete (Some elder) fate done = noted_cost setting.profile.now _ _ _ before new.pending done.3.noted
  turns_cost ident Delete None fate done = absurd done
  turns_cost ident Adelete (Some elder) fate done = noted_cost setting.profile.now _ _ _ before new.pending done.3.noted
  turns_cost ident Adelete None fate done = rests_cost done.1 None

  pub cost : (result : Result Fate Refusal) → ChangesRecord setting db file nth bytes (point old before last) new result
      → OnOk result ((n : ℕ) × IsCostIn setting.profile.now setting.kind bytes base n × (noted_count new.pending ≡ noted_count before + n))
  cost (Err refusal) changes = tt
  cost (Ok fate) accepts =
      let there = elder_is db records_of old.now.trees base under.1.kept accepts.ident (one_ident setting.profile.now base under.2) accepts.elder accepts.there in
      let costs = turns_cost accepts.ident setting.kind accepts.elder fate accepts.done in
      (costs.0, cost_in setting.profile.now setting.kind bytes accepts.ident base accepts.elder _ costs.0 accepts.sound.named there refl costs.1, costs.2)

-- ---- what is kept under its identifier is whole, or it is refused

one_name : (profile : List Directive) (bytes one two : List ℕ) → ident_in profile bytes ≡ Ok one → ident_in profile bytes ≡ Ok two → one ≡ two
one_name profile bytes one two first second = let both : Ok one ≡ Ok two = sym first ∙ second in cc

err_is : {T : Type 0} (result : Result T Refusal) (one two : Refusal) → result ≡ Err one → result ≡ Err two → one ≡ two
err_is result one two first second = let both = sym first ∙ second in cc

new_undamaged : (setting : Setting) (file nth last : ℕ) (ident : List ℕ) (kind : Kind) (refusal : Refusal) → RefusesTurn setting file nth ident None kind last refusal → refusal ≢ Damaged
new_undamaged setting file nth last ident Update refusal full is = let full_is = full.0 in absurd (cc)
new_undamaged setting file nth last ident Delete refusal unknown_is is = absurd (cc)
new_undamaged setting file nth last ident Adelete refusal never is = never

pub finds : (setting : Setting) (db : ℤ) (file nth : ℕ) (bytes : List ℕ) (old new : State) (before after : Pending) (last next : ℕ) → IsStore old
    → (result : Result Fate Refusal) → ChangesRecord setting db file nth bytes (point old before last) (point new after next) result
    → (ident : List ℕ) → first_fault bytes ≡ None → ident_in setting.profile.now bytes ≡ Ok ident → GoesBy (KeepsWhole setting.profile.now old.now.trees db ident) result
finds setting db file nth bytes old new before after last next store (Ok fate) accepts ident whole is_named =
    so_undamaged _ (Ok fate) (subst (KeepsWhole setting.profile.now old.now.trees db) (one_name setting.profile.now bytes accepts.ident ident accepts.sound.named is_named)
    (accepts_whole setting db bytes old new before after last next store fate accepts)) (λ is. cc)
finds setting db file nth bytes old new before after last next store (Err refusal) (inl failing) ident whole is_named = failed_so _ (Err refusal) refusal refl failing
finds setting db file nth bytes old new before after last next store (Err refusal) (inr (inl (inl fault))) ident whole is_named = let one = fault.1 in absurd (cc)
finds setting db file nth bytes old new before after last next store (Err refusal) (inr (inl (inr fault))) ident whole is_named = let one = fault.2 in absurd (cc)
finds setting db file nth bytes old new before after last next store (Err refusal) (inr (inr refuses)) ident whole is_named =
    subst (λ (i : List ℕ). GoesBy {T = Fate} (KeepsWhole setting.profile.now old.now.trees db i) (Err refusal)) (one_name setting.profile.now bytes refuses.ident ident refuses.sound.named is_named)
    (elim refuses.why [
      | inl damaged ↦ (inr (inl damaged.0), λ is. damaged.1)
      | inr new_one ↦ so_undamaged _ _ (whole_kept setting.profile.now old store db refuses.ident None new_one.0 tt)
          (λ is. new_undamaged setting file nth last refuses.ident setting.kind refusal new_one.1 (err_is (Err refusal) refusal Damaged refl is))
    ])

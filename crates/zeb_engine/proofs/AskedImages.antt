-- Commands that ask, on tables that are the image of what is held: what is said of any tables is then the answer of the definition.
use Rattle.zeb_engine.proofs.Cited.{◌≡◌, ◌⊎◌, ◌∙◌, ℕ, ℤ, pos, List, Option, Some, None, Result, Ok, refl, sym, ap, ap₂, subst, subst₂, inl, inr, IsUtf8, arith, nat_cmp_total, on_total, Trees, Has, has_contained, contains_had, Directive, PlanValue, plan_of, scan_of, HasDatabase, HasRecord, AreReadable, Format, has_ident_in, same_list, one_number, base_numbered, named_there, Holdings, Base, Kept, base_named, IsImage, Conditions, AreSessions, occurs, posted, has_name, Refusal, Reply, Answer, answer_of, dumped, IsFailure, IsAsked, IsSaidOrMissed, OfDatabase, HidesOf, TellsUnlessHidden, AskedAmong, AskedIn, dumped_in, DumpOver, DumpTells, HidesRecords, StatAnswers, StatOver, StatTells, HidesRegister, HidesRegisters, IsExtent, IsSummedUp, Target, Extent, target_list, FindAnswers, FindOver, FindTells, HidesFind, HidesPlan, HidesFound, PlanHides, ScanAnswers, ScanOver, ScanTells, HidesTerms, HidesPlanned, AreRecordsOf, ready, key_in, held_shows, plan_held, plan_shown}
use Rattle.zeb_engine.specs.Answers.{counted}
use Rattle.zeb_register.proofs.KeyLists.{held_whole, whole_sound}
use Rattle.zeb_engine.proofs.AskedContents.{extent_content, find_content, scan_content}
use Rattle.zeb_engine.proofs.DatabasesOfImages.{IsHeld, base_held, kept_as_named, named_as_kept}
use Rattle.zeb_engine.proofs.DumpAnswers.{as_many, bytes_in}
use Rattle.zeb_engine.proofs.FindAnswers.{asked_kept, idents_readable, planned_as}
use Rattle.zeb_engine.proofs.ListedDatabases as listed
use Rattle.zeb_engine.proofs.ReadyImages.{IsReadyImage, image_ready}
use Rattle.zeb_engine.proofs.ScanAnswers.{scan_planned_as}
use Rattle.zeb_engine.proofs.StatAnswers.{extent_as, paired_so}

-- ---- what is told of a database that is held, and nothing of it is hidden

module _ (format : Format) (profile : List Directive) (trees : Trees) (id : ℤ) (base : Base) (held : IsHeld format profile trees id base) where
  -- a record of the database is one of those that are kept
  row_kept : (k : Kept) → HasRecord trees id (pos k.sysno) k.ident k.bytes → Has base.records k
  row_kept k row =
      let it = (held.kept (pos k.sysno) k.ident k.bytes).0 row in
      let number : it.0.sysno ≡ k.sysno = (let e = it.2 in cc) in
      let ident = sym it.3 in
      let bytes = sym it.4 in
      let same : it.0 ≡ k = (λ i. record { sysno = number i; ident = ident i; bytes = bytes i }) in
      subst (Has base.records) same (has_contained base.records it.0 it.1)

  kept_row : (k : Kept) → Has base.records k → HasRecord trees id (pos k.sysno) k.ident k.bytes
  kept_row k there = (held.kept (pos k.sysno) k.ident k.bytes).1 (k, contains_had base.records k there, refl, refl, refl)

  -- all records of the database are those that are kept
  records_kept : (records : List Kept) → AreRecordsOf trees id records → records ≡ base.records
  records_kept records are = same_list (on_total (λ (x : Kept). x.sysno) nat_cmp_total) records base.records are.rising held.sound.rising
      (λ k there. row_kept k (are.kept k there))
      (λ k there.
      let number = base_numbered profile base held.sound k (contains_had base.records k there) in
      let it = are.each k.sysno (omega (arith, number.1)) (k.ident, k.bytes, kept_row k there) in
      subst (Has records) (one_number base.records held.sound.rising it.0 k (row_kept it.0 (are.kept it.0 it.1)) there it.2) it.1)

  dump_held : (last : ℤ) (answer : Answer) → DumpTells trees id last answer → answer ≡ dumped (bytes_in base.records)
  dump_held last answer told = told.2 ∙ ap dumped (told.1.2 ∙ ap bytes_in (records_kept told.1.0 told.1.1))

  dump_shown : ¬ (¬ AreReadable trees id)
  dump_shown hidden = hidden (λ sysno ident bytes row. let k = (held.kept sysno ident bytes).0 row in ((k.0.sysno, k.2), subst IsUtf8 (sym k.3) (held.sound.sound k.0 k.1).text))

  extent_held : (target : Target) (extent : Extent) → IsSummedUp format profile trees id target extent → IsExtent (occurs profile base.records) profile target extent
  extent_held target extent is =
      extent_as (posted held.content id) (occurs profile base.records) held.occurring profile target extent (extent_content format trees held.content held.held id profile target extent is)

  stat_held : (answer : Answer) → StatTells format profile trees id (pos base.last) answer → StatAnswers profile base answer
  stat_held answer told =
      let extents = told.4.0 in
      let many = as_many format profile trees id base held told.0 told.2 in
      let last : told.1 ≡ base.last = (let e = told.3 in cc) in (
        extents,
        paired_so (IsSummedUp format profile trees id) (IsExtent (occurs profile base.records) profile) extent_held (target_list profile) extents told.4.1,
        told.4.2 ∙ ap₂ (λ (m n : ℕ). counted m n extents) many last,
      )

  stat_shown : ¬ HidesRegister format (target_list profile) trees id
  stat_shown hidden =
      elim hidden.2.1 [
        | inl uncounted ↦ held_shows format trees id hidden.0.0 hidden.0.1 held.content held.held held.storable hidden.2.0 uncounted
        | inr malformed ↦ (let key = key_in hidden.0.0 hidden.0.1 hidden.2.0 in whole_sound format trees id key (held_whole format trees held.content held.held id key) malformed.1)
      ]

  module _ (text : List ℕ) (first count : ℕ) where
    find_held : (last : ℤ) (answer : Answer) → FindTells format profile text first count trees id last answer → FindAnswers profile text first count base answer
    find_held last answer told =
        let says = find_content format trees held.content held.held id profile text first count answer last told in (
          says.0,
          says.1,
          planned_as (posted held.content id) (occurs profile base.records) held.occurring (has_ident_in trees id) (has_name base.records)
              (λ n ident. (named_as_kept format profile trees id base held n ident, kept_as_named format profile trees id base held n ident)) first count answer (plan_of profile says.0) says.2,
        )

    plan_hidden : (plan : PlanValue) → ¬ (PlanHides format trees id plan ⊎ HidesFound format trees id plan first count)
    plan_hidden plan (inl hides) = plan_shown format trees id held.content held.held held.storable plan (idents_readable format profile trees id base held plan) hides
    plan_hidden plan (inr found) =
        let each = asked_kept format profile trees id base held plan found.0 found.1 first count (plan_held format trees id held.content held.held plan found.0 found.2) found.3 in
        let hidden = found.4 (λ n there. (each n there).1) in
        hidden.2 (each hidden.0 hidden.1).0

    find_shown : ¬ HidesPlan format profile text first count trees id
    find_shown hidden = plan_hidden hidden.0 hidden.2

  module _ (text : List ℕ) (number position : ℕ) where
    scan_held : (last : ℤ) (answer : Answer) → ScanTells format profile text number position trees id last answer → ScanAnswers profile text number position base answer
    scan_held last answer told =
        let says = scan_content format trees held.content held.held id profile text number position answer last told in
        (says.0, says.1, scan_planned_as (posted held.content id) (occurs profile base.records) held.occurring number position answer (scan_of profile says.0) says.2)

    scan_shown : ¬ HidesPlanned format profile text number position trees id
    scan_shown hidden =
        let never = held_shows format trees id hidden.0.index hidden.0.register held.content held.held held.storable in
        elim hidden.2 [ inl before ↦ never before.term before.hidden | inr behind ↦ never behind.term behind.hidden ]

-- ---- the database of a name

module _ (format : Format) (c : Conditions) (session : AreSessions format c) (trees : Trees) (before : Holdings) (bases : List Base) (is : ready c before ≡ Ok bases) (image : IsImage trees before) (name : List ℕ) where
  at : IsReadyImage format c trees bases
  at = image_ready format c session trees before bases is image

  -- a row of the name is that of a database which is held
  row_held : (id last : ℤ) → HasDatabase trees id name last → (base : Base) × (base_named name bases ≡ Some base) × IsHeld format c.profile trees id base × (last ≡ pos base.last)
  row_held id last row =
      let found = (at.image.lists.listed id name last).0 row in
      let named = subst (λ n. base_named n bases ≡ Some found.0) (sym found.3) (named_there bases found.0 at.are.rising (has_contained bases found.0 found.1)) in
      (found.0, named, base_held format c.profile trees bases at.are at.image id found.0 found.1 (subst₂ (λ (n : List ℕ) (l : ℤ). HasDatabase trees id n l) found.3 found.4 row), found.4)

  said_held : (Tells : OfDatabase) (Says : Base → Answer → Type 0) (answer : Answer) → ((id : ℤ) (base : Base) → IsHeld format c.profile trees id base → Tells id (pos base.last) answer → Says base answer)
      → IsSaidOrMissed Tells name trees answer → AskedIn Says name (base_named name bases) answer
  said_held Tells Says answer so (inl missed) =
      let none = listed.none_named trees bases at.image.lists.id_of at.image.lists.listed name missed.0 in
      subst (λ (o : Option Base). AskedIn Says name o answer) (sym none) missed.1
  said_held Tells Says answer so (inr said) =
      let it = row_held said.0 said.1 said.2 in
      subst (λ (o : Option Base). AskedIn Says name o answer) (sym it.1) (so said.0 it.0 it.2 (subst (λ (l : ℤ). Tells said.0 l answer) it.3 said.3))

  shown_held : (Hides : ℤ → Type 0) → ((id : ℤ) (base : Base) → IsHeld format c.profile trees id base → ¬ Hides id) → ¬ HidesOf Hides name trees
  shown_held Hides never (inl below) = below (listed.counted trees bases at.image.lists.id_of at.image.lists.listed name)
  shown_held Hides never (inr it) = (let base = row_held it.0 it.1 it.2 in never it.0 base.0 base.2 it.3)

  -- ---- the answers

  -- what is told of a command that asks, and no damage of it
  told_held : (Over : Trees → Answer → Type 0) (Hides : Trees → Type 0) (Says : Answer → Type 0) (result : Result Reply Refusal) → (Over trees (answer_of result) → Says (answer_of result)) → (¬ Hides trees)
      → TellsUnlessHidden Over Hides trees result → Says (answer_of result) ⊎ IsFailure (answer_of result)
  told_held Over Hides Says result so never (inl told) = inl (so told)
  told_held Over Hides Says result so never (inr (inl hidden)) = absurd (never hidden.1)
  told_held Over Hides Says result so never (inr (inr failed)) = inr failed

  as_dumped : (o : Option Base) (answer : Answer) → AskedIn (λ base a. a ≡ dumped (bytes_in base.records)) name o answer → answer ≡ dumped_in name o
  as_dumped None answer is = is
  as_dumped (Some base) answer is = is

  pub dump_image : (result : Result Reply Refusal) → TellsUnlessHidden (DumpOver name) (HidesRecords name) trees result → (answer_of result ≡ dumped_in name (base_named name bases)) ⊎ IsFailure (answer_of result)
  dump_image result = told_held (DumpOver name) (HidesRecords name) (λ answer. answer ≡ dumped_in name (base_named name bases)) result
      (λ over. as_dumped (base_named name bases) (answer_of result)
      (said_held (DumpTells trees) (λ base a. a ≡ dumped (bytes_in base.records)) (answer_of result) (λ id base held. dump_held format c.profile trees id base held (pos base.last) (answer_of result)) over))
      (shown_held (λ id. ¬ AreReadable trees id) (λ id base held. dump_shown format c.profile trees id base held))

  pub stat_image : (result : Result Reply Refusal) → TellsUnlessHidden (StatOver format c.profile name) (HidesRegisters format c.profile name) trees result
      → AskedIn (StatAnswers c.profile) name (base_named name bases) (answer_of result) ⊎ IsFailure (answer_of result)
  stat_image result = told_held (StatOver format c.profile name) (HidesRegisters format c.profile name) (AskedIn (StatAnswers c.profile) name (base_named name bases)) result
      (said_held (StatTells format c.profile trees) (StatAnswers c.profile) (answer_of result) (λ id base held. stat_held format c.profile trees id base held (answer_of result)))
      (shown_held (HidesRegister format (target_list c.profile) trees) (λ id base held. stat_shown format c.profile trees id base held))

  -- the same of a query
  asked_held : (Tells : OfDatabase) (Says : Base → Answer → Type 0) (text : List ℕ) (answer : Answer) → ((id : ℤ) (base : Base) → IsHeld format c.profile trees id base → Tells id (pos base.last) answer → Says base answer)
      → IsAsked Tells name text trees answer → AskedAmong Says name text bases answer
  asked_held Tells Says text answer so (inl asked) = inl (asked.0, said_held Tells Says answer so asked.1)
  asked_held Tells Says text answer so (inr faulty) = inr faulty

  pub find_image : (text : List ℕ) (first count : ℕ) (result : Result Reply Refusal) → TellsUnlessHidden (FindOver format c.profile name text first count) (HidesFind format c.profile name text first count) trees result
      → AskedAmong (FindAnswers c.profile text first count) name text bases (answer_of result) ⊎ IsFailure (answer_of result)
  find_image text first count result = told_held (FindOver format c.profile name text first count) (HidesFind format c.profile name text first count) (AskedAmong (FindAnswers c.profile text first count) name text bases) result
      (asked_held (FindTells format c.profile text first count trees) (FindAnswers c.profile text first count) text (answer_of result)
      (λ id base held. find_held format c.profile trees id base held text first count (pos base.last) (answer_of result)))
      (λ hides. shown_held (HidesPlan format c.profile text first count trees) (λ id base held. find_shown format c.profile trees id base held text first count) hides.1)

  pub scan_image : (text : List ℕ) (number position : ℕ) (result : Result Reply Refusal) → TellsUnlessHidden (ScanOver format c.profile name text number position) (HidesTerms format c.profile name text number position) trees result
      → AskedAmong (ScanAnswers c.profile text number position) name text bases (answer_of result) ⊎ IsFailure (answer_of result)
  scan_image text number position result = told_held (ScanOver format c.profile name text number position) (HidesTerms format c.profile name text number position) (AskedAmong (ScanAnswers c.profile text number position) name text bases) result
      (asked_held (ScanTells format c.profile text number position trees) (ScanAnswers c.profile text number position) text (answer_of result)
      (λ id base held. scan_held format c.profile trees id base held text number position (pos base.last) (answer_of result)))
      (λ hides. shown_held (HidesPlanned format c.profile text number position trees) (λ id base held. scan_shown format c.profile trees id base held text number position) hides.1)

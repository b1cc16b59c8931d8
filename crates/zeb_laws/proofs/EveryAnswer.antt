-- Each command has an answer, whatever is held.
use Rattle.zeb_laws.proofs.Cited.{◌≡◌, ◌↔◌, ◌∙◌, ◌-◌, ℕ, Bool, true, false, cond, ◌&&◌, List, [], ◌∷◌, map, length, find, take, drop, Option, Some, None, Result, Ok, Err, refl, sym, ap, subst, inl, inr, nat_eq, nat_lt, string_bytes, nat_cmp_total, decimal, Contains, flat_map, option_map, Decides-eqb, take-append-drop, Has, contains_had, has_contained, has_found, has_right, has_mapped, mapped_has, has_taken, Directive, unit_targets, Refusal, PlanValue, ScanValue, plan_of, scan_of, IsReadable, read_or_faulty, Occurrence, numbers_apart, listing, occurrences_are_listed, Contains-flat_map, Contains-map, from_flat_map, from_map, TreeHolds, AreNumbers, holder_known, Command, Init, Check, Reindex, Upgrade, Create, Drop, Stat, Dump, Change, Find, Scan, Analyse, IsAnalysed, analysis_answer, Answer, Extent, found, refused, scanned, Why, diagnostic, Conditions, IsCounted, IsExtent, Paired, Target, name_of_index, target_list, AreShown, IsAnswered, IsFound, IsNamed, IsPlanned, IsShown, has_name, OccursIn, occurs, Base, Kept, Holdings, base_named, name_bytes, IsScanned, IsScanPlanned, around, AskedFrom, AskedIn, CountedFrom, FindAnswers, ScanAnswers, StatAnswers, Step, created, dropped, dumped_by, no_database, checked, splits_of, fields_of, changed_by_files, initialised, ready, turned, reindexed, upgraded}
use Rattle.zeb_marc.specs.Contents.{units_of}
use Rattle.zeb_engine.specs.Answers.{counted}
use Rattle.zeb_lower_laws.proofs.EveryAnalysis.{analyses_there}
use Rattle.zeb_laws.proofs.EveryAnswerHolds.{IsSetOf}
use Rattle.zeb_laws.proofs.EveryAnswerHolds.{tree_decided}
use Rattle.zeb_laws.proofs.EveryAnswerLists.{Decided, rising_has, rising_of, rising_rises, those, those_are}
use Rattle.zeb_laws.proofs.EveryAnswerTerms.{terms_there, totals_there}

-- something is answered
abbrev IsThere : (Says : Answer → Type 0) → Type 0
IsThere Says = (answer : Answer) × Says answer

-- ---- kept records

module _ (profile : List Directive) where
  numbered : Kept → Occurrence → ℕ × Occurrence
  numbered kept o = (kept.sysno, o)

  listed_in : Kept → List Occurrence
  listed_in kept = listing (unit_targets profile) (units_of (fields_of kept.bytes))

  occurrences_in : Kept → List (ℕ × Occurrence)
  occurrences_in kept = map (numbered kept) (listed_in kept)

  -- all occurrences of the records, each with its record's number
  all_of : List Kept → List (ℕ × Occurrence)
  all_of records = flat_map occurrences_in records

  are_all : (records : List Kept) → IsSetOf (occurs profile records) (all_of records)
  unfolding all_of occurrences_in listed_in numbered
  are_all records n o = (
    λ h. has_contained (all_of records) (n, o) (Contains-flat_map occurrences_in records h.0 (n, o) h.1 (subst (λ m. Contains (occurrences_in h.0) (m, o)) h.2
        (Contains-map (numbered h.0) (listed_in h.0) o ((occurrences_are_listed (unit_targets profile) (units_of (fields_of h.0.bytes)) o).1 h.3)))),
    λ h.
        let kept = from_flat_map occurrences_in records (n, o) (contains_had (all_of records) (n, o) h) in
        let x = from_map (numbered kept.0) (listed_in kept.0) (n, o) kept.2 in
        let is = (occurrences_are_listed (unit_targets profile) (units_of (fields_of kept.0.bytes)) x.0).0 x.1 in
        (kept.0, kept.1, ap (λ (p : ℕ × Occurrence). p.0) x.2, subst (OccursIn profile kept.0) (ap (λ (p : ℕ × Occurrence). p.1) x.2) is),
  )

-- what passes the test somewhere is found
first_passes : {X : Type 0} (p : X → Bool) (xs : List X) (x : X) → Has xs x → p x ≡ true → (y : X) × (find p xs ≡ Some y)
first_passes p [] x h passes = absurd h
first_passes p (y ∷ xs) x h passes = go (p y) refl (λ later. first_passes p xs x later passes)
  where
    go : (b : Bool) → p y ≡ b → (Has xs x → (z : _) × (find p xs ≡ Some z)) → (z : _) × (cond b (Some y) (find p xs) ≡ Some z)
    go true is rest = (y, refl)
    go false is rest = elim h [ inl same ↦ absurd (let e : p x ≡ false = ap p same ∙ is in cc) | inr later ↦ rest later ]

module _ (O : ℕ → Occurrence → Type 0) (records : List Kept) where
  abbrev IsCalled : ℕ → Type 0
  IsCalled = IsNamed O (has_name records)

  called_as : (n : ℕ) (kept : Option Kept) → find (λ (k : Kept). nat_eq k.sysno n) records ≡ kept → Decided (IsCalled n)
  called_as n (Some kept) is = inl (kept.ident, ap (option_map (λ (k : Kept). k.ident)) is)
  called_as n None is = inr (λ h. let e : ◌≡◌ {A = Option (List ℕ)} None (Some h.0) = sym (ap (option_map (λ (k : Kept). k.ident)) is) ∙ h.1 in cc)

  called_decided : (n : ℕ) → Decided (IsCalled n)
  called_decided n = called_as n (find (λ (k : Kept). nat_eq k.sysno n) records) refl

  numbers : List ℕ
  numbers = map (λ (kept : Kept). kept.sysno) records

  number_called : (n : ℕ) → Has numbers n → IsCalled n
  unfolding numbers
  number_called n h =
      let kept = has_mapped (λ (k : Kept). k.sysno) records n h in
      let first = first_passes (λ (k : Kept). nat_eq k.sysno n) records kept.0 kept.1 ((Decides-eqb kept.0.sysno n).1 (sym kept.2)) in
      (first.0.ident, ap (option_map (λ (k : Kept). k.ident)) first.1)

  called_number : (n : ℕ) → IsCalled n → Has numbers n
  unfolding numbers
  called_number n h = from (find (λ (k : Kept). nat_eq k.sysno n) records) refl
    where
      from : (kept : Option Kept) → find (λ (k : Kept). nat_eq k.sysno n) records ≡ kept → Has numbers n
      from None is = absurd (let e : ◌≡◌ {A = Option (List ℕ)} None (Some h.0) = sym (ap (option_map (λ (k : Kept). k.ident)) is) ∙ h.1 in cc)
      from (Some kept) is =
          let there = has_found (λ (k : Kept). nat_eq k.sysno n) records kept is in
          subst (Has numbers) ((Decides-eqb kept.sysno n).0 there.1) (mapped_has (λ (k : Kept). k.sysno) records kept there.0)

-- ---- finds

-- the records of these numbers, each with its identifier
shown_there : (N : ℕ → List ℕ → Type 0) (numbers : List ℕ) → ((n : ℕ) → Has numbers n → (ident : List ℕ) × N n ident) → (shown : List (ℕ × List ℕ)) × AreShown N numbers shown
shown_there N [] each = ([], record { in_order = refl; named = λ hit h. absurd h })
shown_there N (n ∷ numbers) each =
    let first = each n (inl refl) in
    let rest = shown_there N numbers (λ m h. each m (inr h)) in (
      (n, first.0) ∷ rest.0,
      record {
        in_order = ap (λ ns. n ∷ ns) rest.1.in_order;
        named = λ hit h. elim h [ inl same ↦ subst (λ (p : ℕ × List ℕ). N p.0 p.1) (sym same) first.1 | inr later ↦ rest.1.named hit later ];
      },
    )

module _ {X : Type 0} where
  has_dropped : (n : ℕ) (xs : List X) (x : X) → Has (drop n xs) x → Has xs x
  has_dropped n xs x h = subst (λ l. Has l x) (take-append-drop n xs) (has_right (take n xs) (drop n xs) x h)

module _ (profile : List Directive) (records : List Kept) (first count : ℕ) where
  abbrev O : ℕ → Occurrence → Type 0
  O = occurs profile records

  -- a hit is the number of a kept record
  hit_number : (plan : PlanValue) (n : ℕ) → TreeHolds O (IsCalled O records) plan n → Has (numbers O records) n
  unfolding numbers
  hit_number plan n holds = elim (holder_known O (IsCalled O records) plan n holds) [
    | inl occurring ↦
        let it = occurring.1 in
        subst (Has (numbers O records)) it.2 (mapped_has (λ (k : Kept). k.sysno) records it.0 (has_contained records it.0 it.1))
    | inr called ↦ called_number O records n called
  ]

  module _ (plan : PlanValue) where
    holds_or_not : (n : ℕ) → Decided (TreeHolds O (IsCalled O records) plan n)
    holds_or_not n = tree_decided O (all_of profile records) (are_all profile records) (IsCalled O records) (called_decided O records) plan n

    hits : List ℕ
    hits = rising_of nat_cmp_total numbers_apart (those (TreeHolds O (IsCalled O records) plan) holds_or_not (numbers O records))

    hit_is : (n : ℕ) → Has hits n ↔ (Has (numbers O records) n × TreeHolds O (IsCalled O records) plan n)
    unfolding hits
    hit_is n =
        let rising = rising_has nat_cmp_total numbers_apart (those (TreeHolds O (IsCalled O records) plan) holds_or_not (numbers O records)) n in
        let are = those_are (TreeHolds O (IsCalled O records) plan) holds_or_not (numbers O records) n in
        (λ h. are.0 (rising.0 h), λ h. rising.1 (are.1 h))

    hits_are : AreNumbers (TreeHolds O (IsCalled O records) plan) hits
    unfolding hits
    hits_are = record {
      rising = rising_rises nat_cmp_total numbers_apart (those (TreeHolds O (IsCalled O records) plan) holds_or_not (numbers O records));
      each = λ n. (λ h. ((hit_is n).0 h).1, λ holds. (hit_is n).1 (hit_number plan n holds, holds));
    }

    asked_hits : List ℕ
    asked_hits = take count (drop (first - 1) hits)

    asked_called : (n : ℕ) → Has asked_hits n → IsCalled O records n
    unfolding asked_hits
    asked_called n h =
        number_called O records n ((hit_is n).0 (has_dropped (first - 1) hits n (has_taken count (drop (first - 1) hits) n h))).0

    asked_there : (past : Bool) → IsThere (IsShown (has_name records) hits (cond past (Err (diagnostic 13 0 (decimal first))) (Ok asked_hits)))
    asked_there true = (refused (diagnostic 13 0 (decimal first)), refl)
    asked_there false = let shown = shown_there (has_name records) asked_hits asked_called in (found (length hits) shown.0, (shown.0, shown.1, refl))

    found_there : IsThere (IsFound O (has_name records) plan first count)
    unfolding asked_hits
    found_there =
        let shown = asked_there (nat_lt 1 first && nat_lt (length hits) first) in
        (shown.0, (hits, hits_are, shown.1))

  planned_there : (plan : Result PlanValue Refusal) → IsThere (IsPlanned O (has_name records) plan first count)
  planned_there (Ok plan) = found_there plan
  planned_there (Err e) = (refused (diagnostic e.number e.place e.addinfo), refl)

  find_there : (query : List ℕ) → IsReadable query → IsThere (IsAnswered O (has_name records) profile query first count)
  find_there query is = let said = planned_there (plan_of profile is.query) in (said.0, (is.query, is.spelled, said.1))

-- ---- scans and stats

module _ (profile : List Directive) (records : List Kept) where
  scan_planned_there : (plan : Result ScanValue Refusal) (number position : ℕ) → IsThere (IsScanPlanned (occurs profile records) plan number position)
  scan_planned_there (Ok plan) number position =
      let all = terms_there (occurs profile records) (all_of profile records) (are_all profile records) plan.index plan.register in
      let terms = around number position plan.start all.0 in
      (scanned plan.register (map (λ t. (t.term, t.records)) terms), (terms, record { all = all.0; are = all.1; is = refl }, refl))
  scan_planned_there (Err e) number position = (refused (diagnostic e.number e.place e.addinfo), refl)

  scan_there : (query : List ℕ) (number position : ℕ) → IsReadable query → IsThere (IsScanned (occurs profile records) profile query number position)
  scan_there query number position is = let said = scan_planned_there (scan_of profile is.query) number position in (said.0, (is.query, is.spelled, said.1))

  extents_there : (targets : List Target) → (extents : List Extent) × Paired (IsExtent (occurs profile records) profile) targets extents
  extents_there [] = ([], tt)
  extents_there (target ∷ targets) =
      let totals = totals_there (occurs profile records) (all_of profile records) (are_all profile records) target.0 target.1 in
      let rest = extents_there targets in (
        record { name = name_of_index profile target.0; register = target.1; terms = totals.0.terms; occurrences = totals.0.occurrences } ∷ rest.0,
        (record { under = record { name = refl; register = refl }; totals = totals.1 }, rest.1),
      )

  stat_there : (kept last : ℕ) → IsThere (IsCounted (occurs profile records) profile kept last)
  stat_there kept last = let extents = extents_there (target_list profile) in (counted kept last extents.0, (extents.0, extents.1, refl))

-- ---- commands

module _ (Says : Base → Answer → Type 0) (name : List ℕ) where
  -- of a database, where there is one of this name
  named_there : ((base : Base) → IsThere (Says base)) → (base : Option Base) → IsThere (AskedIn Says name base)
  named_there each (Some base) = each base
  named_there each None = (refused (no_database name), refl)

  -- by a query's text, where it has no fault
  asked_by_query : (query : List ℕ) → (IsReadable query → (base : Base) → IsThere (Says base)) → (said : Result (List Base) Why) → IsThere (AskedFrom Says name query said)
  asked_by_query query each (Err why) = (refused why, refl)
  asked_by_query query each (Ok bases) = elim (read_or_faulty query) [
    | inl readable ↦ let said = named_there (each readable) (base_named name bases) in (said.0, inl (readable, said.1))
    | inr faulty ↦ (refused (diagnostic faulty.0 faulty.1 []), inr (faulty.0, faulty.1, faulty.2, refl))
  ]

counted_there : (c : Conditions) (name : List ℕ) (said : Result (List Base) Why) → IsThere (CountedFrom c name said)
counted_there c name (Err why) = (refused why, refl)
counted_there c name (Ok bases) = named_there (StatAnswers c.profile) name (λ base. stat_there c.profile base.records (length base.records) base.last) (base_named name bases)

analysed_there : (profile : List Directive) (limit : ℕ) (texts : List (List ℕ)) → IsThere (IsAnalysed profile limit texts)
analysed_there profile limit texts = let said = analyses_there profile limit texts in (analysis_answer profile said.0, (said.0, said.1, refl))

pub step_there : (c : Conditions) (command : Command) (before : Holdings) → (answer : Answer) × (later : Holdings) × Step c command before answer later
step_there c Init before = let told = initialised c before in (told.0, told.1, (refl, refl))
step_there c (Create name) before = let told = turned c (created (name_bytes name)) before in (told.0, told.1, (refl, refl))
step_there c (Drop name) before = let told = turned c (dropped (name_bytes name)) before in (told.0, told.1, (refl, refl))
step_there c (Change kind name files) before =
    let told = turned c (changed_by_files c kind (name_bytes name) (splits_of (map (λ file. file.items) files.items))) before in (told.0, told.1, (refl, refl))
step_there c (Find name query first count) before =
    let said = asked_by_query (FindAnswers c.profile (string_bytes query) first count) (name_bytes name) (string_bytes query)
    (λ is base. find_there c.profile base.records first count (string_bytes query) is) (ready c before) in
    (said.0, before, (said.1, refl))
step_there c Check before = let told = checked c before in (told.0, told.1, (refl, refl))
step_there c Reindex before = let told = reindexed c before in (told.0, told.1, (refl, refl))
step_there c Upgrade before = let told = upgraded c before in (told.0, told.1, (refl, refl))
step_there c (Stat name) before = let said = counted_there c (name_bytes name) (ready c before) in (said.0, before, (said.1, refl))
step_there c (Dump name) before = let told = dumped_by c (name_bytes name) before in (told.0, told.1, (refl, refl))
step_there c (Scan name query number position) before =
    let said = asked_by_query (ScanAnswers c.profile (string_bytes query) number position) (name_bytes name) (string_bytes query)
    (λ is base. scan_there c.profile base.records (string_bytes query) number position is) (ready c before) in
    (said.0, before, (said.1, refl))
step_there c (Analyse files) before = let said = analysed_there c.profile c.limits.records (map (λ file. file.items) files.items) in (said.0, before, (said.1, refl))

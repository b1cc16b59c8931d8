-- "Moby Dick" is kept, and again, refused with what stands behind it, and found.
use Rattle.zeb_laws.proofs.Cited.{◌≡◌, ◌↔◌, ◌∙◌, ℕ, ◌≤◌, Bool, true, false, not, List, [], ◌∷◌, None, Some, Ok, nat_le, refl, sym, ap, ap₂, subst, inl, inr, codes, IsUtf8, arith, Contains, bytes_eq, has_contained, nat_tests, All-contains, AllPass-from_list_all, unit_targets, LengthDigits, worked_record, Word, Occurrence, PlanValue, PairOf, HasKey, IsOccurrence, moby_dick_analysis, title_profile, term_at, members, Command, Init, Change, Update, Delete, Adelete, Limits, Inserted, Updated, Answer, done, changed, refused, found, faulty, Conditions, TreeHolds, AreNumbers, plain_word, AreShown, IsFound, IsNamed, has_name, OccursIn, occurs, Progress, at_first, counted, splits_of, Holdings, new_base, Base, Kept, with_new, with_bytes, outcome, found_once, name_once, book, book_base, book_conditions, faulty_file, no_books, one_book, title_plan, title_word, whale, ahab, BookHolds, IsUpdateBy, record_folded, turned, changed_by_files}
use lib.Utf8.{encode}
use Rattle.std.specs.List.Sorted.{IsStrictlySortedBy}
use Rattle.zeb_marc.specs.Leader.{are_digits, number_of}
use Rattle.zeb_marc.specs.Splits.{split_of, next_of}
use Rattle.zeb_change.specs.declared.faults.RecordFault.TheVariants as fault
use Rattle.zeb_image.specs.Holdings.{with_base}
use Rattle.zeb_engine.specs.Steps.{initialised}
use Rattle.zeb_query.specs.declared.plans.Operator.TheVariants as operator
use Rattle.zeb_lower_laws.proofs.SampleAnswers.{named, sound, units_are}
use Rattle.zeb_laws.proofs.WorkedLemmas.{new_folded, old_folded, whole_file, faulty_file as fault_behind, update_done, update_refused}

-- ---- the record

one_slice : split_of worked_record ≡ record { slices = worked_record ∷ []; fault = None }
unfolding split_of next_of are_digits number_of
one_slice = refl

then_fault : split_of faulty_file ≡ record { slices = worked_record ∷ []; fault = Some LengthDigits }
unfolding split_of next_of are_digits number_of
then_fault = refl

-- ---- what it has

abbrev pub book_occurs : ℕ → Occurrence → Type 0
book_occurs = occurs title_profile book_base.records

abbrev pub book_named : ℕ → List ℕ → Type 0
book_named = has_name book_base.records

has_word : HasKey book_occurs (title_word (codes "whale")) 1
has_word =
    let o = term_at 0 Word 3 3 (codes "whale") in
    (o, (book, (0, omega arith, refl), refl, subst (λ units. IsOccurrence (unit_targets title_profile) units o) (sym units_are) ((members o).0 (4, omega arith, refl))), refl)

-- the record is the one that there is
is_book : (kept : Kept) → Contains book_base.records kept → kept ≡ book
is_book kept there = elim (has_contained book_base.records kept there) [ inl same ↦ same | inr none ↦ absurd none ]

abbrev is_other : Occurrence → Bool
is_other o = not (bytes_eq o.key.term (codes "ahab"))

pub has_no_other : (n : ℕ) → ¬ HasKey book_occurs (title_word (codes "ahab")) n
has_no_other n has =
    let occurs_there = subst (λ (k : Kept). OccursIn title_profile k has.0) (is_book has.1.0 has.1.1) has.1.3 in
    let there = (members has.0).1 (subst (λ units. IsOccurrence (unit_targets title_profile) units has.0) units_are occurs_there) in
    let other : is_other has.0 ≡ true = All-contains (λ o. is_other o ≡ true) moby_dick_analysis has.0 (AllPass-from_list_all is_other moby_dick_analysis refl) there in
    let same : false ≡ true = sym (ap (λ k. not (bytes_eq k.term (codes "ahab"))) has.2) ∙ other in
    absurd cc

abbrev pub one_found : Answer
one_found = found 1 ((1, codes "a1") ∷ [])

whale_text : IsUtf8 (codes "whale")
unfolding encode
whale_text = (codes "whale", (refl, refl))

ahab_text : IsUtf8 (codes "ahab")
unfolding encode
ahab_text = (codes "ahab", (refl, refl))

-- just the record's number is a hit
whale_hits : AreNumbers (TreeHolds book_occurs (IsNamed book_occurs book_named) (title_plan (codes "whale"))) (1 ∷ [])
unfolding IsStrictlySortedBy
whale_hits = record {
  rising = (tt, tt);
  each = λ n. (
    λ h. elim h [ inl same ↦ (plain_word book_occurs (IsNamed book_occurs book_named) 0 (codes "whale") whale_text n).1 (subst (HasKey book_occurs (title_word (codes "whale"))) (sym same) has_word) | inr none ↦ absurd none ],
    λ holds.
        let has = (plain_word book_occurs (IsNamed book_occurs book_named) 0 (codes "whale") whale_text n).0 holds in
        inl (sym has.1.2 ∙ ap (λ (k : Kept). k.sysno) (is_book has.1.0 has.1.1)),
  );
}

no_hits : AreNumbers (TreeHolds book_occurs (IsNamed book_occurs book_named) (title_plan (codes "ahab"))) []
unfolding IsStrictlySortedBy
no_hits = record {
  rising = tt;
  each = λ n. (
    λ h. absurd h,
    λ holds. absurd (has_no_other n ((plain_word book_occurs (IsNamed book_occurs book_named) 0 (codes "ahab") ahab_text n).0 holds)),
  );
}

-- under the operators, with the word that isn't there
pub joined : (n : ℕ) → (¬ BookHolds (PairOf operator.And whale ahab) n) × (BookHolds (PairOf operator.Or whale ahab) n ↔ (n ≡ 1))
    × (BookHolds (PairOf operator.Not whale ahab) n ↔ (n ≡ 1)) × (¬ BookHolds (PairOf operator.Not ahab whale) n)
joined n =
    let here = whale_hits.each n in
    let nowhere : ¬ BookHolds ahab n = λ holds. absurd ((no_hits.each n).1 holds) in
    let just : BookHolds whale n → n ≡ 1 = λ holds. elim (here.1 holds) [ inl same ↦ same | inr none ↦ absurd none ] in (
      λ both. nowhere both.1,
      (λ either. elim either [ inl holds ↦ just holds | inr other ↦ absurd (nowhere other) ], λ same. inl (here.0 (inl same))),
      (λ first. just first.0, λ same. (here.0 (inl same), nowhere)),
      λ first. nowhere first.0,
    )

book_shown : AreShown book_named (1 ∷ []) ((1, codes "a1") ∷ [])
book_shown = record { in_order = refl; named = λ hit there. elim there [ inl same ↦ subst (λ (h : ℕ × List ℕ). book_named h.0 h.1) (sym same) refl | inr none ↦ absurd none ] }

none_shown : AreShown book_named [] []
none_shown = record { in_order = refl; named = λ hit there. absurd there }

-- one answer, and no other
just_one : (plan : PlanValue) (told : Answer) → IsFound book_occurs book_named plan 1 20 told → (answer : Answer) → IsFound book_occurs book_named plan 1 20 answer ↔ (answer ≡ told)
just_one plan told is answer = (
  λ given. found_once book_occurs book_named (name_once book_base.records) 1 20 answer told plan given is,
  λ same. subst (IsFound book_occurs book_named plan 1 20) (sym same) is,
)

pub word_found : (answer : Answer) → IsFound book_occurs book_named (title_plan (codes "whale")) 1 20 answer ↔ (answer ≡ one_found)
word_found = just_one (title_plan (codes "whale")) one_found (1 ∷ [], whale_hits, ((1, codes "a1") ∷ [], book_shown, refl))

pub word_not_found : (answer : Answer) → IsFound book_occurs book_named (title_plan (codes "ahab")) 1 20 answer ↔ (answer ≡ found 0 [])
word_not_found = just_one (title_plan (codes "ahab")) (found 0 []) ([], no_hits, ([], none_shown, refl))

-- ---- the commands

pub begun : (version : List ℕ) (limits : Limits) (before : Holdings) → outcome (book_conditions version limits) Init before ≡ Some (done, no_books version)
unfolding initialised
begun version limits before = refl

-- an update is its turn
turn_of : (c : Conditions) (before : Holdings) (texts : List (List ℕ)) (command : Command) → IsUpdateBy texts command
    → outcome c command before ≡ Some (turned c (changed_by_files c Update (codes "Default") (splits_of texts)) before)
turn_of c before texts (Change Update name files) is = ap₂ (λ name texts. Some (turned c (changed_by_files c Update name (splits_of texts)) before)) is.0 is.1
turn_of c before texts (Change Delete name files) is = absurd is
turn_of c before texts (Change Adelete name files) is = absurd is
turn_of c before texts Init is = absurd is
turn_of c before texts _ is = absurd is

module _ (version : List ℕ) (limits : Limits) where
  abbrev c : Conditions
  c = book_conditions version limits

  room : nat_le limits.records 0 ≡ false
  room = let some : 1 ≤ limits.records = limits.some_record in grind (arith, nat_tests)

  space : nat_le limits.numbers 0 ≡ false
  space = let some : 1 ≤ limits.numbers = limits.some_number in grind (arith, nat_tests)

  abbrev empty : Base
  empty = new_base (codes "Default")

  -- what is then on its way
  abbrev inserted : Progress
  inserted = counted (with_new (codes "a1") worked_record empty) (at_first empty) Inserted

  abbrev replaced : Progress
  replaced = counted (with_bytes (codes "a1") worked_record book_base) (at_first book_base) Updated

  put : record_folded c Update 1 1 worked_record (at_first empty) ≡ Ok inserted
  put = new_folded c worked_record (codes "a1") empty room sound named space refl

  put_again : record_folded c Update 1 1 worked_record (at_first book_base) ≡ Ok replaced
  put_again = old_folded c worked_record (codes "a1") book_base room sound named book refl

  pub kept : (command : Command) → IsUpdateBy (worked_record ∷ []) command → outcome c command (no_books version) ≡ Some (changed 1 0 0, one_book version)
  unfolding with_base
  kept command is =
      turn_of c (no_books version) (worked_record ∷ []) command is
      ∙ ap Some (update_done c (codes "Default") (worked_record ∷ []) [] empty refl inserted (whole_file c worked_record worked_record (at_first empty) inserted put one_slice))

  pub again : (command : Command) → IsUpdateBy (worked_record ∷ []) command → outcome c command (one_book version) ≡ Some (changed 0 1 0, one_book version)
  unfolding with_base
  again command is =
      turn_of c (one_book version) (worked_record ∷ []) command is
      ∙ ap Some (update_done c (codes "Default") (worked_record ∷ []) (book_base ∷ []) book_base refl replaced (whole_file c worked_record worked_record (at_first book_base) replaced put_again one_slice))

  pub refused_new : (command : Command) → IsUpdateBy (faulty_file ∷ []) command → outcome c command (no_books version) ≡ Some (refused (faulty 1 2 fault.LengthDigits), no_books version)
  refused_new command is =
      turn_of c (no_books version) (faulty_file ∷ []) command is
      ∙ ap Some (update_refused c (codes "Default") (faulty_file ∷ []) [] empty refl (faulty 1 2 fault.LengthDigits)
      (fault_behind c worked_record faulty_file (at_first empty) inserted put LengthDigits then_fault))

  pub refused_old : (command : Command) → IsUpdateBy (faulty_file ∷ []) command → outcome c command (one_book version) ≡ Some (refused (faulty 1 2 fault.LengthDigits), one_book version)
  refused_old command is =
      turn_of c (one_book version) (faulty_file ∷ []) command is
      ∙ ap Some (update_refused c (codes "Default") (faulty_file ∷ []) (book_base ∷ []) book_base refl (faulty 1 2 fault.LengthDigits)
      (fault_behind c worked_record faulty_file (at_first book_base) replaced put_again LengthDigits then_fault))

-- A record lies in its bytes as ISO 2709 lays it out.
use Rattle.zeb_marc.proofs.Cited.{◌≡◌, ℕ, zero, suc, ◌+◌, ◌-◌, ◌*◌, ◌<◌, ◌≤◌, true, ◌&&◌, leb, ltb, None, List, [], ◌∷◌, ◌++◌, length, take, drop, get_or, sym, ap, subst, ◌∙◌, length-take, length-drop, arith, ◌==◌, AllByRecursion, flat_map, take-append-drop, take_all, drop_all, drop-drop, leb-true, ltb-true, eqb-true, check, first_failing, record_length, base_address, announced_checks, slice_checks, layout_checks, leader_checks, FieldText, entries_of, end_of, directory_checks, entry_checks, entry_of, directory_of, data_area, IsRecord}
use Rattle.zeb_marc.specs.declared.faults.MarcFault.TheVariants.{LengthDigits, LengthRange, Truncated}
use Rattle.std.proofs.Common.{◌/◌, drop-cons}
use Rattle.std.specs.Prelude.{◌%◌, slice_index, slice_range}
use Rattle.std.proofs.Math.Seq.{take-suc}
use Rattle.std.proofs.lemmas.List.{get_or-drop}
use Rattle.zeb_marc.specs.declared.faults.MarcFault.TheVariants.{NoTerminator, LeaderCounts, BaseAddress, DirectoryLength}
use Rattle.zeb_marc.specs.Leader.{last_byte, base_digits}
use Rattle.zeb_lower_laws.specs.Layout.{entry_bytes, IsEntryOf, IsLaidOut}
use Rattle.zeb_marc.specs.Leader.{are_digits, number_of, has_counts, ends_directory, has_base_address}
use Rattle.zeb_marc.specs.Records.{first_fault, fields_of}
use Rattle.zeb_marc.proofs.Entries.{entries_of-more, entries_of-short, first_failing-append_none, first_failing-cons, first_is_sound, others_are_sound, IsSoundEntry-from_checks, both_true}

-- ---- what the checks of a record say

pub record PassesChecks (text : List ℕ) : Type 0 where
  pub long : 5 ≤ length text
  pub digits : are_digits (take 5 text) ≡ true
  pub least : 26 ≤ record_length text
  pub whole : record_length text ≡ length text
  pub last : slice_index text (length text - 1) ≡ 29
  pub counts : has_counts text ≡ true
  pub address_digits : are_digits (base_digits text) ≡ true
  pub base_low : 25 ≤ base_address text
  pub base_high : base_address text < length text
  pub ends : slice_index text (base_address text - 1) ≡ 30
  pub twelves : (base_address text - 25) % 12 ≡ 0
  pub directory : first_failing (directory_checks (data_area text) (directory_of text)) ≡ None

-- the parts of the test of the base address
record IsBase (text : List ℕ) : Type 0 where
  digits : are_digits (base_digits text) ≡ true
  low : 25 ≤ base_address text
  high : base_address text < length text
  ends : slice_index text (base_address text - 1) ≡ 30

IsBase-from_test : (text : List ℕ) → has_base_address text ≡ true → IsBase text
unfolding has_base_address ends_directory
IsBase-from_test text e =
    let base = base_address text in
    let a = both_true (are_digits (base_digits text)) (ltb 24 base && ltb base (length text) && slice_index text (base - 1) == 30) e in
    let b = both_true (ltb 24 base && ltb base (length text)) (slice_index text (base - 1) == 30) a.1 in
    let c = both_true (ltb 24 base) (ltb base (length text)) b.0 in
    let low = ltb-true 24 base c.0 in
    record { digits = a.0; low = omega arith; high = ltb-true base (length text) c.1; ends = eqb-true _ _ b.1 }

pub PassesChecks-from_record : (text : List ℕ) → first_fault text ≡ None → PassesChecks text
unfolding first_fault
PassesChecks-from_record text e =
    let base = base_address text in
    let all = first_failing-append_none (leader_checks text) (directory_checks (data_area text) (directory_of text)) e in
    let leader = first_failing-append_none (slice_checks text) (check (leb (length text) (record_length text)) LengthRange ∷ layout_checks text) all.0 in
    let slice = first_failing-append_none (announced_checks text) (check (leb (record_length text) (length text)) Truncated ∷ []) leader.0 in
    let a = first_failing-cons (check (leb 5 (length text)) Truncated) (check (are_digits (take 5 text)) LengthDigits ∷ check (leb 26 (record_length text)) LengthRange ∷ []) slice.0 in
    let b = first_failing-cons (check (are_digits (take 5 text)) LengthDigits) (check (leb 26 (record_length text)) LengthRange ∷ []) a.1 in
    let c = first_failing-cons (check (leb 26 (record_length text)) LengthRange) [] b.1 in
    let d = first_failing-cons (check (leb (record_length text) (length text)) Truncated) [] slice.1 in
    let f = first_failing-cons (check (leb (length text) (record_length text)) LengthRange) (layout_checks text) leader.1 in
    let twelves = check ((base - 25) % 12 == 0) DirectoryLength ∷ [] in
    let g = first_failing-cons (check (last_byte text == 29) NoTerminator) (check (has_counts text) LeaderCounts ∷ check (has_base_address text) BaseAddress ∷ twelves) f.1 in
    let h = first_failing-cons (check (has_counts text) LeaderCounts) (check (has_base_address text) BaseAddress ∷ twelves) g.1 in
    let i = first_failing-cons (check (has_base_address text) BaseAddress) twelves h.1 in
    let j = first_failing-cons (check ((base - 25) % 12 == 0) DirectoryLength) [] i.1 in
    let is_base = IsBase-from_test text i.0 in
    let at_most = leb-true _ _ d.0 in
    let at_least = leb-true _ _ f.0 in
    record {
      long = leb-true _ _ a.0;
      digits = b.0;
      least = leb-true _ _ c.0;
      whole = omega (arith, at_most, at_least);
      last = eqb-true _ _ g.0;
      counts = h.0;
      address_digits = is_base.digits;
      base_low = is_base.low;
      base_high = is_base.high;
      ends = is_base.ends;
      twelves = eqb-true _ _ j.0;
      directory = all.1;
    }

-- ---- the directory's entries in a row

-- the three parts of twelve bytes
twelve_bytes : (bytes : List ℕ) → length bytes ≡ 12 → entry_bytes (entry_of bytes) ≡ bytes
twelve_bytes bytes e =
    let last : take 5 (drop 7 bytes) ≡ drop 7 bytes = take_all 5 (drop 7 bytes) (omega (arith, length-drop 7 bytes)) in
    let later : drop 4 (drop 3 bytes) ≡ drop 7 bytes = drop-drop 4 3 bytes in
    ap (λ (back : List ℕ). take 3 bytes ++ (take 4 (drop 3 bytes) ++ back)) (last ∙ sym later)
    ∙ ap (λ (back : List ℕ). take 3 bytes ++ back) (take-append-drop 4 (drop 3 bytes))
    ∙ take-append-drop 3 bytes

pub entries_in_a_row : (m : ℕ) (directory : List ℕ) → length directory ≡ 12 * m → (flat_map entry_bytes (entries_of directory) ≡ directory) × (length (entries_of directory) ≡ m)
entries_in_a_row zero directory e =
    let none = entries_of-short directory (omega arith) in
    let empty : directory ≡ [] = sym (take-append-drop 0 directory) ∙ drop_all 0 directory (omega arith) in
    (ap (flat_map entry_bytes) none ∙ sym empty, ap length none)
entries_in_a_row (suc m) directory e =
    let more = entries_of-more directory (omega arith) in
    let rest = entries_in_a_row m (drop 12 directory) (omega (arith, length-drop 12 directory)) in (
      ap (flat_map entry_bytes) more
          ∙ ap (λ (bytes : List ℕ). bytes ++ flat_map entry_bytes (entries_of (drop 12 directory))) (twelve_bytes (take 12 directory) (omega (arith, length-take 12 directory)))
          ∙ ap (λ (bytes : List ℕ). take 12 directory ++ bytes) rest.0
          ∙ take-append-drop 12 directory,
      ap length more ∙ ap suc rest.1,
    )

-- a field's bytes, and behind them its terminator
ended_field : (area : List ℕ) (start end : ℕ) → start < end → end ≤ length area → slice_index area (end - 1) ≡ 30 → slice_range area start end ≡ slice_range area start (end - 1) ++ (30 ∷ [])
ended_field area start end lt le last =
    let n = end - 1 - start in
    let long : n < length (drop start area) = omega (arith, length-drop start area) in
    let count : end - start ≡ suc n = omega arith in
    let place : start + n ≡ end - 1 = omega arith in
    let byte : get_or (drop start area) n 0 ≡ 30 = get_or-drop start area n 0 ∙ ap (λ (k : ℕ). get_or area k 0) place ∙ last in
    ap (λ (k : ℕ). take k (drop start area)) count ∙ take-suc (drop start area) n 0 long ∙ ap (λ (b : ℕ). take n (drop start area) ++ (b ∷ [])) byte

sound_entry : (area bytes : List ℕ) → length bytes ≡ 12 → first_failing (entry_checks area (entry_of bytes)) ≡ None → IsEntryOf area (entry_of bytes)
sound_entry area bytes e ok =
    let entry = entry_of bytes in
    let is = IsSoundEntry-from_checks area entry ok in
    record {
      tag_long = omega (arith, length-take 3 bytes);
      size_long = omega (arith, length-take 4 (drop 3 bytes), length-drop 3 bytes);
      start_long = omega (arith, length-take 5 (drop 7 bytes), length-drop 7 bytes);
      digits = is.digits;
      letters = is.tag;
      ended = ended_field area (number_of entry.start) (end_of entry) is.begins is.within is.ended;
    }

all_named : (area : List ℕ) (m : ℕ) (directory : List ℕ) → length directory ≡ 12 * m → first_failing (directory_checks area directory) ≡ None → AllByRecursion (IsEntryOf area) (entries_of directory)
all_named area zero directory e ok = subst (AllByRecursion (IsEntryOf area)) (sym (entries_of-short directory (omega arith))) tt
all_named area (suc m) directory e ok =
    let long : 12 ≤ length directory = omega arith in
    subst (AllByRecursion (IsEntryOf area)) (sym (entries_of-more directory long)) (
      sound_entry area (take 12 directory) (omega (arith, length-take 12 directory)) (first_is_sound area directory long ok),
      all_named area m (drop 12 directory) (omega (arith, length-drop 12 directory)) (others_are_sound area directory long ok),
    )

-- ---- the whole

-- a text cut behind so many bytes, and there a byte
cut_at : (text : List ℕ) (i byte : ℕ) → i < length text → slice_index text i ≡ byte → drop i text ≡ byte ∷ drop (suc i) text
cut_at text i byte lt e = drop-cons text i 0 lt ∙ ap (λ (b : ℕ). b ∷ drop (suc i) text) e

cut_between : (text : List ℕ) (m n : ℕ) → m ≤ n → drop m text ≡ slice_range text m n ++ drop n text
cut_between text m n le =
    let there : m + (n - m) ≡ n = omega arith in
    sym (take-append-drop (n - m) (drop m text)) ∙ ap (λ (t : List ℕ). slice_range text m n ++ t) (drop-drop (n - m) m text ∙ ap (λ (k : ℕ). drop k text) there)

whole_text : (text : List ℕ) → PassesChecks text → text ≡ take 24 text ++ (directory_of text ++ (30 ∷ (data_area text ++ (29 ∷ []))))
whole_text text ok =
    let base = base_address text in
    let n = length text in
    let base_is : suc (base - 1) ≡ base = omega (arith, ok.base_low) in
    let end_is : suc (n - 1) ≡ n = omega (arith, ok.base_high) in
    let end : drop (n - 1) text ≡ 29 ∷ [] = cut_at text (n - 1) 29 (omega (arith, ok.base_high)) ok.last ∙ ap (λ (t : List ℕ). 29 ∷ t) (drop_all (suc (n - 1)) text (omega arith)) in
    let area : drop base text ≡ data_area text ++ (29 ∷ []) = cut_between text base (n - 1) (omega (arith, ok.base_high)) ∙ ap (λ (t : List ℕ). data_area text ++ t) end in
    let behind : drop (base - 1) text ≡ 30 ∷ (data_area text ++ (29 ∷ [])) =
    cut_at text (base - 1) 30 (omega (arith, ok.base_high)) ok.ends ∙ ap (λ (k : ℕ). 30 ∷ drop k text) base_is ∙ ap (λ (t : List ℕ). 30 ∷ t) area in
    sym (take-append-drop 24 text)
    ∙ ap (λ (t : List ℕ). take 24 text ++ t) (cut_between text 24 (base - 1) (omega (arith, ok.base_low)) ∙ ap (λ (t : List ℕ). directory_of text ++ t) behind)

pub laid_out : (text : List ℕ) (fields : List FieldText) → IsRecord text fields → IsLaidOut text fields
unfolding fields_of
laid_out text fields is =
    let ok = PassesChecks-from_record text is.sound in
    let base = base_address text in
    let directory = directory_of text in
    let m = (base - 25) / 12 in
    let long : length directory ≡ 12 * m = omega (arith, ok.base_low, ok.base_high, ok.twelves, length-take (base - 1 - 24) (drop 24 text), length-drop 24 text) in
    let row = entries_in_a_row m directory long in
    record {
      leader = take 24 text;
      entries = entries_of directory;
      area = data_area text;
      whole = whole_text text ok ∙ ap (λ (d : List ℕ). take 24 text ++ (d ++ (30 ∷ (data_area text ++ (29 ∷ []))))) (sym row.0);
      leader_long = omega (arith, ok.base_low, ok.base_high, length-take 24 text);
      length_digits = ok.digits;
      says_length = ok.whole;
      has_marc_counts = ok.counts;
      address_digits = ok.address_digits;
      says_base = omega (arith, row.1, ok.base_low, ok.twelves);
      named = all_named (data_area text) m directory long ok.directory;
      fields_are = is.fields_are;
    }

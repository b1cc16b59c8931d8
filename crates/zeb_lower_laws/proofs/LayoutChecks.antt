-- A text that is laid out as ISO 2709 says passes each check of a record.
use Rattle.zeb_marc.proofs.Cited.{◌≡◌, ℕ, ◌+◌, ◌-◌, ◌*◌, ◌<◌, ◌≤◌, Bool, true, cond, ◌&&◌, leb, ltb, None, Some, List, [], ◌∷◌, ◌++◌, length, take, drop, get_or, map, refl, sym, ap, ◌∙◌, append_assoc, length-append, length-take, length-drop, arith, ◌==◌, AllByRecursion, flat_map, take_at, drop_at, append-nil, le-leb, lt-ltb, Check, check, first_failing, record_length, base_address, announced_checks, slice_checks, layout_checks, leader_checks, Entry, FieldText, entries_of, end_of, field_of, fields_in, directory_checks, entry_checks, entry_of, directory_of, data_area, IsRecord}
use Rattle.zeb_marc.specs.declared.faults.MarcFault.TheVariants.{LengthDigits, LengthRange, Truncated, EntryDigits, EntryTag, EntryRange, FieldEnd}
use Rattle.std.specs.Prelude.{◌%◌, slice_index, slice_range}
use Rattle.std.proofs.Math.Seq.{get_or-append_seam}
use Rattle.std.proofs.lemmas.List.{get_or-drop, get_or-take}
use Rattle.std.proofs.lemmas.Bool.{eq-eqb}
use Rattle.zeb_marc.specs.declared.faults.MarcFault.TheVariants.{NoTerminator, LeaderCounts, BaseAddress, DirectoryLength}
use Rattle.zeb_marc.specs.Leader.{last_byte, base_digits}
use Rattle.zeb_lower_laws.specs.Layout.{entry_bytes, IsEntryOf, IsLaidOut}
use Rattle.zeb_marc.specs.Leader.{are_digits, number_of, has_counts, ends_directory, has_base_address}
use Rattle.zeb_marc.specs.Directory.{has_digits, has_tag_bytes, is_in_area}
use Rattle.zeb_marc.specs.Records.{first_fault, fields_of}
use Rattle.zeb_marc.proofs.Entries.{entries_of-more, first_failing-append_pass}

passes : (c : Check) (checks : List Check) → c.passes ≡ true → first_failing checks ≡ None → first_failing (c ∷ checks) ≡ None
passes c checks e others = ap (λ (b : Bool). cond b (first_failing checks) (Some c.fault)) e ∙ others

both_hold : (a b : Bool) → a ≡ true → b ≡ true → (a && b) ≡ true
both_hold a b e f = ap (λ (c : Bool). c && b) e ∙ f

-- ---- entries

length-entry : (area : List ℕ) (entry : Entry) → IsEntryOf area entry → length (entry_bytes entry) ≡ 12
length-entry area entry is = omega (arith, length-append entry.tag (entry.size ++ entry.start), length-append entry.size entry.start, is.tag_long, is.size_long, is.start_long)

abbrev entry_with : List ℕ → List ℕ → List ℕ → Entry
entry_with tag size start = record { tag = tag; size = size; start = start }

-- an entry's parts stand at their places
entry_again : (area : List ℕ) (entry : Entry) → IsEntryOf area entry → entry_of (entry_bytes entry) ≡ entry
entry_again area entry is =
    let behind = entry.size ++ entry.start in
    let tag : take 3 (entry.tag ++ behind) ≡ entry.tag = take_at entry.tag behind 3 is.tag_long in
    let size : take 4 (drop 3 (entry.tag ++ behind)) ≡ entry.size = ap (take 4) (drop_at entry.tag behind 3 is.tag_long) ∙ take_at entry.size entry.start 4 is.size_long in
    let front : length (entry.tag ++ entry.size) ≡ 7 = omega (arith, length-append entry.tag entry.size, is.tag_long, is.size_long) in
    let last : drop 7 (entry.tag ++ behind) ≡ entry.start = ap (drop 7) (sym (append_assoc entry.tag entry.size entry.start)) ∙ drop_at (entry.tag ++ entry.size) entry.start 7 front in
    let start : take 5 (drop 7 (entry.tag ++ behind)) ≡ entry.start = ap (take 5) (last ∙ sym (append-nil entry.start)) ∙ take_at entry.start [] 5 is.start_long in
    ap (λ (t : List ℕ). entry_with t (take 4 (drop 3 (entry.tag ++ behind))) (take 5 (drop 7 (entry.tag ++ behind)))) tag
    ∙ ap (λ (s : List ℕ). entry_with entry.tag s (take 5 (drop 7 (entry.tag ++ behind)))) size
    ∙ ap (λ (s : List ℕ). entry_with entry.tag entry.size s) start

entries_again : (area : List ℕ) (entries : List Entry) → AllByRecursion (IsEntryOf area) entries → (entries_of (flat_map entry_bytes entries) ≡ entries) × (length (flat_map entry_bytes entries) ≡ 12 * length entries)
entries_again area [] all = (refl, refl)
entries_again area (entry ∷ entries) all =
    let bytes = entry_bytes entry in
    let others = flat_map entry_bytes entries in
    let rest = entries_again area entries all.1 in
    let twelve = length-entry area entry all.0 in
    let long : 12 ≤ length (bytes ++ others) = omega (arith, length-append bytes others, twelve) in (
      entries_of-more (bytes ++ others) long
          ∙ ap (λ (b : List ℕ). entry_of b ∷ entries_of (drop 12 (bytes ++ others))) (take_at bytes others 12 twelve)
          ∙ ap (λ (e : Entry). e ∷ entries_of (drop 12 (bytes ++ others))) (entry_again area entry all.0)
          ∙ ap (λ (b : List ℕ). entry ∷ entries_of b) (drop_at bytes others 12 twelve)
          ∙ ap (λ (es : List Entry). entry ∷ es) rest.0,
      omega (arith, length-append bytes others, twelve, rest.1),
    )

-- the entry's field lies within the data area, and its last byte is a field terminator
record LiesWithin (area : List ℕ) (entry : Entry) : Type 0 where
  begins : number_of entry.start < end_of entry
  within : end_of entry ≤ length area
  last : slice_index area (end_of entry - 1) ≡ 30

LiesWithin-from_end : (area : List ℕ) (entry : Entry) → IsEntryOf area entry → LiesWithin area entry
LiesWithin-from_end area entry is =
    let start = number_of entry.start in
    let end = end_of entry in
    let tail = drop start area in
    let text = take (end - 1 - start) tail in
    let lengths : length (take (end - start) tail) ≡ length text + 1 = ap length is.ended ∙ length-append text (30 ∷ []) in
    let begins : start < end = omega (arith, lengths, length-take (end - start) tail) in
    let within : end ≤ length area = omega (arith, lengths, begins, length-take (end - start) tail, length-take (end - 1 - start) tail, length-drop start area) in
    let text_long : length text ≡ end - 1 - start = omega (arith, begins, within, length-take (end - 1 - start) tail, length-drop start area) in
    let place : start + (end - 1 - start) ≡ end - 1 = omega (arith, begins) in
    let seam : get_or (take (end - start) tail) (end - 1 - start) 0 ≡ 30 =
    ap (λ (t : List ℕ). get_or t (end - 1 - start) 0) is.ended ∙ ap (λ (k : ℕ). get_or (text ++ (30 ∷ [])) k 0) (sym text_long) ∙ get_or-append_seam text 30 [] 0 in
    let taken : get_or (take (end - start) tail) (end - 1 - start) 0 ≡ get_or tail (end - 1 - start) 0 = get_or-take (end - start) tail (end - 1 - start) 0 (omega (arith, begins)) in
    record {
      begins = begins;
      within = within;
      last = ap (λ (k : ℕ). get_or area k 0) (sym place) ∙ sym (get_or-drop start area (end - 1 - start) 0) ∙ sym taken ∙ seam;
    }

in_area : (area : List ℕ) (entry : Entry) → LiesWithin area entry → is_in_area area entry ≡ true
unfolding is_in_area
in_area area entry is = both_hold (ltb (number_of entry.start) (end_of entry)) (leb (end_of entry) (length area)) (lt-ltb _ _ is.begins) (le-leb _ _ is.within)

entry_passes : (area : List ℕ) (entry : Entry) → IsEntryOf area entry → first_failing (entry_checks area entry) ≡ None
entry_passes area entry is =
    let within = LiesWithin-from_end area entry is in
    let end = check (slice_index area (end_of entry - 1) == 30) FieldEnd in
    passes (check (has_digits entry) EntryDigits) (check (has_tag_bytes entry.tag) EntryTag ∷ check (is_in_area area entry) EntryRange ∷ end ∷ []) is.digits
    (passes (check (has_tag_bytes entry.tag) EntryTag) (check (is_in_area area entry) EntryRange ∷ end ∷ []) is.letters
    (passes (check (is_in_area area entry) EntryRange) (end ∷ []) (in_area area entry within) (passes end [] (eq-eqb _ _ within.last) refl)))

entries_pass : (area : List ℕ) (entries : List Entry) → AllByRecursion (IsEntryOf area) entries → first_failing (flat_map (entry_checks area) entries) ≡ None
entries_pass area [] all = refl
entries_pass area (entry ∷ entries) all = first_failing-append_pass (entry_checks area entry) (flat_map (entry_checks area) entries) (entry_passes area entry all.0) ∙ entries_pass area entries all.1

-- ---- the parts of the text

-- the byte behind the front of a text
byte_behind : (text front back : List ℕ) (i byte : ℕ) → text ≡ front ++ (byte ∷ back) → length front ≡ i → slice_index text i ≡ byte
byte_behind text front back i byte e len = ap (λ (t : List ℕ). get_or t i 0) e ∙ ap (λ (k : ℕ). get_or (front ++ (byte ∷ back)) k 0) (sym len) ∙ get_or-append_seam front byte back 0

-- what stands between two places
between : (text front part back : List ℕ) (m n : ℕ) → text ≡ front ++ (part ++ back) → length front ≡ m → length part ≡ n - m → slice_range text m n ≡ part
between text front part back m n e len part_len = ap (λ (t : List ℕ). take (n - m) (drop m t)) e ∙ ap (take (n - m)) (drop_at front (part ++ back) m len) ∙ take_at part back (n - m) part_len

record HasParts (text : List ℕ) (entries : List Entry) (area : List ℕ) : Type 0 where
  long : length text ≡ 26 + 12 * length entries + length area
  last : slice_index text (length text - 1) ≡ 29
  ends : slice_index text (24 + 12 * length entries) ≡ 30
  directory : slice_range text 24 (24 + 12 * length entries) ≡ flat_map entry_bytes entries
  data_area : slice_range text (25 + 12 * length entries) (length text - 1) ≡ area

HasParts-from_layout : (text leader : List ℕ) (entries : List Entry) (area : List ℕ) → length leader ≡ 24 → text ≡ leader ++ (flat_map entry_bytes entries ++ (30 ∷ (area ++ (29 ∷ [])))) → length (flat_map entry_bytes entries) ≡ 12 * length entries → HasParts text entries area
HasParts-from_layout text leader entries area len whole row =
    let directory = flat_map entry_bytes entries in
    let end = area ++ (29 ∷ []) in
    let front = leader ++ (directory ++ (30 ∷ [])) in
    let before_end : text ≡ front ++ end = whole ∙ sym (simp append_assoc) in
    let before_last : text ≡ (front ++ area) ++ (29 ∷ []) = before_end ∙ sym (append_assoc front area (29 ∷ [])) in
    let front_len : length front ≡ 25 + 12 * length entries = omega (arith, length-append leader (directory ++ (30 ∷ [])), length-append directory (30 ∷ []), len, row) in
    let long : length text ≡ 26 + 12 * length entries + length area = omega (arith, ap length before_last, length-append (front ++ area) (29 ∷ []), length-append front area, front_len) in
    record {
      long = long;
      last = byte_behind text (front ++ area) [] (length text - 1) 29 before_last (omega (arith, long, length-append front area, front_len));
      ends = byte_behind text (leader ++ directory) end (24 + 12 * length entries) 30 (whole ∙ sym (append_assoc leader directory (30 ∷ end))) (omega (arith, length-append leader directory, len, row));
      directory = between text leader directory (30 ∷ end) 24 (24 + 12 * length entries) whole len (omega (arith, row));
      data_area = between text front area (29 ∷ []) (25 + 12 * length entries) (length text - 1) before_end front_len (omega (arith, long));
    }

-- ---- the checks of the leader

base_is_one : (text : List ℕ) → are_digits (base_digits text) ≡ true → 25 ≤ base_address text → base_address text < length text → slice_index text (base_address text - 1) ≡ 30 → has_base_address text ≡ true
unfolding has_base_address ends_directory
base_is_one text digits low high ends =
    let base = base_address text in
    both_hold (are_digits (base_digits text)) (ltb 24 base && ltb base (length text) && slice_index text (base - 1) == 30) digits
    (both_hold (ltb 24 base && ltb base (length text)) (slice_index text (base - 1) == 30) (both_hold (ltb 24 base) (ltb base (length text)) (lt-ltb 24 base (omega arith)) (lt-ltb _ _ high)) (eq-eqb _ _ ends))

leader_passes : (text : List ℕ) (m area_len : ℕ) → are_digits (take 5 text) ≡ true → record_length text ≡ length text → length text ≡ 26 + 12 * m + area_len → slice_index text (length text - 1) ≡ 29 → has_counts text ≡ true → base_address text ≡ 25 + 12 * m
    → has_base_address text ≡ true → first_failing (leader_checks text) ≡ None
leader_passes text m area_len digits says long last counts base based =
    let twelves = check ((base_address text - 25) % 12 == 0) DirectoryLength in
    let address = check (has_base_address text) BaseAddress in
    let count = check (has_counts text) LeaderCounts in
    let end = check (last_byte text == 29) NoTerminator in
    let at_most = check (leb (length text) (record_length text)) LengthRange in
    let at_least = check (leb (record_length text) (length text)) Truncated in
    let least = check (leb 26 (record_length text)) LengthRange in
    let spelled = check (are_digits (take 5 text)) LengthDigits in
    let layout : first_failing (layout_checks text) ≡ None = passes end (count ∷ address ∷ twelves ∷ []) (eq-eqb _ _ last) (passes count (address ∷ twelves ∷ []) counts (passes address (twelves ∷ []) based (passes twelves [] (eq-eqb _ _ (omega (arith, base))) refl))) in
    let announced : first_failing (announced_checks text) ≡ None = passes (check (leb 5 (length text)) Truncated) (spelled ∷ least ∷ []) (le-leb _ _ (omega (arith, long))) (passes spelled (least ∷ []) digits (passes least [] (le-leb _ _ (omega (arith, says, long))) refl)) in
    let slice : first_failing (slice_checks text) ≡ None = first_failing-append_pass (announced_checks text) (at_least ∷ []) announced ∙ passes at_least [] (le-leb _ _ (omega (arith, says))) refl in
    first_failing-append_pass (slice_checks text) (at_most ∷ layout_checks text) slice ∙ passes at_most (layout_checks text) (le-leb _ _ (omega (arith, says))) layout

-- ---- the record

pub IsRecord-from_layout : (text : List ℕ) (fields : List FieldText) → IsLaidOut text fields → IsRecord text fields
unfolding first_fault fields_of
IsRecord-from_layout text fields is =
    let m = length is.entries in
    let row = entries_again is.area is.entries is.named in
    let has = HasParts-from_layout text is.leader is.entries is.area is.leader_long is.whole row.1 in
    let before : base_address text - 1 ≡ 24 + 12 * m = omega (arith, is.says_base) in
    let directory : directory_of text ≡ flat_map entry_bytes is.entries = ap (λ (k : ℕ). slice_range text 24 k) before ∙ has.directory in
    let area : data_area text ≡ is.area = ap (λ (k : ℕ). slice_range text k (length text - 1)) is.says_base ∙ has.data_area in
    let based = base_is_one text is.address_digits (omega (arith, is.says_base)) (omega (arith, is.says_base, has.long)) (ap (slice_index text) before ∙ has.ends) in
    let leader = leader_passes text m (length is.area) is.length_digits is.says_length has.long has.last is.has_marc_counts is.says_base based in
    let checks : directory_checks (data_area text) (directory_of text) ≡ flat_map (entry_checks is.area) is.entries =
    ap (λ (d : List ℕ). directory_checks (data_area text) d) directory ∙ ap (λ (a : List ℕ). directory_checks a (flat_map entry_bytes is.entries)) area ∙ ap (flat_map (entry_checks is.area)) row.0 in
    let named : fields_in (data_area text) (directory_of text) ≡ map (field_of is.area) is.entries =
    ap (λ (d : List ℕ). fields_in (data_area text) d) directory ∙ ap (λ (a : List ℕ). fields_in a (flat_map entry_bytes is.entries)) area ∙ ap (map (field_of is.area)) row.0 in
    record {
      sound = first_failing-append_pass (leader_checks text) (directory_checks (data_area text) (directory_of text)) leader ∙ ap first_failing checks ∙ entries_pass is.area is.entries is.named;
      fields_are = is.fields_are ∙ sym named;
    }

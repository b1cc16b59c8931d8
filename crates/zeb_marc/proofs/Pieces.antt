-- Lemmas on texts that are cut at each delimiter, and on how many units there are.
use Rattle.zeb_marc.proofs.Cited.{◌≡◌, ℕ, suc, ◌+◌, ◌-◌, ◌*◌, ◌<◌, ◌≤◌, ◌^◌, Bool, true, false, not, cond, Some, None, List, [], ◌∷◌, ◌++◌, length, map, take, drop, refl, sym, ap, ◌∙◌, length-take, length-drop, length-append, arith, inl, inr, position, unwrap_or, ◌==◌, position_or_len, slice_split, onto_first, flat_map, lt-ltb, cases_lt, le-ltb, mul-le-mul_left, mul-le-mul_right, prefix_len-le-length, Entry, FieldText, entries_of, end_of, field_of, fields_in, Content, is_control, subfield_of, subfields_of, contents_of}
use Rattle.zeb_marc.specs.Leader.{number_of}

-- ---- the first place that passes

pub position_or_len-le : {X : Type 0} (p : X → Bool) (xs : List X) → position_or_len p xs ≤ length xs
position_or_len-le p xs = prefix_len-le-length (λ x. not (p x)) xs

pub unwrap_or-position : {X : Type 0} (p : X → Bool) (xs : List X) → unwrap_or (position p xs) (length xs) ≡ position_or_len p xs
unwrap_or-position p xs =
    elim (cases_lt (position_or_len p xs) (length xs)) [
      | inl lt ↦ ap (λ (b : Bool). unwrap_or (cond b (Some (position_or_len p xs)) None) (length xs)) (lt-ltb _ _ lt)
      | inr le ↦ ap (λ (b : Bool). unwrap_or (cond b (Some (position_or_len p xs)) None) (length xs)) (le-ltb _ _ le) ∙ (let most = position_or_len-le p xs in omega (arith, most))
    ]

-- the two cases of a place in a list that isn't empty
not_first : (n : ℕ) → 1 + n ≡ suc n
not_first n = omega arith

-- ---- cutting at each delimiter

-- the first piece is what stands before the first delimiter; the others are those behind the first piece of what is left
pub slice_split-first : {X : Type 0} (p : X → Bool) (xs : List X) → slice_split p xs ≡ take (position_or_len p xs) xs ∷ drop 1 (slice_split p (drop (position_or_len p xs) xs))
slice_split-first p [] = refl
slice_split-first {X} p (x ∷ xs) =
    let n = position_or_len p xs in
    elim (p x) as (λ b. p x ≡ b → cond b ([] ∷ slice_split p xs) (onto_first x (slice_split p xs)) ≡ take (cond (not b) (1 + n) 0) (x ∷ xs) ∷ drop 1 (slice_split p (drop (cond (not b) (1 + n) 0) (x ∷ xs)))) [
      | true ↦ λ e. ap (λ (b : Bool). [] ∷ drop 1 (cond b ([] ∷ slice_split p xs) (onto_first x (slice_split p xs)))) (sym e)
      | false ↦ λ e. ap (onto_first x) (slice_split-first p xs) ∙ ap (λ (k : ℕ). take k (x ∷ xs) ∷ drop 1 (slice_split p (drop k (x ∷ xs)))) (sym (not_first n))
    ] refl

-- what stands at the first place that passes does pass
passes_there : {X : Type 0} (p : X → Bool) (xs : List X) (y : X) (ys : List X) → drop (position_or_len p xs) xs ≡ y ∷ ys → p y ≡ true
passes_there p [] y ys e = absurd cc
passes_there p (x ∷ xs) y ys e =
    let n = position_or_len p xs in
    elim (p x) as (λ b. p x ≡ b → drop (cond (not b) (1 + n) 0) (x ∷ xs) ≡ y ∷ ys → p y ≡ true) [
      | true ↦ λ px e. let same : x ≡ y = cc in ap p (sym same) ∙ px
      | false ↦ λ px e. passes_there p xs y ys (ap (λ (k : ℕ). drop k (x ∷ xs)) (sym (not_first n)) ∙ e)
    ] refl e

-- ---- subfields

abbrev is_delimiter : ℕ → Bool
is_delimiter byte = byte == 31

-- a text without a delimiter has none
pub subfields_of-none : (tag text : List ℕ) → drop (position_or_len is_delimiter text) text ≡ [] → subfields_of tag text ≡ []
subfields_of-none tag text e = ap (λ (pieces : List (List ℕ)). flat_map (subfield_of tag) (drop 1 pieces)) (slice_split-first is_delimiter text) ∙ ap (λ (rest : List ℕ). flat_map (subfield_of tag) (drop 1 (slice_split is_delimiter rest))) e

-- what a text is cut in behind its first delimiter
behind_delimiter : (byte : ℕ) (behind : List ℕ) → is_delimiter byte ≡ true → drop 1 (slice_split is_delimiter (byte ∷ behind)) ≡ slice_split is_delimiter behind
behind_delimiter byte behind e = ap (λ (b : Bool). drop 1 (cond b ([] ∷ slice_split is_delimiter behind) (onto_first byte (slice_split is_delimiter behind)))) e

-- behind its first delimiter a text has a piece, and then the subfields from the next delimiter on
pub subfields_of-more : (tag text : List ℕ) (byte : ℕ) (behind : List ℕ) → drop (position_or_len is_delimiter text) text ≡ byte ∷ behind
    → subfields_of tag text ≡ subfield_of tag (take (position_or_len is_delimiter behind) behind) ++ subfields_of tag (drop (position_or_len is_delimiter behind) behind)
subfields_of-more tag text byte behind e =
    ap (λ (pieces : List (List ℕ)). flat_map (subfield_of tag) (drop 1 pieces)) (slice_split-first is_delimiter text)
    ∙ ap (λ (rest : List ℕ). flat_map (subfield_of tag) (drop 1 (slice_split is_delimiter rest))) e
    ∙ ap (flat_map (subfield_of tag)) (behind_delimiter byte behind (passes_there is_delimiter text byte behind e))
    ∙ ap (flat_map (subfield_of tag)) (slice_split-first is_delimiter behind)

-- ---- how many there are

length-subfields : (tag : List ℕ) (pieces : List (List ℕ)) → length (flat_map (subfield_of tag) pieces) ≤ length pieces
length-subfields tag [] = omega arith
length-subfields tag ([] ∷ pieces) = omega (arith, length-subfields tag pieces)
length-subfields tag ((code ∷ text) ∷ pieces) = omega (arith, length-subfields tag pieces)

length-onto_first : {X : Type 0} (x : X) (parts : List (List X)) → length (onto_first x parts) ≤ length parts + 1
length-onto_first x [] = omega arith
length-onto_first x (part ∷ parts) = omega arith

length-slice_split-le : {X : Type 0} (p : X → Bool) (xs : List X) → length (slice_split p xs) ≤ length xs + 1
length-slice_split-le p [] = omega arith
length-slice_split-le p (x ∷ xs) =
    elim (p x) as (λ b. length (cond b ([] ∷ slice_split p xs) (onto_first x (slice_split p xs))) ≤ suc (length xs) + 1) [
      | true ↦ omega (arith, length-slice_split-le p xs)
      | false ↦ omega (arith, length-slice_split-le p xs, length-onto_first x (slice_split p xs))
    ]

pub length-subfields_of : (tag text : List ℕ) → length (subfields_of tag text) ≤ length text
length-subfields_of tag text = omega (arith, length-subfields tag (drop 1 (slice_split is_delimiter text)), length-drop 1 (slice_split is_delimiter text), length-slice_split-le is_delimiter text)

length-contents_of : (field : FieldText) → length (contents_of field) ≤ length field.text + 1
length-contents_of field =
    elim (is_control field.tag) as (λ b. length (cond b (record { tag = field.tag; code = None; text = field.text } ∷ []) (subfields_of field.tag field.text)) ≤ length field.text + 1) [
      | true ↦ omega arith
      | false ↦ omega (arith, length-subfields_of field.tag field.text)
    ]

length-text-le : (area : List ℕ) (entry : Entry) → length (field_of area entry).text ≤ length area
length-text-le area entry = omega (arith, length-take (end_of entry - 1 - number_of entry.start) (drop (number_of entry.start) area), length-drop (number_of entry.start) area)

length-contents : (area : List ℕ) (entries : List Entry) → length (flat_map contents_of (map (field_of area) entries)) ≤ length entries * (length area + 1)
length-contents area [] = omega arith
length-contents area (entry ∷ entries) =
    omega (arith, length-append (contents_of (field_of area entry)) (flat_map contents_of (map (field_of area) entries)), length-contents area entries, length-contents_of (field_of area entry), length-text-le area entry)

length-entries_of : (directory : List ℕ) → length (entries_of directory) ≤ length directory
length-entries_of (a ∷ b ∷ c ∷ d ∷ e ∷ f ∷ g ∷ h ∷ i ∷ j ∷ k ∷ l ∷ rest) = omega (arith, length-entries_of rest)
length-entries_of _ = omega arith

-- a record of at most 99,999 bytes has so few units that 64 bits number them
pub units_fit : (area directory : List ℕ) → length area ≤ 99999 → length directory ≤ 99999 → length (flat_map contents_of (fields_in area directory)) < 2 ^ 64
units_fit area directory few_bytes few_entries =
    let all = length-contents area (entries_of directory) in
    let few : length (entries_of directory) ≤ 99999 = omega (arith, length-entries_of directory) in
    let long : length area + 1 ≤ 100000 = omega arith in
    omega (arith, all, mul-le-mul_right (length area + 1) few, mul-le-mul_left 99999 long)

-- ---- what is left of a record's units

-- where a field that was begun has nothing left, a control field is the next unit
pub left-control : (begun : List Content) (fields others : List FieldText) (field : FieldText) → begun ≡ [] → fields ≡ field ∷ others → is_control field.tag ≡ true
    → begun ++ flat_map contents_of fields ≡ record { tag = field.tag; code = None; text = field.text } ∷ (begun ++ flat_map contents_of others)
left-control begun fields others field none first control =
    ap (λ (b : List Content). b ++ flat_map contents_of fields) none
    ∙ ap (flat_map contents_of) first
    ∙ ap (λ (b : Bool). cond b (record { tag = field.tag; code = None; text = field.text } ∷ []) (subfields_of field.tag field.text) ++ flat_map contents_of others) control
    ∙ ap (λ (b : List Content). record { tag = field.tag; code = None; text = field.text } ∷ (b ++ flat_map contents_of others)) (sym none)

-- and a data field is begun
pub left-data : (begun : List Content) (fields others : List FieldText) (field : FieldText) → begun ≡ [] → fields ≡ field ∷ others → is_control field.tag ≡ false
    → begun ++ flat_map contents_of fields ≡ subfields_of field.tag field.text ++ flat_map contents_of others
left-data begun fields others field none first data_field =
    ap (λ (b : List Content). b ++ flat_map contents_of fields) none
    ∙ ap (flat_map contents_of) first
    ∙ ap (λ (b : Bool). cond b (record { tag = field.tag; code = None; text = field.text } ∷ []) (subfields_of field.tag field.text) ++ flat_map contents_of others) data_field

pub left-none : (begun : List Content) (fields : List FieldText) → begun ≡ [] → fields ≡ [] → begun ++ flat_map contents_of fields ≡ []
left-none begun fields none last = ap (λ (b : List Content). b ++ flat_map contents_of fields) none ∙ ap (flat_map contents_of) last

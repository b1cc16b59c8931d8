-- The texts of a record's fields and units are parts of it.
use Rattle.zeb_marc.proofs.Cited.{◌≡◌, ℕ, suc, ◌-◌, Bool, true, false, cond, None, List, [], ◌∷◌, ◌++◌, length, map, take, drop, refl, sym, ap, subst, ◌∙◌, append_assoc, ◌==◌, AllByRecursion, flat_map, slice_split, onto_first, take-append-drop, append-nil, base_address, Entry, FieldText, entries_of, end_of, field_of, directory_of, data_area, IsRecord, Content, UnitText, is_control, subfield_of, subfields_of, contents_of, numbered_from}
use Rattle.zeb_marc.specs.Leader.{number_of}
use Rattle.zeb_marc.specs.Records.{fields_of}
use Rattle.zeb_marc.specs.Contents.{units_of}
use Rattle.zeb_lower_laws.specs.Parts.{IsPart}
use Rattle.zeb_marc.proofs.PartLaws.{all-append}

-- ---- parts

part_of_itself : (text : List ℕ) → IsPart text text
part_of_itself text = record { before = []; after = []; whole = sym (append-nil text) }

part_of_part : (text part inner : List ℕ) → IsPart text part → IsPart part inner → IsPart text inner
part_of_part text part inner p q = record {
  before = p.before ++ q.before;
  after = q.after ++ p.after;
  whole = p.whole ∙ ap (λ (t : List ℕ). p.before ++ (t ++ p.after)) q.whole ∙ simp append_assoc;
}

cut_out : (text : List ℕ) (m n : ℕ) → IsPart text (take n (drop m text))
cut_out text m n = record {
  before = take m text;
  after = drop n (drop m text);
  whole = sym (take-append-drop m text) ∙ ap (λ (t : List ℕ). take m text ++ t) (sym (take-append-drop n (drop m text)));
}

behind_one : (x : ℕ) (xs part : List ℕ) → IsPart xs part → IsPart (x ∷ xs) part
behind_one x xs part p = record { before = x ∷ p.before; after = p.after; whole = ap (λ (t : List ℕ). x ∷ t) p.whole }

all_behind_one : (x : ℕ) (xs : List ℕ) (parts : List (List ℕ)) → AllByRecursion (IsPart xs) parts → AllByRecursion (IsPart (x ∷ xs)) parts
all_behind_one x xs [] h = tt
all_behind_one x xs (part ∷ parts) h = (behind_one x xs part h.0, all_behind_one x xs parts h.1)

-- ---- pieces

-- the first piece begins the text, and the others are parts of it
abbrev AreCut : List ℕ → List (List ℕ) → Type 0
AreCut text [] = ⊥
AreCut text (piece ∷ pieces) = ((after : List ℕ) × (text ≡ piece ++ after)) × AllByRecursion (IsPart text) pieces

pieces_are_cut : (p : ℕ → Bool) (text : List ℕ) → AreCut text (slice_split p text)
pieces_are_cut p [] = (([], refl), tt)
pieces_are_cut p (x ∷ xs) =
    elim (slice_split p xs) as (λ pieces. AreCut xs pieces → AreCut (x ∷ xs) (cond (p x) ([] ∷ pieces) (onto_first x pieces))) [
      | [] ↦ λ h. absurd h
      | piece ∷ pieces ↦ λ h.
          let others = all_behind_one x xs pieces h.1 in
          elim (p x) as (λ b. AreCut (x ∷ xs) (cond b ([] ∷ piece ∷ pieces) ((x ∷ piece) ∷ pieces))) [
            | true ↦ ((x ∷ xs, refl), (behind_one x xs piece (record { before = []; after = h.0.0; whole = h.0.1 }), others))
            | false ↦ ((h.0.0, ap (λ (t : List ℕ). x ∷ t) h.0.1), others)
          ]
    ] (pieces_are_cut p xs)

others_are_parts : (text : List ℕ) (pieces : List (List ℕ)) → AreCut text pieces → AllByRecursion (IsPart text) (drop 1 pieces)
others_are_parts text [] h = absurd h
others_are_parts text (piece ∷ pieces) h = h.1

-- ---- fields and units

abbrev FieldPart : List ℕ → FieldText → Type 0
FieldPart text field = IsPart text field.text

abbrev ContentPart : List ℕ → Content → Type 0
ContentPart text content = IsPart text content.text

subfields_are_parts : (text tag : List ℕ) (pieces : List (List ℕ)) → AllByRecursion (IsPart text) pieces → AllByRecursion (ContentPart text) (flat_map (subfield_of tag) pieces)
subfields_are_parts text tag [] h = tt
subfields_are_parts text tag ([] ∷ pieces) h = subfields_are_parts text tag pieces h.1
subfields_are_parts text tag ((code ∷ bytes) ∷ pieces) h =
    (part_of_part text (code ∷ bytes) bytes h.0 (behind_one code bytes bytes (part_of_itself bytes)), subfields_are_parts text tag pieces h.1)

contents_are_parts : (field : FieldText) → AllByRecursion (ContentPart field.text) (contents_of field)
contents_are_parts field =
    elim (is_control field.tag) as (λ b. AllByRecursion (ContentPart field.text) (cond b (record { tag = field.tag; code = None; text = field.text } ∷ []) (subfields_of field.tag field.text))) [
      | true ↦ (part_of_itself field.text, tt)
      | false ↦ subfields_are_parts field.text field.tag (drop 1 (slice_split (λ byte. byte == 31) field.text)) (others_are_parts field.text (slice_split (λ byte. byte == 31) field.text) (pieces_are_cut (λ byte. byte == 31) field.text))
    ]

all_of_field : (text part : List ℕ) (contents : List Content) → IsPart text part → AllByRecursion (ContentPart part) contents → AllByRecursion (ContentPart text) contents
all_of_field text part [] p h = tt
all_of_field text part (content ∷ contents) p h = (part_of_part text part content.text p h.0, all_of_field text part contents p h.1)

all_contents_are_parts : (text : List ℕ) (fields : List FieldText) → AllByRecursion (FieldPart text) fields → AllByRecursion (ContentPart text) (flat_map contents_of fields)
all_contents_are_parts text [] h = tt
all_contents_are_parts text (field ∷ fields) h =
    all-append (ContentPart text) (contents_of field) (flat_map contents_of fields) (all_of_field text field.text (contents_of field) h.0 (contents_are_parts field)) (all_contents_are_parts text fields h.1)

numbered_are_parts : (text : List ℕ) (n : ℕ) (contents : List Content) → AllByRecursion (ContentPart text) contents → AllByRecursion (λ (unit : UnitText). IsPart text unit.text) (numbered_from n contents)
numbered_are_parts text n [] h = tt
numbered_are_parts text n (content ∷ contents) h = (h.0, numbered_are_parts text (suc n) contents h.1)

entry_parts : (text area : List ℕ) (entries : List Entry) → IsPart text area → AllByRecursion (FieldPart text) (map (field_of area) entries)
entry_parts text area [] p = tt
entry_parts text area (entry ∷ entries) p =
    (part_of_part text area (field_of area entry).text p (cut_out area (number_of entry.start) (end_of entry - 1 - number_of entry.start)), entry_parts text area entries p)

pub field_parts : (text : List ℕ) (fields : List FieldText) → IsRecord text fields → AllByRecursion (FieldPart text) fields
unfolding fields_of
field_parts text fields is =
    subst (λ (f : List FieldText). AllByRecursion (FieldPart text) f) (sym is.fields_are)
    (entry_parts text (data_area text) (entries_of (directory_of text)) (cut_out text (base_address text) (length text - 1 - base_address text)))

pub unit_parts : (text : List ℕ) (fields : List FieldText) → IsRecord text fields → AllByRecursion (λ (unit : UnitText). IsPart text unit.text) (units_of fields)
unfolding units_of
unit_parts text fields is = numbered_are_parts text 1 (flat_map contents_of fields) (all_contents_are_parts text fields (field_parts text fields is))

-- One piece behind a delimiter after the other.
use Rattle.zeb_marc.proofs.Cited.{◌≡◌, ◌++◌, ◌∷◌, [], ◌∙◌, sym, ap, take, drop, List, ℕ, ◌==◌, position_or_len, nil_from_length, subfield_of, subfields_of}
use Rattle.zeb_marc.proofs.Pieces.{subfields_of-none, subfields_of-more}
use Rattle.zeb_marc.proofs.units.next_subfield.Goals as goal

abbrev first_place : List ℕ → ℕ
first_place text = position_or_len (λ byte. byte == 31) text

-- the parts on both sides of a place that was found
from_there : (text rest : List ℕ) (n : ℕ) → n ≡ first_place text → rest ≡ drop n text → drop (first_place text) text ≡ rest
from_there text rest n place back = ap (λ (k : ℕ). drop k text) (sym place) ∙ sym back

up_to_there : (text front : List ℕ) (n : ℕ) → n ≡ first_place text → front ≡ take n text → take (first_place text) text ≡ front
up_to_there text front n place cut = ap (λ (k : ℕ). take k text) (sym place) ∙ sym cut

-- the next piece, and what stands behind it
next_piece : (tag text : List ℕ) (byte : ℕ) (behind piece rest : List ℕ) → drop (first_place text) text ≡ byte ∷ behind → take (first_place behind) behind ≡ piece → drop (first_place behind) behind ≡ rest
    → subfields_of tag text ≡ subfield_of tag piece ++ subfields_of tag rest
next_piece tag text byte behind piece rest begins front back =
    subfields_of-more tag text byte behind begins
    ∙ ap (λ (p : List ℕ). subfield_of tag p ++ subfields_of tag (drop (first_place behind) behind)) front
    ∙ ap (λ (r : List ℕ). subfield_of tag piece ++ subfields_of tag r) back

pub returns-in_err-behind : goal.returns-in_err-behind
returns-in_err-behind c = λ tag.
    let text = c.loop-behind.left.now in
    let empty = nil_from_length c.split_at.result.1.now c.in_err-behind.ensures.cases in
    let none = from_there text c.split_at.result.1.now c.delimiter_place.result c.delimiter_place.ensures.place c.split_at.ensures.back ∙ empty in
    rw c.from_residual.ensures (sym (c.loop-behind.invariant tag) ∙ subfields_of-none tag text none)

pub returns-in-Some : goal.returns-in-Some
returns-in-Some c = λ tag.
    let text = c.loop-behind.left.now in
    let behind = c.in_ok-behind.behind.now in
    let begins = from_there text c.split_at.result.1.now c.delimiter_place.result c.delimiter_place.ensures.place c.split_at.ensures.back ∙ c.in_ok-behind.ensures.cases.0 in
    let place = c.delimiter_place-in-loop-behind.ensures.place in
    let front = up_to_there behind c.split_at-in-loop-behind.result.0.now c.delimiter_place-in-loop-behind.result place c.split_at-in-loop-behind.ensures.front ∙ c.in-Some.ensures.cases.0 in
    let back = from_there behind c.split_at-in-loop-behind.result.1.now c.delimiter_place-in-loop-behind.result place c.split_at-in-loop-behind.ensures.back in
    sym (c.loop-behind.invariant tag) ∙ next_piece tag text _ behind (c.in-Some.code.now ∷ c.in-Some.bytes.now) c.split_at-in-loop-behind.result.1.now begins front back

pub loop-behind-preserved : goal.loop-behind-preserved
loop-behind-preserved c = λ tag.
    let text = c.loop-behind.left.now in
    let behind = c.in_ok-behind.behind.now in
    let begins = from_there text c.split_at.result.1.now c.delimiter_place.result c.delimiter_place.ensures.place c.split_at.ensures.back ∙ c.in_ok-behind.ensures.cases.0 in
    let place = c.delimiter_place-in-loop-behind.ensures.place in
    let empty = nil_from_length c.split_at-in-loop-behind.result.0.now c.in_default.ensures.cases in
    let front = up_to_there behind c.split_at-in-loop-behind.result.0.now c.delimiter_place-in-loop-behind.result place c.split_at-in-loop-behind.ensures.front ∙ empty in
    let back = from_there behind c.split_at-in-loop-behind.result.1.now c.delimiter_place-in-loop-behind.result place c.split_at-in-loop-behind.ensures.back in
    sym (next_piece tag text _ behind [] c.split_at-in-loop-behind.result.1.now begins front back) ∙ c.loop-behind.invariant tag

-- The next subfield of the field that was begun, or else the next field.
use Rattle.zeb_marc.proofs.Cited.{◌++◌, ◌∙◌, sym, ap, List, flat_map, Content, contents_of, subfields_of, field_text}
use Rattle.zeb_marc.proofs.Pieces.{left-control, left-data, left-none}
use Rattle.zeb_marc.proofs.units.next_content.Goals as goal

pub returns-in-Some : goal.returns-in-Some
returns-in-Some c = sym c.loop-code.invariant ∙ ap (λ (s : List Content). s ++ flat_map contents_of c.loop-code.fields) (c.in-Some.ensures c.loop-code.begun.tag)

pub returns-in_err-field : goal.returns-in_err-field
returns-in_err-field c =
    let begun = c.loop-code.begun in
    let none = c.in_default.ensures begun.tag in
    let last = c.in_err-field.ensures.steps in
    rw c.from_residual.ensures (sym c.loop-code.invariant ∙ left-none (subfields_of begun.tag begun.text.now) c.loop-code.fields none last.0, left-none (subfields_of begun.tag begun.text.now) c.next.new.self none last.1)

pub returns-then-is_control_tag : goal.returns-then-is_control_tag
returns-then-is_control_tag c =
    let begun = c.loop-code.begun in
    let none = c.in_default.ensures begun.tag in
    sym c.loop-code.invariant ∙ left-control (subfields_of begun.tag begun.text.now) c.loop-code.fields c.next.new.self (field_text c.in_ok-field.field) none c.in_ok-field.ensures.steps (sym c.if-is_control_tag.ensures)

pub loop-code-preserved : goal.loop-code-preserved
loop-code-preserved c =
    let begun = c.loop-code.begun in
    let none = c.in_default.ensures begun.tag in
    sym (left-data (subfields_of begun.tag begun.text.now) c.loop-code.fields c.next.new.self (field_text c.in_ok-field.field) none c.in_ok-field.ensures.steps (sym c.if-is_control_tag.ensures)) ∙ c.loop-code.invariant

-- The first entry's field comes, and those of the others are left.
use Rattle.zeb_marc.proofs.Cited.{◌≡◌, ◌≤◌, ◌∙◌, ap, length, take, List, ℕ, arith, field_text, field_of, entry_of}
use Rattle.zeb_marc.proofs.Entries.{others_are_sound, fields_in-more}
use Rattle.zeb_marc.proofs.directory.FieldsIterator.next.Goals as goal

pub invariant_of-self : goal.invariant_of-self
invariant_of-self c =
    let directory = c.self.inside.directory.now in
    let area = c.self.inside.area.now in
    let long : 12 ≤ length directory = omega arith in
    rw c.split_at.ensures.back (others_are_sound area directory long c.self.invariant)

pub returns-clause-steps : goal.returns-clause-steps
returns-clause-steps c =
    let directory = c.self.inside.directory.now in
    let area = c.self.inside.area.now in
    let long : 12 ≤ length directory = omega arith in
    let first : field_text c.field_at-field.result ≡ field_of area (entry_of (take 12 directory)) = c.field_at-field.ensures ∙ ap (λ (bytes : List ℕ). field_of area (entry_of bytes)) c.split_at.ensures.front in
    let split = fields_in-more area directory long in
    rw (first, c.split_at.ensures.back, ← c.self.view_is) split

pub returns-clause-goes : goal.returns-clause-goes
returns-clause-goes c =
    let steps = returns-clause-steps c in
    record { on = λ _. (tt, tt, omega (arith, ap length steps)); keeps = tt; rests = λ _. tt }

use Rattle.zeb_program.proofs.Cited.{◌≡◌, false, rules, subst, true, Sent, Some}
use Rattle.zeb_program.specs.Diagnostics.{is_placed, meaning_of}
use Rattle.zeb_program.proofs.FailureLemmas.{bare_meaning, placed_meaning}
use Rattle.zeb_program.proofs.failures.write_meaning.Goals as goal

pub returns-then-is_placed : goal.returns-then-is_placed
returns-then-is_placed g c =
    let is : meaning_of c.args.number ≡ Some c.in-Some.meaning.now = search rules in
    let at : is_placed c.args.number ≡ true = search rules in
    subst (Sent c.args.output.now c.write_line.new.self) (placed_meaning c.args.number c.args.place c.in-Some.meaning.now is at) c.write_line.ensures.sent

pub returns-else-is_placed : goal.returns-else-is_placed
returns-else-is_placed g c =
    let is : meaning_of c.args.number ≡ Some c.in-Some.meaning.now = search rules in
    let at : is_placed c.args.number ≡ false = search rules in
    subst (Sent c.args.output.now c.write_line-else-is_placed.new.self) (bare_meaning c.args.number c.args.place c.in-Some.meaning.now is at) c.write_line-else-is_placed.ensures.sent

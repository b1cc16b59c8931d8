use Rattle.zeb_program.proofs.Cited.{◌≡◌, false, true, rules}
use Rattle.zeb_program.specs.FaultLines.{left_line, left_lines}
use Rattle.zeb_program.proofs.FailureLemmas.{line_so, part_told, whole_told}
use Rattle.zeb_program.proofs.failures.tell_left.Goals as goal

pub returns-then-closed-clause-told : goal.returns-then-closed-clause-told
returns-then-closed-clause-told g c =
    let whole : c.args.closed.is_whole ≡ true = search rules in
    whole_told c.args.output.now c.args.closed.is_whole (left_lines c.args.closed.cause) whole

pub returns-clause-told : goal.returns-clause-told
returns-clause-told g c =
    let part : c.args.closed.is_whole ≡ false = search rules in
    part_told c.args.output.now c.tell_cause.new.output c.args.closed.is_whole (left_lines c.args.closed.cause) part
    (line_so c.args.output.now c.write_line.new.self c.tell_cause.new.output left_line c.args.closed.cause c.store_cause.result c.store_cause.ensures c.write_line.ensures.sent c.tell_cause.ensures)

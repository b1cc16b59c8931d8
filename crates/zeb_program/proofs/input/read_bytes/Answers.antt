use Rattle.zeb_program.proofs.Cited.{◌++◌, take, rules, Consumes-trans, length-append}
use Rattle.zeb_program.proofs.input.read_bytes.Goals as goal

-- What was read before, and what couldn't be kept.
pub returns-in_err-extend_from_slice-clause-bounded : goal.returns-in_err-extend_from_slice-clause-bounded
returns-in_err-extend_from_slice-clause-bounded g c =
    let before = c.loop-portion.bytes.items in
    let last = take c.in_ok-count.count c.read.new.buffer in
    (before ++ last, rw (length-append before last) (search rules), Consumes-trans _ _ _ before last c.loop-portion.invariant.taken c.in_ok-count.ensures.bytes.0)

use Rattle.zeb_program.proofs.Cited.{arith, rules, take, FailedRead, Unreadable, Memory}
use Rattle.zeb_program.proofs.LineInputLemmas.{line_read, line_some, line_taken, ends_failed, ends_long, ends_starved, given_ends}
use Rattle.zeb_program.proofs.line_input.read_line.Goals as goal

pub returns-then-byte-eq10-clause-read : goal.returns-then-byte-eq10-clause-read
returns-then-byte-eq10-clause-read g c =
    let before = c.loop-byte.invariant.taken in
    let here = c.in_ok-read.ensures.bytes.0 in
    let grew = c.in_ok-extend_from_slice.ensures.items in (
      line_read _ _ _ c.loop-byte.line.items c.read.new.buffer _ c.in_ok-read.field-0 c.loop-byte.invariant.none before here (search rules) (search rules) c.if-byte-eq10.true grew,
      line_taken _ _ _ c.loop-byte.line.items c.read.new.buffer _ c.in_ok-read.field-0 before here (search rules) (search rules) grew,
      line_some _ c.loop-byte.line.items c.read.new.buffer _ (search rules) grew,
    )

pub returns-in_err-read-clause-stops : goal.returns-in_err-read-clause-stops
returns-in_err-read-clause-stops g c =
    given_ends c.from_residual.result (Unreadable FailedRead) _ _ c.args.most (search rules)
    (ends_failed _ (g.R.Source.remaining c.loop-byte.source) _ c.loop-byte.line.items c.args.most c.loop-byte.invariant.none (omega (arith, c.loop-byte-test.true, c.len.ensures)) c.loop-byte.invariant.taken c.in_err-read.ensures.bytes)

pub returns-in_err-extend_from_slice-clause-stops : goal.returns-in_err-extend_from_slice-clause-stops
returns-in_err-extend_from_slice-clause-stops g c =
    let last = take c.in_ok-read.field-0 c.read.new.buffer in
    given_ends c.from_residual-in_err-extend_from_slice.result Memory _ _ c.args.most (search rules)
    (ends_starved _ (g.R.Source.remaining c.loop-byte.source) _ c.loop-byte.line.items last c.args.most c.loop-byte.invariant.none (omega (arith, c.loop-byte-test.true, c.len.ensures))
    (search rules) c.loop-byte.invariant.taken c.in_ok-read.ensures.bytes.0)

pub returns-clause-stops : goal.returns-clause-stops
returns-clause-stops g c =
    ends_long _ _ c.loop-byte.line.items c.args.most c.loop-byte.invariant.none (omega (arith, c.loop-byte-test.false, c.len.ensures, c.loop-byte.invariant.room)) c.loop-byte.invariant.taken

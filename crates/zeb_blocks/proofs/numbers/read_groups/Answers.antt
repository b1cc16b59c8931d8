-- Each byte but the last adds a group.
use Rattle.zeb_blocks.proofs.Cited.{◌<◌, inl, inr, arith, cases_eq, ne_eqb}
use Rattle.zeb_blocks.proofs.Bytes.{uleb-low, continues_first, continues_more, nothing_empty, nothing_ended, nothing_large, nothing_long, nothing_padded, continues_ends}
use Rattle.zeb_blocks.proofs.numbers.read_groups.Goals as goal

pub returns-in_err-first : goal.returns-in_err-first
returns-in_err-first c = rw c.from_residual.ensures (nothing_empty c.args.bytes.now c.in_err-first.ensures.cases)

pub returns-then-first-lt128 : goal.returns-then-first-lt128
returns-then-first-lt128 c = (omega arith, rw (c.from.ensures, uleb-low c.in_ok-first.first.now c.if-first-lt128.true) c.in_ok-first.ensures.cases.0)

pub loop-byte-init : goal.loop-byte-init
loop-byte-init c =
    let first = c.in_ok-first.first.now in
    let fits : first < 256 = omega arith in
    rw (c.in_ok-first.ensures.cases.0, c.from-value.ensures) (continues_first first c.in_ok-first.rest.now c.if-first-lt128.false fits)

pub returns-in_err-value : goal.returns-in_err-value
returns-in_err-value c =
    let at = rw c.in_ok-byte.ensures.cases.0 at c.loop-byte.invariant in
    let fits : c.in_ok-byte.byte.now < 256 = omega arith in
    rw c.from_residual-in_err-value.ensures (nothing_large c.args.bytes.now c.in_ok-byte.behind.now c.in_ok-byte.byte.now c.loop-byte.value c.loop-byte.scale at fits c.in_err-value.ensures)

pub returns-in_err-scale : goal.returns-in_err-scale
returns-in_err-scale c =
    let at = rw c.in_ok-byte.ensures.cases.0 at c.loop-byte.invariant in
    rw c.from_residual-in_err-scale.ensures (nothing_long c.args.bytes.now c.in_ok-byte.behind.now c.in_ok-byte.byte.now c.loop-byte.value c.loop-byte.scale at c.if-byte-lt128.false c.in_err-scale.ensures)

pub loop-byte-preserved : goal.loop-byte-preserved
loop-byte-preserved c =
    let at = rw c.in_ok-byte.ensures.cases.0 at c.loop-byte.invariant in
    let fits : c.in_ok-byte.byte.now < 256 = omega arith in
    rw (c.in_ok-value.ensures.1, c.in_ok-scale.ensures.1) (continues_more c.args.bytes.now c.in_ok-byte.behind.now c.in_ok-byte.byte.now c.loop-byte.value c.loop-byte.scale at c.if-byte-lt128.false fits)

pub returns-in_err-byte : goal.returns-in_err-byte
returns-in_err-byte c = rw c.from_residual-in_err-byte.ensures (nothing_ended c.args.bytes.now c.loop-byte.left.now c.loop-byte.value c.loop-byte.scale c.loop-byte.invariant c.in_err-byte.ensures.cases)

pub returns-then-byte-lt128 : goal.returns-then-byte-lt128
returns-then-byte-lt128 c =
    let at = rw c.in_ok-byte.ensures.cases.0 at c.loop-byte.invariant in
    elim (cases_eq c.in_ok-byte.byte.now 0) [
      | inl padded ↦
          let test = rw padded at c.then_some.ensures in
          let padded_at = rw padded at at in
          rw test (nothing_padded c.args.bytes.now c.in_ok-byte.behind.now c.loop-byte.value c.loop-byte.scale padded_at)
      | inr some ↦
          let test = rw (ne_eqb c.in_ok-byte.byte.now 0 some) at c.then_some.ensures in
          rw (test, c.in_ok-value.ensures.1) (c.in_ok-value.ensures.0, continues_ends c.args.bytes.now c.in_ok-byte.behind.now c.in_ok-byte.byte.now c.loop-byte.value c.loop-byte.scale at some c.if-byte-lt128.true c.in_ok-value.ensures.0)
    ]

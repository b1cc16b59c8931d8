-- One more separator, or the first byte behind them, or the end.
use Rattle.zeb_marc.proofs.Cited.{◌≡◌, ◌∙◌, sym, ap, List, ℕ, Some, drop, arith, err_from_is_err_and, is_separator}
use Rattle.zeb_marc.proofs.Runs.{run_more, run_ends, run_all}
use Rattle.zeb_marc.proofs.ReadingLemmas.{byte_none, byte_some, skip_failed}
use Rattle.zeb_marc.proofs.stream.skip_separators.Goals as goal

pub returns-in_default-clause-told : goal.returns-in_default-clause-told
returns-in_default-clause-told g c = λ text told.
    let inv = c.loop.invariant.told text told in
    let ended = byte_none c.in_ok-byte.field-0 (drop c.loop.counter text) (g.R.Source.remaining c.read_byte.new.source) c.in_default.is (c.in_ok-byte.ensures.told (drop c.loop.counter text) inv.0) in
    let n = run_all is_separator text c.loop.counter inv.1 ended.0 in
    (omega (arith, n), ap (λ (k : ℕ). drop k text) n ∙ ended.0, ended.1)

pub returns-then-not-may_separate-clause-told : goal.returns-then-not-may_separate-clause-told
returns-then-not-may_separate-clause-told g c = λ text told.
    let inv = c.loop.invariant.told text told in
    let found = byte_some c.in_ok-byte.field-0 c.in-Some.byte (drop c.loop.counter text) (g.R.Source.remaining c.read_byte.new.source) c.in-Some.is (c.in_ok-byte.ensures.told (drop c.loop.counter text) inv.0) in
    let n = run_ends is_separator text c.loop.counter c.in-Some.byte found.0 inv.1 found.1 (sym c.if-not-may_separate.ensures) in
    (omega (arith, n), (found.0, ap (λ (k : ℕ). drop k text) n ∙ found.1, found.2))

pub loop-preserved : goal.loop-preserved
loop-preserved g c = record {
  fails = c.in_ok-byte.ensures.fails ∙ c.loop.invariant.fails;
  able = λ sound.
      let inv = c.loop.invariant.able sound in
      let read = c.in_ok-byte.ensures.able inv.0 in
      (read.0, read.1 ∙ inv.1);
  told = λ text told.
      let inv = c.loop.invariant.told text told in
      let found = byte_some c.in_ok-byte.field-0 c.in-Some.byte (drop c.loop.counter text) (g.R.Source.remaining c.read_byte.new.source) c.in-Some.is (c.in_ok-byte.ensures.told (drop c.loop.counter text) inv.0) in
      let more = run_more is_separator text c.loop.counter c.in-Some.byte found.0 inv.1 found.1 (sym c.if-not-may_separate.ensures) in
      (found.2 ∙ ap (λ (rest : List ℕ). Some rest) (sym more.1), more.0);
}

pub returns-in_err-byte-clause-told : goal.returns-in_err-byte-clause-told
returns-in_err-byte-clause-told g c = λ text told.
    let p = err_from_is_err_and c.from_residual.result c.from_residual.ensures.1 in
    let inv = c.loop.invariant.told text told in
    rw (p.1, p.2) (skip_failed text c.in_err-byte.field-0.0 c.loop.counter (g.R.Source.remaining c.read_byte.new.source) c.in_err-byte.ensures.fault (omega arith) inv.1 (c.in_err-byte.ensures.told (drop c.loop.counter text) inv.0))

pub returns-clause-told : goal.returns-clause-told
returns-clause-told g c = λ text told.
    let inv = c.loop.invariant.told text told in
    let all : c.loop.counter ≡ 65536 = omega arith in
    (omega (arith, inv.1, all), inv.0 ∙ ap (λ (k : ℕ). Some (drop k text)) all)

-- What was read is the next part of what the source told.
use Rattle.zeb_marc.proofs.Cited.{◌≡◌, ◌<◌, ◌≤◌, ◌+◌, ◌-◌, ◌∙◌, sym, ap, List, ℕ, Some, length, take, drop, length-append, length-drop, length-take, arith}
use Rattle.zeb_marc.proofs.Runs.{at_end_is, consumed, length-put_mid, Filled-more}
use Rattle.zeb_marc.proofs.stream.fill.Goals as goal

pub loop-filled-preserved : goal.loop-filled-preserved
loop-filled-preserved g c =
    let a = c.loop-filled.filled in
    let part = c.loop-filled.part in
    let bytes = c.read.new.buffer in
    let k = length part - a in
    let n = c.in-Ok.count in
    let parts : a + k ≡ length part = omega arith in
    let len : length bytes ≡ k = omega arith in
    let within : n ≤ length bytes = omega (arith, c.in-Ok.ensures.bound.0) in
    record {
      fails = c.in-Ok.ensures.failed ∙ c.loop-filled.invariant.fails;
      able = λ sound.
          let inv = c.loop-filled.invariant.able sound in
          ((c.in-Ok.ensures.able inv.0).1, c.in-Ok.ensures.failed ∙ inv.1);
      within = omega (arith, length-put_mid part bytes a k (omega (arith, parts)) len);
      told = λ text told.
          let inv = c.loop-filled.invariant.told text told in
          let took = consumed (g.R.Source.remaining c.loop-filled.source) (g.R.Source.remaining c.read.new.self) (take n bytes) (drop a text) inv.2 c.in-Ok.ensures.bytes.0 in
          let more = Filled-more part bytes text took.0 a k n parts len within inv.0 inv.1 took.2 in
          (more.within, more.same, took.1 ∙ ap (λ (rest : List ℕ). Some rest) (sym more.left));
    }

pub returns-in-Ok-eq0-clause-told : goal.returns-in-Ok-eq0-clause-told
returns-in-Ok-eq0-clause-told g c = λ text told.
    let a = c.loop-filled.filled in
    let part = c.loop-filled.part in
    let bytes = c.read.new.buffer in
    let k = length part - a in
    let n = c.in-Ok-eq0.field-0 in
    let none : n ≡ 0 = omega arith in
    let room : 0 < length bytes = omega arith in
    let inv = c.loop-filled.invariant.told text told in
    let after = g.R.Source.remaining c.read.new.self in
    let took = consumed (g.R.Source.remaining c.loop-filled.source) after (take n bytes) (drop a text) inv.2 c.in-Ok-eq0.ensures.bytes.0 in
    let ended = at_end_is after took.0 took.1 (c.in-Ok-eq0.ensures.bytes.1 none room) in
    let nothing : length (drop a text) ≡ 0 = omega (arith, ap length took.2, length-append (take n bytes) took.0, length-take n bytes, ap length ended) in
    let len = length-put_mid part bytes a k (omega arith) (omega arith) in
    (omega (arith, len, nothing, length-drop a text), took.1 ∙ ap (λ (rest : List ℕ). Some rest) ended)

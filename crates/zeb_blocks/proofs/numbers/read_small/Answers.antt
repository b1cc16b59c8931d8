-- A number of one byte is that byte; one of two bytes has its lowest group in the first, and the rest in the second.
use Rattle.zeb_blocks.proofs.Cited.{◌≡◌, ◌∙◌, ◌<◌, ◌%◌, ◌∷◌, List, ℕ, ap, arith}
use Rattle.zeb_blocks.proofs.Bytes.{Continues, uleb-low, continues_first, nothing_empty, nothing_ended, nothing_padded, nothing_small, small_ends, small_longer}
use Rattle.zeb_blocks.proofs.numbers.read_small.Goals as goal
use Rattle.zeb_blocks.proofs.numbers.read_small.Goals.{then-second-eq0-via-then-second-eq0, then-second-eq0-via-else-second-eq0+then-second-ge128}

pub returns-in_err-first : goal.returns-in_err-first
returns-in_err-first c = rw c.from_residual.ensures (nothing_small c.args.bytes.now (nothing_empty c.args.bytes.now c.in_err-first.ensures.cases))

pub returns-then-first-lt128 : goal.returns-then-first-lt128
returns-then-first-lt128 c = (omega arith, rw (c.from.ensures, uleb-low c.in_ok-first.first.now c.if-first-lt128.true) c.in_ok-first.ensures.cases.0)

pub returns-in_err-second : goal.returns-in_err-second
returns-in_err-second c =
    let first = c.in_ok-first.first.now in
    let fits : first < 256 = omega arith in
    let begun : Continues c.args.bytes.now c.in_ok-first.behind.now (first % 128) 128 = rw c.in_ok-first.ensures.cases.0 (continues_first first c.in_ok-first.behind.now c.if-first-lt128.false fits) in
    rw c.from_residual-in_err-second.ensures (nothing_small c.args.bytes.now (nothing_ended c.args.bytes.now c.in_ok-first.behind.now _ _ begun c.in_err-second.ensures.cases))

pub returns-then-second-eq0 : goal.returns-then-second-eq0
returns-then-second-eq0 c =
    let first = c.in_ok-first.first.now in
    let fits : first < 256 = omega arith in
    let bytes : c.args.bytes.now ≡ first ∷ c.in_ok-second.second.now ∷ c.in_ok-second.rest.now = c.in_ok-first.ensures.cases.0 ∙ ap (λ (b : List ℕ). first ∷ b) c.in_ok-second.ensures.cases.0 in
    elim c.then-second-eq0.branch [
      | then-second-eq0-via-then-second-eq0 w ↦
          rw (bytes, w.if-second-eq0.true) (nothing_small _ (nothing_padded _ c.in_ok-second.rest.now _ _ (continues_first first (0 ∷ c.in_ok-second.rest.now) c.if-first-lt128.false fits)))
      | then-second-eq0-via-else-second-eq0+then-second-ge128 w ↦ rw bytes (small_longer first c.in_ok-second.second.now c.in_ok-second.rest.now c.if-first-lt128.false w.if-second-ge128.true)
    ]

pub returns : goal.returns
returns c =
    let first = c.in_ok-first.first.now in
    let second = c.in_ok-second.second.now in
    let fits : first < 256 = omega arith in
    let some : 0 < second = omega arith in
    let bytes : c.args.bytes.now ≡ first ∷ second ∷ c.in_ok-second.rest.now = c.in_ok-first.ensures.cases.0 ∙ ap (λ (b : List ℕ). first ∷ b) c.in_ok-second.ensures.cases.0 in
    (omega arith, rw (c.from-2.ensures, c.from-3.ensures) (bytes ∙ small_ends first second c.in_ok-second.rest.now c.if-first-lt128.false fits some c.if-second-ge128.false))

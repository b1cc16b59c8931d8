-- The parts, one behind the other.
use Rattle.zeb_leaf.proofs.Cited.{◌≡◌, ◌++◌, ◌∙◌, refl, sym, Parts, AreSmall}
use Rattle.zeb_blocks.specs.Numbers.{uleb}
use Rattle.zeb_leaf.specs.Leaves.{counted}
use Rattle.zeb_leaf.proofs.Parts.{behind_block, behind_records, behind_shared, behind_suffix, parts-append}
use Rattle.zeb_leaf.proofs.telling.Told.read.Goals as goal

pub returns-in_err-shared : goal.returns-in_err-shared
returns-in_err-shared c = rw c.from_residual.ensures (λ p rest small same. c.in_err-shared.ensures p.shared _ small.shared (same ∙ parts-append p rest))

pub returns-in_err-suffix : goal.returns-in_err-suffix
returns-in_err-suffix c =
    let one = c.in_ok-shared in
    rw c.from_residual-in_err-suffix.ensures (λ p rest small same. c.in_err-suffix.ensures p.suffix _ small.suffix (behind_shared c.args.bytes.now _ one.shared one.ensures.0 one.ensures.1 p rest small same).1)

pub returns-in_err-block : goal.returns-in_err-block
returns-in_err-block c =
    let one = c.in_ok-shared in
    let two = c.in_ok-suffix in
    rw c.from_residual-in_err-block.ensures (λ p rest small same. c.in_err-block.ensures p.block _ small.block (behind_suffix c.args.bytes.now _ one.shared one.ensures.0 one.ensures.1 two.suffix.now _ two.ensures.0 two.ensures.1 p rest small same).1)

pub returns-in_err-records : goal.returns-in_err-records
returns-in_err-records c =
    let one = c.in_ok-shared in
    let two = c.in_ok-suffix in
    let three = c.in_ok-block in
    rw c.from_residual-in_err-records.ensures (λ p rest small same. c.in_err-records.ensures p.records _ small.records (behind_block c.args.bytes.now _ one.shared one.ensures.0 one.ensures.1 two.suffix.now _ two.ensures.0 two.ensures.1 three.block _ three.ensures.0 three.ensures.1 p rest small same).1)

pub returns-in_err-bytes : goal.returns-in_err-bytes
returns-in_err-bytes c =
    let one = c.in_ok-shared in
    let two = c.in_ok-suffix in
    let three = c.in_ok-block in
    let four = c.in_ok-records in
    rw c.from_residual-in_err-bytes.ensures (λ p rest small same. c.in_err-bytes.ensures p.bytes _ small.bytes (behind_records c.args.bytes.now _ one.shared one.ensures.0 one.ensures.1 two.suffix.now _ two.ensures.0 two.ensures.1 three.block _ three.ensures.0 three.ensures.1 four.records _ four.ensures.0 four.ensures.1 p rest small same).1)

pub returns : goal.returns
returns c =
    let parts : Parts = record { shared = c.in_ok-shared.shared; suffix = c.in_ok-suffix.suffix.now; block = c.in_ok-block.block; records = c.in_ok-records.records; bytes = c.in_ok-bytes.bytes.now } in
    let small : AreSmall parts = record { shared = c.in_ok-shared.ensures.0; suffix = c.in_ok-suffix.ensures.0; block = c.in_ok-block.ensures.0; records = c.in_ok-records.ensures.0; bytes = c.in_ok-bytes.ensures.0 } in
    let spelled : c.args.bytes.now ≡ uleb parts.shared ++ (counted parts.suffix ++ (uleb parts.block ++ (uleb parts.records ++ (counted parts.bytes ++ c.in_ok-bytes.behind.now)))) =
    rw (c.in_ok-shared.ensures.1, c.in_ok-suffix.ensures.1, c.in_ok-block.ensures.1, c.in_ok-records.ensures.1, c.in_ok-bytes.ensures.1) refl in
    (small, spelled ∙ sym (parts-append parts c.in_ok-bytes.behind.now))

-- Each exit is the first check that fails, and without one the fields are those of the whole text.
use Rattle.zeb_marc.proofs.Cited.{◌≡◌, ◌-◌, ◌∙◌, ap, length, length-take, length-drop, take, drop, List, ℕ, arith, err_from_is_err_and, base_address, data_area, directory_of}
use Rattle.zeb_marc.proofs.RecordChecks.{first_fault-announced, first_fault-cut, first_fault-long, first_fault-layout, first_fault-cut_out, IsRecord-from_parts}
use Rattle.zeb_marc.proofs.records.Marc.read.Goals as goal

pub returns-in_err-length : goal.returns-in_err-length
returns-in_err-length c =
    let p = err_from_is_err_and c.from_residual.result c.from_residual.ensures.1 in
    rw (p.1, p.2) (first_fault-announced c.args.bytes.now c.in_err-length.field-0.0 c.in_err-length.ensures.checked)

pub returns-then-bytes-length : goal.returns-then-bytes-length
returns-then-bytes-length c =
    let value = c.in_ok-length.ensures.value in
    first_fault-cut c.args.bytes.now c.in_ok-length.ensures.checked (omega (arith, value.0))

pub returns-then-bytes-length-2 : goal.returns-then-bytes-length-2
returns-then-bytes-length-2 c =
    let value = c.in_ok-length.ensures.value in
    first_fault-long c.args.bytes.now c.in_ok-length.ensures.checked (omega (arith, value.0))

pub returns-in_err-base : goal.returns-in_err-base
returns-in_err-base c =
    let p = err_from_is_err_and c.from_residual-in_err-base.result c.from_residual-in_err-base.ensures.1 in
    let value = c.in_ok-length.ensures.value in
    rw (p.1, p.2) (first_fault-layout c.args.bytes.now c.in_err-base.field-0.0 c.in_ok-length.ensures.checked (omega (arith, value.0)) c.in_err-base.ensures.checked)

-- the parts that were cut out are the record's
same_directory : (text : List ℕ) (base : ℕ) → base ≡ base_address text → take (base - 1 - 24) (drop 24 text) ≡ directory_of text
same_directory text base e = ap (λ (b : ℕ). take (b - 1 - 24) (drop 24 text)) e

same_area : (text : List ℕ) (base len : ℕ) → base ≡ base_address text → len ≡ length text → take (len - 1 - base) (drop base text) ≡ data_area text
same_area text base len e n = ap (λ (b : ℕ). take (len - 1 - b) (drop b text)) e ∙ ap (λ (m : ℕ). take (m - 1 - base_address text) (drop (base_address text) text)) n

pub returns-in_err-check_directory : goal.returns-in_err-check_directory
returns-in_err-check_directory c =
    let p = err_from_is_err_and c.from_residual-in_err-check_directory.result c.from_residual-in_err-check_directory.ensures.1 in
    let text = c.args.bytes.now in
    let value = c.in_ok-length.ensures.value in
    let directory = same_directory text c.in_ok-base.base c.in_ok-base.ensures.value.0 in
    let area = same_area text c.in_ok-base.base c.in_ok-length.length c.in_ok-base.ensures.value.0 (omega (arith, value.0)) in
    rw (p.1, p.2) (first_fault-cut_out text _ _ area directory c.in_ok-length.ensures.checked (omega (arith, value.0)) c.in_ok-base.ensures.checked ∙ c.in_err-check_directory.ensures)

pub invariant_of-result : goal.invariant_of-result
invariant_of-result c =
    let value = c.in_ok-length.ensures.value in
    let directory = take (c.in_ok-base.base - 1 - 24) (drop 24 c.args.bytes.now) in
    let area = take (c.in_ok-length.length - 1 - c.in_ok-base.base) (drop c.in_ok-base.base c.args.bytes.now) in
    (c.in_ok-check_directory.ensures, omega (arith, value, length-take {A = ℕ}, length-drop {A = ℕ}), omega (arith, value, length-take {A = ℕ}, length-drop {A = ℕ}))

pub returns : goal.returns
returns c =
    let text = c.args.bytes.now in
    let value = c.in_ok-length.ensures.value in
    let directory = same_directory text c.in_ok-base.base c.in_ok-base.ensures.value.0 in
    let area = same_area text c.in_ok-base.base c.in_ok-length.length c.in_ok-base.ensures.value.0 (omega (arith, value.0)) in
    IsRecord-from_parts text _ _ area directory (first_fault-cut_out text _ _ area directory c.in_ok-length.ensures.checked (omega (arith, value.0)) c.in_ok-base.ensures.checked ∙ c.in_ok-check_directory.ensures)

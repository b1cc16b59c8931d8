-- One entry after the other.
use Rattle.zeb_marc.proofs.Cited.{◌≤◌, ◌∙◌, sym, ap, length, List, ℕ, arith, err_from_is_err_and, first_failing, directory_checks}
use Rattle.zeb_marc.proofs.Entries.{directory_fails, directory_passes}
use Rattle.zeb_marc.proofs.directory.check_directory.Goals as goal

pub returns-in_err-check_entry : goal.returns-in_err-check_entry
returns-in_err-check_entry c =
    let p = err_from_is_err_and c.from_residual.result c.from_residual.ensures.1 in
    let rest = c.loop-rest.rest.now in
    let area = c.args.area.now in
    let long : 12 ≤ length rest = omega arith in
    rw (p.1, p.2) (sym c.loop-rest.invariant ∙ directory_fails area rest c.in_err-check_entry.field-0.0 long (rw (← c.split_at.ensures.front) c.in_err-check_entry.ensures))

pub loop-rest-preserved : goal.loop-rest-preserved
loop-rest-preserved c =
    let rest = c.loop-rest.rest.now in
    let area = c.args.area.now in
    let long : 12 ≤ length rest = omega arith in
    let passes = directory_passes area rest long (rw (← c.split_at.ensures.front) c.in_ok-check_entry.ensures) in
    ap (λ (others : List ℕ). first_failing (directory_checks area others)) c.split_at.ensures.back ∙ sym passes ∙ c.loop-rest.invariant

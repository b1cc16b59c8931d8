use Rattle.std.proofs.Common.{◌⊎◌, arith, inl, inr, subst}
use Rattle.std.specs.Prelude.{IsTrue}
use Rattle.sqlite_store.specs.FileStore.{faults, view}
use Rattle.sqlite_store.proofs.StepLemmas.{quiet_then}
use Rattle.zeb_paths.specs.Closing.{IsCauseMet, IsStarved}
use Rattle.zeb_paths.proofs.DiskLemmas.{cause_by, on_whole, reason_by}
use Rattle.zeb_paths.proofs.disk.close_store.Goals as goal

pub returns : goal.returns
returns g c =
    let before = c.rollback.new.self in
    let after = c.checkpoint-copied.new.self in
    let copied = c.checkpoint-copied.result in
    let met = c.met_by.result in
    let closed = c.closed_by.result in
    let by = c.closed_by.ensures in
    let first = c.rollback.ensures.quiet in
    let quiet = c.checkpoint-copied.ensures.quiet in (
      after,
      (
        λ whole clean.
            let open_now = on_whole copied met closed _ by whole c.checkpoint-copied.ensures.open clean in
            let open_before = subst (λ v. IsTrue v.is_open) (c.checkpoint-copied.ensures.same open_now) open_now in
            on_whole copied met closed _ by whole c.checkpoint-copied.ensures.moved
            (c.rollback.ensures.logged ((c.rollback.ensures.undone.kept (omega (arith, quiet.clean))).was_open open_before)),
        subst (λ it. IsStarved closed ⊎ IsCauseMet it closed.cause) c.met_by.ensures (cause_by copied met closed by),
      ),
      quiet_then first quiet,
      λ part clean was_open.
          reason_by copied met closed (view before) (faults c.args.store) (faults before) (faults after) by part first.counts quiet.counts (c.checkpoint-copied.ensures.cause clean)
          (λ broken. elim (first.closes (omega (arith, quiet.clean)) was_open) [ inl still ↦ absurd (let sound = (c.rollback.ensures.undone.undone still).1 in cc) | inr more ↦ more ]),
    )

use Rattle.zeb_register.proofs.Cited.{◌≡◌, ◌≢◌, ◌⊎◌, inl, inr, subst, arith}
use Rattle.zeb_register.proofs.KeyRuns.{IsCountedTo, counted_again, counted_new, counted_none, run_before, run_ended}
use Rattle.zeb_register.proofs.key_runs.run_from.Goals as goal
use Rattle.zeb_register.proofs.key_runs.run_from.Goals.{then-records-eq0, then-records-eq0-via-then-records-eq0, then-records-eq0-via-else-records-eq0+then-expected-newest, else-records-eq0+else-expected-newest}

pub loop-end-init : goal.loop-end-init
loop-end-init c = record { few = omega arith; counted = counted_none c.args.key.now c.args.postings.now c.args.at 0 }

pub returns-then-not-is_same-clause-run : goal.returns-then-not-is_same-clause-run
returns-then-not-is_same-clause-run c =
    run_before c.args.key.now c.args.postings.now c.args.at c.loop-end.end c.loop-end.records c.loop-end.newest c.index-postings-end.result c.loop-end-test.true c.index-postings-end.is (c.is_same.ensures.other c.if-not-is_same.true) c.loop-end.invariant.counted

pub overflow_add-records : goal.overflow_add-records
overflow_add-records c = omega (arith, c.loop-end.invariant.few, c.loop-end-test.true)

pub loop-end-preserved : goal.loop-end-preserved
loop-end-preserved c =
    let key = c.args.key.now in
    let ps = c.args.postings.now in
    let end = c.loop-end.end in
    let p = c.index-postings-end.result in
    let before = c.loop-end.invariant in
    let more = counted_new key ps c.args.at end c.loop-end.records c.loop-end.newest p c.loop-end-test.true c.index-postings-end.is (c.is_same.ensures.same c.if-not-is_same.false) before.counted in
    let again = counted_again key ps c.args.at end c.loop-end.records c.loop-end.newest p c.loop-end-test.true c.index-postings-end.is (c.is_same.ensures.same c.if-not-is_same.false) before.counted in
    elim c.if-records-eq0.branch [
      | then-records-eq0 w ↦
          let new : (c.loop-end.records ≡ 0) ⊎ (p.posting.sysno ≢ c.loop-end.newest) = elim w.then-records-eq0.branch [
            | then-records-eq0-via-then-records-eq0 v ↦ inl v.if-records-eq0.true
            | then-records-eq0-via-else-records-eq0+then-expected-newest v ↦ inr v.if-expected-newest.true
          ] in
          rw (w.records-is, w.newest-is) record { few = omega (arith, before.few); counted = more new }
      | else-records-eq0+else-expected-newest w ↦
          rw (w.records-is, w.newest-is) record { few = omega (arith, before.few); counted = again w.if-records-eq0.false w.if-expected-newest.false }
    ]

pub returns-clause-run : goal.returns-clause-run
returns-clause-run c = run_ended c.args.key.now c.args.postings.now c.args.at _ c.loop-end.records c.loop-end.newest
    (subst (λ e. IsCountedTo c.args.key.now c.args.postings.now c.args.at e c.loop-end.records c.loop-end.newest) (omega (arith, c.loop-end-test.false)) c.loop-end.invariant.counted) (omega arith)

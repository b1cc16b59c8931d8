use Rattle.zeb_register.proofs.Cited.{◌≡◌, ◌+◌, length, map, drop, ap, subst, arith, with_key, IsFrontOf, IsRunBefore}
use Rattle.zeb_register.proofs.KeyRuns.{dict_is, none_run, run_begins, run_shows, some_front}
use Rattle.zeb_register.proofs.PackedBeside.{drop_got, drop_over, map_none, moved_on}
use Rattle.zeb_register.proofs.key_runs.run_end.Goals as goal
use Rattle.zeb_register.proofs.key_runs.run_end.Goals.{then-column_count-ne4-via-then-column_count-ne4, then-column_count-ne4-via-else-column_count-ne4+then-not-is_key}

pub returns-in_err-first-clause-fits : goal.returns-in_err-first-clause-fits
returns-in_err-first-clause-fits c = rw c.from_residual.ensures (λ up rest. none_run c.args.row.now (drop c.args.at c.args.postings.now) rest (drop_over c.args.postings.now c.args.at (let e = c.in_err-first.ensures.lookup in omega (arith, e.3))))

pub returns-then-column_count-ne4-clause-fits : goal.returns-then-column_count-ne4-clause-fits
returns-then-column_count-ne4-clause-fits c up rest it =
    let first = c.in_ok-first.first.now in
    let found = c.in_ok-first.ensures.lookup in
    let front = drop_got c.args.postings.now c.args.at first (omega (arith, found.3)) found.1 in
    elim c.then-column_count-ne4.branch [
      | then-column_count-ne4-via-then-column_count-ne4 w ↦ let e : length c.args.row.now ≡ 4 = ap length it.3 in absurd (omega (arith, c.column_count.ensures, w.if-column_count-ne4.true))
      | then-column_count-ne4-via-else-column_count-ne4+then-not-is_key w ↦
          w.is_key.ensures.other w.if-not-is_key.true (run_begins c.args.row.now first (drop (c.args.at + 1) c.args.postings.now) rest (subst (λ l. IsRunBefore c.args.row.now l rest) front it))
    ]

pub returns-then-is_number-clause-further : goal.returns-then-is_number-clause-further
returns-then-is_number-clause-further c =
    let first = c.in_ok-first.first.now in
    let found = c.in_ok-first.ensures.lookup in
    let front = drop_got c.args.postings.now c.args.at first (omega (arith, found.3)) found.1 in
    let run = c.run_from-run.ensures.run in
    let some = some_front first (drop (c.args.at + 1) c.args.postings.now) (drop c.run_from-run.result.end c.args.postings.now) run.0 (subst (λ l. IsFrontOf first.key run.0 l (drop c.run_from-run.result.end c.args.postings.now)) front run.1) in
    (moved_on c.args.postings.now (map (with_key first.key) run.0) c.args.at c.run_from-run.result.end run.1.0 (λ none. some (map_none (with_key first.key) run.0 none)), c.run_from-run.ensures.within)

pub returns-then-is_number-clause-fits : goal.returns-then-is_number-clause-fits
returns-then-is_number-clause-fits c up =
    let first = c.in_ok-first.first.now in
    let found = c.in_ok-first.ensures.lookup in
    let front = drop_got c.args.postings.now c.args.at first (omega (arith, found.3)) found.1 in
    let run = c.run_from-run.ensures.run in
    let some = some_front first (drop (c.args.at + 1) c.args.postings.now) (drop c.run_from-run.result.end c.args.postings.now) run.0 (subst (λ l. IsFrontOf first.key run.0 l (drop c.run_from-run.result.end c.args.postings.now)) front run.1) in
    let four : length c.args.row.now ≡ 4 = omega (arith, c.column_count.ensures, c.if-column_count-ne4.false) in
    (first.key, c.run_from-run.result.records, run.0, dict_is first.key c.run_from-run.result.records c.args.row.now four (c.is_key.ensures.same c.if-not-is_key.false) (c.is_number.ensures.same c.if-is_number.true), some, run.2 up, run.1)

pub returns-else-is_number-clause-fits : goal.returns-else-is_number-clause-fits
returns-else-is_number-clause-fits c up rest it =
    let first = c.in_ok-first.first.now in
    let found = c.in_ok-first.ensures.lookup in
    let front = drop_got c.args.postings.now c.args.at first (omega (arith, found.3)) found.1 in
    let run = c.run_from-run.ensures.run in
    let more = drop (c.args.at + 1) c.args.postings.now in
    let left = drop c.run_from-run.result.end c.args.postings.now in
    c.is_number.ensures.other c.if-is_number.false (run_shows c.args.row.now first more rest left c.run_from-run.result.records run.0 (subst (λ l. IsRunBefore c.args.row.now l rest) front it) (subst (λ l. IsFrontOf first.key run.0 l left) front run.1) (run.2 up))

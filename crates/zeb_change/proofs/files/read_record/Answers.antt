use Rattle.zeb_change.proofs.Cited.{rules, ◌≡◌, true}
use Rattle.zeb_change.proofs.files.read_record.Goals as goal

pub returns-then-has_failed-clause-reads : goal.returns-then-has_failed-clause-reads
returns-then-has_failed-clause-reads g c fine =
    let failed : g.R.Source.has_failed c.args.reader.now ≡ true = search rules in
    absurd (cc)

use Rattle.zeb_query.proofs.Cited.{ap, ◌∙◌, word_of}
use Rattle.std.proofs.Common.{map}
use Rattle.zeb_query.proofs.TextFaults.{too_long, read_spelled, read_whole, read_faulty}
use Rattle.zeb_query.proofs.reading.read_pqf.Goals as goal

pub returns : goal.returns
returns c =
    let short = c.if-text-gt-MOST_BYTES.false in
    let are = ap (λ items. map word_of items) c.deref.ensures.value ∙ c.in_ok-words.ensures in
    record {
      spelled = read_spelled c.args.text.now _ short are c.query.result c.query.ensures;
      readable = read_whole c.args.text.now _ short are c.query.result c.query.ensures;
      faulty = read_faulty c.args.text.now _ short are c.query.result c.query.ensures;
    }

pub returns-then-text-gt-MOST_BYTES-clause-faulty : goal.returns-then-text-gt-MOST_BYTES-clause-faulty
returns-then-text-gt-MOST_BYTES-clause-faulty c = too_long c.args.text.now c.refused.result c.if-text-gt-MOST_BYTES.true c.refused.ensures

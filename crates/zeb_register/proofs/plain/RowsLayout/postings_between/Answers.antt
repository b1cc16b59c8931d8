use Rattle.zeb_register.proofs.Cited.{state, arith, inl, IfOk-weaker, plain_rows}
use Rattle.zeb_register.proofs.BetweenLists.{between_told}
use Rattle.zeb_register.proofs.CountLemmas.{none_in_sum}
use Rattle.zeb_register.proofs.plain.RowsLayout.postings_between.Goals as goal

pub returns-clause-units : goal.returns-clause-units
returns-clause-units g c = c.postings_between.ensures

pub returns-clause-work : goal.returns-clause-work
returns-clause-work g c clean store =
    IfOk-weaker c.postings_between.result _ _ (λ list value content holds keys known.
    let none = none_in_sum keys in
    record {
      reads_terms = inl (omega arith);
      writes_terms = inl (omega arith);
      reads_blocks = inl (omega (arith, none));
      writes_blocks = inl (omega arith);
    }) (between_told plain_rows c.args.at c.args.first.now c.args.last.now (state g.S.Store c.args.conn.now) (state g.S.Store c.postings_between.new.conn) c.postings_between.result c.postings_between.ensures clean store)

use Rattle.zeb_search.proofs.Cited.{IsTrue}
use Rattle.zeb_search.proofs.TermLemmas.{number_taken}
use Rattle.zeb_search.proofs.terms.Wanted.takes.Goals as goal

pub returns-in-Some : goal.returns-in-Some
returns-in-Some c =
    rw c.in-Number.is (number_taken c.in-Number.relation c.in-Number.number c.in-Some.value c.args.term.now (IsTrue c.stands.result)
    c.in-Some.ensures.found.0 c.in-Some.ensures.found.1 c.stands.ensures)

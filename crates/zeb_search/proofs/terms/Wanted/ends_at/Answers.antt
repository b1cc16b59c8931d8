use Rattle.zeb_search.proofs.RangeLemmas.{number_behind, patterns_end}
use Rattle.zeb_search.proofs.terms.Wanted.ends_at.Goals as goal

pub returns-in-Matching : goal.returns-in-Matching
returns-in-Matching c told = rw c.in-Matching.is (patterns_end c.in-Matching.pattern.now c.prefix.result.now c.args.term.now c.prefix.utf8 c.prefix.ensures (c.is_past.ensures told))

pub returns-in-Some : goal.returns-in-Some
returns-in-Some c told term = rw c.in-Number.is (number_behind c.in-Number.relation c.in-Number.number c.in-Some.value c.args.term.now term c.in-Some.ensures.found.0 c.in-Some.ensures.found.1 (c.is_last_number.ensures told))

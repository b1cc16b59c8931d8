use Rattle.zeb_search.proofs.Cited.{IfOk-weaker, string_bytes, subst, Precedes}
use Rattle.zeb_search.proofs.Comparisons.{none_before}
use Rattle.zeb_search.proofs.RangeLemmas.{patterns_begin}
use Rattle.zeb_search.proofs.terms.Wanted.start.Goals as goal

pub returns-in-All : goal.returns-in-All
returns-in-All c term asked h = none_before term (subst (Precedes term) c.new.ensures.bytes h)

pub returns-in-Matching : goal.returns-in-Matching
returns-in-Matching c =
    rw c.in-Matching.is (IfOk-weaker c.from_str.result _ _ (λ start is. patterns_begin c.in-Matching.pattern.now c.prefix.result.now (string_bytes start) c.prefix.utf8 c.prefix.ensures is) c.from_str.ensures.ok)

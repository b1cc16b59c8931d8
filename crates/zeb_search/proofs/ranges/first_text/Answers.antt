use Rattle.zeb_search.proofs.Cited.{IfOk-weaker, string_bytes, subst, Precedes}
use Rattle.zeb_search.proofs.Comparisons.{none_before}
use Rattle.zeb_search.proofs.RangeLemmas.{texts_begin, texts_begin_above}
use Rattle.zeb_search.proofs.ranges.first_text.Goals as goal

pub returns-in-Less : goal.returns-in-Less
returns-in-Less c term stands h = none_before term (subst (Precedes term) c.new.ensures.bytes h)

pub returns-in-Equal : goal.returns-in-Equal
returns-in-Equal c = IfOk-weaker c.from_str.result _ _ (λ start is. texts_begin c.args.relation c.args.text.now (string_bytes start) c.in-Equal.is is) c.from_str.ensures.ok

pub returns-in-Greater : goal.returns-in-Greater
returns-in-Greater c = IfOk-weaker c.text_above.result _ _ (λ start is. texts_begin_above c.args.relation c.args.text.now (string_bytes start) c.in-Greater.is is) c.text_above.ensures

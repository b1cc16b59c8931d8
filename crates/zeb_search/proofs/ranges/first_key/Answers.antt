use Rattle.zeb_search.proofs.Cited.{IfOk-weaker, ◌∙◌, ◌++◌, ◌∷◌, [], List, ℕ, string_bytes, ap, subst, Precedes}
use Rattle.zeb_search.proofs.Comparisons.{none_before}
use Rattle.zeb_search.proofs.RangeLemmas.{keys_begin, keys_begin_above}
use Rattle.zeb_search.proofs.ranges.first_key.Goals as goal

pub returns-in-Less : goal.returns-in-Less
returns-in-Less c term at h = none_before term (subst (Precedes term) c.new.ensures.bytes h)

pub returns-in-Equal : goal.returns-in-Equal
returns-in-Equal c =
    IfOk-weaker c.key_of_number.result _ _ (λ start is. keys_begin c.args.relation c.args.number c.min-least.result c.min-least.ensures (string_bytes start) c.in-Equal.is is) c.key_of_number.ensures

pub returns-in_ok-key_of_number-in-Greater : goal.returns-in_ok-key_of_number-in-Greater
returns-in_ok-key_of_number-in-Greater c =
    IfOk-weaker c.text_above.result _ _ (λ start is.
    keys_begin_above c.args.relation c.args.number c.min-least.result c.min-least.ensures (string_bytes start) c.in-Greater.is
    (is ∙ ap (λ (t : List ℕ). t ++ 0 ∷ []) (c.as_str.ensures.value ∙ c.in_ok-key_of_number-in-Greater.ensures))) c.text_above.ensures

use Rattle.zeb_query.proofs.Cited.{sym, ap, ◌∙◌, option_copied, option_map, string_bytes, option_to_list, or_else, find, is_other_set}
use Rattle.zeb_query.proofs.HoldingLemmas.{holding_of-set, same_holding}
use Rattle.zeb_query.proofs.holding.Holding.over.Goals as goal

pub returns : goal.returns
returns c =
    let set = option_map (λ s. string_bytes s) c.args.query.now.attrset in
    let e = c.default-holding.ensures in
    c.name_set.ensures
    ∙ same_holding (ap (λ o. or_else (option_copied o) (find is_other_set (option_to_list set))) e.0) e.1.0
    (ap option_copied e.1.1.0) (ap option_copied e.1.1.1.0) (ap option_copied e.1.1.1.1.0) (ap option_copied e.1.1.1.1.1.0) (ap option_copied e.1.1.1.1.1.1.0) (ap option_copied e.1.1.1.1.1.1.1.0) (ap option_copied e.1.1.1.1.1.1.1.1)
    ∙ sym (holding_of-set set)

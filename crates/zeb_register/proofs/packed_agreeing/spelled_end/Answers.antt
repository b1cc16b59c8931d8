use Rattle.zeb_register.proofs.Cited.{◌∙◌, ◌++◌, List, ap, map, Posting, with_key}
use Rattle.zeb_register.proofs.PackedLemmas.{one_spelled}
use Rattle.zeb_register.proofs.YesNoAnswers.{match_so}
use Rattle.zeb_register.proofs.packed_agreeing.spelled_end.Goals as goal

pub returns-in-Ok : goal.returns-in-Ok
returns-in-Ok c = match_so _ _ _ _ c.part_end.result
    (λ none part rest spells is. none rest (is ∙ ap (λ (l : List Posting). map (with_key c.args.key.now) l ++ rest) (one_spelled c.args.block c.args.bytes.now part c.in-Ok.part spells c.in-Ok.ensures.spelled)))
    (λ end it. (it.0, (c.in-Ok.part, c.in-Ok.ensures.spelled, it.1)))
    c.part_end.ensures

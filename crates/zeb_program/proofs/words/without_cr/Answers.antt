use Rattle.zeb_program.proofs.Cited.{refl, ◌∙◌, ap, arith, strip_suffix_char}
use Rattle.zeb_program.proofs.LineLemmas.{stripped}
use Rattle.zeb_program.proofs.words.without_cr.Goals as goal

pub returns : goal.returns
returns c =
    ap (λ x. x.now) c.unwrap_or.ensures
    ∙ stripped c.args.line.now c.strip_suffix.result c.args.line refl (strip_suffix_char 13 c.args.line.now c.strip_suffix.result c.strip_suffix.ensures.cases (omega arith))

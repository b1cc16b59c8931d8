use Rattle.zeb_text.proofs.Cited.{ap, sym, ◌∙◌, filter, not, is_diacritical_mark}
use Rattle.zeb_lower_laws.proofs.FoldingLemmas.{folded-by_key, folded-ascii, folded_once}
use Rattle.zeb_lower_laws.proofs.text.folding_joins_matches.Goals as goal

pub returns : goal.returns
returns c = record {
  matching = λ left right same. folded-by_key left ∙ ap (filter (λ c. not (is_diacritical_mark c))) same ∙ sym (folded-by_key right);
  ascii = folded-ascii;
  twice = folded_once;
}

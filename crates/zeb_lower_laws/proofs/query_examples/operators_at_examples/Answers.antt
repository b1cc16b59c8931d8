use Rattle.zeb_query.proofs.Cited.{refl, [], is_structure}
use Rattle.zeb_query.specs.declared.keywords.OperatorWord.TheVariants.{And, Not, Or}
use Rattle.std.proofs.Common.{codes}
use Rattle.zeb_lower_laws.proofs.ExampleLemmas.{chars, is_utf8, encode, ucd_category, caseless, folded, is_word_character, runs_of, truncated, kind_and_value, holding_of, plan_asked, planned, spells, term_at, pair_at}
use Rattle.zeb_lower_laws.proofs.query_examples.operators_at_examples.Goals as goal

pub returns : goal.returns
unfolding chars is_utf8 encode kind_and_value plan_asked holding_of caseless ucd_category folded is_word_character runs_of truncated
returns c = record {
  trees = (
    spells _ _ _ (is_structure _ _ (pair_at 0 (codes "@and") And [] refl refl refl (term_at 5 (codes "a") refl) (term_at 7 (codes "b") refl))) refl,
    spells _ _ _ (is_structure _ _ (pair_at 0 (codes "@or") Or [] refl refl refl (term_at 4 (codes "a") refl) (term_at 6 (codes "b") refl))) refl,
    spells _ _ _ (is_structure _ _ (pair_at 0 (codes "@not") Not [] refl refl refl (term_at 5 (codes "a") refl) (term_at 7 (codes "b") refl))) refl,
  );
  plans = (
    planned (is_structure _ _ (pair_at 0 (codes "@and") And [] refl refl refl (term_at 5 (codes "a") refl) (term_at 7 (codes "b") refl))) refl refl,
    planned (is_structure _ _ (pair_at 0 (codes "@or") Or [] refl refl refl (term_at 4 (codes "a") refl) (term_at 6 (codes "b") refl))) refl refl,
    planned (is_structure _ _ (pair_at 0 (codes "@not") Not [] refl refl refl (term_at 5 (codes "a") refl) (term_at 7 (codes "b") refl))) refl refl,
  );
}

use Rattle.zeb_query.proofs.Cited.{refl, [], is_structure}
use Rattle.zeb_query.specs.declared.keywords.OperatorWord.TheVariants.{And}
use Rattle.std.proofs.Common.{codes}
use Rattle.zeb_lower_laws.proofs.ExampleLemmas.{chars, is_utf8, digits, encode, ucd_category, caseless, folded, is_word_character, runs_of, truncated, number_key, kind_and_value, holding_of, plan_asked, scan_asked, planned, planned_under, of_set, term_at, under_at, set_at, typed_at, named_at, pair_at, quoted_at}
use Rattle.zeb_lower_laws.proofs.query_examples.diagnostics_at_examples.Goals as goal

pub returns : goal.returns
unfolding chars is_utf8 encode kind_and_value plan_asked scan_asked holding_of caseless ucd_category folded is_word_character runs_of truncated number_key digits
returns c = record {
  values = (
    planned (is_structure _ _ (under_at 0 6 (codes "1=9999") (1, codes "9999") refl (term_at 13 (codes "x") refl))) refl refl,
    planned (is_structure _ _ (under_at 0 6 (codes "2=6") (2, codes "6") refl (term_at 10 (codes "x") refl))) refl refl,
    planned (is_structure _ _ (under_at 0 6 (codes "3=4") (3, codes "4") refl (term_at 10 (codes "x") refl))) refl refl,
    planned (is_structure _ _ (under_at 0 6 (codes "4=3") (4, codes "3") refl (term_at 10 (codes "x") refl))) refl refl,
    planned (is_structure _ _ (under_at 0 6 (codes "5=102") (5, codes "102") refl (term_at 12 (codes "x") refl))) refl refl,
    planned (is_structure _ _ (under_at 0 6 (codes "6=4") (6, codes "4") refl (term_at 10 (codes "x") refl))) refl refl,
  );
  heads = (
    planned (is_structure _ _ (under_at 0 6 (codes "7=1") (7, codes "1") refl (term_at 10 (codes "x") refl))) refl refl,
    planned (is_structure _ _ (under_at 0 6 (codes "7=1") (7, codes "1") refl (under_at 10 16 (codes "8=1") (8, codes "1") refl (term_at 20 (codes "x") refl)))) refl refl,
    planned (is_structure _ _ (set_at 0 6 12 (codes "exp-1") (codes "1=4") (1, codes "4") refl refl (term_at 16 (codes "x") refl))) refl refl,
    planned (of_set 0 9 (codes "x") (term_at 11 (codes "moby") refl)) refl refl,
    planned (is_structure _ _ (typed_at 0 6 (codes "numeric") (term_at 14 (codes "5") refl))) refl refl,
    planned (is_structure _ _ (under_at 0 6 (codes "1=4") (1, codes "4") refl (under_at 10 16 (codes "1=9999") (1, codes "9999") refl (term_at 23 (codes "moby") refl)))) refl refl,
  );
  terms = (
    planned (is_structure _ _ (named_at 0 5 (codes "r"))) refl refl,
    planned (is_structure _ _ (under_at 0 6 (codes "1=31") (1, codes "31") refl (under_at 11 17 (codes "4=109") (4, codes "109") refl (term_at 23 (codes "x1") refl)))) refl refl,
    planned (is_structure _ _ (under_at 0 6 (codes "4=107") (4, codes "107") refl (term_at 12 (codes "x") refl))) refl refl,
    planned (is_structure _ _ (quoted_at 0 (codes "a a a a a a a a a a a a a a a a a a a a a a a a a a a a a a a a a a a a a a a a a a a a a a a a a a a a a a a a a a a a a a a a a"))) refl refl,
    planned (is_structure _ _ (pair_at 0 (codes "@and") And [] refl refl refl (under_at 5 11 (codes "2=6") (2, codes "6") refl (term_at 15 (codes "x") refl)) (under_at 17 23 (codes "1=9999") (1, codes "9999") refl (term_at 30 (codes "y") refl)))) refl refl,
  );
  defaults = (
    planned_under (is_structure _ _ (term_at 0 (codes "whale") refl)) refl refl,
    planned_under (is_structure _ _ (under_at 0 6 (codes "1=1016") (1, codes "1016") refl (term_at 13 (codes "x") refl))) refl refl,
  );
}

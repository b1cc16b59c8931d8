use Rattle.zeb_query.proofs.Cited.{refl, is_structure}
use Rattle.std.proofs.Common.{codes}
use Rattle.zeb_lower_laws.proofs.ExampleLemmas.{chars, is_utf8, digits, encode, ucd_category, caseless, folded, is_word_character, runs_of, truncated, number_key, kind_and_value, holding_of, plan_asked, scan_asked, planned, planned_under, set_at, typed_at, term_at, under_at, quoted_at}
use Rattle.zeb_lower_laws.proofs.query_examples.first_faults_at_examples.Goals as goal

pub returns : goal.returns
unfolding chars is_utf8 encode kind_and_value plan_asked scan_asked holding_of caseless ucd_category folded is_word_character runs_of truncated number_key digits
returns c = record {
  heads = (
    planned (is_structure _ _ (set_at 0 6 12 (codes "exp-1") (codes "1=4") (1, codes "4") refl refl (typed_at 16 22 (codes "no") (term_at 25 (codes "x") refl)))) refl refl,
    planned (is_structure _ _ (under_at 0 6 (codes "7=1") (7, codes "1") refl (set_at 10 16 22 (codes "exp-1") (codes "1=4") (1, codes "4") refl refl (term_at 26 (codes "x") refl)))) refl refl,
    planned (is_structure _ _ (under_at 0 6 (codes "1=9999") (1, codes "9999") refl (under_at 13 19 (codes "7=1") (7, codes "1") refl (term_at 23 (codes "x") refl)))) refl refl,
  );
  values = (
    planned (is_structure _ _ (under_at 0 6 (codes "2=6") (2, codes "6") refl (under_at 10 16 (codes "1=9999") (1, codes "9999") refl (term_at 23 (codes "x") refl)))) refl refl,
    planned_under (is_structure _ _ (under_at 0 6 (codes "2=6") (2, codes "6") refl (term_at 10 (codes "x") refl))) refl refl,
    planned (is_structure _ _ (under_at 0 6 (codes "3=4") (3, codes "4") refl (under_at 10 16 (codes "2=6") (2, codes "6") refl (term_at 20 (codes "x") refl)))) refl refl,
    planned (is_structure _ _ (under_at 0 6 (codes "4=3") (4, codes "3") refl (under_at 10 16 (codes "3=4") (3, codes "4") refl (term_at 20 (codes "x") refl)))) refl refl,
    planned (is_structure _ _ (under_at 0 6 (codes "5=102") (5, codes "102") refl (under_at 12 18 (codes "4=3") (4, codes "3") refl (term_at 22 (codes "x") refl)))) refl refl,
    planned (is_structure _ _ (under_at 0 6 (codes "6=4") (6, codes "4") refl (under_at 10 16 (codes "5=102") (5, codes "102") refl (term_at 22 (codes "x") refl)))) refl refl,
    planned (is_structure _ _ (under_at 0 6 (codes "6=4") (6, codes "4") refl (quoted_at 10 (codes "a a a a a a a a a a a a a a a a a a a a a a a a a a a a a a a a a a a a a a a a a a a a a a a a a a a a a a a a a a a a a a a a a")))) refl refl,
  );
  texts = (
    planned (is_structure _ _ (under_at 0 6 (codes "2=4") (2, codes "4") refl (under_at 10 16 (codes "5=1") (5, codes "1") refl (quoted_at 20 (codes "a a a a a a a a a a a a a a a a a a a a a a a a a a a a a a a a a a a a a a a a a a a a a a a a a a a a a a a a a a a a a a a a a"))))) refl refl,
    planned (is_structure _ _ (under_at 0 6 (codes "4=107") (4, codes "107") refl (under_at 12 18 (codes "3=1") (3, codes "1") refl (term_at 22 (codes "x") refl)))) refl refl,
  );
}

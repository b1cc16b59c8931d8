use Rattle.zeb_query.proofs.Cited.{refl, is_structure}
use Rattle.std.proofs.Common.{codes}
use Rattle.zeb_lower_laws.proofs.ExampleLemmas.{chars, is_utf8, digits, encode, ucd_category, caseless, folded, is_word_character, runs_of, truncated, number_key, kind_and_value, holding_of, plan_asked, scan_asked, planned, quoted_at, term_at, under_at}
use Rattle.zeb_lower_laws.proofs.query_examples.values_at_examples.Goals as goal

pub returns : goal.returns
unfolding chars is_utf8 encode kind_and_value plan_asked scan_asked holding_of caseless ucd_category folded is_word_character runs_of truncated number_key digits
returns c = record {
  positions = (
    planned (is_structure _ _ (under_at 0 6 (codes "1=4") (1, codes "4") refl (under_at 10 16 (codes "3=1") (3, codes "1") refl (term_at 20 (codes "or") refl)))) refl refl,
    planned (is_structure _ _ (under_at 0 6 (codes "1=4") (1, codes "4") refl (under_at 10 16 (codes "3=2") (3, codes "2") refl (term_at 20 (codes "or") refl)))) refl refl,
    planned (is_structure _ _ (under_at 0 6 (codes "1=4") (1, codes "4") refl (under_at 10 16 (codes "3=3") (3, codes "3") refl (term_at 20 (codes "or") refl)))) refl refl,
  );
  structures = (
    planned (is_structure _ _ (under_at 0 6 (codes "1=4") (1, codes "4") refl (under_at 10 16 (codes "4=2") (4, codes "2") refl (term_at 20 (codes "or") refl)))) refl refl,
    planned (is_structure _ _ (under_at 0 6 (codes "1=4") (1, codes "4") refl (under_at 10 16 (codes "4=6") (4, codes "6") refl (quoted_at 20 (codes "whale moby"))))) refl refl,
    planned (is_structure _ _ (under_at 0 6 (codes "1=4") (1, codes "4") refl (under_at 10 16 (codes "4=105") (4, codes "105") refl (quoted_at 22 (codes "whale moby"))))) refl refl,
    planned (is_structure _ _ (under_at 0 6 (codes "1=4") (1, codes "4") refl (under_at 10 16 (codes "6=2") (6, codes "2") refl (term_at 20 (codes "moby") refl)))) refl refl,
  );
  orders = (
    planned (is_structure _ _ (under_at 0 6 (codes "1=4") (1, codes "4") refl (under_at 10 16 (codes "2=2") (2, codes "2") refl (term_at 20 (codes "Dick") refl)))) refl refl,
    planned (is_structure _ _ (under_at 0 6 (codes "1=4") (1, codes "4") refl (under_at 10 16 (codes "2=4") (2, codes "4") refl (term_at 20 (codes "Dick") refl)))) refl refl,
    planned (is_structure _ _ (under_at 0 6 (codes "1=4") (1, codes "4") refl (under_at 10 16 (codes "2=5") (2, codes "5") refl (term_at 20 (codes "Dick") refl)))) refl refl,
  );
  numbers = (
    planned (is_structure _ _ (under_at 0 6 (codes "1=31") (1, codes "31") refl (under_at 11 17 (codes "4=109") (4, codes "109") refl (under_at 23 29 (codes "2=1") (2, codes "1") refl (term_at 33 (codes "951") refl))))) refl refl,
    planned (is_structure _ _ (under_at 0 6 (codes "1=31") (1, codes "31") refl (under_at 11 17 (codes "4=109") (4, codes "109") refl (under_at 23 29 (codes "2=2") (2, codes "2") refl (term_at 33 (codes "951") refl))))) refl refl,
    planned (is_structure _ _ (under_at 0 6 (codes "1=31") (1, codes "31") refl (under_at 11 17 (codes "4=109") (4, codes "109") refl (term_at 23 (codes "951") refl)))) refl refl,
    planned (is_structure _ _ (under_at 0 6 (codes "1=31") (1, codes "31") refl (under_at 11 17 (codes "4=109") (4, codes "109") refl (under_at 23 29 (codes "2=5") (2, codes "5") refl (term_at 33 (codes "951") refl))))) refl refl,
  );
}

use Rattle.zeb_query.proofs.Cited.{refl, is_structure}
use Rattle.std.proofs.Common.{codes}
use Rattle.zeb_lower_laws.proofs.ExampleLemmas.{chars, is_utf8, digits, encode, ucd_category, caseless, folded, is_word_character, runs_of, truncated, number_key, kind_and_value, holding_of, plan_asked, scan_asked, planned, term_at, under_at, quoted_at}
use Rattle.zeb_lower_laws.proofs.query_examples.combinations_at_examples.Goals as goal

pub returns : goal.returns
unfolding chars is_utf8 encode kind_and_value plan_asked scan_asked holding_of caseless ucd_category folded is_word_character runs_of truncated number_key digits
returns c = record {
  numbers = (
    planned (is_structure _ _ (under_at 0 6 (codes "4=107") (4, codes "107") refl (under_at 12 18 (codes "3=1") (3, codes "1") refl (term_at 22 (codes "1") refl)))) refl refl,
    planned (is_structure _ _ (under_at 0 6 (codes "4=107") (4, codes "107") refl (under_at 12 18 (codes "5=1") (5, codes "1") refl (term_at 22 (codes "1") refl)))) refl refl,
    planned (is_structure _ _ (under_at 0 6 (codes "4=107") (4, codes "107") refl (under_at 12 18 (codes "6=2") (6, codes "2") refl (term_at 22 (codes "1") refl)))) refl refl,
    planned (is_structure _ _ (under_at 0 6 (codes "4=107") (4, codes "107") refl (under_at 12 18 (codes "2=4") (2, codes "4") refl (term_at 22 (codes "1") refl)))) refl refl,
    planned (is_structure _ _ (under_at 0 6 (codes "4=107") (4, codes "107") refl (under_at 12 18 (codes "2=103") (2, codes "103") refl (term_at 24 (codes "1") refl)))) refl refl,
    planned (is_structure _ _ (under_at 0 6 (codes "1=31") (1, codes "31") refl (under_at 11 17 (codes "4=109") (4, codes "109") refl (under_at 23 29 (codes "3=1") (3, codes "1") refl (term_at 33 (codes "1851") refl))))) refl refl,
    planned (is_structure _ _ (under_at 0 6 (codes "1=31") (1, codes "31") refl (under_at 11 17 (codes "4=109") (4, codes "109") refl (under_at 23 29 (codes "5=1") (5, codes "1") refl (term_at 33 (codes "1851") refl))))) refl refl,
    planned (is_structure _ _ (under_at 0 6 (codes "1=31") (1, codes "31") refl (under_at 11 17 (codes "4=109") (4, codes "109") refl (under_at 23 29 (codes "6=2") (6, codes "2") refl (term_at 33 (codes "1851") refl))))) refl refl,
  );
  lists = (
    planned (is_structure _ _ (under_at 0 6 (codes "4=6") (4, codes "6") refl (under_at 10 16 (codes "3=1") (3, codes "1") refl (term_at 20 (codes "x") refl)))) refl refl,
    planned (is_structure _ _ (under_at 0 6 (codes "1=4") (1, codes "4") refl (under_at 10 16 (codes "4=6") (4, codes "6") refl (under_at 20 26 (codes "6=2") (6, codes "2") refl (term_at 30 (codes "x") refl))))) refl refl,
    planned (is_structure _ _ (under_at 0 6 (codes "4=6") (4, codes "6") refl (under_at 10 16 (codes "2=5") (2, codes "5") refl (term_at 20 (codes "x") refl)))) refl refl,
    planned (is_structure _ _ (under_at 0 6 (codes "4=105") (4, codes "105") refl (under_at 12 18 (codes "3=1") (3, codes "1") refl (term_at 22 (codes "x") refl)))) refl refl,
    planned (is_structure _ _ (under_at 0 6 (codes "1=4") (1, codes "4") refl (under_at 10 16 (codes "4=105") (4, codes "105") refl (under_at 22 28 (codes "6=2") (6, codes "2") refl (term_at 32 (codes "x") refl))))) refl refl,
    planned (is_structure _ _ (under_at 0 6 (codes "4=105") (4, codes "105") refl (under_at 12 18 (codes "2=1") (2, codes "1") refl (term_at 22 (codes "x") refl)))) refl refl,
  );
  orders = (
    planned (is_structure _ _ (under_at 0 6 (codes "2=4") (2, codes "4") refl (under_at 10 16 (codes "3=1") (3, codes "1") refl (term_at 20 (codes "x") refl)))) refl refl,
    planned (is_structure _ _ (under_at 0 6 (codes "2=4") (2, codes "4") refl (under_at 10 16 (codes "5=1") (5, codes "1") refl (term_at 20 (codes "x") refl)))) refl refl,
  );
  registers = (
    planned (is_structure _ _ (under_at 0 6 (codes "1=31") (1, codes "31") refl (term_at 11 (codes "1851") refl))) refl refl,
    planned (is_structure _ _ (under_at 0 6 (codes "6=2") (6, codes "2") refl (term_at 10 (codes "x") refl))) refl refl,
  );
  taken = (
    planned (is_structure _ _ (under_at 0 6 (codes "1=31") (1, codes "31") refl (under_at 11 17 (codes "4=109") (4, codes "109") refl (under_at 23 29 (codes "2=103") (2, codes "103") refl (term_at 35 (codes "x") refl))))) refl refl,
    planned (is_structure _ _ (under_at 0 6 (codes "1=4") (1, codes "4") refl (under_at 10 16 (codes "2=103") (2, codes "103") refl (under_at 22 28 (codes "3=1") (3, codes "1") refl (under_at 32 38 (codes "5=1") (5, codes "1") refl (under_at 42 48 (codes "6=2") (6, codes "2") refl (term_at 52 (codes "x") refl))))))) refl refl,
    planned (is_structure _ _ (under_at 0 6 (codes "4=6") (4, codes "6") refl (under_at 10 16 (codes "2=103") (2, codes "103") refl (term_at 22 (codes "x") refl)))) refl refl,
    planned (is_structure _ _ (under_at 0 6 (codes "2=103") (2, codes "103") refl (quoted_at 12 (codes "a a a a a a a a a a a a a a a a a a a a a a a a a a a a a a a a a a a a a a a a a a a a a a a a a a a a a a a a a a a a a a a a a")))) refl refl,
  );
}

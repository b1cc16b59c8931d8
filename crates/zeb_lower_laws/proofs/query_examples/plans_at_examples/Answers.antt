use Rattle.zeb_query.proofs.Cited.{refl, [], ◌∷◌, ◌++◌, is_structure}
use Rattle.std.proofs.Common.{codes}
use Rattle.zeb_lower_laws.proofs.ExampleLemmas.{chars, is_utf8, digits, encode, ucd_category, caseless, folded, is_word_character, runs_of, truncated, number_key, kind_and_value, holding_of, plan_asked, scan_asked, planned, term_at, under_at, of_set, quoted_at}
use Rattle.zeb_lower_laws.proofs.query_examples.plans_at_examples.Goals as goal

pub returns : goal.returns
unfolding chars is_utf8 encode kind_and_value plan_asked scan_asked holding_of caseless ucd_category folded is_word_character runs_of truncated number_key digits
returns c = record {
  kinds = (
    planned (is_structure _ _ (under_at 0 6 (codes "1=4") (1, codes "4") refl (term_at 10 (codes "Whale") refl))) refl refl,
    planned (is_structure _ _ (under_at 0 6 (codes "1=4") (1, codes "4") refl (under_at 10 16 (codes "6=3") (6, codes "3") refl (term_at 20 (codes "moby") refl)))) refl refl,
    planned (is_structure _ _ (under_at 0 6 (codes "1=4") (1, codes "4") refl (under_at 10 16 (codes "2=1") (2, codes "1") refl (term_at 20 (codes "Dick") refl)))) refl refl,
    planned (is_structure _ _ (under_at 0 6 (codes "1=31") (1, codes "31") refl (under_at 11 17 (codes "4=109") (4, codes "109") refl (under_at 23 29 (codes "2=4") (2, codes "4") refl (term_at 33 (codes "951") refl))))) refl refl,
    planned (is_structure _ _ (under_at 0 6 (codes "4=107") (4, codes "107") refl (term_at 12 (codes "007") refl))) refl refl,
    planned (is_structure _ _ (under_at 0 6 (codes "2=103") (2, codes "103") refl (term_at 12 (codes "x") refl))) refl refl,
  );
  attributes = (
    planned (is_structure _ _ (under_at 0 6 (codes "1=9999") (1, codes "9999") refl (under_at 13 19 (codes "1=4") (1, codes "4") refl (term_at 23 (codes "moby") refl)))) refl refl,
    planned (of_set 0 9 (codes "BIB-1") (under_at 15 21 (codes "1=4") (1, codes "4") refl (term_at 25 (codes "moby") refl))) refl refl,
    planned (is_structure _ _ (under_at 0 6 (codes "1=TITLE") (1, codes "TITLE") refl (term_at 14 (codes "whale") refl))) refl refl,
  );
  words = (
    planned (is_structure _ _ (under_at 0 6 (codes "1=4") (1, codes "4") refl (quoted_at 10 (codes "@and")))) refl refl,
    planned (is_structure _ _ (term_at 0 (codes "@foo") refl)) refl refl,
    planned (is_structure _ _ (under_at 0 6 (codes "1=4") (1, codes "4") refl (term_at 10 (codes "CAF" ++ 195 ∷ 137 ∷ []) refl))) refl refl,
  );
  no_words = (
    planned (is_structure _ _ (under_at 0 6 (codes "1=4") (1, codes "4") refl (under_at 10 16 (codes "6=3") (6, codes "3") refl (quoted_at 20 [])))) refl refl,
    planned (is_structure _ _ (under_at 0 6 (codes "2=1") (2, codes "1") refl (quoted_at 10 []))) refl refl,
  );
}

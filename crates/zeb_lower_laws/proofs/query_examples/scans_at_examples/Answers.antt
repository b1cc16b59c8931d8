use Rattle.zeb_query.proofs.Cited.{refl, [], ◌∷◌, is_structure}
use Rattle.zeb_query.specs.declared.keywords.OperatorWord.TheVariants.{Or, Proximity}
use Rattle.std.proofs.Common.{codes}
use Rattle.zeb_lower_laws.proofs.ExampleLemmas.{chars, is_utf8, digits, encode, ucd_category, caseless, folded, is_word_character, runs_of, truncated, number_key, kind_and_value, holding_of, plan_asked, scan_asked, plain, scanned, named_at, term_at, under_at, pair_at}
use Rattle.zeb_lower_laws.proofs.query_examples.scans_at_examples.Goals as goal

pub returns : goal.returns
unfolding chars is_utf8 encode kind_and_value plan_asked scan_asked holding_of caseless ucd_category folded is_word_character runs_of truncated number_key digits
returns c = record {
  starts = (
    scanned (is_structure _ _ (under_at 0 6 (codes "1=4") (1, codes "4") refl (term_at 10 (codes "Dick") refl))) refl refl,
    scanned (is_structure _ _ (under_at 0 6 (codes "1=4") (1, codes "4") refl (under_at 10 16 (codes "6=3") (6, codes "3") refl (term_at 20 (codes "a") refl)))) refl refl,
    scanned (is_structure _ _ (under_at 0 6 (codes "1=31") (1, codes "31") refl (under_at 11 17 (codes "4=109") (4, codes "109") refl (term_at 23 (codes "1851") refl)))) refl refl,
  );
  values = (
    scanned (is_structure _ _ (under_at 0 6 (codes "2=103") (2, codes "103") refl (term_at 12 (codes "a") refl))) refl refl,
    scanned (is_structure _ _ (under_at 0 6 (codes "2=1") (2, codes "1") refl (term_at 10 (codes "a") refl))) refl refl,
    scanned (is_structure _ _ (under_at 0 6 (codes "2=2") (2, codes "2") refl (term_at 10 (codes "a") refl))) refl refl,
    scanned (is_structure _ _ (under_at 0 6 (codes "2=4") (2, codes "4") refl (term_at 10 (codes "a") refl))) refl refl,
    scanned (is_structure _ _ (under_at 0 6 (codes "2=5") (2, codes "5") refl (term_at 10 (codes "a") refl))) refl refl,
    scanned (is_structure _ _ (under_at 0 6 (codes "3=1") (3, codes "1") refl (term_at 10 (codes "a") refl))) refl refl,
    scanned (is_structure _ _ (under_at 0 6 (codes "5=1") (5, codes "1") refl (term_at 10 (codes "a") refl))) refl refl,
    scanned (is_structure _ _ (under_at 0 6 (codes "4=6") (4, codes "6") refl (term_at 10 (codes "a") refl))) refl refl,
    scanned (is_structure _ _ (under_at 0 6 (codes "4=105") (4, codes "105") refl (term_at 12 (codes "a") refl))) refl refl,
    scanned (is_structure _ _ (under_at 0 6 (codes "4=107") (4, codes "107") refl (term_at 12 (codes "1") refl))) refl refl,
  );
  structures = (
    scanned (is_structure _ _ (pair_at 0 (codes "@or") Or [] refl refl refl (term_at 4 (codes "a") refl) (term_at 6 (codes "b") refl))) refl refl,
    scanned (is_structure _ _ (pair_at 0 (codes "@prox") Proximity (plain 6 (codes "1") ∷ plain 8 (codes "1") ∷ plain 10 (codes "0") ∷ plain 12 (codes "2") ∷ plain 14 (codes "k") ∷ plain 16 (codes "2") ∷ []) refl refl refl (term_at 18 (codes "a") refl) (term_at 20 (codes "b") refl))) refl refl,
    scanned (is_structure _ _ (named_at 0 5 (codes "r"))) refl refl,
  );
  terms = (
    scanned (is_structure _ _ (under_at 0 6 (codes "1=9999") (1, codes "9999") refl (term_at 13 (codes "a") refl))) refl refl,
    scanned (is_structure _ _ (under_at 0 6 (codes "1=31") (1, codes "31") refl (under_at 11 17 (codes "4=109") (4, codes "109") refl (term_at 23 (codes "a") refl)))) refl refl,
  );
}

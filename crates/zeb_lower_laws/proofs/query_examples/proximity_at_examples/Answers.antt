use Rattle.zeb_query.proofs.Cited.{refl, [], ◌∷◌, is_structure}
use Rattle.zeb_query.specs.declared.keywords.OperatorWord.TheVariants.{And, Proximity}
use Rattle.std.proofs.Common.{codes}
use Rattle.zeb_lower_laws.proofs.ExampleLemmas.{chars, is_utf8, digits, encode, ucd_category, caseless, folded, is_word_character, runs_of, truncated, number_key, kind_and_value, holding_of, plan_asked, scan_asked, plain, planned, term_at, quoted_at, under_at, pair_at}
use Rattle.zeb_lower_laws.proofs.query_examples.proximity_at_examples.Goals as goal

pub returns : goal.returns
unfolding chars is_utf8 encode kind_and_value plan_asked scan_asked holding_of caseless ucd_category folded is_word_character runs_of truncated number_key digits
returns c = record {
  parameters = (
    planned (is_structure _ _ (pair_at 0 (codes "@prox") Proximity (plain 6 (codes "1") ∷ plain 8 (codes "1") ∷ plain 10 (codes "0") ∷ plain 12 (codes "2") ∷ plain 14 (codes "k") ∷ plain 16 (codes "2") ∷ []) refl refl refl (term_at 18 (codes "a") refl) (term_at 20 (codes "b") refl))) refl refl,
    planned (is_structure _ _ (pair_at 0 (codes "@prox") Proximity (plain 6 (codes "0") ∷ plain 8 (codes "1") ∷ plain 10 (codes "0") ∷ plain 12 (codes "7") ∷ plain 14 (codes "k") ∷ plain 16 (codes "2") ∷ []) refl refl refl (term_at 18 (codes "a") refl) (term_at 20 (codes "b") refl))) refl refl,
    planned (is_structure _ _ (pair_at 0 (codes "@prox") Proximity (plain 6 (codes "0") ∷ plain 8 (codes "1") ∷ plain 10 (codes "0") ∷ plain 12 (codes "2") ∷ plain 14 (codes "p") ∷ plain 16 (codes "2") ∷ []) refl refl refl (term_at 18 (codes "a") refl) (term_at 20 (codes "b") refl))) refl refl,
  );
  operands = (
    planned (is_structure _ _ (pair_at 0 (codes "@prox") Proximity (plain 6 (codes "0") ∷ plain 8 (codes "1") ∷ plain 10 (codes "0") ∷ plain 12 (codes "2") ∷ plain 14 (codes "k") ∷ plain 16 (codes "2") ∷ []) refl refl refl (under_at 18 24 (codes "1=4") (1, codes "4") refl (term_at 28 (codes "moby") refl)) (term_at 33 (codes "dick") refl))) refl refl,
    planned (is_structure _ _ (pair_at 0 (codes "@prox") Proximity (plain 6 (codes "0") ∷ plain 8 (codes "1") ∷ plain 10 (codes "0") ∷ plain 12 (codes "2") ∷ plain 14 (codes "k") ∷ plain 16 (codes "2") ∷ []) refl refl refl (term_at 18 (codes "a") refl) (pair_at 20 (codes "@and") And [] refl refl refl (term_at 25 (codes "b") refl) (term_at 27 (codes "c") refl)))) refl refl,
    planned (is_structure _ _ (pair_at 0 (codes "@prox") Proximity (plain 6 (codes "0") ∷ plain 8 (codes "1") ∷ plain 10 (codes "0") ∷ plain 12 (codes "2") ∷ plain 14 (codes "k") ∷ plain 16 (codes "2") ∷ []) refl refl refl (term_at 18 (codes "a") refl) (quoted_at 20 (codes "b c")))) refl refl,
    planned (is_structure _ _ (pair_at 0 (codes "@prox") Proximity (plain 6 (codes "0") ∷ plain 8 (codes "1") ∷ plain 10 (codes "0") ∷ plain 12 (codes "2") ∷ plain 14 (codes "k") ∷ plain 16 (codes "2") ∷ []) refl refl refl (term_at 18 (codes "a") refl) (quoted_at 20 []))) refl refl,
  );
  values = (
    planned (is_structure _ _ (pair_at 0 (codes "@prox") Proximity (plain 6 (codes "0") ∷ plain 8 (codes "1") ∷ plain 10 (codes "0") ∷ plain 12 (codes "2") ∷ plain 14 (codes "k") ∷ plain 16 (codes "2") ∷ []) refl refl refl (under_at 18 24 (codes "2=4") (2, codes "4") refl (term_at 28 (codes "a") refl)) (term_at 30 (codes "b") refl))) refl refl,
    planned (is_structure _ _ (pair_at 0 (codes "@prox") Proximity (plain 6 (codes "0") ∷ plain 8 (codes "1") ∷ plain 10 (codes "0") ∷ plain 12 (codes "2") ∷ plain 14 (codes "k") ∷ plain 16 (codes "2") ∷ []) refl refl refl (under_at 18 24 (codes "2=103") (2, codes "103") refl (term_at 30 (codes "a") refl)) (term_at 32 (codes "b") refl))) refl refl,
    planned (is_structure _ _ (pair_at 0 (codes "@prox") Proximity (plain 6 (codes "0") ∷ plain 8 (codes "1") ∷ plain 10 (codes "0") ∷ plain 12 (codes "2") ∷ plain 14 (codes "k") ∷ plain 16 (codes "2") ∷ []) refl refl refl (under_at 18 24 (codes "3=1") (3, codes "1") refl (term_at 28 (codes "a") refl)) (term_at 30 (codes "b") refl))) refl refl,
    planned (is_structure _ _ (pair_at 0 (codes "@prox") Proximity (plain 6 (codes "0") ∷ plain 8 (codes "1") ∷ plain 10 (codes "0") ∷ plain 12 (codes "2") ∷ plain 14 (codes "k") ∷ plain 16 (codes "2") ∷ []) refl refl refl (under_at 18 24 (codes "4=6") (4, codes "6") refl (term_at 28 (codes "a") refl)) (term_at 30 (codes "b") refl))) refl refl,
    planned (is_structure _ _ (pair_at 0 (codes "@prox") Proximity (plain 6 (codes "0") ∷ plain 8 (codes "1") ∷ plain 10 (codes "0") ∷ plain 12 (codes "2") ∷ plain 14 (codes "k") ∷ plain 16 (codes "2") ∷ []) refl refl refl (under_at 18 24 (codes "4=105") (4, codes "105") refl (term_at 30 (codes "a") refl)) (term_at 32 (codes "b") refl))) refl refl,
    planned (is_structure _ _ (pair_at 0 (codes "@prox") Proximity (plain 6 (codes "0") ∷ plain 8 (codes "1") ∷ plain 10 (codes "0") ∷ plain 12 (codes "2") ∷ plain 14 (codes "k") ∷ plain 16 (codes "2") ∷ []) refl refl refl (under_at 18 24 (codes "4=107") (4, codes "107") refl (term_at 30 (codes "1") refl)) (term_at 32 (codes "b") refl))) refl refl,
    planned (is_structure _ _ (pair_at 0 (codes "@prox") Proximity (plain 6 (codes "0") ∷ plain 8 (codes "1") ∷ plain 10 (codes "0") ∷ plain 12 (codes "2") ∷ plain 14 (codes "k") ∷ plain 16 (codes "2") ∷ []) refl refl refl (under_at 18 24 (codes "1=31") (1, codes "31") refl (under_at 29 35 (codes "4=109") (4, codes "109") refl (term_at 41 (codes "1") refl))) (term_at 43 (codes "b") refl))) refl refl,
    planned (is_structure _ _ (pair_at 0 (codes "@prox") Proximity (plain 6 (codes "0") ∷ plain 8 (codes "1") ∷ plain 10 (codes "0") ∷ plain 12 (codes "2") ∷ plain 14 (codes "k") ∷ plain 16 (codes "2") ∷ []) refl refl refl (under_at 18 24 (codes "1=4") (1, codes "4") refl (under_at 28 34 (codes "6=2") (6, codes "2") refl (term_at 38 (codes "a") refl))) (term_at 40 (codes "b") refl))) refl refl,
  );
  near = (
    planned (is_structure _ _ (pair_at 0 (codes "@prox") Proximity (plain 6 (codes "0") ∷ plain 8 (codes "1") ∷ plain 10 (codes "1") ∷ plain 12 (codes "2") ∷ plain 14 (codes "known") ∷ plain 20 (codes "2") ∷ []) refl refl refl (term_at 22 (codes "Dick") refl) (term_at 27 (codes "moby") refl))) refl refl,
    planned (is_structure _ _ (pair_at 0 (codes "@prox") Proximity (plain 6 (codes "0") ∷ plain 8 (codes "1") ∷ plain 10 (codes "0") ∷ plain 12 (codes "2") ∷ plain 14 (codes "k") ∷ plain 16 (codes "2") ∷ []) refl refl refl (term_at 18 (codes "a") refl) (under_at 20 26 (codes "5=1") (5, codes "1") refl (term_at 30 (codes "b") refl)))) refl refl,
    planned (is_structure _ _ (pair_at 0 (codes "@prox") Proximity (plain 6 (codes "0") ∷ plain 8 (codes "1") ∷ plain 10 (codes "0") ∷ plain 12 (codes "1") ∷ plain 14 (codes "k") ∷ plain 16 (codes "2") ∷ []) refl refl refl (term_at 18 (codes "a") refl) (term_at 20 (codes "b") refl))) refl refl,
    planned (is_structure _ _ (pair_at 0 (codes "@prox") Proximity (plain 6 (codes "0") ∷ plain 8 (codes "1") ∷ plain 10 (codes "0") ∷ plain 12 (codes "3") ∷ plain 14 (codes "k") ∷ plain 16 (codes "2") ∷ []) refl refl refl (term_at 18 (codes "a") refl) (term_at 20 (codes "b") refl))) refl refl,
    planned (is_structure _ _ (pair_at 0 (codes "@prox") Proximity (plain 6 (codes "0") ∷ plain 8 (codes "1") ∷ plain 10 (codes "0") ∷ plain 12 (codes "4") ∷ plain 14 (codes "k") ∷ plain 16 (codes "2") ∷ []) refl refl refl (term_at 18 (codes "a") refl) (term_at 20 (codes "b") refl))) refl refl,
    planned (is_structure _ _ (pair_at 0 (codes "@prox") Proximity (plain 6 (codes "0") ∷ plain 8 (codes "1") ∷ plain 10 (codes "0") ∷ plain 12 (codes "5") ∷ plain 14 (codes "k") ∷ plain 16 (codes "2") ∷ []) refl refl refl (term_at 18 (codes "a") refl) (term_at 20 (codes "b") refl))) refl refl,
    planned (is_structure _ _ (pair_at 0 (codes "@prox") Proximity (plain 6 (codes "0") ∷ plain 8 (codes "1") ∷ plain 10 (codes "0") ∷ plain 12 (codes "6") ∷ plain 14 (codes "k") ∷ plain 16 (codes "2") ∷ []) refl refl refl (term_at 18 (codes "a") refl) (term_at 20 (codes "b") refl))) refl refl,
  );
}

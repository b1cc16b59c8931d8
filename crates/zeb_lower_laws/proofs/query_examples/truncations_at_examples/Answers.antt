use Rattle.zeb_query.proofs.Cited.{refl, is_structure}
use Rattle.std.proofs.Common.{codes}
use Rattle.zeb_lower_laws.proofs.ExampleLemmas.{chars, is_utf8, digits, encode, ucd_category, caseless, folded, is_word_character, runs_of, truncated, number_key, kind_and_value, holding_of, plan_asked, scan_asked, planned, quoted_at, term_at, under_at}
use Rattle.zeb_lower_laws.proofs.query_examples.truncations_at_examples.Goals as goal

pub returns : goal.returns
unfolding chars is_utf8 encode kind_and_value plan_asked scan_asked holding_of caseless ucd_category folded is_word_character runs_of truncated number_key digits
returns c = record {
  ends = (
    planned (is_structure _ _ (under_at 0 6 (codes "5=1") (5, codes "1") refl (quoted_at 10 (codes "moby d")))) refl refl,
    planned (is_structure _ _ (under_at 0 6 (codes "5=2") (5, codes "2") refl (quoted_at 10 (codes "oby dick")))) refl refl,
    planned (is_structure _ _ (under_at 0 6 (codes "5=3") (5, codes "3") refl (term_at 10 (codes "hal") refl))) refl refl,
  );
  hash = (
    planned (is_structure _ _ (under_at 0 6 (codes "5=101") (5, codes "101") refl (term_at 12 (codes "m#y") refl))) refl refl,
    planned (is_structure _ _ (under_at 0 6 (codes "5=100") (5, codes "100") refl (term_at 12 (codes "m#y") refl))) refl refl,
  );
  each = planned (is_structure _ _ (under_at 0 6 (codes "4=6") (4, codes "6") refl (under_at 10 16 (codes "5=1") (5, codes "1") refl (quoted_at 20 (codes "w m"))))) refl refl;
}

use Rattle.zeb_text.proofs.Cited.{refl}
use Rattle.std.specs.Fmt.{digits}
use Rattle.ucd_category.proofs.Computing.{ucd_category}
use Rattle.caseless.proofs.Computing.{caseless}
use Rattle.zeb_text.specs.Folding.{folded}
use Rattle.zeb_text.specs.Words.{is_word_character, runs_of}
use Rattle.zeb_text.specs.Numbers.{numerals_of, number_key}
use Rattle.zeb_lower_laws.proofs.text.definitions_at_examples.Goals as goal

pub returns : goal.returns
unfolding caseless ucd_category folded is_word_character runs_of numerals_of number_key digits
returns c = record {
  fold = (refl, refl, refl);
  twice = (refl, refl);
  words = refl;
  numbers = refl;
  key = refl;
}

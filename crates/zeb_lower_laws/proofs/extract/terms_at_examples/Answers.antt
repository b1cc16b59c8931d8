use Rattle.zeb_extract.proofs.Cited.{refl}
use Rattle.std.specs.Str.{chars, is_utf8}
use Rattle.std.specs.Str.Lossy.{utf8_error_len, utf8_lossy, utf8_valid_len}
use lib.Utf8.{encode}
use Rattle.ucd_category.proofs.Computing.{ucd_category}
use Rattle.caseless.proofs.Computing.{caseless}
use Rattle.zeb_text.specs.Folding.{folded}
use Rattle.zeb_text.specs.Words.{is_word_character, runs_of}
use Rattle.zeb_text.specs.Numbers.{numerals_of}
use Rattle.zeb_lower_laws.proofs.extract.terms_at_examples.Goals as goal

pub returns : goal.returns
unfolding utf8_error_len utf8_lossy utf8_valid_len chars is_utf8 encode caseless ucd_category folded is_word_character runs_of numerals_of
returns c = record { accents = refl; phrase = refl; damaged = refl; no_word = refl; number = refl }

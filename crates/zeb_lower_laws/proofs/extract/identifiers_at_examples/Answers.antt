use Rattle.zeb_extract.proofs.Cited.{refl}
use Rattle.std.specs.Str.{chars, is_utf8}
use Rattle.std.specs.Str.Lossy.{utf8_error_len, utf8_lossy, utf8_valid_len}
use lib.Utf8.{encode}
use Rattle.zeb_lower_laws.proofs.extract.identifiers_at_examples.Goals as goal

pub returns : goal.returns
unfolding utf8_error_len utf8_lossy utf8_valid_len chars is_utf8 encode
returns c = record {
  missing = (refl, refl, refl);
  found = (refl, refl);
  long = (refl, refl, refl);
  damaged = (refl, refl, refl);
  control = (refl, refl, refl, refl);
}

use Rattle.zeb_query.proofs.Cited.{◌≡◌, ℕ, List, refl, subst, Word, AreWords, words_at}
use Rattle.std.proofs.Math.Utf8.{encode}
use Rattle.zeb_query.proofs.WordStretches.{words_are_read}
use Rattle.zeb_lower_laws.proofs.query.words_at_examples.Goals as goal

as_read : (text : List ℕ) (words : List Word) → words_at 0 text ≡ words → AreWords text words
as_read text words read = subst (AreWords text) read (words_are_read text)

pub returns : goal.returns
unfolding encode
returns c = record {
  escape = as_read _ _ refl;
  bytes = as_read _ _ refl;
  brace = as_read _ _ refl;
  endless = as_read _ _ refl;
  unquoted = as_read _ _ refl;
}

use Rattle.zeb_text.proofs.Cited.{◌≡◌, false, refl}
use Rattle.ucd_category.proofs.Computing.{ucd_category}
use Rattle.zeb_text.specs.Folding.{folded}
use Rattle.zeb_text.specs.Words.{is_word_character}
use Rattle.zeb_text.proofs.MaximalRuns.{runs_of-joined}
use Rattle.zeb_lower_laws.proofs.text.joined_words_stay.Goals as goal

space : is_word_character 32 ≡ false
unfolding ucd_category is_word_character
space = refl

pub returns : goal.returns
returns c = λ text. runs_of-joined is_word_character 32 (folded text) space

use Rattle.zeb_text.proofs.Cited.{refl, [], ◌∷◌}
use Rattle.ucd_category.proofs.Computing.{ucd_category}
use Rattle.caseless.proofs.Computing.{caseless}
use Rattle.zeb_text.specs.Folding.{folded}
use Rattle.zeb_text.specs.Words.{is_word_character, runs_of}
use Rattle.zeb_text.specs.Truncation.{truncated}
use Rattle.zeb_lower_laws.proofs.text.patterns_at_examples.Goals as goal

pub returns-clause-right : goal.returns-clause-right
unfolding caseless ucd_category folded is_word_character runs_of truncated
returns-clause-right c = refl

pub returns-clause-hash : goal.returns-clause-hash
unfolding caseless ucd_category folded is_word_character runs_of truncated
returns-clause-hash c = (refl, refl)

pub returns-clause-star : goal.returns-clause-star
returns-clause-star c = (
  (111 ∷ 98 ∷ 121 ∷ [], refl, (111 ∷ 98 ∷ [], 121 ∷ [], refl, ([], refl, refl))),
  (121 ∷ [], refl, ([], 121 ∷ [], refl, ([], refl, refl))),
)

use Rattle.zeb_profile.proofs.Cited.{sym, subst, is_no_blank}
use Rattle.zeb_text.specs.Words.{AreRuns}
use Rattle.zeb_lower_laws.proofs.Trimmed.{are_words, only_words}
use Rattle.zeb_lower_laws.proofs.profile.words_are_maximal.Goals as goal

pub returns : goal.returns
returns c = λ text words. (only_words text words, λ e. subst (AreRuns is_no_blank text) (sym e) (are_words text))

use Rattle.zeb_query.proofs.Cited.{sym, ◌∙◌, words_at}
use Rattle.zeb_query.proofs.WordStretches.{words_read_are, words_are_read}
use Rattle.zeb_lower_laws.proofs.query.a_text_has_one_list_of_words.Goals as goal

pub returns-clause-some : goal.returns-clause-some
returns-clause-some c = λ text. (words_at 0 text, words_are_read text)

pub returns-clause-once : goal.returns-clause-once
returns-clause-once c = λ text x y left right. words_read_are text x left ∙ sym (words_read_are text y right)

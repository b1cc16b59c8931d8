use Rattle.zeb_search.proofs.words.word_hits.Goals as goal

pub returns : goal.returns
returns g c = rw c.register-words.ensures at c.numbers_wanted.ensures

use Rattle.zeb_words.proofs.Cited.{◌≡◌, map, take, path_texts}
use Rattle.zeb_words.proofs.reading.texts_of.Given as goal

abbrev pub invariant-loop-text : goal.invariant-loop-text
invariant-loop-text l = path_texts l.copies.items ≡ map (λ text. text.now) (take l.text-index l.texts)

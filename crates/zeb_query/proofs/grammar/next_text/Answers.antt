use Rattle.zeb_query.proofs.Cited.{word_of}
use Rattle.zeb_query.proofs.grammar.next_text.Goals as goal
use Rattle.std.proofs.Common.{rules}

pub returns : goal.returns
returns c = record { word = word_of c.in_ok-word.word.now; reads = c.in_ok-word.ensures; text_is = c.in_ok-clone.ensures.cases; goes = λ k n. search rules }

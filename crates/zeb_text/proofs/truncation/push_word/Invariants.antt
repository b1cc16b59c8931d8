use Rattle.zeb_text.proofs.Cited.{◌≡◌, ◌++◌, chars, length, map, take, symbol_of}
use Rattle.zeb_text.proofs.truncation.push_word.Given as goal

abbrev pub invariant-loop-c : goal.invariant-loop-c
invariant-loop-c l = l.pattern ≡ l.initial.pattern ++ map (symbol_of l.cut) (take (length l.yielded) (chars l.word))

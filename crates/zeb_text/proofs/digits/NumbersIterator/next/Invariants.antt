use Rattle.zeb_text.proofs.Cited.{◌≡◌, length, numbers_of}
use Rattle.zeb_text.proofs.digits.NumbersIterator.next.Given as goal

abbrev pub invariant-loop-digits : goal.invariant-loop-digits
invariant-loop-digits l = numbers_of l.self.rest.now ≡ numbers_of l.initial.self.rest.now

abbrev pub decreases-loop-digits : goal.decreases-loop-digits
decreases-loop-digits l = length l.self.rest.now

use Rattle.zeb_text.proofs.Cited.{◌≡◌, ℕ, ◌<◌, get_or, is_ascii_digit}
use Rattle.zeb_text.proofs.digits.front_len.Given as goal

abbrev pub invariant-loop-i : goal.invariant-loop-i
invariant-loop-i l = (k : ℕ) → k < l.i → is_ascii_digit (get_or l.text k 0) ≡ l.are_digits

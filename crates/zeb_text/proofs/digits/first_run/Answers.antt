use Rattle.zeb_text.proofs.Cited.{◌≡◌, arith, false, true, is_ascii_digit}
use Rattle.zeb_text.proofs.RunLemmas.{runs_of-first, runs_of-none, All-take, All-from_places}
use Rattle.zeb_text.proofs.digits.first_run.Goals as goal

pub returns-then-start-text-clause-none : goal.returns-then-start-text-clause-none
returns-then-start-text-clause-none c =
    runs_of-none is_ascii_digit c.args.text.now (All-from_places (λ b. is_ascii_digit b ≡ false) c.args.text.now (λ k lt. c.front_len-start.ensures.front k (omega arith)))

pub returns-clause-found : goal.returns-clause-found
returns-clause-found c =
    let start = c.front_len-start.ensures in
    let end = rw c.split_at.ensures.back at c.front_len-end.ensures in
    rw (c.split_at-2.ensures.front, c.split_at-2.ensures.back, c.split_at.ensures.back)
    (runs_of-first is_ascii_digit c.args.text.now c.front_len-start.result c.front_len-end.result (omega arith) start.front (start.next (omega arith)) end.within end.front end.next)

pub returns-clause-digits : goal.returns-clause-digits
returns-clause-digits c =
    rw c.split_at-2.ensures.front (All-take (λ b. is_ascii_digit b ≡ true) c.split_at.result.1.now c.front_len-end.result c.front_len-end.ensures.front)

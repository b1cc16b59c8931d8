use Rattle.zeb_change.proofs.Cited.{◌%◌, ◌/◌, arith}
use Rattle.zeb_change.proofs.NoteWords.{five, narrow, wide}
use Rattle.zeb_change.proofs.words.put_number.Goals as goal

pub returns-then-number-from : goal.returns-then-number-from
returns-then-number-from c = rw (narrow c.args.number (omega arith)) c.in_ok-push.ensures.ok

pub returns : goal.returns
returns c =
    let n = c.args.number in
    rw (wide n (omega arith), c.in_ok-push-6.ensures.ok, c.in_ok-push-5.ensures.ok, c.in_ok-push-4.ensures.ok, c.in_ok-push-3.ensures.ok, c.in_ok-push-2.ensures.ok)
    (five c.args.words.now.items 65535 (n % 65536) (n / 65536 % 65536) (n / 65536 / 65536 % 65536) (n / 65536 / 65536 / 65536))

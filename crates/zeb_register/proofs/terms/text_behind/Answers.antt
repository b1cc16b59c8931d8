use Rattle.zeb_register.proofs.PlainTerms.{behind_down, behind_up}
use Rattle.zeb_register.proofs.terms.text_behind.Goals as goal

pub returns-in-Up : goal.returns-in-Up
returns-in-Up c = rw c.in-Up.is (behind_up c.args.term.now c.text_above.result c.text_above.ensures)

pub returns-in-Down : goal.returns-in-Down
returns-in-Down c = rw c.in-Down.is (behind_down c.args.term.now c.from_str.result c.from_str.ensures.ok)

use Rattle.zeb_change.proofs.NoteWords.{takes_change}
use Rattle.zeb_change.proofs.key_notes.take_change.Goals as goal

pub returns-clause-told : goal.returns-clause-told
returns-clause-told c =
    let old = c.take_number-old.result in
    let new = c.take_number-new.result in
    takes_change c.args.words.now c.take_number-sysno.result.1.now old.1.now new.1.now c.in_ok-left.left.now c.in_ok-left-2.left.now c.take_number-sysno.result.0 old.0 new.0
    c.args.places.now.items c.take_places.new.places.items c.take_places-2.new.places.items c.args.counts.now.items c.push.new.self.items
    c.take_number-sysno.ensures c.take_number-old.ensures c.take_number-new.ensures c.in_ok-left.ensures c.in_ok-left-2.ensures c.in_ok-push.ensures.items

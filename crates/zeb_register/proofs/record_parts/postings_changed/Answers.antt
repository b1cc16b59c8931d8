-- What comes last is put behind the list; another change is as one among others.
use Rattle.zeb_register.proofs.Cited.{List, Posting, Vec, Global, ◌≢◌, subst, places_in, ComesLast, TurnsPlaces}
use Rattle.zeb_register.proofs.LastPlaces.{last_lies, last_turned}
use Rattle.zeb_register.specs.Answers.{Answers, IfRowDamaged}
use Rattle.zeb_register.proofs.record_parts.postings_changed.Goals as goal

pub returns-then-comes_last-clause-turned : goal.returns-then-comes_last-clause-turned
returns-then-comes_last-clause-turned c =
    let last = subst (ComesLast c.args.change.now) c.deref.ensures.value (c.comes_last.ensures c.if-comes_last.true) in
    last_turned c.args.change.now c.args.list.items c.requires.lies c.requires.stored last c.in_ok-with_places.field-0.items c.in_ok-with_places.ensures

pub returns-then-comes_last-clause-lies : goal.returns-then-comes_last-clause-lies
returns-then-comes_last-clause-lies c =
    let last = subst (ComesLast c.args.change.now) c.deref.ensures.value (c.comes_last.ensures c.if-comes_last.true) in
    last_lies c.args.change.now c.args.list.items c.requires.lies c.requires.stored last c.in_ok-with_places.field-0.items c.in_ok-with_places.ensures

pub returns-clause-turned : goal.returns-clause-turned
returns-clause-turned c =
    let change = c.args.change.now in
    subst (λ (l : List Posting). Answers (IfRowDamaged (places_in change.sysno l ≢ change.old.now)) (λ (next : Vec Posting Global). TurnsPlaces change l next.items) c.postings_parted.result) c.deref-2.ensures.value c.postings_parted.ensures.turned

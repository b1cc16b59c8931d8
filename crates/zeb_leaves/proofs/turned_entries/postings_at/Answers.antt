use Rattle.zeb_leaves.proofs.Cited.{sym, subst, SayPart}
use Rattle.zeb_leaves.proofs.HandedOn.{answers_so}
use Rattle.zeb_leaves.proofs.TurnedEntries.{said_by, said_none}
use Rattle.zeb_leaves.proofs.turned_entries.postings_at.Goals as goal

pub returns-in-Some : goal.returns-in-Some
returns-in-Some c =
    let e = c.in-Some.entry.now in
    let there = c.in-Some.ensures in
    answers_so _ _ _ _ c.entry_said.result (λ fault refused told part say. refused told part (say.said e there.0 there.1))
    (λ list says. said_by c.args.entries.now c.args.key.term.now c.args.key.block list.items e c.requires there.0 there.1 says) c.entry_said.ensures

pub returns-in-None : goal.returns-in-None
returns-in-None c =
    subst (SayPart c.args.entries.now c.args.key.term.now c.args.key.block) (sym c.new.ensures.items) (said_none c.args.entries.now c.args.key.term.now c.args.key.block c.in-None.ensures)

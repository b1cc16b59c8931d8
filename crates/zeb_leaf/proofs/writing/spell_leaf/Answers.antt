-- Of a rising list each entry may come behind those before it.
use Rattle.zeb_leaf.proofs.Cited.{◌<◌, length, take, sym, subst, arith, Entry, Follows, Draft, first_place, last_place}
use Rattle.zeb_leaf.proofs.Pushing.{next_follows}
use Rattle.zeb_leaf.proofs.writing.spell_leaf.Goals as goal

pub push-requires : goal.push-requires
push-requires c =
    let entries = c.args.entries.now in
    let i = c.loop-entry.entry-index in
    let below : i < length entries = omega arith in
    let next = next_follows entries i c.entry-item.result below c.requires.rising c.requires.each in
    let here = subst (λ (e : Entry). Follows (last_place first_place (take i entries)) e) (sym c.entry-item.is) next in
    subst (λ (w : Draft). Follows w.place c.entry-item.result) (sym c.loop-entry.invariant) here

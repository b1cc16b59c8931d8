use Rattle.zeb_change.proofs.Cited.{◌∙◌, inl, inr, refl, sym}
use Rattle.zeb_change.proofs.KeyEquality.{places_same, places_differ}
use Rattle.zeb_change.proofs.changed_keys.note.Goals as goal

pub returns-in_ok-push : goal.returns-in_ok-push
returns-in_ok-push c one two =
    let differ = places_differ c.args.key.now c.args.old.now c.args.new.now one two (sym c.if-ne.true ∙ c.ne.ensures) in
    inr (differ, (record { key = c.args.key; old = c.args.old; new = c.args.new }, c.in_ok-push.ensures.items, refl, refl, refl))

pub returns-else-ne : goal.returns-else-ne
returns-else-ne c one two = inl (places_same c.args.key.now c.args.old.now c.args.new.now one two (sym c.if-ne.false ∙ c.ne.ensures), refl)

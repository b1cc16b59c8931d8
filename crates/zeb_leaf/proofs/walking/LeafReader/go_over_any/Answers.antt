-- Where no parts stand at the front of what is left, no entry does.
use Rattle.zeb_leaf.proofs.Cited.{◌≡◌, ◌∙◌, [], ap, subst, sym, Walk, IsStuck}
use Rattle.zeb_leaf.proofs.OneEntry.{stuck_unread}
use Rattle.zeb_leaf.proofs.walking.LeafReader.go_over_any.Goals as goal

pub returns-in_default-clause-answers : goal.returns-in_default-clause-answers
returns-in_default-clause-answers c =
    let walk : Walk = record { place = record { term = c.self.inside.term; least = c.self.inside.least }; left = c.self.inside.left.now } in
    let some : ¬ (walk.left ≡ []) = λ none. c.requires (sym (ap (λ (w : Walk). w.left) c.self.view_is) ∙ none) in
    subst IsStuck c.self.view_is (stuck_unread walk some c.in_default.ensures)

use Rattle.zeb_search.proofs.Cited.{◌∙◌, ◌++◌, List, ℕ, sym, ap, subst, ArePostings, Has, HasWithin}
use Rattle.zeb_search.proofs.SeparatedPostings.{on_added, followed_added}
use Rattle.zeb_search.proofs.distances.add_followed.Goals as goal

pub returns : goal.returns
returns c = λ up down.
    let are : ArePostings (λ p. Has c.args.postings.now p × HasWithin c.args.words c.args.others.now p) c.deref.result.now =
    subst (ArePostings (λ p. Has c.args.postings.now p × HasWithin c.args.words c.args.others.now p)) (sym c.deref.ensures.value) (c.in_ok-found.ensures up down) in
    on_added _ c.extend_from_slice.new.self.items (c.args.numbers.now.items ++ c.deref-2.result.now) c.args.numbers.now.items c.extend_from_slice.result c.extend_from_slice.ensures.items
    (λ is. followed_added c.args.words c.args.postings.now c.args.others.now c.deref.result.now c.args.numbers.now.items c.in_ok-more.more.items c.extend_from_slice.new.self.items
    are (c.in_ok-more.ensures are.rising) (is ∙ ap (λ (l : List ℕ). c.args.numbers.now.items ++ l) c.deref-2.ensures.value))

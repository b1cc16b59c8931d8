use Rattle.zeb_search.proofs.Cited.{◌++◌, ◌∷◌, [], refl, sym, subst, AreTaken, IsWanted}
use Rattle.zeb_search.proofs.TermLemmas.{none_taken, one_left, one_taken}
use Rattle.zeb_search.proofs.keys.keys_of.Goals as goal

pub loop-term-init : goal.loop-term-init
loop-term-init c = subst (AreTaken c.args.index c.args.register c.args.wanted []) (sym c.new-keys.ensures.items) (none_taken c.args.index c.args.register c.args.wanted)

pub loop-term-preserved-in-Continue-1 : goal.loop-term-preserved-in-Continue-1
loop-term-preserved-in-Continue-1 c =
    let t = c.in-Some.field-0 in
    let wanted : IsWanted c.args.wanted t.term = subst (IsWanted c.args.wanted) c.as_str.ensures (c.if-takes.ensures.0 refl) in
    subst (AreTaken c.args.index c.args.register c.args.wanted (c.loop-term.yielded ++ t ∷ [])) (sym c.in_ok-push.ensures.items)
    (one_taken c.args.index c.args.register c.args.wanted c.loop-term.yielded c.loop-term.keys.items t wanted c.loop-term.invariant)

pub loop-term-preserved-else-takes : goal.loop-term-preserved-else-takes
loop-term-preserved-else-takes c =
    one_left c.args.index c.args.register c.args.wanted c.loop-term.yielded c.loop-term.keys.items c.in-Some.field-0
    (λ wanted. let never = c.if-takes.ensures.1 (subst (IsWanted c.args.wanted) (sym c.as_str.ensures) wanted) in cc) c.loop-term.invariant

pub loop-term-preserved : goal.loop-term-preserved
loop-term-preserved c =
    one_left c.args.index c.args.register c.args.wanted c.loop-term.yielded c.loop-term.keys.items c.in-Some.field-0
    (λ wanted. let never = c.if-takes.ensures.1 (subst (IsWanted c.args.wanted) (sym c.as_str.ensures) wanted) in cc) c.loop-term.invariant

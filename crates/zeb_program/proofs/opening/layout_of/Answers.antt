use Rattle.zeb_program.proofs.Cited.{state, refl, subst, sym, TellsLayout, UsedAs, Leaves, packed_leaves}
use Rattle.zeb_program.proofs.LayoutLemmas.{unlooked}
use Rattle.zeb_program.proofs.opening.layout_of.Goals as goal

pub returns-in-Leaves-clause-told : goal.returns-in-Leaves-clause-told
returns-in-Leaves-clause-told g c = λ clean.
    subst (λ choice. UsedAs choice (state g.S.Store c.args.session.now.connection) packed_leaves) (sym c.in-Leaves.is) refl

pub returns-in-Leaves-clause-looked : goal.returns-in-Leaves-clause-looked
returns-in-Leaves-clause-looked g c = unlooked (state g.S.Store c.args.session.now.connection) Leaves

pub returns-in-Unsaid-clause-told : goal.returns-in-Unsaid-clause-told
returns-in-Unsaid-clause-told g c = λ clean.
    subst (λ choice. TellsLayout choice (state g.S.Store c.kept_layout.new.session.connection) c.kept_layout.result) (sym c.in-Unsaid.is) (c.kept_layout.ensures.told clean)

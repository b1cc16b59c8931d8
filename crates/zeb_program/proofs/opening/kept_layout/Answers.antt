use Rattle.zeb_program.proofs.Cited.{state, ◌∙◌, ap, Ok, Err, Blocks, Leaves}
use Rattle.zeb_change.specs.declared.refusals.Refusal.TheVariants.{Memory, Store}
use Rattle.zeb_program.proofs.LayoutLemmas.{failed_so, keeps_leaves, lacks_leaves, looked_once, unread_leaves}
use Rattle.zeb_program.proofs.opening.kept_layout.Goals as goal

pub returns-in-Ok-true-clause-told : goal.returns-in-Ok-true-clause-told
returns-in-Ok-true-clause-told g c = λ clean.
    keeps_leaves (state g.S.Store c.args.session.now.connection) (state g.S.Store c.keeps_layout.new.self.connection) c.keeps_layout.result (c.keeps_layout.ensures.tells clean) (c.keeps_layout.ensures.looks clean).nothing
    (c.in-Ok-true.is ∙ ap Ok c.in-Ok-true.field-0-test)

pub returns-in-Ok-false-clause-told : goal.returns-in-Ok-false-clause-told
returns-in-Ok-false-clause-told g c = λ clean.
    lacks_leaves (state g.S.Store c.args.session.now.connection) (state g.S.Store c.keeps_layout.new.self.connection) c.keeps_layout.result (c.keeps_layout.ensures.tells clean) (c.keeps_layout.ensures.looks clean).nothing
    (c.in-Ok-false.is ∙ ap Ok c.in-Ok-false.field-0-test)

pub returns-in-Err-Damaged-clause-told : goal.returns-in-Err-Damaged-clause-told
returns-in-Err-Damaged-clause-told g c = λ clean.
    unread_leaves (state g.S.Store c.args.session.now.connection) (state g.S.Store c.keeps_layout.new.self.connection) c.keeps_layout.result (c.keeps_layout.ensures.tells clean) (c.keeps_layout.ensures.looks clean).nothing
    (c.in-Err-Damaged.is ∙ ap Err c.in-Err-Damaged.field-0-is)

pub returns-in-Ok-true-clause-looked : goal.returns-in-Ok-true-clause-looked
returns-in-Ok-true-clause-looked g c = looked_once (state g.S.Store c.args.session.now.connection) (state g.S.Store c.keeps_layout.new.self.connection) c.keeps_layout.result (Ok Leaves) c.keeps_layout.ensures.looks c.keeps_layout.ensures.lasts (λ caused store. tt)

pub returns-in-Ok-false-clause-looked : goal.returns-in-Ok-false-clause-looked
returns-in-Ok-false-clause-looked g c = looked_once (state g.S.Store c.args.session.now.connection) (state g.S.Store c.keeps_layout.new.self.connection) c.keeps_layout.result (Ok Blocks) c.keeps_layout.ensures.looks c.keeps_layout.ensures.lasts (λ caused store. tt)

pub returns-in-Err-Damaged-clause-looked : goal.returns-in-Err-Damaged-clause-looked
returns-in-Err-Damaged-clause-looked g c = looked_once (state g.S.Store c.args.session.now.connection) (state g.S.Store c.keeps_layout.new.self.connection) c.keeps_layout.result (Ok Blocks) c.keeps_layout.ensures.looks c.keeps_layout.ensures.lasts (λ caused store. tt)

pub returns-in-Err-Store-clause-looked : goal.returns-in-Err-Store-clause-looked
returns-in-Err-Store-clause-looked g c = looked_once (state g.S.Store c.args.session.now.connection) (state g.S.Store c.keeps_layout.new.self.connection) c.keeps_layout.result (Err Store) c.keeps_layout.ensures.looks c.keeps_layout.ensures.lasts
    (failed_so (state g.S.Store c.args.session.now.connection) (state g.S.Store c.keeps_layout.new.self.connection) c.keeps_layout.result Store (c.in-Err-Store.is ∙ ap Err c.in-Err-Store.field-0-is))

pub returns-clause-looked : goal.returns-clause-looked
returns-clause-looked g c = looked_once (state g.S.Store c.args.session.now.connection) (state g.S.Store c.keeps_layout.new.self.connection) c.keeps_layout.result (Err Memory) c.keeps_layout.ensures.looks c.keeps_layout.ensures.lasts (λ caused store is. absurd cc)

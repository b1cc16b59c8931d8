use Rattle.zeb_query.proofs.Cited.{◌∙◌, ap, fault, Structures}
use Rattle.zeb_query.proofs.GrammarLemmas.{spells_whole, ended, handed_on, fault_behind, unended}
use Rattle.zeb_query.proofs.grammar.query.Goals as goal

pub returns : goal.returns
returns c =
    let rest = c.in_ok-tree.rest in
    let nothing = ended rest c.if-not-is_empty.ensures in (
      spells_whole _ c.in_ok-attrset.rest rest _ _ c.in_ok-attrset.ensures.spelled c.in_ok-tree.ensures.spelled nothing,
      c.in_ok-attrset.ensures.goes 0 ∙ c.in_ok-tree.ensures.goes 0 ∙ ap (λ words. fault rest.end rest.room (Structures 0) words) nothing,
    )

pub returns-in_err-attrset : goal.returns-in_err-attrset
returns-in_err-attrset c = handed_on c.from_residual.result _ _ _ c.from_residual.ensures.1 (c.in_err-attrset.ensures 0)

pub returns-in_err-tree : goal.returns-in_err-tree
returns-in_err-tree c =
    handed_on c.from_residual-in_err-tree.result _ _ _ c.from_residual-in_err-tree.ensures.1 (fault_behind _ (c.in_ok-attrset.ensures.goes 0) (c.in_err-tree.ensures 0))

pub returns-then-not-is_empty : goal.returns-then-not-is_empty
returns-then-not-is_empty c =
    let rest = c.in_ok-tree.rest in
    fault_behind _ (c.in_ok-attrset.ensures.goes 0 ∙ c.in_ok-tree.ensures.goes 0 ∙ unended rest.end rest.room rest.words.now c.if-not-is_empty.ensures) c.unspelled.ensures

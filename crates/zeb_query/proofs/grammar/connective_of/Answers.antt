use Rattle.zeb_query.proofs.Cited.{◌∙◌, refl, ap, sym, suc, first_keyword, word_of}
use Rattle.zeb_query.proofs.GrammarLemmas.{operator_read, operator_crowded, proximity_goes, proximity_with, no_parameters, handed_on, fault_behind, told_as}
use Rattle.zeb_query.proofs.grammar.connective_of.Goals as goal

pub returns-in-Some : goal.returns-in-Some
returns-in-Some c =
    let reads = c.in_ok-word.ensures in
    operator_read c.args.operator c.args.rest c.in_ok-word.after _ (word_of c.in_ok-word.word.now) _ _ reads
    (sym (ap first_keyword reads.is) ∙ c.requires) c.if-after-eq0.false (sym c.in-Some.ensures) (no_parameters _)

pub returns-in_ok-parameters-in-None : goal.returns-in_ok-parameters-in-None
returns-in_ok-parameters-in-None c =
    let reads = c.in_ok-word.ensures in
    operator_read c.args.operator c.args.rest c.in_ok-word.after _ (word_of c.in_ok-word.word.now) _ _ reads
    (sym (ap first_keyword reads.is) ∙ c.requires) c.if-after-eq0.false (proximity_with c.args.operator _ _ (sym c.in-None.ensures) refl) c.in_ok-parameters-in-None.ensures

pub returns-then-after-eq0 : goal.returns-then-after-eq0
returns-then-after-eq0 c = λ n.
    let reads = c.in_ok-word.ensures in
    told_as c.refused.result 6 c.in_ok-word.word.now.place _ c.refused.ensures
    (operator_crowded c.args.operator c.args.rest c.in_ok-word.after (word_of c.in_ok-word.word.now) reads (sym (ap first_keyword reads.is) ∙ c.requires) c.if-after-eq0.true n)

pub returns-in_err-parameters-in-None : goal.returns-in_err-parameters-in-None
returns-in_err-parameters-in-None c =
    let reads = c.in_ok-word.ensures in
    handed_on c.from_residual-in_err-parameters-in-None.result _ _ _ c.from_residual-in_err-parameters-in-None.ensures.1 (λ n. fault_behind _
    (proximity_goes c.args.operator c.args.rest c.in_ok-word.after (word_of c.in_ok-word.word.now) reads (sym (ap first_keyword reads.is) ∙ c.requires) c.if-after-eq0.false (sym c.in-None.ensures) n)
    (c.in_err-parameters-in-None.ensures (suc (suc n))))

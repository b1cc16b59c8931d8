use Rattle.zeb_program.proofs.Cited.{◌≡◌, ◌∙◌, Err, None, Ok, ap, inl, refl, rules, string_bytes, subst, sym, IfOk, IsOkAnd, StandsFor, IsServedFor, warned_in, MayWarn}
use Rattle.zeb_program.proofs.WarningLemmas.{shown_warned, warned}
use Rattle.zeb_program.proofs.performing.told_of.Goals as goal

pub returns-in_ok-render-in-Ok-Replied-clause-gives : goal.returns-in_ok-render-in-Ok-Replied-clause-gives
returns-in_ok-render-in-Ok-Replied-clause-gives g c = λ own stands.
    let it = subst (λ served. StandsFor served own) (c.in-Ok-Replied.is ∙ ap Ok c.in-Ok-Replied.field-0-is) stands in
    let text = rw c.in-Ok-Replied.field-0-is at c.in_ok-render-in-Ok-Replied.ensures in
    (c.in-Ok-Replied.reply, text, inl (sym it))

pub returns-in_ok-render-in-Ok-Replied-clause-warned : goal.returns-in_ok-render-in-Ok-Replied-clause-warned
returns-in_ok-render-in-Ok-Replied-clause-warned g c =
    subst (λ served. IsOkAnd served (λ it. None ≡ warned_in it)) (sym (c.in-Ok-Replied.is ∙ ap Ok c.in-Ok-Replied.field-0-is)) refl

pub returns-in_ok-warning-in-Ok-Shown-clause-warned : goal.returns-in_ok-warning-in-Ok-Shown-clause-warned
returns-in_ok-warning-in-Ok-Shown-clause-warned g c =
    let places = rw c.in-Ok-Shown.field-0-is at c.deref.ensures.value in
    let records = rw c.in-Ok-Shown.field-0-is at c.records.ensures in
    shown_warned c.args.served c.in-Ok-Shown.lines c.in-Ok-Shown.unmarked _ _ _ (c.in-Ok-Shown.is ∙ ap Ok c.in-Ok-Shown.field-0-is)
    places records c.in_ok-warning-in-Ok-Shown.ensures

pub returns-in_ok-warning-in-Ok-Shown-clause-warns : goal.returns-in_ok-warning-in-Ok-Shown-clause-warns
returns-in_ok-warning-in-Ok-Shown-clause-warns g c =
    subst (MayWarn c.args.task.now) (sym c.in_ok-warning-in-Ok-Shown.ensures)
    (warned c.args.task.now _ _ (subst (λ served. IfOk served (IsServedFor c.args.task.now)) (c.in-Ok-Shown.is ∙ ap Ok c.in-Ok-Shown.field-0-is) c.requires.shown))

pub returns-in_ok-warning-in-Ok-Shown-clause-gives : goal.returns-in_ok-warning-in-Ok-Shown-clause-gives
returns-in_ok-warning-in-Ok-Shown-clause-gives g c = λ own stands.
    let it = subst (λ served. StandsFor served own) (c.in-Ok-Shown.is ∙ ap Ok c.in-Ok-Shown.field-0-is) stands in
    let same : c.into_bytes.result.items ≡ string_bytes c.in-Ok-Shown.lines.text = search rules in
    (it.0, same ∙ it.2, inl (sym it.1))

pub returns-in_ok-explained-in-Err-clause-gives : goal.returns-in_ok-explained-in-Err-clause-gives
returns-in_ok-explained-in-Err-clause-gives g c = λ own stands.
    let it = subst (λ served. StandsFor served own) c.in-Err.is stands in
    inl (ap Err c.in_ok-explained-in-Err.ensures.fault ∙ sym it)

use Rattle.zeb_program.proofs.Cited.{◌≡◌, ◌∷◌, ◌++◌, [], Err, rules, subst, sym, HasLines}
use Rattle.zeb_engine.proofs.AnalysedReplies.{refusal_stays}
use Rattle.zeb_program.proofs.analyses.with_file.Goals as goal

pub returns-in_err-lines : goal.returns-in_err-lines
returns-in_err-lines g c = λ texts number has.
    let profile = c.args.session.now.profile in
    let limit = c.args.session.now.limits.records in
    let why = c.in_err-lines.field-0.0 in
    let is : c.from_residual.result ≡ Err why = search rules in
    subst (HasLines profile limit (texts ++ c.args.bytes.now ∷ [])) (sym is)
    (refusal_stays profile limit texts why c.args.bytes.now (subst (HasLines profile limit texts) c.in_err-lines.was has))

use Rattle.zeb_engine.proofs.Cited.{◌≡◌, ◌∷◌, ◌++◌, [], Err, rules, subst, sym, index_names, HasLines, analysis_refusal}
use Rattle.zeb_engine.proofs.AnalysedReplies.{lines_refused}
use Rattle.zeb_engine.proofs.registers.Session.analyse_file.Goals as goal

pub returns-in_err-with_file : goal.returns-in_err-with_file
returns-in_err-with_file g c = λ texts number has.
    let profile = c.args.self.now.profile in
    let limit = c.args.self.now.limits.records in
    let more = texts ++ c.args.bytes.now ∷ [] in
    let fault = c.in_err-with_file.field-0.0 in
    let is : c.from_residual.result ≡ Err (analysis_refusal fault) = search rules in
    subst (HasLines profile limit more) (sym is) (lines_refused profile limit more fault (c.in_err-with_file.ensures (index_names profile) texts number has))

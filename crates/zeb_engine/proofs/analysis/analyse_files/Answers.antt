use Rattle.zeb_engine.proofs.Cited.{◌≡◌, Ok, Err, rules, ap, inl, map, analysed, analysis_refusal}
use Rattle.zeb_analysis.specs.Analysing as analysing
use Rattle.zeb_engine.proofs.AnalysisRefusals.{fault_told, fault_unread}
use Rattle.zeb_engine.proofs.analysis.analyse_files.Goals as goal

pub returns-in_err-records-clause-told : goal.returns-in_err-records-clause-told
returns-in_err-records-clause-told c =
    let told : c.from_residual.result ≡ Err (analysis_refusal c.in_err-records.field-0.0) = search rules in
    rw told (fault_told c.args.profile.now c.args.limits.records (map (λ file. file.items) c.args.files.now) c.in_err-records.field-0.0 c.in_err-records.ensures.err)

pub returns-in_err-records-clause-unread : goal.returns-in_err-records-clause-unread
returns-in_err-records-clause-unread c =
    let told : c.from_residual.result ≡ Err (analysis_refusal c.in_err-records.field-0.0) = search rules in
    rw told (fault_unread c.args.profile.now c.args.limits.records (map (λ file. file.items) c.args.files.now) c.in_err-records.field-0.0 c.in_err-records.ensures.err)

pub returns-clause-told : goal.returns-clause-told
returns-clause-told c =
    let records = map analysing.analysed c.in_ok-records.records.items in
    inl (Ok records, c.in_ok-records.ensures.ok, ap (λ names. analysed names records) c.in_ok-names.ensures)

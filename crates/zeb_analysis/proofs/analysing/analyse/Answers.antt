use Rattle.zeb_analysis.proofs.Cited.{rules, arith, ◌≡◌, ◌≢◌, ◌<◌, length, map, IfErr, Err, Some, sym, subst, Memory, analysed, first_refusal, standing_in_all}
use Rattle.zeb_analysis.proofs.FilesWalk.{file_done, file_refused}
use Rattle.zeb_analysis.proofs.analysing.analyse.Goals as goal

pub returns-in_err-analyse_file-clause-err : goal.returns-in_err-analyse_file-clause-err
returns-in_err-analyse_file-clause-err c =
    let files = c.args.files.now in
    let index = c.loop-index.index in
    let within : index < length files = omega arith in
    let whole = standing_in_all 1 (map (λ file. file.items) files) in
    let refused = c.in_err-analyse_file.field-0.0 in
    let result : c.from_residual-in_err-analyse_file.result ≡ Err refused = search rules in
    subst (λ r. IfErr r (λ fault. fault ≢ Memory → first_refusal c.args.profile.now c.args.limit 0 whole ≡ Some fault)) (sym result)
    (λ other. file_refused (λ file. file.items) files index c.index-files-index.result within c.index-files-index.is c.args.profile.now c.args.limit whole
    (map analysed c.loop-index.analyses.items) c.loop-index.invariant c.deref.result.now refused c.deref.ensures.value (c.in_err-analyse_file.ensures.err other))

pub loop-index-preserved : goal.loop-index-preserved
loop-index-preserved c =
    let files = c.args.files.now in
    let index = c.loop-index.index in
    let within : index < length files = omega arith in
    let whole = standing_in_all 1 (map (λ file. file.items) files) in
    file_done (λ file. file.items) files index c.index-files-index.result within c.index-files-index.is c.args.profile.now c.args.limit whole
    (map analysed c.loop-index.analyses.items) c.loop-index.invariant c.deref.result.now (map analysed c.analyse_file.new.analyses.items) c.deref.ensures.value c.in_ok-analyse_file.ensures.ok

use Rattle.zeb_analysis.proofs.Cited.{rules, arith, ◌≡◌, ◌≢◌, ◌∙◌, length, map, IfErr, Ok, Err, Some, sym, ap, subst, next_of, AnalysesNext, Memory, analysed, first_refusal, place_at}
use Rattle.zeb_analysis.specs.Analysing.{standing_in}
use Rattle.zeb_analysis.proofs.AnalysesWalk.{Walked, file_ends, file_goes_on, file_is_refused, walk_begins}
use Rattle.zeb_analysis.proofs.FileWalk.{left_is_shorter}
use Rattle.zeb_analysis.proofs.analysing.analyse_file.Goals as goal

pub loop-analysis-init : goal.loop-analysis-init
loop-analysis-init c = record {
  under =
      let old = c.args.analyses.now.items in
      subst (λ left. Walked c.args.setting.now c.args.file c.args.bytes.now 1 left old old) (sym c.new-left.ensures)
      (walk_begins c.args.setting.now c.args.file c.args.bytes.now old);
  room = omega (arith, ap length c.new-left.ensures);
}

pub returns-in_err-analysis-clause-err : goal.returns-in_err-analysis-clause-err
returns-in_err-analysis-clause-err c =
    let setting = c.args.setting.now in
    let old = c.args.analyses.now.items in
    let refused = c.in_err-analysis.field-0.0 in
    let many : c.len.result ≡ length c.loop-analysis.analyses.items = c.len.ensures ∙ c.loop-analysis.analyses.ok.0 in
    let result : c.from_residual.result ≡ Err refused = search rules in
    subst (λ r. IfErr r (λ fault. fault ≢ Memory → first_refusal setting.profile.now setting.limit (length (map analysed old)) (standing_in c.args.file c.args.bytes.now) ≡ Some fault)) (sym result)
    (λ other. file_is_refused setting c.args.file c.args.bytes.now old c.loop-analysis.nth c.loop-analysis.left c.loop-analysis.analyses.items c.loop-analysis.invariant.under c.len.result many c.analyse_next.new.left refused other
    c.in_err-analysis.ensures)

pub returns-clause-ok : goal.returns-clause-ok
returns-clause-ok c =
    let setting = c.args.setting.now in
    let old = c.args.analyses.now.items in
    let many : c.len.result ≡ length c.loop-analysis.analyses.items = c.len.ensures ∙ c.loop-analysis.analyses.ok.0 in
    file_ends setting c.args.file c.args.bytes.now old c.loop-analysis.nth c.loop-analysis.left c.loop-analysis.analyses.items c.loop-analysis.invariant.under c.len.result many c.analyse_next.new.left
    (subst (λ found. AnalysesNext setting c.len.result (place_at c.args.file c.loop-analysis.nth) (next_of c.loop-analysis.left) (Ok found) c.analyse_next.new.left) c.in_default.is c.in_ok-analysis.ensures)

pub loop-analysis-smaller : goal.loop-analysis-smaller
loop-analysis-smaller c =
    let found = subst (λ found. AnalysesNext c.args.setting.now c.len.result (place_at c.args.file c.loop-analysis.nth) (next_of c.loop-analysis.left) (Ok found) c.analyse_next.new.left) c.in-Some.is c.in_ok-analysis.ensures in
    omega (arith, left_is_shorter c.args.setting.now c.len.result c.args.file c.loop-analysis.nth c.loop-analysis.left c.analyse_next.new.left c.in-Some.analysis found)

pub loop-analysis-preserved : goal.loop-analysis-preserved
loop-analysis-preserved c =
    let setting = c.args.setting.now in
    let old = c.args.analyses.now.items in
    let many : c.len.result ≡ length c.loop-analysis.analyses.items = c.len.ensures ∙ c.loop-analysis.analyses.ok.0 in
    let found = subst (λ found. AnalysesNext setting c.len.result (place_at c.args.file c.loop-analysis.nth) (next_of c.loop-analysis.left) (Ok found) c.analyse_next.new.left) c.in-Some.is c.in_ok-analysis.ensures in
    let shorter = left_is_shorter setting c.len.result c.args.file c.loop-analysis.nth c.loop-analysis.left c.analyse_next.new.left c.in-Some.analysis found in
    record {
      under = file_goes_on setting c.args.file c.args.bytes.now old c.loop-analysis.nth c.loop-analysis.left c.loop-analysis.analyses.items c.loop-analysis.invariant.under c.len.result many c.analyse_next.new.left
          c.in-Some.analysis c.push.new.self.items c.in_ok-push.ensures.items found;
      room = omega (arith, shorter, c.loop-analysis.invariant.room);
    }

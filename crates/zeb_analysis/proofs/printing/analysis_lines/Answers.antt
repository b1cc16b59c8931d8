use Rattle.zeb_analysis.proofs.Cited.{◌≡◌, ◌∙◌, ◌++◌, ◌<◌, length, map, string_bytes, ap, arith, analysed, occurrence_line, record_line}
use Rattle.zeb_analysis.proofs.PrintedLines.{one_more_line}
use Rattle.zeb_analysis.proofs.printing.analysis_lines.Goals as goal

pub loop-occurrence-preserved : goal.loop-occurrence-preserved
loop-occurrence-preserved c =
    let names = map string_bytes c.args.names.now in
    let these = c.deref-occurrence-items.result.now in
    let within : c.loop-occurrence.occurrence-index < length these = omega arith in
    let line : c.as_str.result.now ≡ occurrence_line names c.occurrence-item.result = c.as_str.ensures.value ∙ c.in_ok-occurrence_text.ensures in
    c.in_ok-push_str.ensures.bytes
    ∙ ap (λ text. text ++ c.as_str.result.now) c.loop-occurrence.invariant
    ∙ one_more_line (occurrence_line names) (record_line (analysed c.args.analysis.now)) these c.loop-occurrence.occurrence-index c.occurrence-item.result c.as_str.result.now within c.occurrence-item.is line

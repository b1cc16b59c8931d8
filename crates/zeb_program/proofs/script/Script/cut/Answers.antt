use Rattle.zeb_program.proofs.Cited.{◌∙◌, sym, refl, ap, ◌≡◌, Bool, true, false, bytes_eq-Decides, codes, without_blanks}
use Rattle.zeb_program.proofs.ScriptLemmas.{reached_start, reached_next, reached_boundary, reached_divider, reached_end, after_first_line-IsUtf8, not_empty, is_empty}
use Rattle.zeb_program.proofs.script.Script.cut.Goals as goal

pub loop-rest-init : goal.loop-rest-init
loop-rest-init c = (c.utf8.text, reached_start c.args.text.now)

pub split_at-requires : goal.split_at-requires
split_at-requires c = reached_boundary c.loop-rest.lines_before c.args.text.now c.loop-rest.rest.now c.loop-rest.invariant.1 c.loop-rest.invariant.0

pub returns-then-eq-clause-divided : goal.returns-then-eq-clause-divided
returns-then-eq-clause-divided c =
    let line = sym (c.without_blanks.ensures ∙ ap without_blanks c.cut_line.ensures.line) ∙ ((bytes_eq-Decides c.without_blanks.result.now (codes ".")).0 (sym c.if-eq.ensures)) in
    rw c.cut_line.ensures.rest (reached_divider c.loop-rest.lines_before c.args.text.now c.loop-rest.rest.now c.split_at.result.0.now c.loop-rest.invariant.1 c.split_at.ensures.front line)

differs : {b : Bool} → b ≡ false → b ≡ true → ⊥
differs e f = cc

pub loop-rest-preserved : goal.loop-rest-preserved
loop-rest-preserved c =
    let text = after_first_line-IsUtf8 c.loop-rest.rest.now c.loop-rest.invariant.0 in
    rw c.cut_line.ensures.rest (text, reached_next c.loop-rest.lines_before c.args.text.now c.loop-rest.rest.now c.loop-rest.invariant.1 (not_empty c.loop-rest.rest.now c.loop-rest-test.ensures) (λ divider. absurd (differs (sym c.if-eq.ensures) ((bytes_eq-Decides c.without_blanks.result.now (codes ".")).1 (c.without_blanks.ensures ∙ ap without_blanks c.cut_line.ensures.line ∙ divider)))))

pub returns-clause-undivided : goal.returns-clause-undivided
returns-clause-undivided c = (reached_end c.loop-rest.lines_before c.args.text.now c.loop-rest.rest.now c.loop-rest.invariant.1 (is_empty c.loop-rest.rest.now c.loop-rest-test.ensures), refl)

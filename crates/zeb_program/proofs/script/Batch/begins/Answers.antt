use Rattle.zeb_program.proofs.Cited.{◌≡◌, ◌∙◌, Bool, ap, false, rules, subst, sym, true, bytes_eq-Decides, codes, IsUtf8, BeginsRegister, without_blanks}
use Rattle.zeb_program.proofs.PathLemmas.{begins_here, begins_later, begins_none, begins_rest}
use Rattle.zeb_program.proofs.ScriptLemmas.{after_first_line-IsUtf8, is_empty}
use Rattle.zeb_program.proofs.script.Batch.begins.Goals as goal

pub loop-rest-init : goal.loop-rest-init
loop-rest-init c = record { text = search rules; none = λ none. none; some = λ some. some }

differs : {b : Bool} → b ≡ false → b ≡ true → ⊥
differs e f = cc

pub loop-rest-preserved : goal.loop-rest-preserved
loop-rest-preserved c =
    let rest = c.loop-rest.rest.now in
    record {
      text = subst IsUtf8 (sym c.cut_line.ensures.rest) (after_first_line-IsUtf8 rest c.loop-rest.invariant.text);
      none = λ none. c.loop-rest.invariant.none (begins_rest rest
          (λ is. differs (sym c.if-eq.ensures) ((bytes_eq-Decides c.without_blanks.result.now (codes "init")).1 (c.without_blanks.ensures ∙ ap without_blanks c.cut_line.ensures.line ∙ is)))
          (subst (λ after. ¬ BeginsRegister after) c.cut_line.ensures.rest none));
      some = λ some. c.loop-rest.invariant.some (begins_later rest (subst BeginsRegister c.cut_line.ensures.rest some));
    }

pub returns-clause-none : goal.returns-clause-none
returns-clause-none c = λ _. c.loop-rest.invariant.none (subst (λ rest. ¬ BeginsRegister rest) (sym (is_empty c.loop-rest.rest.now c.loop-rest-test.ensures)) begins_none)

pub returns-then-eq-clause-some : goal.returns-then-eq-clause-some
returns-then-eq-clause-some c = λ _.
    c.loop-rest.invariant.some (begins_here c.loop-rest.rest.now
    (sym (c.without_blanks.ensures ∙ ap without_blanks c.cut_line.ensures.line) ∙ (bytes_eq-Decides c.without_blanks.result.now (codes "init")).0 (sym c.if-eq.ensures)))

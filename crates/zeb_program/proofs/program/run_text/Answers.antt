use Rattle.zeb_program.proofs.Cited.{[], subst, IsOk, telling_of, profile_of}
use Rattle.zeb_program.specs.ScriptAnswers.{alone, fault_line}
use Rattle.zeb_program.proofs.ScriptAnswerLemmas.{is_given, cut_profile, faulty_script, ran_script}
use Rattle.zeb_program.proofs.SinkLemmas.{sends_so, sent_none}
use Rattle.zeb_program.proofs.program.run_text.Goals as goal

pub returns-in-Some : goal.returns-in-Some
returns-in-Some g c =
    let divides = rw c.in-Some.is at c.cut-script.ensures.divided in
    sends_so c.args.output.now c.run_in_memory.new.output _ _ (λ bytes answers. ran_script (telling_of g.P.Paths c.args.paths.now) c.args.text.now _ _ bytes _ _ c.run_in_memory.result c.requires divides c.in-Ok.ensures answers) c.run_in_memory.ensures

pub returns-in-None : goal.returns-in-None
returns-in-None g c =
    let uncut = rw c.in-None.is at c.cut-script.ensures.undivided in
    ([], alone c.requires uncut.0 (subst (λ t. IsOk (profile_of t)) uncut.1 (is_given (profile_of c.cut-script.result.profile.now) _ c.in-Ok.ensures)), sent_none c.args.output.now)

pub returns-in-Err : goal.returns-in-Err
returns-in-Err g c = (
  fault_line c.in-Err.fault,
  faulty_script (telling_of g.P.Paths c.args.paths.now) c.args.text.now c.cut-script.result.profile.now c.in-Err.fault c.refuse_profile.result c.requires
      (cut_profile c.cut-script.result.batch c.args.text.now c.cut-script.result.profile.now c.cut-script.ensures.undivided c.cut-script.ensures.divided) c.in-Err.ensures c.refuse_profile.ensures.status,
  c.refuse_profile.ensures.line,
)

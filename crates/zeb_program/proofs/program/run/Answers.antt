use Rattle.zeb_program.proofs.Cited.{◌≢◌, [], length, map, refl, rules, string_bytes, sym, nil_from_length, telling_of, places_of}
use Rattle.std.proofs.lemmas.Bool.{eqb-true}
use Rattle.zeb_program.proofs.LeftLemmas.{ends_leaving}
use Rattle.zeb_program.proofs.ScriptAnswerLemmas.{ended_script, tells_at_most}
use Rattle.zeb_program.proofs.SinkLemmas.{sent_still}
use Rattle.zeb_program.proofs.WordAnswerLemmas.{ended_words}
use Rattle.zeb_program.proofs.program.run.Goals as goal

pub returns-then-is_empty-clause-script : goal.returns-then-is_empty-clause-script
returns-then-is_empty-clause-script g c = λ none.
    let answers = c.run_script-ended.ensures.answer in
    let tells = c.tell_script-status.ensures.told in
    let passed = c.finish.ensures.passed in
    let status = c.tell_script-status.result in
    let mid = c.run_script-ended.new.output in
    let sent = sent_still c.args.output.now mid c.tell_script-status.new.output answers.0 answers.2 c.tell_script-status.ensures.kept in (
      answers.0,
      tells.0,
      (
        tells_at_most c.run_script-ended.result tells.0 status tells.1,
        λ read sound quiet. ended_script (telling_of g.P.Paths c.args.files.now) (g.R.Source.remaining c.args.input.now) answers.0 tells.0 c.run_script-ended.result status c.code.result (answers.1 read) tells.1
            (rw (sym (c.finish.ensures.status.1 sound quiet)) c.code.ensures),
      ),
      sent_still c.args.output.now c.tell_script-status.new.output c.finish.new.output answers.0 sent passed.0.0,
      sent_still c.args.fault_output.now c.tell_script-status.new.fault_output c.finish.new.fault_output tells.0 tells.2 passed.1.0,
    )

pub returns-then-is_empty-clause-store : goal.returns-then-is_empty-clause-store
returns-then-is_empty-clause-store g c =
    (λ _. refl, λ some. absurd (some (nil_from_length c.args.words.now (eqb-true (length c.args.words.now) 0 (sym c.if-is_empty.ensures)))))

pub returns-clause-store : goal.returns-clause-store
returns-clause-store g c =
    let some : c.args.words.now ≢ [] = search rules in
    let answers = c.run_words-ended.ensures.answer in (
      λ none. absurd (some none),
      λ _. ends_leaving (places_of g.P.Store.Store g.P.Paths c.args.files.now c.run_words-ended.new.paths) (map string_bytes c.args.words.now) (g.R.Source.remaining c.args.input.now)
          c.args.fault_output.now c.run_words-ended.new.fault_output c.tell_starved-status.new.fault_output c.finish-2.new.fault_output answers.1
          c.run_words-ended.result c.tell_starved-status.result c.finish-2.result _ c.run_words-ended.ensures.store answers.4 c.tell_starved-status.ensures c.finish-2.ensures.passed.1.0 c.finish-2.ensures.status.0 c.code-2.ensures,
    )

pub returns-clause-words : goal.returns-clause-words
returns-clause-words g c = λ some.
    ended_words (places_of g.P.Store.Store g.P.Paths c.args.files.now c.run_words-ended.new.paths) (map string_bytes c.args.words.now) (g.R.Source.remaining c.args.input.now) (g.R.Source.remaining c.run_words-ended.new.input)
    (g.R.Source.has_failed c.run_words-ended.new.input) c.args.output.now c.run_words-ended.new.output c.finish-2.new.output c.args.fault_output.now c.run_words-ended.new.fault_output c.tell_starved-status.new.fault_output c.finish-2.new.fault_output
    c.run_words-ended.result c.tell_starved-status.result c.finish-2.result _ c.run_words-ended.ensures.answer c.tell_starved-status.ensures c.finish-2.ensures.passed.0.0 c.finish-2.ensures.passed.1.0
    c.finish-2.ensures.status.1 c.code-2.ensures

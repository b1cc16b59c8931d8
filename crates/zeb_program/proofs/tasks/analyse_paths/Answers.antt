use Rattle.zeb_program.proofs.Cited.{◌≡◌, ◌∙◌, ◌<◌, ◌^◌, Err, Ok, ap, arith, map, refl, rules, string_bytes, subst, sym, HasLines, telling_of, StandsFor, records_in, unmarked_of, warning_of}
use Rattle.zeb_engine.proofs.AnalysedReplies.{is_analysed, is_counted, is_printed, shown_reply}
use Rattle.zeb_program.specs.declared.faults.Fault.TheVariants.{Refused}
use Rattle.zeb_profile.specs.Indexes.{index_names}
use Rattle.zeb_program.proofs.WarningLemmas.{lines_counted}
use Rattle.zeb_program.proofs.OverLemmas.{analysed_over, unanalysed_over, unshown_over}
use Rattle.zeb_program.proofs.tasks.analyse_paths.Goals as goal

pub returns-in_err-lines-clause-over : goal.returns-in_err-lines-clause-over
returns-in_err-lines-clause-over g c =
    let why = c.in_err-lines.field-0.0 in
    let is : c.from_residual.result ≡ Err why = search rules in (
      Err why,
      subst (λ r. StandsFor r (Err why)) (sym is) refl,
      unanalysed_over (telling_of g.P.Paths c.args.paths.now) c.args.session.now.profile c.args.session.now.limits.records (map string_bytes c.args.named.now) why c.in_err-lines.ensures.unread,
    )

pub returns-in-Ok-clause-over : goal.returns-in-Ok-clause-over
returns-in-Ok-clause-over g c =
    let profile = c.args.session.now.profile in
    let limit = c.args.session.now.limits.records in
    let read = c.in_ok-lines.ensures.reads in
    let are = subst (HasLines profile limit read.texts) c.in-Ok.is read.lines in
    let small : limit < 2 ^ 63 = omega (arith, c.args.session.now.limits.most_records) in
    let reply = shown_reply profile limit small read.texts c.in-Ok.lines are in (
      Ok reply,
      (reply, refl, is_printed profile limit small read.texts c.in-Ok.lines are, is_counted profile limit small read.texts c.in-Ok.lines are),
      analysed_over (telling_of g.P.Paths c.args.paths.now) profile limit (map string_bytes c.args.named.now) _ read reply (is_analysed profile limit small read.texts c.in-Ok.lines are),
    )

pub returns-in-Err-clause-over : goal.returns-in-Err-clause-over
returns-in-Err-clause-over g c =
    let profile = c.args.session.now.profile in
    let limit = c.args.session.now.limits.records in
    let read = c.in_ok-lines.ensures.reads in
    let why = c.in-Err.refusal in (
      Err (Refused why),
      refl,
      unshown_over (telling_of g.P.Paths c.args.paths.now) profile limit (map string_bytes c.args.named.now) _ read why (subst (HasLines profile limit read.texts) c.in-Err.is read.lines),
    )

pub returns-in-Ok-clause-unmarked : goal.returns-in-Ok-clause-unmarked
returns-in-Ok-clause-unmarked g c = λ files known.
    let read = c.in_ok-lines.ensures.reads in
    let profile = c.args.session.now.profile in
    let limit = c.args.session.now.limits.records in
    let are = subst (HasLines profile limit read.texts) c.in-Ok.is read.lines in
    let counted = lines_counted (index_names profile) profile limit read.texts c.in-Ok.lines are in
    ap (λ these. warning_of these c.in-Ok.lines.records) read.unmarked ∙ ap (warning_of (unmarked_of 1 read.texts)) counted
    ∙ ap (λ texts. warning_of (unmarked_of 1 texts) (records_in texts)) (read.these files known)

-- of the files that were read, of folders too
pub returns-in-Ok-clause-below : goal.returns-in-Ok-clause-below
returns-in-Ok-clause-below g c =
    let read = c.in_ok-lines.ensures.reads in
    let profile = c.args.session.now.profile in
    let limit = c.args.session.now.limits.records in
    let are = subst (HasLines profile limit read.texts) c.in-Ok.is read.lines in
    let counted = lines_counted (index_names profile) profile limit read.texts c.in-Ok.lines are in
    (read.walked, read.texts, read.found, read.read, ap (λ these. warning_of these c.in-Ok.lines.records) read.unmarked ∙ ap (warning_of (unmarked_of 1 read.texts)) counted)

pub returns-in-Ok-clause-reaches : goal.returns-in-Ok-clause-reaches
returns-in-Ok-clause-reaches g c = (c.in_ok-lines.ensures.reads.walked, c.in_ok-lines.ensures.reads.found)

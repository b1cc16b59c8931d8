use Rattle.zeb_program.proofs.Cited.{state, ◌≡◌, ◌∙◌, ℕ, List, Err, ap, map, rules, string_bytes, subst, sym, IfErr, conditions, name_bytes, telling_of, AreFilesOf, ChangesOver, IsUnread, sure_bytes, version_of}
use Rattle.zeb_program.specs.FaultAnswers.{Reaches}
use Rattle.zeb_program.proofs.OverLemmas.{as_given, changed_last, changed_leaves, changed_over, changed_paths, given_reaches, given_still, unread_paths}
use Rattle.zeb_program.proofs.ReaderLemmas.{blamed_untold, sure_files, sure_given}
use Rattle.zeb_program.proofs.tasks.change_by_paths.Goals as goal
use Rattle.zeb_engine.specs.Sessions.{conditions_in}

pub returns-clause-changes : goal.returns-clause-changes
returns-clause-changes g c = λ clean.
    let format = g.L.Layout.format in
    let profile = c.args.session.now.profile in
    let limits = c.args.session.now.limits in
    let k = conditions (version_of format) profile limits in
    let old = state g.S.Store c.args.session.now.connection in
    let new = state g.S.Store c.update_from.new.self.connection in
    let at = telling_of g.P.Paths c.args.paths.now in
    let name = name_bytes c.args.database.now in
    let paths = map string_bytes c.args.named.now in
    let remaining = g.P.Reader.Source.remaining in
    let has_failed = g.P.Reader.Source.has_failed in
    let sure = sure_bytes remaining g.P.Reader.Source.may_fail has_failed in
    let readers = c.deref_mut.result.now in
    let after = c.update_from.new.readers in
    let given = c.in_ok-readers.ensures.given in
    let r = c.update_from.result in
    let said = c.update_from.ensures in
    let all = λ (files : List (List ℕ)) (known : AreFilesOf at paths given.files files). sure_files remaining g.P.Reader.Source.may_fail has_failed readers after files
    (ap (map sure) c.deref_mut.ensures.value ∙ sure_given sure at paths given.files _ files c.in_ok-readers.ensures.told given.bytes known) said.faults.able in
    as_given (ChangesOver at format k c.args.kind name paths old new) r c.as_told.result c.as_told.ensures
    (changed_paths at format k c.args.kind name paths given.files old new r given.found
    (changed_over at format profile c.args.kind limits name paths given.files old remaining has_failed readers after r all
    (said.tables clean).ready (said.tables clean).told (said.tables clean).honest
    (blamed_untold remaining g.P.Reader.Source.may_fail has_failed at.bytes readers after given.files r (ap (map sure) c.deref_mut.ensures.value ∙ given.bytes) said.faults.able said.faults.fault))
    (changed_leaves at k c.args.kind name paths given.files old new remaining has_failed readers after r all
    (said.holds.0.call.refused clean) (said.step clean) (said.tables clean).leaves (said.tables clean).loses
    (changed_last at k c.args.kind name paths given.files old new remaining has_failed readers after r all
    said.lasts.survives (said.lasts.crash clean) (said.holds.0.durable clean) (said.holds.0.call.endures clean))))

pub returns-clause-unread : goal.returns-clause-unread
returns-clause-unread g c =
    as_given (λ it. IfErr it (λ why. IsUnread why → c.update_from.new.self ≡ c.args.session.now)) c.update_from.result c.as_told.result c.as_told.ensures (given_still _ c.update_from.result)

pub returns-in_err-readers-clause-changes : goal.returns-in_err-readers-clause-changes
returns-in_err-readers-clause-changes g c = λ clean.
    let format = g.L.Layout.format in
    let k = conditions_in format c.args.session.now in
    let held = state g.S.Store c.args.session.now.connection in
    let at = telling_of g.P.Paths c.args.paths.now in
    let name = name_bytes c.args.database.now in
    let paths = map string_bytes c.args.named.now in
    let why = c.in_err-readers.field-0.0 in
    let is : c.from_residual.result ≡ Err why = search rules in
    subst (ChangesOver at format k c.args.kind name paths held held) (sym is)
    (unread_paths at format k c.args.kind name paths held why c.in_err-readers.ensures.unfound.0 c.in_err-readers.ensures.unfound.1 c.in_err-readers.ensures.memory)

pub returns-clause-reaches : goal.returns-clause-reaches
returns-clause-reaches g c =
    let at = telling_of g.P.Paths c.args.paths.now in
    let named = map string_bytes c.args.named.now in
    let read = c.in_ok-readers.ensures.given in
    as_given (Reaches at ⊥ named) c.update_from.result c.as_told.result c.as_told.ensures (given_reaches at ⊥ named c.update_from.result (read.files, read.found))

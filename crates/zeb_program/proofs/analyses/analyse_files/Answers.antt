use Rattle.zeb_program.proofs.Cited.{◌≡◌, ◌⊎◌, ◌∙◌, ◌++◌, ◌∷◌, [], Err, Ok, Some, ap, map, refl, rules, string_bytes, subst, sym, ⊤, IfErr, WalksOn, dues_left, paths_left, telling_of, AreShort, IsUnread, IsUnreadAt, fault_of}
use Rattle.zeb_paths.proofs.WalkLemmas.{walks_ended, walks_told, walks_untold}
use Rattle.zeb_program.specs.declared.faults.Fault.TheVariants.{Memory}
use Rattle.zeb_program.proofs.AnalysisLemmas.{all_read, begins, goes_on}
use Rattle.zeb_program.proofs.ReaderLemmas.{Ends, GivesNext, content_fault, content_unread, met_fault, met_file, met_refused, stopped_faults, unread_faults, walk_more, walk_start}
use Rattle.zeb_program.proofs.analyses.analyse_files.Goals as goal

pub loop-walk-init : goal.loop-walk-init
loop-walk-init g c =
    record {
      paths = ap (λ p. p.now) c.in_ok-walk.ensures.paths;
      so_far = (
        [],
        walk_start (telling_of g.P.Paths c.args.paths.now) c.args.named.now _ c.in_ok-walk.ensures.levels,
        begins (g.P.Paths.tells c.args.paths.now) c.args.session.now.profile c.args.session.now.limits.records (map string_bytes c.args.named.now)
            c.begin_analysis-lines.result c.new-unmarked.result.items _ c.begin_analysis-lines.ensures c.new-unmarked.ensures.items c.in_ok-walk.ensures.left,
      );
    }

pub loop-walk-preserved : goal.loop-walk-preserved
loop-walk-preserved g c =
    let at = telling_of g.P.Paths c.args.paths.now in
    let steps = c.loop-walk.walk.steps.items in
    let after = c.next_file.new.self.steps.items in
    let on : WalksOn at (dues_left steps) (Ok c.in_ok-path.field-0) (dues_left after) =
    subst (λ p. WalksOn (telling_of g.P.Paths p) (dues_left steps) (Ok c.in_ok-path.field-0) (dues_left after)) c.loop-walk.invariant.paths c.in_ok-path.ensures.walks in
    let left = paths_left steps in
    let later = paths_left after in
    let tells = g.P.Paths.tells c.args.paths.now in
    let next : GivesNext tells left later (Ok c.in_ok-path.field-0) = walks_told at steps after (Ok c.in_ok-path.field-0) on in
    record {
      paths = ap (λ p. p.now) c.in_ok-path.ensures.paths ∙ c.loop-walk.invariant.paths;
      so_far = (
        c.loop-walk.invariant.so_far.0 ++ string_bytes c.in-Some.path ∷ [],
        walk_more at (map string_bytes c.args.named.now) c.loop-walk.invariant.so_far.0 (dues_left steps) (dues_left after) c.in-Some.path c.loop-walk.invariant.so_far.1
            (subst (λ found. WalksOn at (dues_left steps) (Ok found) (dues_left after)) c.in-Some.is on),
        goes_on tells c.args.session.now.profile c.args.session.now.limits.records (map string_bytes c.args.named.now) c.loop-walk.invariant.so_far.0 c.loop-walk.file c.loop-walk.lines c.loop-walk.unmarked.items left later
            c.loop-walk.invariant.so_far.2 c.in-Some.path c.in_ok-bytes.bytes c.deref-in-Some.result.now c.deref.result.now c.with_file-lines.result c.note_unmarked.new.unmarked.items c.in_ok-file.file
            (subst (λ found. GivesNext tells left later (Ok found)) c.in-Some.is next)
            (subst (λ found. Ends left (Ok found)) c.in-Some.is (walks_ended at steps after (Ok c.in_ok-path.field-0) on))
            c.in_ok-bytes.ensures c.deref-in-Some.ensures.value c.deref.ensures.value c.with_file-lines.ensures c.in_ok-note_unmarked.ensures c.in_ok-file.ensures,
      );
    }

pub returns-in_err-path-clause-reason : goal.returns-in_err-path-clause-reason
returns-in_err-path-clause-reason g c files told =
    let at = telling_of g.P.Paths c.args.paths.now in
    let steps = c.loop-walk.walk.steps.items in
    let after = c.next_file.new.self.steps.items in
    let on : WalksOn at (dues_left steps) (Err c.in_err-path.field-0.0) (dues_left after) =
    subst (λ p. WalksOn (telling_of g.P.Paths p) (dues_left steps) (Err c.in_err-path.field-0.0) (dues_left after)) c.loop-walk.invariant.paths c.in_err-path.ensures.walks in
    let left = paths_left steps in
    let later = paths_left after in
    let why = c.in_err-path.field-0.0 in
    absurd (met_fault (λ content. Some content.items) (g.P.Paths.tells c.args.paths.now) files c.loop-walk.invariant.so_far.2.contents left later why
    (c.loop-walk.invariant.so_far.2.met files told) (walks_told at steps after (Err c.in_err-path.field-0.0) on) (walks_ended at steps after (Err c.in_err-path.field-0.0) on))

pub returns-in_err-path-clause-met : goal.returns-in_err-path-clause-met
returns-in_err-path-clause-met g c =
    let at = telling_of g.P.Paths c.args.paths.now in
    let steps = c.loop-walk.walk.steps.items in
    let after = c.next_file.new.self.steps.items in
    let on : WalksOn at (dues_left steps) (Err c.in_err-path.field-0.0) (dues_left after) =
    subst (λ p. WalksOn (telling_of g.P.Paths p) (dues_left steps) (Err c.in_err-path.field-0.0) (dues_left after)) c.loop-walk.invariant.paths c.in_err-path.ensures.walks in
    let why = c.in_err-path.field-0.0 in
    let from : IfErr c.from_residual-in_err-path.result (λ given. IsUnread given × (given ≡ fault_of why)) = search rules in
    let far = c.loop-walk.invariant.so_far in
    stopped_faults at ⊤ (map string_bytes c.args.named.now) far.0 (dues_left steps) (dues_left after) why c.from_residual-in_err-path.result from far.1 on

pub returns-in_err-path-clause-unread : goal.returns-in_err-path-clause-unread
returns-in_err-path-clause-unread g c =
    let at = telling_of g.P.Paths c.args.paths.now in
    let steps = c.loop-walk.walk.steps.items in
    let after = c.next_file.new.self.steps.items in
    let on : WalksOn at (dues_left steps) (Err c.in_err-path.field-0.0) (dues_left after) =
    subst (λ p. WalksOn (telling_of g.P.Paths p) (dues_left steps) (Err c.in_err-path.field-0.0) (dues_left after)) c.loop-walk.invariant.paths c.in_err-path.ensures.walks in
    let why = c.in_err-path.field-0.0 in
    let from : IfErr c.from_residual-in_err-path.result (λ given. IsUnread given × (given ≡ fault_of why)) = search rules in
    unread_faults (g.P.Paths.tells c.args.paths.now) why c.from_residual-in_err-path.result from (walks_untold at (dues_left steps) (Err c.in_err-path.field-0.0) (dues_left after) on)

pub returns-in_err-bytes-clause-met : goal.returns-in_err-bytes-clause-met
returns-in_err-bytes-clause-met g c =
    let at = telling_of g.P.Paths c.args.paths.now in
    let steps = c.loop-walk.walk.steps.items in
    let after = c.next_file.new.self.steps.items in
    let on : WalksOn at (dues_left steps) (Ok c.in_ok-path.field-0) (dues_left after) =
    subst (λ p. WalksOn (telling_of g.P.Paths p) (dues_left steps) (Ok c.in_ok-path.field-0) (dues_left after)) c.loop-walk.invariant.paths c.in_ok-path.ensures.walks in
    let why = c.in_err-bytes.field-0.0 in
    let is : c.from_residual-in_err-bytes.result ≡ Err why = search rules in
    let far = c.loop-walk.invariant.so_far in
    met_file at ⊤ (map string_bytes c.args.named.now) far.0 (dues_left steps) (dues_left after) c.in-Some.path c.from_residual-in_err-bytes.result why tt is (content_fault c.in-Some.path _ why c.in_err-bytes.ensures).0
    far.1 (subst (λ found. WalksOn at (dues_left steps) (Ok found) (dues_left after)) c.in-Some.is on)

pub returns-in_err-bytes-clause-unread : goal.returns-in_err-bytes-clause-unread
returns-in_err-bytes-clause-unread g c =
    let why = c.in_err-bytes.field-0.0 in
    let is : c.from_residual-in_err-bytes.result ≡ Err why = search rules in
    subst (λ r. IfErr r (IsUnreadAt (g.P.Paths.tells c.args.paths.now))) (sym is) (content_unread (g.P.Paths.tells c.args.paths.now) c.in-Some.path why c.in_err-bytes.ensures)

-- a file that is told isn't given only where it is too long
pub returns-in_err-bytes-clause-reason : goal.returns-in_err-bytes-clause-reason
returns-in_err-bytes-clause-reason g c files told =
    let at = telling_of g.P.Paths c.args.paths.now in
    let steps = c.loop-walk.walk.steps.items in
    let after = c.next_file.new.self.steps.items in
    let on : WalksOn at (dues_left steps) (Ok c.in_ok-path.field-0) (dues_left after) =
    subst (λ p. WalksOn (telling_of g.P.Paths p) (dues_left steps) (Ok c.in_ok-path.field-0) (dues_left after)) c.loop-walk.invariant.paths c.in_ok-path.ensures.walks in
    let left = paths_left c.loop-walk.walk.steps.items in
    let later = paths_left c.next_file.new.self.steps.items in
    let tells = g.P.Paths.tells c.args.paths.now in
    let why = c.in_err-bytes.field-0.0 in
    let is : c.from_residual-in_err-bytes.result ≡ Err why = search rules in
    let next : GivesNext tells left later (Ok c.in_ok-path.field-0) = walks_told at steps after (Ok c.in_ok-path.field-0) on in
    subst (λ r. IfErr r (λ fault. (fault ≡ Memory) ⊎ (¬ AreShort files))) (sym is)
    (met_refused (λ content. Some content.items) tells files c.loop-walk.invariant.so_far.2.contents left later c.in-Some.path why (c.loop-walk.invariant.so_far.2.met files told)
    (subst (λ found. GivesNext tells left later (Ok found)) c.in-Some.is next)
    (subst (λ found. Ends left (Ok found)) c.in-Some.is (walks_ended at steps after (Ok c.in_ok-path.field-0) on)) c.in_err-bytes.ensures)

pub returns-clause-reads : goal.returns-clause-reads
returns-clause-reads g c =
    let at = telling_of g.P.Paths c.args.paths.now in
    let steps = c.loop-walk.walk.steps.items in
    let after = c.next_file.new.self.steps.items in
    let on : WalksOn at (dues_left steps) (Ok c.in_ok-path.field-0) (dues_left after) =
    subst (λ p. WalksOn (telling_of g.P.Paths p) (dues_left steps) (Ok c.in_ok-path.field-0) (dues_left after)) c.loop-walk.invariant.paths c.in_ok-path.ensures.walks in
    let left = paths_left steps in
    let later = paths_left after in
    let tells = g.P.Paths.tells c.args.paths.now in
    let next : GivesNext tells left later (Ok c.in_ok-path.field-0) = walks_told at steps after (Ok c.in_ok-path.field-0) on in
    let far = c.loop-walk.invariant.so_far in
    all_read tells c.args.session.now.profile c.args.session.now.limits.records (map string_bytes c.args.named.now) far.0 c.loop-walk.file c.loop-walk.lines c.loop-walk.unmarked.items left later
    far.2 at _ refl refl refl (subst (λ found. GivesNext tells left later (Ok found)) c.in_default.is next)
    (dues_left steps, dues_left after, far.1, subst (λ found. WalksOn at (dues_left steps) (Ok found) (dues_left after)) c.in_default.is on)

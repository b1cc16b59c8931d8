use Rattle.zeb_program.proofs.Cited.{Err, Ok, ap, map, rules, string_bytes, subst, ◌∙◌, ◌≡◌, IfErr, WalksOn, dues_left, paths_left, telling_of, IsUnread, fault_of, sure_bytes}
use Rattle.zeb_paths.proofs.WalkLemmas.{walks_ended, walks_told, walks_untold}
use Rattle.zeb_program.proofs.ReaderLemmas.{Ends, GivesNext, met_end, met_fault, met_next, met_start, reads_all, reads_more, reads_start, sure_of, sure_or_none, unfound_faults}
use Rattle.zeb_program.proofs.files.readers_of.Goals as goal

pub loop-walk-init : goal.loop-walk-init
loop-walk-init g c =
    record {
      paths = ap (λ p. p.now) c.in_ok-walk.ensures.paths;
      met = λ files told. met_start (sure_bytes g.P.Reader.Source.remaining g.P.Reader.Source.may_fail g.P.Reader.Source.has_failed) (g.P.Paths.tells c.args.paths.now) files c.new-readers.result.items _ (map string_bytes c.args.named.now) c.new-readers.ensures.items c.in_ok-walk.ensures.left told;
      so_far = reads_start (sure_bytes g.P.Reader.Source.remaining g.P.Reader.Source.may_fail g.P.Reader.Source.has_failed) (telling_of g.P.Paths c.args.paths.now) c.args.named.now c.new-readers.result.items _ c.new-readers.ensures.items c.in_ok-walk.ensures.levels;
    }

pub returns-in_err-path-clause-memory : goal.returns-in_err-path-clause-memory
returns-in_err-path-clause-memory g c files told =
    let at = telling_of g.P.Paths c.args.paths.now in
    let steps = c.loop-walk.walk.steps.items in
    let after = c.next_file.new.self.steps.items in
    let on : WalksOn at (dues_left steps) (Err c.in_err-path.field-0.0) (dues_left after) =
    subst (λ p. WalksOn (telling_of g.P.Paths p) (dues_left steps) (Err c.in_err-path.field-0.0) (dues_left after)) c.loop-walk.invariant.paths c.in_err-path.ensures.walks in
    absurd (met_fault (sure_bytes g.P.Reader.Source.remaining g.P.Reader.Source.may_fail g.P.Reader.Source.has_failed) (g.P.Paths.tells c.args.paths.now) files c.loop-walk.readers.items (paths_left steps) (paths_left after) c.in_err-path.field-0.0
    (c.loop-walk.invariant.met files told) (walks_told at steps after (Err c.in_err-path.field-0.0) on) (walks_ended at steps after (Err c.in_err-path.field-0.0) on))

pub returns-clause-told : goal.returns-clause-told
returns-clause-told g c files told =
    let at = telling_of g.P.Paths c.args.paths.now in
    let steps = c.loop-walk.walk.steps.items in
    let after = c.next_file.new.self.steps.items in
    let on : WalksOn at (dues_left steps) (Ok c.in_ok-path.field-0) (dues_left after) =
    subst (λ p. WalksOn (telling_of g.P.Paths p) (dues_left steps) (Ok c.in_ok-path.field-0) (dues_left after)) c.loop-walk.invariant.paths c.in_ok-path.ensures.walks in
    let next : GivesNext (g.P.Paths.tells c.args.paths.now) (paths_left steps) (paths_left after) (Ok c.in_ok-path.field-0) = walks_told at steps after (Ok c.in_ok-path.field-0) on in
    met_end (sure_bytes g.P.Reader.Source.remaining g.P.Reader.Source.may_fail g.P.Reader.Source.has_failed) (g.P.Paths.tells c.args.paths.now) files c.loop-walk.readers.items (paths_left steps) (paths_left after)
    (c.loop-walk.invariant.met files told) (subst (λ found. GivesNext (g.P.Paths.tells c.args.paths.now) (paths_left steps) (paths_left after) (Ok found)) c.in_default.is next)

pub returns-clause-given : goal.returns-clause-given
returns-clause-given g c =
    let at = telling_of g.P.Paths c.args.paths.now in
    let steps = c.loop-walk.walk.steps.items in
    let after = c.next_file.new.self.steps.items in
    let on : WalksOn at (dues_left steps) (Ok c.in_ok-path.field-0) (dues_left after) =
    subst (λ p. WalksOn (telling_of g.P.Paths p) (dues_left steps) (Ok c.in_ok-path.field-0) (dues_left after)) c.loop-walk.invariant.paths c.in_ok-path.ensures.walks in
    reads_all (sure_bytes g.P.Reader.Source.remaining g.P.Reader.Source.may_fail g.P.Reader.Source.has_failed) at (map string_bytes c.args.named.now) c.loop-walk.readers.items (dues_left steps) (dues_left after) c.loop-walk.invariant.so_far
    (subst (λ found. WalksOn at (dues_left steps) (Ok found) (dues_left after)) c.in_default.is on)

pub loop-walk-preserved : goal.loop-walk-preserved
loop-walk-preserved g c =
    let at = telling_of g.P.Paths c.args.paths.now in
    let steps = c.loop-walk.walk.steps.items in
    let after = c.next_file.new.self.steps.items in
    let on : WalksOn at (dues_left steps) (Ok c.in_ok-path.field-0) (dues_left after) =
    subst (λ p. WalksOn (telling_of g.P.Paths p) (dues_left steps) (Ok c.in_ok-path.field-0) (dues_left after)) c.loop-walk.invariant.paths c.in_ok-path.ensures.walks in
    let tells = g.P.Paths.tells c.args.paths.now in
    let next : GivesNext tells (paths_left steps) (paths_left after) (Ok c.in_ok-path.field-0) = walks_told at steps after (Ok c.in_ok-path.field-0) on in
    let ended : Ends (paths_left steps) (Ok c.in_ok-path.field-0) = walks_ended at steps after (Ok c.in_ok-path.field-0) on in
    let read : g.P.Reader.Source.remaining c.reader.result ≡ tells (string_bytes c.in-Some.path) = c.reader.ensures.bytes in
    record {
      paths = ap (λ p. p.now) c.in_ok-path.ensures.paths ∙ c.loop-walk.invariant.paths;
      met = λ files told.
          met_next (sure_bytes g.P.Reader.Source.remaining g.P.Reader.Source.may_fail g.P.Reader.Source.has_failed) tells files c.loop-walk.readers.items c.push.new.self.items (paths_left steps) (paths_left after) c.in-Some.path c.reader.result
          (c.loop-walk.invariant.met files told) (subst (λ found. GivesNext tells (paths_left steps) (paths_left after) (Ok found)) c.in-Some.is next)
          (subst (λ found. Ends (paths_left steps) (Ok found)) c.in-Some.is ended)
          (λ file known. sure_of g.P.Reader.Source.remaining g.P.Reader.Source.may_fail g.P.Reader.Source.has_failed c.reader.result file (read ∙ known) (c.reader.ensures.able file known) c.reader.ensures.sound) c.in_ok-push.ensures.items;
      so_far =
          reads_more (sure_bytes g.P.Reader.Source.remaining g.P.Reader.Source.may_fail g.P.Reader.Source.has_failed) at (map string_bytes c.args.named.now) c.loop-walk.readers.items c.push.new.self.items (dues_left steps) (dues_left after) c.in-Some.path c.reader.result c.loop-walk.invariant.so_far
          (subst (λ found. WalksOn at (dues_left steps) (Ok found) (dues_left after)) c.in-Some.is on)
          (sure_or_none g.P.Reader.Source.remaining g.P.Reader.Source.may_fail g.P.Reader.Source.has_failed c.reader.result (tells (string_bytes c.in-Some.path)) read c.reader.ensures.able c.reader.ensures.sound) c.in_ok-push.ensures.items;
    }

pub returns-in_err-path-clause-unfound : goal.returns-in_err-path-clause-unfound
returns-in_err-path-clause-unfound g c =
    let at = telling_of g.P.Paths c.args.paths.now in
    let steps = c.loop-walk.walk.steps.items in
    let after = c.next_file.new.self.steps.items in
    let on : WalksOn at (dues_left steps) (Err c.in_err-path.field-0.0) (dues_left after) =
    subst (λ p. WalksOn (telling_of g.P.Paths p) (dues_left steps) (Err c.in_err-path.field-0.0) (dues_left after)) c.loop-walk.invariant.paths c.in_err-path.ensures.walks in
    let named = map string_bytes c.args.named.now in
    let why = c.in_err-path.field-0.0 in
    let from : IfErr c.from_residual-in_err-path.result (λ given. IsUnread given × (given ≡ fault_of why)) = search rules in
    let far = c.loop-walk.invariant.so_far in
    unfound_faults at named far.0 (dues_left steps) (dues_left after) why c.from_residual-in_err-path.result from (walks_untold at (dues_left steps) (Err why) (dues_left after) on) far.1 on

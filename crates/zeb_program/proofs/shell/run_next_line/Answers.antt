use Rattle.zeb_program.proofs.Cited.{[], ◌≡◌, ℕ, List, Err, refl, rules, LineOver, Memory, StopsLine, telling_of}
use Rattle.zeb_program.proofs.LineStopLemmas.{stopped_still}
use Rattle.zeb_program.proofs.LineInputLemmas.{ends_read}
use Rattle.zeb_program.proofs.ShellLemmas.{both_left, each_left, next_first, next_none, next_some, next_taken, none_read}
use Rattle.zeb_program.proofs.ShellTextLemmas.{stops_line}
use Rattle.zeb_program.proofs.SinkLemmas.{sends_so, sends_still, sent_none}
use Rattle.zeb_program.proofs.shell.run_next_line.Goals as goal
use Rattle.zeb_engine.specs.Sessions.{conditions_in}

pub returns-clause-line : goal.returns-clause-line
returns-clause-line g c =
    let k = conditions_in g.L.Layout.format c.args.session.now in
    let left = g.R.Source.remaining c.args.input.now in
    let Over : List ℕ → List ℕ → Type 0 = λ bytes line. LineOver g.S.Store (telling_of g.P.Paths c.args.paths.now) g.L.Layout.format k c.args.number line c.args.session.now.connection bytes c.in_ok-status.status c.run_bytes.new.session.connection in
    record {
      some = next_some c.in_ok-bytes.bytes.items left c.in_ok-bytes.ensures.read.0 (search rules);
      taken = next_taken c.in_ok-bytes.bytes.items left _ c.in_ok-bytes.ensures.read.0 c.in_ok-bytes.ensures.read.1;
      passed = c.flush.ensures.passed;
      line = sends_still c.args.output.now c.run_bytes.new.output c.flush.new.self _
          (sends_so c.args.output.now c.run_bytes.new.output _ _ (λ bytes shows clean. next_first (Over bytes) c.in_ok-bytes.bytes.items left c.in_ok-bytes.ensures.read.0 (shows clean)) c.in_ok-status.ensures.shows) c.flush.ensures.sent;
    }

pub returns-then-is_empty-clause-line : goal.returns-then-is_empty-clause-line
returns-then-is_empty-clause-line g c =
    let none = none_read c.in_ok-bytes.bytes.items (search rules) in
    (next_none c.in_ok-bytes.bytes.items (g.R.Source.remaining c.args.input.now) c.in_ok-bytes.ensures.read.0 none, c.in_ok-bytes.ensures.read.2 none, refl, refl)

-- The line couldn't be read.
pub returns-in_err-bytes-clause-line : goal.returns-in_err-bytes-clause-line
returns-in_err-bytes-clause-line g c =
    let why = c.in_err-bytes.field-0.0 in
    let is : c.from_residual.result ≡ Err why = search rules in
    let k = conditions_in g.L.Layout.format c.args.session.now in
    let left = g.R.Source.remaining c.args.input.now in
    stops_line _ _ _ c.from_residual.result why is
    (([], (λ clean. both_left (λ _. [] ≡ []) _ left (each_left (λ _. [] ≡ []) left (λ _. refl)) (stopped_still g.S.Store (telling_of g.P.Paths c.args.paths.now) g.L.Layout.format k why left c.args.session.now.connection)), sent_none c.args.output.now), c.in_err-bytes.ensures.stops)

-- The line was read, and there was no memory for its answer.
pub returns-in_err-status-clause-line : goal.returns-in_err-status-clause-line
returns-in_err-status-clause-line g c =
    let is : c.from_residual-in_err-status.result ≡ Err Memory = search rules in
    let k = conditions_in g.L.Layout.format c.args.session.now in
    let left = g.R.Source.remaining c.args.input.now in
    let Stops : List ℕ → List ℕ → Type 0 = λ bytes line. (bytes ≡ []) × StopsLine g.S.Store (telling_of g.P.Paths c.args.paths.now) g.L.Layout.format k line c.args.session.now.connection c.run_bytes.new.session.connection in
    stops_line _ _ _ c.from_residual-in_err-status.result Memory is (
      sends_so c.args.output.now c.run_bytes.new.output _ _ (λ bytes shows clean. next_first (Stops bytes) c.in_ok-bytes.bytes.items left c.in_ok-bytes.ensures.read.0 (shows clean)) c.in_err-status.ensures.shows,
      ends_read left (g.R.Source.remaining c.read_line.new.source) c.in_ok-bytes.bytes.items c.in_ok-bytes.ensures.read.0 c.in_ok-bytes.ensures.read.1 c.read_line.ensures.bounded,
    )

use Rattle.zeb_program.proofs.Cited.{Some, WalksOn, dues_left, telling_of, IsGiven}
use Rattle.std.proofs.Common.{◌≡◌, ◌∙◌, ◌++◌, ◌∷◌, [], Ok, ap, arith, inl, inr, length-append, map, refl, string_bytes, subst}
use Rattle.zeb_program.proofs.ReaderLemmas.{count_before, found_nth, walk_more, walk_start}
use Rattle.zeb_program.proofs.files.path_of_file.Goals as goal

pub loop-nth-init : goal.loop-nth-init
loop-nth-init g c =
    record {
      paths = ap (λ p. p.now) c.in_ok-walk.ensures.paths;
      walked = ([], refl, walk_start (telling_of g.P.Paths c.args.paths.now) c.args.named.now _ c.in_ok-walk.ensures.levels);
      early = inl (omega arith);
    }

pub loop-nth-preserved : goal.loop-nth-preserved
loop-nth-preserved g c =
    let at = telling_of g.P.Paths c.args.paths.now in
    let named = map string_bytes c.args.named.now in
    let steps = c.loop-nth.walk.steps.items in
    let after = c.next_file.new.self.steps.items in
    let on : WalksOn at (dues_left steps) c.next_file.result (dues_left after) =
    subst (λ p. WalksOn (telling_of g.P.Paths p) (dues_left steps) c.next_file.result (dues_left after)) c.loop-nth.invariant.paths c.next_file.ensures.walks in
    let given : c.next_file.result ≡ Ok (Some c.in-Some._passed) = subst (IsGiven c.next_file.result) c.in-Some.is c.in_ok-_passed.ensures in
    let further = subst (λ found. WalksOn at (dues_left steps) found (dues_left after)) given on in
    let walked = c.loop-nth.invariant.walked in
    record {
      paths = ap (λ p. p.now) c.next_file.ensures.paths ∙ c.loop-nth.invariant.paths;
      walked = (walked.0 ++ string_bytes c.in-Some._passed ∷ [], omega (arith, walked.1, length-append walked.0 (string_bytes c.in-Some._passed ∷ [])), walk_more at named walked.0 (dues_left steps) (dues_left after) c.in-Some._passed walked.2 further);
      early = inr (omega (arith, c.loop-nth-test.true));
    }

pub returns-in_default : goal.returns-in_default
returns-in_default g c =
    let at = telling_of g.P.Paths c.args.paths.now in
    let steps = c.loop-nth.walk.steps.items in
    let after = c.next_file.new.self.steps.items in
    let on : WalksOn at (dues_left steps) c.next_file.result (dues_left after) =
    subst (λ p. WalksOn (telling_of g.P.Paths p) (dues_left steps) c.next_file.result (dues_left after)) c.loop-nth.invariant.paths c.next_file.ensures.walks in
    let walked = c.loop-nth.invariant.walked in
    let none = subst (IsGiven c.next_file.result) c.in_default.is c.in_ok-_passed.ensures in
    (walked.0, dues_left steps, dues_left after, c.next_file.result, omega (arith, walked.1, c.loop-nth-test.true), walked.2, on, none)

pub returns : goal.returns
returns g c =
    let at = telling_of g.P.Paths c.args.paths.now in
    let named = map string_bytes c.args.named.now in
    let steps = c.loop-nth.walk.steps.items in
    let after = c.next_file-2.new.self.steps.items in
    let on : WalksOn at (dues_left steps) c.next_file-2.result (dues_left after) =
    subst (λ p. WalksOn (telling_of g.P.Paths p) (dues_left steps) c.next_file-2.result (dues_left after)) c.loop-nth.invariant.paths c.next_file-2.ensures.walks in
    let walked = c.loop-nth.invariant.walked in
    found_nth at named walked.0 c.args.number c.next_file-2.result c.given-2.result (dues_left steps) (dues_left after) c.given-2.ensures
    (count_before _ c.loop-nth._nth c.args.number walked.1 c.loop-nth-test.false c.loop-nth.invariant.early) walked.2 on

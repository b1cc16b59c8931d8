use Rattle.zeb_engine.proofs.Cited.{◌≡◌, codes, string_bytes, not, false, Err, rules, arith, subst, bytes_eq, state, version_of, OldFormat, ProfileChanged, RefusesTexts, RefusesVersion, TellsText, IsReadyFor, KeepsText}
use Rattle.zeb_engine.proofs.TextLooks.{look_settles, one_readable, profile_as_texts, profile_differs, text_ends, text_settles}
use Rattle.zeb_engine.proofs.Ready.{texts_agree, texts_differ}
use Rattle.zeb_engine.proofs.ReadyTexts.{other_text}
use Rattle.zeb_engine.proofs.readiness.check_texts.Goals as goal

pub returns-then-ne-clause-looks : goal.returns-then-ne-clause-looks
returns-then-ne-clause-looks g c = record {
  idle = search rules;
  look = λ clean.
      let old = state g.S.Store c.args.connection.now in
      let own = version_of g.L.Layout.format in
      let profile = c.args.profile.now in
      let found = c.in_ok-version.version in
      let tested : c.ne.result ≡ not (bytes_eq c.as_str.result.now c.version.result.now) = search rules in
      let differs = texts_differ c.ne.result c.as_str.result.now c.version.result.now (string_bytes found) own tested c.if-ne.true (search rules) c.version.ensures in
      look_settles {X = Unit {0}} (λ trees version. KeepsText trees (codes "version") (string_bytes version)) (λ trees x. IsReadyFor own profile trees) RefusesVersion (RefusesTexts own profile) old (state g.S.Store c.kept_version.new.connection)
      found (c.in_ok-version.ensures.looks.look clean) (Err OldFormat) (λ store is. absurd cc) (λ store kept. ((string_bytes found, kept), other_text old store (codes "version") (string_bytes found) own kept differs, one_readable old store (codes "version") found kept));
  crash = search rules;
}

pub returns-in_err-keeps_text-clause-looks : goal.returns-in_err-keeps_text-clause-looks
returns-in_err-keeps_text-clause-looks g c = record {
  idle = search rules;
  look = λ clean.
      let own = version_of g.L.Layout.format in
      let profile = c.args.profile.now in
      let found = c.in_ok-version.version in
      let tested : c.ne.result ≡ not (bytes_eq c.as_str.result.now c.version.result.now) = search rules in
      let same = texts_agree c.ne.result c.as_str.result.now c.version.result.now (string_bytes found) own tested c.if-ne.false (search rules) c.version.ensures in
      let trees = (state g.S.Store c.args.connection.now).now.trees in
      let why = c.in_err-keeps_text.field-0.0 in
      let told : c.from_residual-in_err-keeps_text.result ≡ Err why = search rules in
      rw told (text_ends (state g.S.Store c.args.connection.now) (state g.S.Store c.kept_version.new.connection) (state g.S.Store c.keeps_text.new.connection) found c.kept_version.ensures.looks.crash (omega (arith, c.keeps_text.ensures.looks.crash.clean)) c.in_ok-version.ensures.looks.look
      (codes "profile") c.text.result.now (λ trees x. IsReadyFor own profile trees) (RefusesTexts own profile)
      why (λ kept is. profile_as_texts own profile trees (subst (KeepsText trees (codes "version")) same kept) why is) (c.in_err-keeps_text.ensures.looks.look clean));
  crash = search rules;
}

pub returns-clause-looks : goal.returns-clause-looks
returns-clause-looks g c = record {
  idle = search rules;
  look = λ clean.
      let own = version_of g.L.Layout.format in
      let profile = c.args.profile.now in
      let found = c.in_ok-version.version in
      let text = c.text.result.now in
      let tested : c.ne.result ≡ not (bytes_eq c.as_str.result.now c.version.result.now) = search rules in
      let same = texts_agree c.ne.result c.as_str.result.now c.version.result.now (string_bytes found) own tested c.if-ne.false (search rules) c.version.ensures in
      let trees = (state g.S.Store c.args.connection.now).now.trees in
      let no : c.in_ok-keeps_text.field-0 ≡ false = search rules in
      text_settles (state g.S.Store c.args.connection.now) (state g.S.Store c.kept_version.new.connection) (state g.S.Store c.keeps_text.new.connection) found c.kept_version.ensures.looks.crash (omega (arith, c.keeps_text.ensures.looks.crash.clean)) c.in_ok-version.ensures.looks.look
      (codes "profile") text (λ trees x. IsReadyFor own profile trees) (RefusesTexts own profile)
      c.in_ok-keeps_text.field-0 (c.in_ok-keeps_text.ensures.looks.look clean) (Err ProfileChanged) (λ store is. absurd cc)
      (λ kept tells. profile_differs own profile trees text c.text.ensures (subst (KeepsText trees (codes "version")) same kept) (subst (TellsText (codes "profile") text trees) no tells));
  crash = search rules;
}

use Rattle.zeb_engine.proofs.Cited.{◌≡◌, codes, string_bytes, Bool, false, Err, None, List, ℕ, rules, arith, subst, subst₂, state, version_of, OldFormat, ProfileChanged, FindsStanding, RefusesVersion, TellsStanding, TellsText, Standing, KeepsText, RefusesUpgrade, refl}
use Rattle.std.specs.Prelude.{Some}
use Rattle.zeb_engine.proofs.TextLooks.{look_settles, one_readable, profile_as_layout, standing_changed, standing_none, text_ends, text_settles, upgradable_so}
use Rattle.zeb_engine.proofs.looks.check_layout.Goals as goal

pub returns-in_default-clause-looks : goal.returns-in_default-clause-looks
returns-in_default-clause-looks g c = record {
  idle = search rules;
  look = λ clean.
      let old = state g.S.Store c.args.connection.now in
      let own = version_of g.L.Layout.format in
      let profile = c.args.profile.now in
      let found = c.in_ok-version.version in
      let spelled : c.as_str.result.now ≡ string_bytes found = search rules in
      let none = subst (λ v. TellsStanding own v None) spelled c.in_default.ensures in
      look_settles {X = Standing} (λ trees version. KeepsText trees (codes "version") (string_bytes version)) (FindsStanding own profile) RefusesVersion (RefusesUpgrade own profile) old (state g.S.Store c.kept_version.new.connection)
      found (c.in_ok-version.ensures.looks.look clean) (Err OldFormat) (λ store is. absurd cc) (λ store kept. standing_none own profile old.now.trees (string_bytes found) kept old store refl (one_readable old store (codes "version") found kept) none);
  crash = search rules;
}

pub returns-in_err-keeps_text-clause-looks : goal.returns-in_err-keeps_text-clause-looks
returns-in_err-keeps_text-clause-looks g c = record {
  idle = search rules;
  look = λ clean.
      let own = version_of g.L.Layout.format in
      let profile = c.args.profile.now in
      let found = c.in_ok-version.version in
      let spelled : c.as_str.result.now ≡ string_bytes found = search rules in
      let is = subst (λ v. TellsStanding own v (Some c.in-Some.standing)) spelled c.in-Some.ensures in
      let why = c.in_err-keeps_text.field-0.0 in
      let told : c.from_residual-in_err-keeps_text.result ≡ Err why = search rules in
      rw told (text_ends (state g.S.Store c.args.connection.now) (state g.S.Store c.kept_version.new.connection) (state g.S.Store c.keeps_text.new.connection) found c.kept_version.ensures.looks.crash (omega (arith, c.keeps_text.ensures.looks.crash.clean)) c.in_ok-version.ensures.looks.look
      (codes "profile") c.text.result.now (FindsStanding own profile) (RefusesUpgrade own profile)
      why (λ kept hard. profile_as_layout own profile (state g.S.Store c.args.connection.now).now.trees (upgradable_so own profile (state g.S.Store c.args.connection.now).now.trees (string_bytes found) kept c.in-Some.standing is) why hard) (c.in_err-keeps_text.ensures.looks.look clean));
  crash = search rules;
}

pub returns-clause-looks : goal.returns-clause-looks
returns-clause-looks g c = record {
  idle = search rules;
  look = λ clean.
      let own = version_of g.L.Layout.format in
      let profile = c.args.profile.now in
      let found = c.in_ok-version.version in
      let spelled : c.as_str.result.now ≡ string_bytes found = search rules in
      let is = subst (λ v. TellsStanding own v (Some c.in-Some.standing)) spelled c.in-Some.ensures in
      let no : c.in_ok-keeps_text.field-0 ≡ false = search rules in
      text_settles (state g.S.Store c.args.connection.now) (state g.S.Store c.kept_version.new.connection) (state g.S.Store c.keeps_text.new.connection) found c.kept_version.ensures.looks.crash (omega (arith, c.keeps_text.ensures.looks.crash.clean)) c.in_ok-version.ensures.looks.look
      (codes "profile") c.text.result.now (FindsStanding own profile) (RefusesUpgrade own profile)
      c.in_ok-keeps_text.field-0 (c.in_ok-keeps_text.ensures.looks.look clean) (Err ProfileChanged) (λ store is. absurd cc)
      (λ kept tells. standing_changed own profile (state g.S.Store c.args.connection.now).now.trees (string_bytes found) kept c.in-Some.standing is
      (subst₂ (λ (t : List ℕ) (b : Bool). TellsText (codes "profile") t (state g.S.Store c.args.connection.now).now.trees b) c.text.ensures no tells));
  crash = search rules;
}

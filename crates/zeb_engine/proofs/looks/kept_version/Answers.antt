use Rattle.zeb_engine.proofs.Cited.{rules, codes, string_bytes, Err, state, NotInitialised, RefusesVersion, KeepsText}
use Rattle.zeb_engine.proofs.TextLooks.{look_told}
use Rattle.zeb_engine.proofs.ReadyTexts.{text_missing}
use Rattle.zeb_engine.proofs.looks.kept_version.Goals as goal

pub returns-in-None-clause-looks : goal.returns-in-None-clause-looks
returns-in-None-clause-looks g c = record {
  idle = search rules;
  look = λ clean.
      let old = state g.S.Store c.args.connection.now in
      let was = c.in_ok-version.ensures.call.ok clean in
      look_told (λ trees version. KeepsText trees (codes "version") (string_bytes version)) RefusesVersion (codes "version") old (state g.S.Store c.meta_of.new.conn) (c.meta_of.ensures.call.same clean c.requires.idle) (Err NotInitialised) (λ store is. absurd cc)
      (was.0.was_open, was.0.is_open) (λ store. text_missing old.now.trees (codes "version") c.in_ok-version.field-0 c.in-None.is (c.in_ok-version.ensures.finds clean store));
  crash = search rules;
}

use Rattle.zeb_engine.proofs.Cited.{◌≡◌, ◌∙◌, Ok, ap, false, rules, string_bytes, bytes_eq, state, RefusesText, TellsText}
use Rattle.zeb_engine.proofs.TextLooks.{look_told, tells_found, tells_missing}
use Rattle.zeb_engine.proofs.looks.keeps_text.Goals as goal

pub returns-in-Some-clause-looks : goal.returns-in-Some-clause-looks
returns-in-Some-clause-looks g c = record {
  idle = search rules;
  look = λ clean.
      let old = state g.S.Store c.args.connection.now in
      let name = c.args.name.now in
      let text = c.args.text.now in
      let found = c.in-Some.found in
      let was = c.in_ok-found.ensures.call.ok clean in
      let tested : c.eq.result ≡ bytes_eq c.as_str.result.now text = search rules in
      let spelled : c.as_str.result.now ≡ string_bytes found = search rules in
      look_told (TellsText name text) (RefusesText name) name old (state g.S.Store c.meta_of.new.conn) (c.meta_of.ensures.call.same clean c.requires.idle) (Ok c.eq.result) (λ store. tt)
      (was.0.was_open, was.0.is_open) (λ store. tells_found old store name text c.in_ok-found.field-0 found c.in-Some.is (c.in_ok-found.ensures.finds clean store) c.eq.result (tested ∙ ap (λ t. bytes_eq t text) spelled));
  crash = search rules;
}

pub returns-in-None-clause-looks : goal.returns-in-None-clause-looks
returns-in-None-clause-looks g c = record {
  idle = search rules;
  look = λ clean.
      let old = state g.S.Store c.args.connection.now in
      let name = c.args.name.now in
      let was = c.in_ok-found.ensures.call.ok clean in
      look_told (TellsText name c.args.text.now) (RefusesText name) name old (state g.S.Store c.meta_of.new.conn) (c.meta_of.ensures.call.same clean c.requires.idle) (Ok false) (λ store. tt)
      (was.0.was_open, was.0.is_open) (λ store. tells_missing old.now.trees name c.args.text.now c.in_ok-found.field-0 c.in-None.is (c.in_ok-found.ensures.finds clean store));
  crash = search rules;
}

use Rattle.zeb_profile.proofs.Cited.{◌≡◌, None, Some, ap, sym, ◌∙◌, option_copied, arith, length, identifier_pattern, store_path, directives_in}
use Rattle.zeb_profile.proofs.Lacks.{fails_crowded, fails_unidentified, fails_without_store, lacks_nothing, no_line, untied}
use Rattle.zeb_profile.proofs.reading.settle.Goals as goal

pub returns-in_default-identifier_pattern-clause-lacks : goal.returns-in_default-identifier_pattern-clause-lacks
returns-in_default-identifier_pattern-clause-lacks c =
    let tied : untied c.args.placed.now ≡ None = no_line (untied c.args.placed.now) (sym c.in_default.is ∙ c.in_ok-line.ensures) in
    let identifier : identifier_pattern (directives_in c.args.placed.now) ≡ None =
    sym c.identifier_pattern.ensures ∙ ap option_copied c.in_default-identifier_pattern.is in
    fails_unidentified c.at_line-in_default-identifier_pattern.result c.args.placed.now
    record { is_kind = c.at_line-in_default-identifier_pattern.ensures.kind; line = c.at_line-in_default-identifier_pattern.ensures.other (λ same. absurd (cc)) } tied identifier

pub returns-in_default-store_path-clause-lacks : goal.returns-in_default-store_path-clause-lacks
returns-in_default-store_path-clause-lacks c =
    let tied : untied c.args.placed.now ≡ None = no_line (untied c.args.placed.now) (sym c.in_default.is ∙ c.in_ok-line.ensures) in
    let identifier : identifier_pattern (directives_in c.args.placed.now) ≡ Some c.in-Some-identifier_pattern.identifier.now =
    sym c.identifier_pattern.ensures ∙ ap option_copied c.in-Some-identifier_pattern.is in
    let store : store_path (directives_in c.args.placed.now) ≡ None = sym c.store_path.ensures ∙ ap option_copied c.in_default-store_path.is in
    fails_without_store c.at_line-in_default-store_path.result c.args.placed.now c.in-Some-identifier_pattern.identifier.now
    record { is_kind = c.at_line-in_default-store_path.ensures.kind; line = c.at_line-in_default-store_path.ensures.other (λ same. absurd (cc)) } tied identifier store

pub returns-then-len-clause-lacks : goal.returns-then-len-clause-lacks
returns-then-len-clause-lacks c =
    let tied : untied c.args.placed.now ≡ None = no_line (untied c.args.placed.now) (sym c.in_default.is ∙ c.in_ok-line.ensures) in
    let identifier : identifier_pattern (directives_in c.args.placed.now) ≡ Some c.in-Some-identifier_pattern.identifier.now =
    sym c.identifier_pattern.ensures ∙ ap option_copied c.in-Some-identifier_pattern.is in
    let store : store_path (directives_in c.args.placed.now) ≡ Some c.in-Some-store_path.store.now =
    sym c.store_path.ensures ∙ ap option_copied c.in-Some-store_path.is in
    fails_crowded c.at_line-then-len.result c.args.placed.now c.in-Some-identifier_pattern.identifier.now c.in-Some-store_path.store.now
    record { is_kind = c.at_line-then-len.ensures.kind; line = c.at_line-then-len.ensures.other (λ same. absurd (cc)) } tied identifier store (omega (arith, ap length c.requires.names, c.len.ensures, c.args.indexes.now.names.ok.0))

pub returns-clause-settled : goal.returns-clause-settled
returns-clause-settled c =
    let tied : untied c.args.placed.now ≡ None = no_line (untied c.args.placed.now) (sym c.in_default.is ∙ c.in_ok-line.ensures) in
    let identifier : identifier_pattern (directives_in c.args.placed.now) ≡ Some c.in-Some-identifier_pattern.identifier.now =
    sym c.identifier_pattern.ensures ∙ ap option_copied c.in-Some-identifier_pattern.is in
    let store : store_path (directives_in c.args.placed.now) ≡ Some c.in-Some-store_path.store.now =
    sym c.store_path.ensures ∙ ap option_copied c.in-Some-store_path.is in
    record {
      whole = lacks_nothing c.args.placed.now c.in-Some-identifier_pattern.identifier.now c.in-Some-store_path.store.now tied identifier store (omega (arith, ap length c.requires.names, c.len.ensures, c.args.indexes.now.names.ok.0));
      identifier = identifier;
      store = store;
      few = omega (arith, ap length c.requires.names, c.len.ensures, c.args.indexes.now.names.ok.0);
    }

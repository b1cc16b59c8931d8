use Rattle.zeb_packed.proofs.Cited.{refl, rules, sym, subst, LiesIn, refused_rows}
use Rattle.zeb_packed.proofs.HeldTurns.{not_counted, not_followed, not_found, not_left, unit_turned}
use Rattle.zeb_packed.proofs.packed_parts.KeyBlock.changed.Goals as goal

pub postings_changed-requires-clause-lies : goal.postings_changed-requires-clause-lies
postings_changed-requires-clause-lies c = subst (λ b. LiesIn b c.args.self.list.items) (sym c.requires.inside) c.requires.lies

pub returns-then-lacks_records : goal.returns-then-lacks_records
returns-then-lacks_records c =
    let held = c.args.self in
    let none = c.lacks_records.ensures.lacks c.if-lacks_records.true in
    record { turned = λ told. not_counted c.args.change.now held.block held.list.items held.records c.requires.inside c.requires.lies c.requires.stored none.0 none.1; lies = tt; block = tt }

pub returns-in_err-list : goal.returns-in_err-list
returns-in_err-list c = record {
  turned = refused_rows c.in_err-list.field-0.0 c.from_residual.result c.from_residual.ensures.1 _ _ (λ told.
      let held = c.args.self in
      not_found c.args.change.now held.block held.list.items held.records c.requires.inside c.requires.lies c.requires.stored (c.in_err-list.ensures.turned told));
  lies = search rules;
  block = search rules;
}

pub returns-in_default : goal.returns-in_default
returns-in_default c =
    let held = c.args.self in
    record { turned = λ told. not_followed c.args.change.now held.block held.list.items held.records c.requires.inside c.requires.lies c.requires.stored c.in_default.ensures; lies = tt; block = tt }

pub returns : goal.returns
returns c =
    let held = c.args.self in
    let next = c.in_ok-list.list.items in
    let lies = subst (λ b. LiesIn b next) c.requires.inside c.in_ok-list.ensures.lies in
    record {
      turned = unit_turned c.args.change.now held.block held.list.items held.records c.requires.inside c.requires.lies c.requires.stored next c.in-Some.records c.in_ok-list.ensures.turned lies c.in-Some.ensures.0 c.in-Some.ensures.1
          (search rules) (search rules);
      lies = lies;
      block = refl;
    }

pub returns-then-lacks_records-2 : goal.returns-then-lacks_records-2
returns-then-lacks_records-2 c =
    let held = c.args.self in
    let next = c.in_ok-list.list.items in
    let lies = subst (λ b. LiesIn b next) c.requires.inside c.in_ok-list.ensures.lies in
    let none = c.lacks_records-2.ensures.lacks c.if-lacks_records-2.true in
    record { turned = λ told. not_left c.args.change.now held.block held.list.items held.records c.requires.inside c.requires.lies c.requires.stored next c.in-Some.records c.in_ok-list.ensures.turned lies c.in-Some.ensures.0 none.0 none.1; lies = tt; block = tt }

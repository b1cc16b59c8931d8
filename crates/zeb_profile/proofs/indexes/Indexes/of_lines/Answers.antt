use Rattle.zeb_profile.proofs.Cited.{◌≡◌, ◌+◌, ◌∷◌, ◌++◌, ap, sym, ◌∙◌, arith, map, drop, fold, first_spelling, numbered, directives_in}
use Rattle.zeb_profile.proofs.IndexFacts.{names_from}
use Rattle.zeb_profile.proofs.NamesByNumber.{drop-next}
use Rattle.zeb_profile.proofs.Numbering.{first_spelling-same, index_names-numbered, names_after-end}
use Rattle.zeb_profile.proofs.Spellings.{IsSpelledBy, numbered_first, spelled_first, spelled_numbered}
use Rattle.zeb_profile.proofs.indexes.Indexes.of_lines.Goals as goal

pub add-requires-clause-spelling : goal.add-requires-clause-spelling
add-requires-clause-spelling c = λ new.
    let target = c.target-item.result in
    let left = map (λ target. target.name) (drop (c.loop-target.target-index + 1) c.targets-target-items.result.now) ++ names_from (c.loop-line.line-index + 1) c.args.placed.now in
    let next = drop-next c.targets-target-items.result.now c.loop-target.target-index target c.loop-target-test.true c.target-item.is in
    let spelled : IsSpelledBy c.match-line.tied c.loop-target.indexes.names.items (target.name ∷ left) (names_from 0 c.args.placed.now) = rw next at c.loop-target.invariant.spelled in
    rw (spelled_first c.match-line.tied c.loop-target.indexes.names.items left (names_from 0 c.args.placed.now) target.name spelled new) (first_spelling-same (directives_in c.args.placed.now) target.name)

pub loop-target-preserved : goal.loop-target-preserved
loop-target-preserved c =
    let target = c.target-item.result in
    let names = c.loop-target.indexes.names.items in
    let spell = first_spelling (directives_in c.args.placed.now) in
    let all = names_from 0 c.args.placed.now in
    let left = map (λ target. target.name) (drop (c.loop-target.target-index + 1) c.targets-target-items.result.now) ++ names_from (c.loop-line.line-index + 1) c.args.placed.now in
    let next = drop-next c.targets-target-items.result.now c.loop-target.target-index target c.loop-target-test.true c.target-item.is in
    let spelled : IsSpelledBy c.match-line.tied names (target.name ∷ left) all = rw next at c.loop-target.invariant.spelled in
    let grown : c.add.new.self.names.items ≡ numbered spell names target.name = c.in_ok-add.ensures.names ∙ numbered_first c.match-line.tied names left all target.name spelled in
    record {
      numbers = c.in_ok-add.ensures.numbers;
      names = rw grown (rw next at c.loop-target.invariant.names);
      spelled = rw grown (spelled_numbered spell c.match-line.tied names left all target.name (λ _. first_spelling-same (directives_in c.args.placed.now) target.name) spelled);
    }

pub returns : goal.returns
returns c = record {
  names =
      ap (fold (numbered (first_spelling (directives_in c.args.placed.now))) c.loop-line.indexes.names.items) (sym (names_after-end c.loop-line.line-index c.args.placed.now (omega arith)))
      ∙ c.loop-line.invariant.names ∙ index_names-numbered c.args.placed.now;
  numbers = c.loop-line.invariant.numbers;
}

use Rattle.zeb_query.proofs.Cited.{◌≡◌, Some, sym, ap, ◌∙◌, AttributeSet, first_keyword, left, word_of}
use Rattle.zeb_query.proofs.GrammarLemmas.{spells_no_set, spells_set}
use Rattle.std.proofs.Common.{rules}
use Rattle.zeb_query.proofs.grammar.attribute_set_of.Goals as goal

pub returns-then-ne : goal.returns-then-ne
returns-then-ne c = record { goes = λ n. search rules; spelled = spells_no_set c.args.rest }

pub returns : goal.returns
returns c =
    let found : first_keyword (left c.args.rest) ≡ Some AttributeSet = search rules in
    record {
      goes = λ n. search rules;
      spelled = spells_set c.args.rest c.in_ok-after.after c.in_ok-text.after (word_of c.in_ok-after.field-0-0.now) _ c.in_ok-after.ensures
          (sym (ap first_keyword c.in_ok-after.ensures.is) ∙ found) c.in_ok-text.ensures;
    }

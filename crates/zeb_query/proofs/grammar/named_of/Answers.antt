use Rattle.zeb_query.proofs.Cited.{sym, ap, ◌∙◌, first_keyword, word_of, head_value}
use Rattle.zeb_query.proofs.GrammarLemmas.{spells_named}
use Rattle.zeb_query.proofs.grammar.named_of.Goals as goal
use Rattle.std.proofs.Common.{rules}

pub returns : goal.returns
returns c =
    let reads = c.in_ok-word.ensures in
    record {
      goes = λ n. search rules;
      spelled = spells_named c.args.rest c.in_ok-word.after c.in_ok-text.after (head_value c.args.head) (word_of c.in_ok-word.word.now) _ reads (sym (ap first_keyword reads.is) ∙ c.requires) c.in_ok-text.ensures;
    }

use Rattle.zeb_query.proofs.Cited.{sym, ap, ◌∙◌, first_keyword, word_of, head_value}
use Rattle.zeb_query.proofs.GrammarLemmas.{spells_term}
use Rattle.zeb_query.proofs.grammar.term_of.Goals as goal
use Rattle.std.proofs.Common.{rules}

pub returns : goal.returns
returns c =
    let reads = c.in_ok-word.ensures in
    record {
      goes = λ n. search rules;
      spelled = spells_term c.args.rest c.in_ok-word.after (head_value c.args.head) (word_of c.in_ok-word.word.now) _ reads (sym c.requires ∙ ap first_keyword reads.is) c.in_ok-text.ensures.cases;
    }

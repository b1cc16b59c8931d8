use Rattle.zeb_query.proofs.Cited.{suc, Some, [], ◌∷◌, ◌∙◌, refl, ap, sym, first_keyword, TermType, word_of, head_value, is_typed, with_type, MoreWords}
use Rattle.zeb_query.proofs.GrammarLemmas.{fault_of-keyword, heads-with_type}
use Rattle.zeb_query.proofs.grammar.read_term_type.Goals as goal

pub returns : goal.returns
returns c =
    let keyword = word_of c.in_ok-after.field-0-0.now in
    let reads = c.in_ok-after.ensures in
    let found = sym (ap first_keyword reads.is) ∙ c.requires in
    let type = c.in_ok-text.ensures in
    let old = head_value c.args.head.now in
    record {
      goes = λ n. fault_of-keyword TermType c.args.rest c.in_ok-after.after keyword reads found n (MoreWords 0 (suc n)) (λ room. refl) ∙ type.goes 0 (suc n);
      spelled = record {
        keyword = keyword;
        words = type.word ∷ [];
        piece = with_type type.word.text;
        is = reads.is ∙ ap (λ ws. keyword ∷ ws) type.reads.is;
        new_is = ap (λ t. record { attributes = old.attributes; term_type = Some t }) type.text_is ∙ heads-with_type old type.word.text;
        spells = λ more tree. is_typed keyword type.word more tree found type.reads.good;
      };
    }

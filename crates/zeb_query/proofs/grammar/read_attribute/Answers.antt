use Rattle.zeb_query.proofs.Cited.{None, [], ◌∷◌, ◌∙◌, refl, ap, sym, first_keyword, Attribute, word_of, attribute_value, SetOrSpec}
use Rattle.zeb_query.proofs.GrammarLemmas.{fault_of-keyword}
use Rattle.zeb_query.proofs.grammar.read_attribute.Goals as goal

pub returns : goal.returns
returns c =
    let attr = word_of c.in_ok-after.field-0-0.now in
    let reads = c.in_ok-after.ensures in
    let found = sym (ap first_keyword reads.is) ∙ c.requires in
    let spelled = c.in_ok-attribute.ensures.spelled in
    record {
      goes = λ n. fault_of-keyword Attribute c.args.rest c.in_ok-after.after attr reads found n (SetOrSpec n) (λ room. refl) ∙ c.in_ok-attribute.ensures.goes n;
      spelled = record {
        keyword = attr;
        words = spelled.words;
        piece = record { attributes = attribute_value c.in_ok-attribute.attribute ∷ []; term_type = None };
        is = reads.is ∙ ap (λ ws. attr ∷ ws) spelled.is;
        new_is = c.in_ok-push_attribute.ensures;
        spells = λ more tree. spelled.spells attr more tree found;
      };
    }

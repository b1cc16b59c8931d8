use Rattle.zeb_query.proofs.Cited.{sym, ap, ◌∙◌, suc, word_of, attribute_value, has_equals, SetOrSpec, Spec, Structures}
use Rattle.zeb_query.proofs.GrammarLemmas.{spells_attribute, spells_attribute_of_set, fault_of-read}
use Rattle.zeb_query.proofs.GrammarLaws.{over-set, over-set_or_spec, over-spec}
use Rattle.zeb_query.proofs.grammar.attribute_of.Goals as goal

pub returns-then-has_equals : goal.returns-then-has_equals
returns-then-has_equals c =
    let word = word_of c.in_ok-word.word.now in
    let reads = c.in_ok-word.ensures in
    let spec = c.in_ok-attribute.ensures in
    record {
      goes = λ n. fault_of-read c.args.rest c.in_ok-word.after word reads (SetOrSpec n) (Structures (suc n)) (λ end room ws. over-set_or_spec end room n word ws _ reads.good spec.read);
      spelled = spells_attribute c.args.rest c.in_ok-word.after (attribute_value c.in_ok-attribute.attribute) word reads spec;
    }

pub returns : goal.returns
returns c =
    let set = word_of c.in_ok-word.word.now in
    let word = word_of c.in_ok-spec.spec.now in
    let reads = c.in_ok-word.ensures in
    let then = c.in_ok-spec.ensures in
    let spec = c.in_ok-attribute-2.ensures in
    let plain = sym (ap has_equals c.as_str.ensures.value) ∙ sym c.if-has_equals.ensures in
    record {
      goes = λ n.
          fault_of-read c.args.rest c.in_ok-word.after set reads (SetOrSpec n) (Spec n) (λ end room ws. over-set end room n set ws reads.good plain)
          ∙ fault_of-read c.in_ok-word.after c.in_ok-spec.after word then (Spec n) (Structures (suc n)) (λ end room ws. over-spec end room n word ws _ then.good spec.read);
      spelled = spells_attribute_of_set c.args.rest c.in_ok-word.after c.in_ok-spec.after (attribute_value c.in_ok-attribute-2.attribute) set word _ reads plain c.in_ok-set.ensures.cases then spec;
    }

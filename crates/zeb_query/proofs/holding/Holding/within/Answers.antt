use Rattle.zeb_query.proofs.Cited.{◌≡◌, ◌<◌, ◌≤◌, ◌++◌, sym, ap, subst, ◌∙◌, Some, length, get_or, take, option_map, string_bytes, attribute_value, or_else, holding_value, held_with}
use Rattle.std.proofs.Common.{map}
use Rattle.zeb_query.specs.Attributes.{holding_of}
use Rattle.zeb_query.proofs.HoldingLemmas.{holding_of-more, holding_of-type, take_whole}
use Rattle.zeb_query.proofs.holding.Holding.within.Goals as goal

pub loop-attribute-preserved : goal.loop-attribute-preserved
loop-attribute-preserved c = λ set outer held.
    let items = c.args.head.now.attributes.items in
    let i = c.loop-attribute.attribute-index in
    let r = c.attribute-item.result in
    let found : r ≡ get_or items i r = c.attribute-item.is ∙ ap (λ xs. get_or xs i r) c.deref-attribute-items.ensures.value in
    holding_of-more set outer items i r (holding_value c.loop-attribute.holding) (holding_value c.add.new.self)
    (subst (λ xs. i < length xs) c.deref-attribute-items.ensures.value c.loop-attribute-test.true)
    (c.add.ensures ∙ ap (λ a. held_with (holding_value c.loop-attribute.holding) (attribute_value a)) found)
    (c.loop-attribute.invariant set outer held)

pub returns-in-Some : goal.returns-in-Some
returns-in-Some c = λ set outer held.
    let items = c.args.head.now.attributes.items in
    let i = c.loop-attribute.attribute-index in
    let type = c.as_str.result.now in
    let all : take i items ≡ items = take_whole items i (subst (λ xs. length xs ≤ i) c.deref-attribute-items.ensures.value c.loop-attribute-test.false) in
    let whole : option_map (λ s. string_bytes s) c.args.head.now.term_type ≡ Some type =
    ap (λ t. option_map (λ s. string_bytes s) t) c.in-Some.is ∙ ap (λ t. Some t) (sym c.as_str.ensures.value) in
    holding_of-type set (outer.attributes ++ map attribute_value (take i items)) outer.term_type type (holding_value c.loop-attribute.holding) (c.loop-attribute.invariant set outer held)
    ∙ ap (λ xs. holding_of set (record { attributes = outer.attributes ++ map attribute_value xs; term_type = Some type })) all
    ∙ sym (ap (λ t. holding_of set (record { attributes = outer.attributes ++ map attribute_value items; term_type = or_else t outer.term_type })) whole)

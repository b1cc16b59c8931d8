use Rattle.zeb_query.proofs.Cited.{◌≡◌, ℕ, List, Option, take, HeadValue, attribute_value, holding_value}
use Rattle.std.proofs.Common.{map}
use Rattle.zeb_query.specs.Attributes.{holding_of}
use Rattle.zeb_query.proofs.HoldingLemmas.{with_more}
use Rattle.zeb_query.proofs.holding.Holding.within.Given as goal

abbrev pub invariant-loop-attribute : goal.invariant-loop-attribute
invariant-loop-attribute l = (set : Option (List ℕ)) (outer : HeadValue) → holding_value l.fn.self ≡ holding_of set outer
    → holding_value l.holding ≡ holding_of set (with_more outer (map attribute_value (take l.attribute-index l.head.attributes.items)))

use Rattle.zeb_laws.proofs.Cited.{refl, inl, inr, has_contained, contains_had, named_there, with_base_has, with_base_in_order, with_base}
use Rattle.zeb_laws.proofs.holding_laws.a_database_is_in_its_place.Goals as goal

pub returns-clause-members : goal.returns-clause-members
returns-clause-members c base bases up other =
    let has = with_base_has base bases other up in (
      λ h. elim (has.0 (has_contained (with_base base bases) other h)) [ inl one ↦ inl one | inr kept ↦ inr (contains_had bases other kept.0, kept.1) ],
      λ h. contains_had (with_base base bases) other (has.1 (elim h [ inl one ↦ inl one | inr kept ↦ inr (has_contained bases other kept.0, kept.1) ])),
    )

pub returns-clause-rising : goal.returns-clause-rising
returns-clause-rising c = with_base_in_order

pub returns-clause-named : goal.returns-clause-named
returns-clause-named c base bases up = named_there (with_base base bases) base (with_base_in_order base bases up) ((with_base_has base bases base up).1 (inl refl))

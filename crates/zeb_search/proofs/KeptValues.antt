-- Where none of a term's checks applies, each of its values is its table's.
use Rattle.std.specs.Option.{is_none, is_some, unwrap_or}
use Rattle.zeb_search.proofs.Cited.{◌≡◌, ℕ, Bool, true, false, cond, not, ◌&&◌, List, [], ◌∷◌, Option, Some, None, refl, Ok, PlanValue, TermOf, Profile, Compared, Incomplete, Phrase, Entries, Record, HeadValue, TermValue, heads, no_head, HoldingValue, completeness_of, holding_of, index_used, is_local_number, position_of, relation_of, structure_of, truncation_of, values_held, Check, find_checks, first_that_applies, plan_asked, plan_of, answered_ok, none-cons, AreKept, IsNamed}
use Rattle.zeb_text.specs.declared.Cut.TheVariants as cut
use Rattle.zeb_query.specs.declared.attributes.Position.TheVariants.{Any}
use Rattle.zeb_query.specs.declared.plans.Relation.TheVariants.{Equal}

some_value : {A : Type 0} (o : Option A) (d : A) → is_none o ≡ false → o ≡ Some (unwrap_or o d)
some_value None d e = absurd cc
some_value (Some x) d e = refl

no_value : {A : Type 0} (o : Option A) → is_some o ≡ false → o ≡ None
no_value None e = refl
no_value (Some x) e = absurd cc

-- written or not
either_way : {A : Type 0} (text : Option A) (b : Bool) → (is_some text && b) ≡ false → (is_none text && b) ≡ false → b ≡ false
either_way None b named unnamed = unnamed
either_way (Some x) b named unnamed = named

is_named : (profile : Profile) (h : HoldingValue) (local : Bool) → is_local_number h.structure ≡ local
    → (not local && (is_some h.use_attribute && is_none (index_used profile h.use_attribute))) ≡ false
    → (not local && (is_none h.use_attribute && is_none (index_used profile h.use_attribute))) ≡ false
    → (not local && is_none (structure_of h.structure)) ≡ false
    → IsNamed profile h
    (cond local Record (Entries (unwrap_or (index_used profile h.use_attribute) 0) (unwrap_or (structure_of h.structure) Phrase)))
is_named profile h true e named unnamed structure = e
is_named profile h false e named unnamed structure = (
  e,
  (
    some_value (structure_of h.structure) Phrase structure,
    some_value (index_used profile h.use_attribute) 0 (either_way h.use_attribute _ named unnamed),
  ),
)

-- none of the checks applies
abbrev NoneApplies : List Check → Type 0
NoneApplies [] = Unit {0}
NoneApplies (c ∷ cs) = (c.applies ≡ false) × NoneApplies cs

none_applies : (cs : List Check) → first_that_applies cs ≡ None → NoneApplies cs
none_applies [] e = tt
none_applies (c ∷ cs) e = let first = none-cons c cs e in (first.0, none_applies cs first.1)

are_kept : (profile : Profile) (place : ℕ) (h : HoldingValue) (text : List ℕ) → NoneApplies (find_checks profile place h text)
    → AreKept profile h (values_held profile h)
are_kept profile place h text none = record {
  set = no_value h.other_set none.1.0;
  kind = no_value h.other_kind none.1.1.0;
  subject = is_named profile h (is_local_number h.structure) refl none.1.1.1.0 none.1.1.1.1.0 none.1.1.1.1.1.1.1.0;
  relation = some_value (relation_of h.relation) (Compared Equal) none.1.1.1.1.1.0;
  position = some_value (position_of h.position) Any none.1.1.1.1.1.1.0;
  truncation = some_value (truncation_of h.truncation) cut.None none.1.1.1.1.1.1.1.1.0;
  completeness = some_value (completeness_of h.completeness) Incomplete none.1.1.1.1.1.1.1.1.1.0;
}

-- of a query that is one term
pub kept_by_query : (profile : Profile) (set : Option (List ℕ)) (place : ℕ) (head : HeadValue) (text : List ℕ) (plan : PlanValue)
    → plan_of profile (record { attrset = set; tree = TermValue place head text }) ≡ Ok plan
    → AreKept profile (holding_of set (heads no_head head)) (values_held profile (holding_of set (heads no_head head)))
kept_by_query profile set place head text plan e =
    let h = holding_of set (heads no_head head) in
    let none = (answered_ok (first_that_applies (find_checks profile place h text)) (TermOf (plan_asked profile h text)) plan e).0 in
    are_kept profile place h text (none_applies (find_checks profile place h text) none)

-- The attributes that hold, one attribute after another.
use Rattle.zeb_query.proofs.Cited.{◌≡◌, ℕ, ◌+◌, ◌<◌, Bool, true, false, List, [], ◌∷◌, ◌++◌, Option, Some, None, length, get_or, take, cond, eqb, arith, ◌≤◌, refl, ap, sym, ◌∙◌, append_assoc, map, option_to_list, find, map-append, take_more, common_steps, AttributeValue, HeadValue, attribute_value, no_head, HoldingValue, is_other_set, is_other_kind, sets_in, or_else, value_held, held_with}
use Rattle.zeb_query.specs.declared.queries.Attribute.{Attribute}
use Rattle.zeb_query.specs.Attributes.{holding_of}

pub same_holding : {a a' : Option (List ℕ)} {b b' : Option ℕ} {c c' d d' e e' f f' g g' h h' i i' : Option (List ℕ)} → a ≡ a' → b ≡ b' → c ≡ c' → d ≡ d' → e ≡ e' → f ≡ f' → g ≡ g' → h ≡ h' → i ≡ i' →
    ◌≡◌ {A = HoldingValue}
    (record { other_set = a; other_kind = b; term_type = c; use_attribute = d; relation = e; position = f; structure = g; truncation = h; completeness = i })
    (record { other_set = a'; other_kind = b'; term_type = c'; use_attribute = d'; relation = e'; position = f'; structure = g'; truncation = h'; completeness = i' })
same_holding p q r s t u v w x = cc

or_else-cond : {A : Type 0} (b : Bool) (x : A) (front later : Option A) → or_else (cond b (Some x) front) later ≡ cond b (Some x) (or_else front later)
or_else-cond true x front later = refl
or_else-cond false x front later = refl

find-append : {A : Type 0} (p : A → Bool) (xs ys : List A) → find p (xs ++ ys) ≡ or_else (find p xs) (find p ys)
find-append p [] ys = refl
find-append p (x ∷ xs) ys = ap (λ r. cond (p x) (Some x) r) (find-append p xs ys) ∙ sym (or_else-cond (p x) x (find p xs) (find p ys))

sets_in-append : (attrs bs : List AttributeValue) → sets_in (attrs ++ bs) ≡ sets_in attrs ++ sets_in bs
sets_in-append [] bs = refl
sets_in-append (a ∷ attrs) bs = ap (λ ss. option_to_list a.set ++ ss) (sets_in-append attrs bs) ∙ sym (append_assoc (option_to_list a.set) (sets_in attrs) (sets_in bs))

first_by : (found set : Option (List ℕ)) → or_else found (find is_other_set (option_to_list set)) ≡ or_else found (find is_other_set (option_to_list set ++ []))
first_by found (Some set) = refl
first_by found None = refl

value_held-push : (k : ℕ) (attrs : List AttributeValue) (a : AttributeValue) → value_held k (attrs ++ a ∷ []) ≡ cond (eqb a.kind k) (Some a.value) (value_held k attrs)
value_held-push k [] a = refl
value_held-push k (b ∷ bs) a = ap (λ v. or_else v (cond (eqb b.kind k) (Some b.value) None)) (value_held-push k bs a) ∙ at (eqb a.kind k)
  where
    at : (t : Bool) → or_else (cond t (Some a.value) (value_held k bs)) (cond (eqb b.kind k) (Some b.value) None) ≡ cond t (Some a.value) (or_else (value_held k bs) (cond (eqb b.kind k) (Some b.value) None))
    at true = refl
    at false = refl

-- a head with one more attribute inside
abbrev pub with_more : HeadValue → List AttributeValue → HeadValue
with_more head attributes = record { attributes = head.attributes ++ attributes; term_type = head.term_type }

pub holding_of-push : (set : Option (List ℕ)) (head : HeadValue) (a : AttributeValue) → held_with (holding_of set head) a ≡ holding_of set (with_more head (a ∷ []))
unfolding holding_of
holding_of-push set head a =
    let attrs = head.attributes in
    same_holding
    (first_by (find is_other_set (option_to_list set ++ sets_in attrs)) a.set
    ∙ sym (find-append is_other_set (option_to_list set ++ sets_in attrs) (option_to_list a.set ++ []))
    ∙ ap (λ ss. find is_other_set ss) (append_assoc (option_to_list set) (sets_in attrs) (option_to_list a.set ++ []) ∙ ap (λ ss. option_to_list set ++ ss) (sym (sets_in-append attrs (a ∷ [])))))
    (sym (ap (λ ks. find is_other_kind ks) (map-append (λ (b : AttributeValue). b.kind) attrs (a ∷ [])) ∙ find-append is_other_kind (map (λ (b : AttributeValue). b.kind) attrs) (a.kind ∷ [])))
    refl
    (sym (value_held-push 1 attrs a)) (sym (value_held-push 2 attrs a)) (sym (value_held-push 3 attrs a)) (sym (value_held-push 4 attrs a)) (sym (value_held-push 5 attrs a)) (sym (value_held-push 6 attrs a))

-- one more attribute of a head's own
pub holding_of-more : (set : Option (List ℕ)) (head : HeadValue) (items : List Attribute) (i : ℕ) (d : Attribute) (before after : HoldingValue) → i < length items → after ≡ held_with before (attribute_value (get_or items i d)) → before ≡ holding_of set (with_more head (map attribute_value (take i items))) → after ≡ holding_of set (with_more head (map attribute_value (take (i + 1) items)))
holding_of-more set head items i d before after lt step so_far =
    let a = attribute_value (get_or items i d) in
    let front = map attribute_value (take i items) in
    step ∙ ap (λ h. held_with h a) so_far ∙ holding_of-push set (with_more head front) a
    ∙ ap (λ attrs. holding_of set (record { attributes = attrs; term_type = head.term_type }))
    (append_assoc head.attributes front (a ∷ []) ∙ ap (λ attrs. head.attributes ++ attrs) (sym (map-append attribute_value (take i items) (get_or items i d ∷ [])) ∙ ap (λ xs. map attribute_value xs) (sym (take_more items i d lt))))

-- a term type inside of all others
pub holding_of-type : (set : Option (List ℕ)) (attrs : List AttributeValue) (outer : Option (List ℕ)) (type : List ℕ) (h : HoldingValue) → h ≡ holding_of set (record { attributes = attrs; term_type = outer }) → record h { term_type = Some type } ≡ holding_of set (record { attributes = attrs; term_type = Some type })
unfolding holding_of
holding_of-type set attrs outer type h e = ap {A = HoldingValue} (λ g. record g { term_type = Some type }) e

pub holding_of-set : (set : Option (List ℕ)) → holding_of set no_head ≡ record { other_set = find is_other_set (option_to_list set); other_kind = None; term_type = None; use_attribute = None; relation = None; position = None; structure = None; truncation = None; completeness = None }
unfolding holding_of
holding_of-set set = same_holding (sym (first_by None set)) refl refl refl refl refl refl refl refl

pub take_whole : {A : Type 0} (xs : List A) (i : ℕ) → length xs ≤ i → take i xs ≡ xs
take_whole xs i h = grind (arith, common_steps)

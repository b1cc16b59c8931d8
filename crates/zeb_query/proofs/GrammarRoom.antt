-- Operators that there is no room for: a query's fault is 6 at the first of them, if there is one.
use Rattle.zeb_query.proofs.Cited.{◌≡◌, ℕ, zero, suc, ◌+◌, ◌<◌, ◌≤◌, ◌⊎◌, inl, inr, List, [], ◌∷◌, ◌++◌, Option, Some, None, length, refl, ap, sym, subst, ◌∙◌, arith, append_assoc, length-append, slice_get, option_map, slice_get_past, AttributeSet, Attribute, TermType, Operator, Word, TreeValue, QueryValue, IsStructure, is_term, is_named, is_attribute, is_attribute_of_set, is_typed, is_pair, IsQuery, is_structure, is_structure_of_set, parameter_count, with_attribute, with_type, Start, Structures, SetOrSpec, MoreWords, words_then, fault, Refused, structure_step, start_step, operators}
use Rattle.zeb_query.proofs.GrammarLemmas.{append-nil, fault-start, fault-step, step-structure, good_from_keyword, words_count}
use Rattle.zeb_query.proofs.GrammarLaws.{operators-under, over, over-keyword, over-word, over-words, over-set, over-spec, over-set_or_spec, over-operator, over_structure, over_query, not_set_first}

-- 6 at a place
abbrev pub six_at : ℕ → ℕ × ℕ
six_at place = (6, place)

-- the fault of operators at these places, where there is room for so many
abbrev pub crowd : ℕ → List ℕ → Option (ℕ × ℕ)
crowd room places = option_map six_at (slice_get places room)

get_front : (xs ys : List ℕ) (n : ℕ) → n < length xs → slice_get (xs ++ ys) n ≡ slice_get xs n
get_front [] ys n h = absurd (omega arith)
get_front (x ∷ xs) ys zero h = refl
get_front (x ∷ xs) ys (suc n) h = get_front xs ys n (omega arith)

get_back : (xs ys : List ℕ) (n : ℕ) → slice_get (xs ++ ys) (length xs + n) ≡ slice_get ys n
get_back [] ys n = ap (λ k. slice_get ys k) (omega arith)
get_back (x ∷ xs) ys n =
    let next : length (x ∷ xs) + n ≡ suc (length xs + n) = omega arith in
    ap (λ k. slice_get (x ∷ (xs ++ ys)) k) next ∙ get_back xs ys n

-- below a number, or so much above it
below_or_above : (n m : ℕ) → (n < m) ⊎ ((k : ℕ) × (n ≡ m + k))
below_or_above n zero = inr (n, omega arith)
below_or_above zero (suc m) = inl (omega arith)
below_or_above (suc n) (suc m) = elim (below_or_above n m) [
  | inl h ↦ inl (omega arith)
  | inr p ↦ inr (p.0, omega arith)
]

crowded_structure : {ws : List Word} {t : TreeValue} → IsStructure ws t → (end room n : ℕ) (rest : List Word) → room < length (operators t) → fault end room (Structures (suc n)) (ws ++ rest) ≡ crowd room (operators t)
crowded_structure (is_term term good key) end room n rest h = absurd (omega arith)
crowded_structure (is_named set name key good) end room n rest h = absurd (omega arith)
crowded_structure (is_attribute attr spec words tree read key good e inside) end room n rest h =
    let same : operators _ ≡ operators tree = operators-under (with_attribute None read) tree in
    over-keyword end room n (SetOrSpec n) Attribute attr (spec ∷ (words ++ rest)) key refl
    ∙ over-set_or_spec end room n spec (words ++ rest) read good e
    ∙ crowded_structure inside end room n rest (subst (λ ps. room < length ps) same h)
    ∙ ap (λ ps. crowd room ps) (sym same)
crowded_structure (is_attribute_of_set attr set spec words tree read key good plain good2 e inside) end room n rest h =
    let same : operators _ ≡ operators tree = operators-under (with_attribute (Some set.text) read) tree in
    over-keyword end room n (SetOrSpec n) Attribute attr (set ∷ spec ∷ (words ++ rest)) key refl
    ∙ over-set end room n set (spec ∷ (words ++ rest)) good plain
    ∙ over-spec end room n spec (words ++ rest) read good2 e
    ∙ crowded_structure inside end room n rest (subst (λ ps. room < length ps) same h)
    ∙ ap (λ ps. crowd room ps) (sym same)
crowded_structure (is_typed keyword type words tree key good inside) end room n rest h =
    let same : operators _ ≡ operators tree = operators-under (with_type type.text) tree in
    over-keyword end room n (MoreWords 0 (suc n)) TermType keyword (type ∷ (words ++ rest)) key refl
    ∙ over-word end room 0 (suc n) type (words ++ rest) good
    ∙ crowded_structure inside end room n rest (subst (λ ps. room < length ps) same h)
    ∙ ap (λ ps. crowd room ps) (sym same)
crowded_structure (is_pair operator word connective ps left right x y key is good l m) end zero n rest h =
    fault-step end 0 (Structures (suc n)) operator _ (Refused 6)
    (step-structure 0 n operator (good_from_keyword operator (Operator word) key) ∙ ap (λ j. structure_step 0 j n) key)
crowded_structure (is_pair operator word connective ps left right x y key is good l m) end (suc r) n rest h =
    over-operator end r n word operator ((ps ++ (left ++ right)) ++ rest) key
    ∙ ap (λ ws. fault end r (words_then (parameter_count word) (suc (suc n))) ws) (append_assoc ps (left ++ right) rest ∙ ap (λ ws. ps ++ ws) (append_assoc left right rest))
    ∙ over-words end r (parameter_count word) (suc (suc n)) ps (left ++ (right ++ rest)) (words_count word ps connective is) good
    ∙ operands (below_or_above r (length (operators x))) (crowded_structure l end r (suc n) (right ++ rest)) (λ k. crowded_structure m end k n rest)
  where
    operands : ((r < length (operators x)) ⊎ ((k : ℕ) × (r ≡ length (operators x) + k)))
        → (r < length (operators x) → fault end r (Structures (suc (suc n))) (left ++ (right ++ rest)) ≡ crowd r (operators x))
        → ((k : ℕ) → k < length (operators y) → fault end k (Structures (suc n)) (right ++ rest) ≡ crowd k (operators y))
        → fault end r (Structures (suc (suc n))) (left ++ (right ++ rest)) ≡ crowd r (operators x ++ operators y)
    operands (inl b) one other =
        one b
        ∙ ap (λ p. option_map six_at p) (sym (get_front (operators x) (operators y) r b))
    operands (inr p) one other =
        over_structure l end r p.0 (suc n) (right ++ rest) p.1
        ∙ other p.0 (omega (arith, length-append (operators x) (operators y)))
        ∙ ap (λ q. option_map six_at q) (sym (get_back (operators x) (operators y) p.0))
        ∙ ap (λ q. crowd q (operators x ++ operators y)) (sym p.1)

crowded_query : {ws : List Word} {q : QueryValue} → IsQuery ws q → (end room : ℕ) → room < length (operators q.tree) → fault end room Start ws ≡ crowd room (operators q.tree)
crowded_query (is_structure words tree s) end room h =
    fault-start end room words (not_set_first s)
    ∙ ap (λ ws. fault end room (Structures 1) ws) (sym (append-nil words))
    ∙ crowded_structure s end room 0 [] h
crowded_query (is_structure_of_set keyword set words tree key good s) end room h =
    over end room room Start (MoreWords 0 1) keyword (set ∷ words) (rw (good_from_keyword keyword AttributeSet key) (ap (λ k. start_step room k) key))
    ∙ over-word end room 0 1 set words good
    ∙ ap (λ ws. fault end room (Structures 1) ws) (sym (append-nil words))
    ∙ crowded_structure s end room 0 [] h

-- a query's fault
pub fault_of_query : {ws : List Word} {q : QueryValue} → IsQuery ws q → (end room : ℕ) → fault end room Start ws ≡ crowd room (operators q.tree)
fault_of_query {ws} {q} s end room = decide (below_or_above room (length (operators q.tree)))
  where
    decide : ((room < length (operators q.tree)) ⊎ ((k : ℕ) × (room ≡ length (operators q.tree) + k))) → fault end room Start ws ≡ crowd room (operators q.tree)
    decide (inl h) = crowded_query s end room h
    decide (inr p) =
        let fits : length (operators q.tree) ≤ room = omega arith in
        over_query s end room fits ∙ ap (λ x. option_map six_at x) (sym (slice_get_past (operators q.tree) room fits))

-- and where it has none, there is room for its operators
pub room_for_query : {ws : List Word} {q : QueryValue} → IsQuery ws q → (end room : ℕ) → fault end room Start ws ≡ None → length (operators q.tree) ≤ room
room_for_query {ws} {q} s end room e = decide (below_or_above room (length (operators q.tree)))
  where
    decide : ((room < length (operators q.tree)) ⊎ ((k : ℕ) × (room ≡ length (operators q.tree) + k))) → length (operators q.tree) ≤ room
    decide (inl h) = absurd (some_place (operators q.tree) room h (sym (fault_of_query s end room) ∙ e))
      where
        some_place : (xs : List ℕ) (n : ℕ) → n < length xs → crowd n xs ≡ None → ⊥
        some_place [] n b f = absurd (omega arith)
        some_place (x ∷ xs) zero b f = absurd (cc)
        some_place (x ∷ xs) (suc n) b f = some_place xs n (omega arith) f
    decide (inr p) = omega arith

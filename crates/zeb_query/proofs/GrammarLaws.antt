-- A structure is read to its end and no further, and one text is one structure.
use Rattle.zeb_query.proofs.Cited.{◌≡◌, ◌≢◌, ℕ, zero, suc, ◌+◌, ◌-◌, ◌≤◌, Bool, true, false, true≢false, List, [], ◌∷◌, ◌++◌, Some, None, length, refl, ap, sym, ◌∙◌, arith, append_assoc, length-append, list_all, list_any, position_or_len, one-add, OperatorWord, Keyword, AttributeSet, Attribute, TermType, ResultSet, Operator, Word, keyword_of, IsStructure, is_term, is_named, is_attribute, is_attribute_of_set, is_typed, is_pair, IsQuery, is_structure, is_structure_of_set, is_good, has_equals, is_equals_sign, parameter_count, under, with_attribute, with_type, HeadValue, TreeValue, TermValue, NamedValue, PairValue, QueryValue, Due, Start, Structures, SetOrSpec, Spec, MoreWords, words_then, fault, Allowed, step, structure_step, start_step, operators, first_keyword}
use Rattle.std.proofs.Common.{◌||◌}
use Rattle.zeb_query.specs.Grammar.{kind_and_value}
use Rattle.zeb_query.proofs.DigitLemmas.{and_parts}
use Rattle.zeb_query.proofs.GrammarLemmas.{kind_and_value-none, append-nil, fault-start, fault-step, step-structure, good_from_keyword, words_count}

-- a SPEC has `=`
or_parts : (a b : Bool) → (a || b) ≡ false → (a ≡ false) × (b ≡ false)
or_parts true b e = absurd (true≢false e)
or_parts false b e = (refl, e)

position-any : (text : List ℕ) → list_any is_equals_sign text ≡ false → position_or_len is_equals_sign text ≡ length text
position-any [] e = refl
position-any (b ∷ bs) e =
    let p : (is_equals_sign b ≡ false) × (list_any is_equals_sign bs ≡ false) = or_parts (is_equals_sign b) (list_any is_equals_sign bs) e in
    rw (p.0, one-add) (ap suc (position-any bs p.1))

pub has_equals_from_read : (text : List ℕ) (read : ℕ × List ℕ) → kind_and_value text ≡ Some read → has_equals text ≡ true
has_equals_from_read text read e = decide (has_equals text) refl
  where
    decide : (b : Bool) → has_equals text ≡ b → has_equals text ≡ true
    decide true h = h
    decide false h = let n : kind_and_value text ≡ None = kind_and_value-none text (position-any text h) in cc

pub operators-under : (h : HeadValue) (t : TreeValue) → operators (under h t) ≡ operators t
operators-under h (TermValue place head text) = refl
operators-under h (NamedValue place head name) = refl
operators-under h (PairValue place head connective left right) = refl

-- one step over a word
pub over : (end room r : ℕ) (due next : Due) (w : Word) (ws : List Word) → step room w due ≡ Allowed r next → fault end room due (w ∷ ws) ≡ fault end r next ws
over end room r due next w ws e = fault-step end room due w ws (Allowed r next) e

pub over-keyword : (end room n : ℕ) (next : Due) (k : Keyword) (w : Word) (ws : List Word) → keyword_of w ≡ Some k → structure_step room (Some k) n ≡ Allowed room next → fault end room (Structures (suc n)) (w ∷ ws) ≡ fault end room next ws
over-keyword end room n next k w ws key e =
    over end room room (Structures (suc n)) next w ws (step-structure room n w (good_from_keyword w k key) ∙ ap (λ j. structure_step room j n) key ∙ e)

pub over-word : (end room k n : ℕ) (w : Word) (ws : List Word) → is_good w ≡ true → fault end room (MoreWords k n) (w ∷ ws) ≡ fault end room (words_then k n) ws
over-word end room k n w ws good = over end room room (MoreWords k n) (words_then k n) w ws (rw good refl)

pub over-words : (end room k n : ℕ) (ps ws : List Word) → length ps ≡ k → list_all is_good ps ≡ true → fault end room (words_then k n) (ps ++ ws) ≡ fault end room (Structures n) ws
over-words end room zero n [] ws e good = refl
over-words end room zero n (p ∷ ps) ws e good = absurd (omega arith)
over-words end room (suc k) n [] ws e good = absurd (omega arith)
over-words end room (suc k) n (p ∷ ps) ws e good =
    let g : (is_good p ≡ true) × (list_all is_good ps ≡ true) = and_parts (is_good p) (list_all is_good ps) good in
    over-word end room k n p (ps ++ ws) g.0 ∙ over-words end room k n ps ws (omega arith) g.1

pub over-set : (end room n : ℕ) (w : Word) (ws : List Word) → is_good w ≡ true → has_equals w.text ≡ false → fault end room (SetOrSpec n) (w ∷ ws) ≡ fault end room (Spec n) ws
over-set end room n w ws good plain = over end room room (SetOrSpec n) (Spec n) w ws (rw (good, plain) refl)

pub over-spec : (end room n : ℕ) (w : Word) (ws : List Word) (read : ℕ × List ℕ) → is_good w ≡ true → kind_and_value w.text ≡ Some read → fault end room (Spec n) (w ∷ ws) ≡ fault end room (Structures (suc n)) ws
over-spec end room n w ws read good e = over end room room (Spec n) (Structures (suc n)) w ws (rw (good, e) refl)

pub over-set_or_spec : (end room n : ℕ) (w : Word) (ws : List Word) (read : ℕ × List ℕ) → is_good w ≡ true → kind_and_value w.text ≡ Some read → fault end room (SetOrSpec n) (w ∷ ws) ≡ fault end room (Structures (suc n)) ws
over-set_or_spec end room n w ws read good e =
    let has : has_equals w.text ≡ true = has_equals_from_read w.text read e in
    over end room room (SetOrSpec n) (Structures (suc n)) w ws (rw (good, has, e) refl)

pub over-operator : (end r n : ℕ) (connective : OperatorWord) (w : Word) (ws : List Word) → keyword_of w ≡ Some (Operator connective) → fault end (suc r) (Structures (suc n)) (w ∷ ws) ≡ fault end r (words_then (parameter_count connective) (suc (suc n))) ws
over-operator end r n connective w ws key =
    over end (suc r) r (Structures (suc n)) (words_then (parameter_count connective) (suc (suc n))) w ws
    (step-structure (suc r) n w (good_from_keyword w (Operator connective) key) ∙ ap (λ j. structure_step (suc r) j n) key)

-- a structure is read to its end and no further
pub over_structure : {ws : List Word} {t : TreeValue} → IsStructure ws t → (end room r n : ℕ) (rest : List Word) → room ≡ length (operators t) + r → fault end room (Structures (suc n)) (ws ++ rest) ≡ fault end r (Structures n) rest
over_structure (is_term term good key) end room r n rest has =
    let same : room ≡ r = omega arith in
    over end room room (Structures (suc n)) (Structures n) term rest (step-structure room n term good ∙ ap (λ j. structure_step room j n) key)
    ∙ ap (λ m. fault end m (Structures n) rest) same
over_structure (is_named set name key good) end room r n rest has =
    let same : room ≡ r = omega arith in
    over-keyword end room n (MoreWords 0 n) ResultSet set (name ∷ rest) key refl
    ∙ over-word end room 0 n name rest good
    ∙ ap (λ m. fault end m (Structures n) rest) same
over_structure (is_attribute attr spec words tree read key good e inside) end room r n rest has =
    over-keyword end room n (SetOrSpec n) Attribute attr (spec ∷ (words ++ rest)) key refl
    ∙ over-set_or_spec end room n spec (words ++ rest) read good e
    ∙ over_structure inside end room r n rest (has ∙ ap (λ ps. length ps + r) (operators-under (with_attribute None read) tree))
over_structure (is_attribute_of_set attr set spec words tree read key good plain good2 e inside) end room r n rest has =
    over-keyword end room n (SetOrSpec n) Attribute attr (set ∷ spec ∷ (words ++ rest)) key refl
    ∙ over-set end room n set (spec ∷ (words ++ rest)) good plain
    ∙ over-spec end room n spec (words ++ rest) read good2 e
    ∙ over_structure inside end room r n rest (has ∙ ap (λ ps. length ps + r) (operators-under (with_attribute (Some set.text) read) tree))
over_structure (is_typed keyword type words tree key good inside) end room r n rest has =
    over-keyword end room n (MoreWords 0 (suc n)) TermType keyword (type ∷ (words ++ rest)) key refl
    ∙ over-word end room 0 (suc n) type (words ++ rest) good
    ∙ over_structure inside end room r n rest (has ∙ ap (λ ps. length ps + r) (operators-under (with_type type.text) tree))
over_structure (is_pair operator word connective ps left right x y key is good l m) end room r n rest has =
    let below : ℕ = length (operators x) + (length (operators y) + r) in
    let whole : room ≡ suc below = has ∙ omega (arith, length-append (operators x) (operators y)) in
    ap (λ k. fault end k (Structures (suc n)) (operator ∷ ((ps ++ (left ++ right)) ++ rest))) whole
    ∙ over-operator end below n word operator ((ps ++ (left ++ right)) ++ rest) key
    ∙ ap (λ ws. fault end below (words_then (parameter_count word) (suc (suc n))) ws) (append_assoc ps (left ++ right) rest ∙ ap (λ ws. ps ++ ws) (append_assoc left right rest))
    ∙ over-words end below (parameter_count word) (suc (suc n)) ps (left ++ (right ++ rest)) (words_count word ps connective is) good
    ∙ over_structure l end below (length (operators y) + r) (suc n) (right ++ rest) refl
    ∙ over_structure m end (length (operators y) + r) r n rest refl

-- no structure begins with @attrset
pub not_set_first : {ws : List Word} {t : TreeValue} → IsStructure ws t → first_keyword ws ≢ Some AttributeSet
not_set_first (is_term term good key) e = cc
not_set_first (is_named set name key good) e = cc
not_set_first (is_attribute attr spec words tree read key good e inside) h = cc
not_set_first (is_attribute_of_set attr set spec words tree read key good plain good2 e inside) h = cc
not_set_first (is_typed keyword type words tree key good inside) h = cc
not_set_first (is_pair operator word connective ps left right x y key is good l m) h = cc

over_whole : {ws : List Word} {t : TreeValue} → IsStructure ws t → (end room : ℕ) → length (operators t) ≤ room → fault end room (Structures 1) ws ≡ None
over_whole {ws} {t} s end room fits =
    ap (λ xs. fault end room (Structures 1) xs) (sym (append-nil ws))
    ∙ over_structure s end room (room - length (operators t)) 0 [] (omega arith)

pub over_query : {ws : List Word} {q : QueryValue} → IsQuery ws q → (end room : ℕ) → length (operators q.tree) ≤ room → fault end room Start ws ≡ None
over_query (is_structure words tree s) end room fits = fault-start end room words (not_set_first s) ∙ over_whole s end room fits
over_query (is_structure_of_set keyword set words tree key good s) end room fits =
    over end room room Start (MoreWords 0 1) keyword (set ∷ words) (rw (good_from_keyword keyword AttributeSet key) (ap (λ k. start_step room k) key))
    ∙ over-word end room 0 1 set words good
    ∙ over_whole s end room fits

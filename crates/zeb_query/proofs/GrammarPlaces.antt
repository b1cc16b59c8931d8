-- Which words may follow: a word is allowed exactly where some text goes on with it, unless there is no room for an operator.
use Rattle.zeb_query.proofs.Cited.{◌≡◌, ℕ, zero, suc, ◌⊎◌, inl, inr, Bool, true, false, List, [], ◌∷◌, ◌++◌, Option, Some, None, length, refl, ap, sym, subst, ◌∙◌, arith, append_assoc, list_all, OperatorWord, Plain, Keyword, AttributeSet, Attribute, TermType, ResultSet, Operator, Word, keyword_of, IsStructure, is_term, is_named, is_attribute, is_attribute_of_set, is_typed, is_pair, IsQuery, is_structure, is_structure_of_set, is_good, has_equals, parameter_count, under, no_head, with_attribute, TreeValue, TermValue, QueryValue, Due, Start, Structures, SetOrSpec, Spec, MoreWords, words_then, fault, fault_at_end, Step, Allowed, Refused, step, good_step, structure_step, start_step, spec_step, operator_step, first_keyword, map, text_of, length-map}
use Rattle.std.specs.Prelude.{codes}
use Rattle.zeb_query.specs.Grammar.{kind_and_value}
use Rattle.zeb_query.proofs.DigitLemmas.{and_parts}
use Rattle.zeb_query.proofs.GrammarLemmas.{append-nil, step-start, step-structure, good_from_keyword, connective_with, words_count}
use Rattle.zeb_query.proofs.GrammarLaws.{has_equals_from_read, not_set_first, over-words, over-set_or_spec, over-spec}
use Rattle.zeb_query.proofs.GrammarOnce.{Attributed, AttributedOfSet, shape_of, heads_same, tails_same, no_set}

-- the words are so many structures
pub record Parted (P : List Word → Type 0) (ws : List Word) : Type 0 where
  pub front : List Word
  pub rest : List Word
  pub tree : TreeValue
  pub is : ws ≡ front ++ rest
  pub spelled : IsStructure front tree
  pub past : P rest

abbrev pub AreStructures : ℕ → List Word → Type 0
AreStructures zero ws = ws ≡ []
AreStructures (suc n) ws = Parted (AreStructures n) ws

pub record WordsThen (P : List Word → Type 0) (k : ℕ) (ws : List Word) : Type 0 where
  pub parameters : List Word
  pub rest : List Word
  pub is : ws ≡ parameters ++ rest
  pub count : length parameters ≡ k
  pub good : list_all is_good parameters ≡ true
  pub past : P rest

-- the words are what is due
abbrev pub Completes : Due → List Word → Type 0
Completes Start ws = (q : QueryValue) × IsQuery ws q
Completes (Structures n) ws = AreStructures n ws
Completes (SetOrSpec n) ws = (attr : Word) → keyword_of attr ≡ Some Attribute → AreStructures (suc n) (attr ∷ ws)
Completes (Spec n) ws = (attr set : Word) → keyword_of attr ≡ Some Attribute → is_good set ≡ true → has_equals set.text ≡ false → AreStructures (suc n) (attr ∷ set ∷ ws)
Completes (MoreWords k n) ws = WordsThen (AreStructures n) (suc k) ws

words_due : (k n : ℕ) (ps rest : List Word) → length ps ≡ k → list_all is_good ps ≡ true → AreStructures n rest → Completes (words_then k n) (ps ++ rest)
words_due zero n [] rest e good c = c
words_due zero n (p ∷ ps) rest e good c = absurd (omega arith)
words_due (suc k) n ps rest e good c = record { parameters = ps; rest = rest; is = refl; count = e; good = good; past = c }

due_words : (k n : ℕ) (ws : List Word) → Completes (words_then k n) ws → WordsThen (AreStructures n) k ws
due_words zero n ws c = record { parameters = []; rest = ws; is = refl; count = refl; good = refl; past = c }
due_words (suc k) n ws c = c

-- after a word that begins what is due, the rest is what is due then, unless there was no room for an operator
abbrev pub After : Step → List Word → Type 0
After (Allowed room due) ws = Completes due ws
After (Refused number) ws = number ≡ 6

stepped : (s t : Step) (ws : List Word) → s ≡ t → After t ws → After s ws
stepped s t ws e a = subst (λ x. After x ws) (sym e) a

after_operator : (room n : ℕ) (connective : OperatorWord) (ps rest ws : List Word) → ws ≡ ps ++ rest → length ps ≡ parameter_count connective → list_all is_good ps ≡ true → AreStructures (suc (suc n)) rest → After (operator_step room connective n) ws
after_operator zero n connective ps rest ws is count good c = refl
after_operator (suc room) n connective ps rest ws is count good c = subst (λ xs. Completes (words_then (parameter_count connective) (suc (suc n))) xs) (sym is) (words_due (parameter_count connective) (suc (suc n)) ps rest count good c)

one_good : (w : Word) → is_good w ≡ true → list_all is_good (w ∷ []) ≡ true
one_good w good = rw good refl

pub step-keyword : (room n : ℕ) (w : Word) (k : Keyword) → keyword_of w ≡ Some k → step room w (Structures (suc n)) ≡ structure_step room (Some k) n
step-keyword room n w k key = step-structure room n w (good_from_keyword w k key) ∙ ap (λ j. structure_step room j n) key

after_structure : {a : List Word} {t : TreeValue} → IsStructure a t → (n room : ℕ) (ws rest : List Word) (w : Word) → w ∷ ws ≡ a ++ rest → AreStructures n rest → After (step room w (Structures (suc n))) ws
after_structure (is_term term good key) n room ws rest w e c =
    let same : w ≡ term = heads_same e in
    subst (λ x. After (step room x (Structures (suc n))) ws) (sym same)
    (stepped _ (Allowed room (Structures n)) ws (step-structure room n term good ∙ ap (λ k. structure_step room k n) key)
    (subst (λ xs. AreStructures n xs) (sym (tails_same e)) c))
after_structure (is_named set name key good) n room ws rest w e c =
    let same : w ≡ set = heads_same e in
    subst (λ x. After (step room x (Structures (suc n))) ws) (sym same)
    (stepped _ (Allowed room (MoreWords 0 n)) ws (step-keyword room n set ResultSet key)
    (record { parameters = name ∷ []; rest = rest; is = tails_same e; count = refl; good = one_good name good; past = c }))
after_structure (is_attribute attr spec words tree read key good reads inside) n room ws rest w e c =
    let same : w ≡ attr = heads_same e in
    subst (λ x. After (step room x (Structures (suc n))) ws) (sym same)
    (stepped _ (Allowed room (SetOrSpec n)) ws (step-keyword room n attr Attribute key)
    (λ attr2 key2. record { front = attr2 ∷ spec ∷ words; rest = rest; tree = under (with_attribute None read) tree; is = ap (λ xs. attr2 ∷ xs) (tails_same e); spelled = is_attribute attr2 spec words tree read key2 good reads inside; past = c }))
after_structure (is_attribute_of_set attr set spec words tree read key good plain good2 reads inside) n room ws rest w e c =
    let same : w ≡ attr = heads_same e in
    subst (λ x. After (step room x (Structures (suc n))) ws) (sym same)
    (stepped _ (Allowed room (SetOrSpec n)) ws (step-keyword room n attr Attribute key)
    (λ attr2 key2. record { front = attr2 ∷ set ∷ spec ∷ words; rest = rest; tree = under (with_attribute (Some set.text) read) tree; is = ap (λ xs. attr2 ∷ xs) (tails_same e); spelled = is_attribute_of_set attr2 set spec words tree read key2 good plain good2 reads inside; past = c }))
after_structure (is_typed keyword type words tree key good inside) n room ws rest w e c =
    let same : w ≡ keyword = heads_same e in
    let more : AreStructures (suc n) (words ++ rest) = record { front = words; rest = rest; tree = tree; is = refl; spelled = inside; past = c } in
    subst (λ x. After (step room x (Structures (suc n))) ws) (sym same)
    (stepped _ (Allowed room (MoreWords 0 (suc n))) ws (step-keyword room n keyword TermType key)
    (record { parameters = type ∷ []; rest = words ++ rest; is = tails_same e; count = refl; good = one_good type good; past = more }))
after_structure (is_pair operator word connective ps left right x z key is good l r) n room ws rest w e c =
    let same : w ≡ operator = heads_same e in
    let second : AreStructures (suc n) (right ++ rest) = record { front = right; rest = rest; tree = z; is = refl; spelled = r; past = c } in
    let first : AreStructures (suc (suc n)) (left ++ (right ++ rest)) = record { front = left; rest = right ++ rest; tree = x; is = refl; spelled = l; past = second } in
    subst (λ y. After (step room y (Structures (suc n))) ws) (sym same)
    (stepped _ (operator_step room word n) ws (step-keyword room n operator (Operator word) key)
    (after_operator room n word ps (left ++ (right ++ rest)) ws
    (tails_same e ∙ append_assoc ps (left ++ right) rest ∙ ap (λ xs. ps ++ xs) (append_assoc left right rest)) (words_count word ps connective is) good first))

-- words to try: @attr, a set, a SPEC and a term
abbrev the_attr : Word
the_attr = record { place = 0; spelling = Plain; text = codes "@attr" }

abbrev pub the_set : Word
the_set = record { place = 0; spelling = Plain; text = codes "x" }

abbrev the_spec : Word
the_spec = record { place = 0; spelling = Plain; text = codes "1=1" }

attr_is : keyword_of the_attr ≡ Some Attribute
attr_is = refl

spec_is : (read : ℕ × List ℕ) × (kind_and_value the_spec.text ≡ Some read)
unfolding kind_and_value
spec_is = ((1, codes "1"), refl)

step-spec_is : (room n : ℕ) (w : Word) (read : ℕ × List ℕ) → is_good w ≡ true → kind_and_value w.text ≡ Some read → step room w (Spec n) ≡ Allowed room (Structures (suc n))
step-spec_is room n w read good e = rw (good, e) refl

step-set_or_spec_is : (room n : ℕ) (w : Word) (read : ℕ × List ℕ) → is_good w ≡ true → kind_and_value w.text ≡ Some read → step room w (SetOrSpec n) ≡ Allowed room (Structures (suc n))
step-set_or_spec_is room n w read good e =
    let has : has_equals w.text ≡ true = has_equals_from_read w.text read e in rw (good, has, e) refl

step-set_is : (room n : ℕ) (w : Word) → is_good w ≡ true → has_equals w.text ≡ false → step room w (SetOrSpec n) ≡ Allowed room (Spec n)
step-set_is room n w good plain = rw (good, plain) refl

after_attr : (n room : ℕ) (w : Word) (ws : List Word) → Parted (AreStructures n) (the_attr ∷ w ∷ ws) → After (step room w (SetOrSpec n)) ws
after_attr n room w ws c =
    let s : Attributed the_attr (w ∷ ws) c.rest c.front c.tree ⊎ AttributedOfSet the_attr (w ∷ ws) c.rest c.front c.tree = shape_of c.spelled the_attr (w ∷ ws) c.rest c.is in
    elim s [
      | inl p ↦
          subst (λ x. After (step room x (SetOrSpec n)) ws) (sym (heads_same p.rest_is))
          (stepped _ (Allowed room (Structures (suc n))) ws (step-set_or_spec_is room n p.spec p.read p.good p.reads)
          (record { front = p.words; rest = c.rest; tree = p.tree; is = tails_same p.rest_is; spelled = p.inside; past = c.past }))
      | inr p ↦
          subst (λ x. After (step room x (SetOrSpec n)) ws) (sym (heads_same p.rest_is))
          (stepped _ (Allowed room (Spec n)) ws (step-set_is room n p.set p.good p.plain)
          (λ attr2 set2 key2 good2 plain2. record { front = attr2 ∷ set2 ∷ p.spec ∷ p.words; rest = c.rest; tree = under (with_attribute (Some set2.text) p.read) p.tree; is = ap (λ xs. attr2 ∷ set2 ∷ xs) (tails_same p.rest_is); spelled = is_attribute_of_set attr2 set2 p.spec p.words p.tree p.read key2 good2 plain2 p.good_spec p.reads p.inside; past = c.past }))
    ]

after_set : (n room : ℕ) (w : Word) (ws : List Word) → Parted (AreStructures n) (the_attr ∷ the_set ∷ w ∷ ws) → After (step room w (Spec n)) ws
after_set n room w ws c =
    let s : Attributed the_attr (the_set ∷ w ∷ ws) c.rest c.front c.tree ⊎ AttributedOfSet the_attr (the_set ∷ w ∷ ws) c.rest c.front c.tree = shape_of c.spelled the_attr (the_set ∷ w ∷ ws) c.rest c.is in
    elim s [
      | inl p ↦ absurd (no_set p.spec p.read p.reads (ap (λ x. has_equals x.text) (sym (heads_same p.rest_is))))
      | inr p ↦
          let t : w ∷ ws ≡ p.spec ∷ (p.words ++ c.rest) = tails_same p.rest_is in
          subst (λ x. After (step room x (Spec n)) ws) (sym (heads_same t))
          (stepped _ (Allowed room (Structures (suc n))) ws (step-spec_is room n p.spec p.read p.good_spec p.reads)
          (record { front = p.words; rest = c.rest; tree = p.tree; is = tails_same t; spelled = p.inside; past = c.past }))
    ]

after_words : (k n room : ℕ) (w : Word) (ws ps rest : List Word) → w ∷ ws ≡ ps ++ rest → length ps ≡ suc k → list_all is_good ps ≡ true → AreStructures n rest → After (step room w (MoreWords k n)) ws
after_words k n room w ws [] rest e count good c = absurd (omega arith)
after_words k n room w ws (p ∷ ps) rest e count good c =
    let g : (is_good p ≡ true) × (list_all is_good ps ≡ true) = and_parts (is_good p) (list_all is_good ps) good in
    subst (λ x. After (step room x (MoreWords k n)) ws) (sym (heads_same e))
    (stepped _ (Allowed room (words_then k n)) ws (rw (g.0) refl)
    (subst (λ xs. Completes (words_then k n) xs) (sym (tails_same e)) (words_due k n ps rest (omega arith) g.1 c)))

after_query : {us : List Word} {q : QueryValue} → IsQuery us q → (room : ℕ) (w : Word) (ws : List Word) → us ≡ w ∷ ws → After (step room w Start) ws
after_query (is_structure us tree s) room w ws e =
    stepped _ _ ws (step-start room w (λ h. not_set_first s (ap first_keyword e ∙ h)))
    (after_structure s 0 room ws [] w (sym e ∙ sym (append-nil us)) refl)
after_query (is_structure_of_set keyword set us tree key good s) room w ws e =
    let one : AreStructures 1 us = record { front = us; rest = []; tree = tree; is = sym (append-nil us); spelled = s; past = refl } in
    subst (λ x. After (step room x Start) ws) (heads_same e)
    (stepped _ (Allowed room (MoreWords 0 1)) ws (rw (good_from_keyword keyword AttributeSet key) (ap (λ k. start_step room k) key))
    (record { parameters = set ∷ []; rest = us; is = sym (tails_same e); count = refl; good = one_good set good; past = one }))

-- no query goes on otherwise
pub forward : (due : Due) (w : Word) (ws : List Word) → Completes due (w ∷ ws) → (room : ℕ) → After (step room w due) ws
forward Start w ws c room = after_query c.1 room w ws refl
forward (Structures zero) w ws c room = absurd (cc)
forward (Structures (suc n)) w ws c room = after_structure c.spelled n room ws c.rest w c.is c.past
forward (SetOrSpec n) w ws c room = after_attr n room w ws (c the_attr attr_is)
forward (Spec n) w ws c room = after_set n room w ws (c the_attr the_set attr_is refl refl)
forward (MoreWords k n) w ws c room = after_words k n room w ws c.parameters c.rest c.is c.count c.good c.past

-- and each goes on so
steps_same : {r room : ℕ} {d due : Due} → Allowed room due ≡ Allowed r d → due ≡ d
steps_same e = cc

pub not_refused : {r number : ℕ} {d : Due} → Refused number ≡ Allowed r d → ⊥
not_refused e = absurd (cc)

single : (ps : List Word) → length ps ≡ 1 → (p : Word) × (ps ≡ p ∷ [])
single [] e = absurd (omega arith)
single (p ∷ []) e = (p, refl)
single (p ∷ q ∷ ps) e = absurd (omega arith)

before_keyword : (n room r : ℕ) (d : Due) (w : Word) (ws : List Word) (k : Option Keyword) → keyword_of w ≡ k → is_good w ≡ true → structure_step room k n ≡ Allowed r d → Completes d ws → AreStructures (suc n) (w ∷ ws)
before_keyword n room r d w ws None key good e c =
    record { front = w ∷ []; rest = ws; tree = TermValue w.place no_head w.text; is = refl; spelled = is_term w good key; past = subst (λ x. Completes x ws) (sym (steps_same e)) c }
before_keyword n room r d w ws (Some AttributeSet) key good e c = absurd (not_refused e)
before_keyword n room r d w ws (Some Attribute) key good e c =
    let p : Completes (SetOrSpec n) ws = subst (λ x. Completes x ws) (sym (steps_same e)) c in p w key
before_keyword n room r d w ws (Some TermType) key good e c =
    let p : Completes (MoreWords 0 (suc n)) ws = subst (λ x. Completes x ws) (sym (steps_same e)) c in
    let s = single p.parameters p.count in
    let g : is_good s.0 ≡ true = (and_parts (is_good s.0) true (sym (ap (λ qs. list_all is_good qs) s.1) ∙ p.good)).0 in
    record { front = w ∷ s.0 ∷ p.past.front; rest = p.past.rest; tree = _; is = ap (λ xs. w ∷ xs) (p.is ∙ ap (λ qs. qs ++ p.rest) s.1 ∙ ap (λ xs. s.0 ∷ xs) p.past.is); spelled = is_typed w s.0 p.past.front p.past.tree key g p.past.spelled; past = p.past.past }
before_keyword n room r d w ws (Some ResultSet) key good e c =
    let p : Completes (MoreWords 0 n) ws = subst (λ x. Completes x ws) (sym (steps_same e)) c in
    let s = single p.parameters p.count in
    let g : is_good s.0 ≡ true = (and_parts (is_good s.0) true (sym (ap (λ qs. list_all is_good qs) s.1) ∙ p.good)).0 in
    record { front = w ∷ s.0 ∷ []; rest = p.rest; tree = _; is = ap (λ xs. w ∷ xs) (p.is ∙ ap (λ qs. qs ++ p.rest) s.1); spelled = is_named w s.0 key g; past = p.past }
before_keyword n zero r d w ws (Some (Operator connective)) key good e c = absurd (not_refused e)
before_keyword n (suc room) r d w ws (Some (Operator connective)) key good e c =
    let p : WordsThen (AreStructures (suc (suc n))) (parameter_count connective) ws = due_words (parameter_count connective) (suc (suc n)) ws (subst (λ x. Completes x ws) (sym (steps_same e)) c) in
    let x = p.past in
    let y = x.past in
    let given = connective_with connective (map text_of p.parameters) (length-map p.parameters text_of ∙ p.count) in
    record {
      front = w ∷ (p.parameters ++ (x.front ++ y.front));
      rest = y.rest;
      tree = _;
      is = ap (λ xs. w ∷ xs) (p.is ∙ ap (λ xs. p.parameters ++ xs) (x.is ∙ ap (λ xs. x.front ++ xs) y.is ∙ sym (append_assoc x.front y.front y.rest)) ∙ sym (append_assoc p.parameters (x.front ++ y.front) y.rest));
      spelled = is_pair w connective given.0 p.parameters x.front y.front x.tree y.tree key given.1 p.good x.spelled y.spelled;
      past = y.past;
    }

query_of_one : (ws : List Word) → AreStructures 1 ws → (q : QueryValue) × IsQuery ws q
query_of_one ws c =
    let all : ws ≡ c.front = c.is ∙ ap (λ xs. c.front ++ xs) c.past ∙ append-nil c.front in
    (record { attrset = None; tree = c.tree }, subst (λ xs. IsQuery xs (record { attrset = None; tree = c.tree })) (sym all) (is_structure c.front c.tree c.spelled))

before_start : (room r : ℕ) (d : Due) (w : Word) (ws : List Word) (k : Option Keyword) → keyword_of w ≡ k → is_good w ≡ true → start_step room k ≡ Allowed r d → Completes d ws → (q : QueryValue) × IsQuery (w ∷ ws) q
before_start room r d w ws (Some AttributeSet) key good e c =
    let p : Completes (MoreWords 0 1) ws = subst (λ x. Completes x ws) (sym (steps_same e)) c in
    let s = single p.parameters p.count in
    let g : is_good s.0 ≡ true = (and_parts (is_good s.0) true (sym (ap (λ qs. list_all is_good qs) s.1) ∙ p.good)).0 in
    let all : p.rest ≡ p.past.front = p.past.is ∙ ap (λ xs. p.past.front ++ xs) p.past.past ∙ append-nil p.past.front in
    let whole : ws ≡ s.0 ∷ p.past.front = p.is ∙ ap (λ qs. qs ++ p.rest) s.1 ∙ ap (λ xs. s.0 ∷ xs) all in
    (record { attrset = Some s.0.text; tree = p.past.tree }, subst (λ xs. IsQuery (w ∷ xs) (record { attrset = Some s.0.text; tree = p.past.tree })) (sym whole) (is_structure_of_set w s.0 p.past.front p.past.tree key g p.past.spelled))
before_start room r d w ws None key good e c = query_of_one (w ∷ ws) (before_keyword 0 room r d w ws None key good e c)
before_start room r d w ws (Some Attribute) key good e c = query_of_one (w ∷ ws) (before_keyword 0 room r d w ws (Some Attribute) key good e c)
before_start room r d w ws (Some TermType) key good e c = query_of_one (w ∷ ws) (before_keyword 0 room r d w ws (Some TermType) key good e c)
before_start room r d w ws (Some ResultSet) key good e c = query_of_one (w ∷ ws) (before_keyword 0 room r d w ws (Some ResultSet) key good e c)
before_start room r d w ws (Some (Operator connective)) key good e c = query_of_one (w ∷ ws) (before_keyword 0 room r d w ws (Some (Operator connective)) key good e c)

read_or_refused : (room n r : ℕ) (d : Due) (text : List ℕ) (read : Option (ℕ × List ℕ)) → kind_and_value text ≡ read → spec_step room text n ≡ Allowed r d → (kv : ℕ × List ℕ) × (kind_and_value text ≡ Some kv) × (d ≡ Structures (suc n))
read_or_refused room n r d text None is e = absurd (not_refused (sym refusal ∙ e))
  where
    refusal : spec_step room text n ≡ Refused 108
    refusal = rw is refl
read_or_refused room n r d text (Some kv) is e = (kv, is, sym (steps_same (sym allowance ∙ e)))
  where
    allowance : spec_step room text n ≡ Allowed room (Structures (suc n))
    allowance = rw is refl

before_good : (due : Due) (w : Word) (ws : List Word) (room r : ℕ) (d : Due) → is_good w ≡ true → good_step room w due ≡ Allowed r d → Completes d ws → Completes due (w ∷ ws)
before_good Start w ws room r d good e c = before_start room r d w ws (keyword_of w) refl good e c
before_good (Structures zero) w ws room r d good e c = absurd (not_refused e)
before_good (Structures (suc n)) w ws room r d good e c = before_keyword n room r d w ws (keyword_of w) refl good e c
before_good (SetOrSpec n) w ws room r d good e c = split (has_equals w.text) refl
  where
    split : (b : Bool) → has_equals w.text ≡ b → Completes (SetOrSpec n) (w ∷ ws)
    split true is =
        let same : spec_step room w.text n ≡ Allowed r d = sym (rw is refl) ∙ e in
        let k = read_or_refused room n r d w.text (kind_and_value w.text) refl same in
        let p : AreStructures (suc n) ws = subst (λ x. Completes x ws) k.2 c in
        λ attr key. record { front = attr ∷ w ∷ p.front; rest = p.rest; tree = under (with_attribute None k.0) p.tree; is = ap (λ xs. attr ∷ w ∷ xs) p.is; spelled = is_attribute attr w p.front p.tree k.0 key good k.1 p.spelled; past = p.past }
    split false is =
        let same : Allowed room (Spec n) ≡ Allowed r d = sym (rw is refl) ∙ e in
        let p : Completes (Spec n) ws = subst (λ x. Completes x ws) (sym (steps_same same)) c in
        λ attr key. p attr w key good is
before_good (Spec n) w ws room r d good e c =
    let k = read_or_refused room n r d w.text (kind_and_value w.text) refl e in
    let p : AreStructures (suc n) ws = subst (λ x. Completes x ws) k.2 c in
    λ attr set key g plain. record { front = attr ∷ set ∷ w ∷ p.front; rest = p.rest; tree = under (with_attribute (Some set.text) k.0) p.tree; is = ap (λ xs. attr ∷ set ∷ w ∷ xs) p.is; spelled = is_attribute_of_set attr set w p.front p.tree k.0 key g plain good k.1 p.spelled; past = p.past }
before_good (MoreWords k n) w ws room r d good e c =
    let p : WordsThen (AreStructures n) k ws = due_words k n ws (subst (λ x. Completes x ws) (sym (steps_same e)) c) in
    record { parameters = w ∷ p.parameters; rest = p.rest; is = ap (λ xs. w ∷ xs) p.is; count = ap suc p.count; good = rw good p.good; past = p.past }

pub backward : (due : Due) (w : Word) (ws : List Word) (room r : ℕ) (d : Due) → step room w due ≡ Allowed r d → Completes d ws → Completes due (w ∷ ws)
backward due w ws room r d e c = split (is_good w) refl
  where
    split : (b : Bool) → is_good w ≡ b → Completes due (w ∷ ws)
    split true is = before_good due w ws room r d is (sym (step_is is) ∙ e) c
      where
        step_is : is_good w ≡ true → step room w due ≡ good_step room w due
        step_is h = rw h refl
    split false is = absurd (not_refused (sym (refusal is) ∙ e))
      where
        refusal : is_good w ≡ false → step room w due ≡ Refused 108
        refusal h = rw h refl

-- whatever is due, there are words for it
abbrev terms : ℕ → List Word
terms zero = []
terms (suc n) = the_set ∷ terms n

are_terms : (n : ℕ) → AreStructures n (terms n)
are_terms zero = refl
are_terms (suc n) = record { front = the_set ∷ []; rest = terms n; tree = TermValue 0 no_head the_set.text; is = refl; spelled = is_term the_set refl refl; past = are_terms n }

length-terms : (k : ℕ) → length (terms k) ≡ k
length-terms zero = refl
length-terms (suc k) = ap suc (length-terms k)

good-terms : (k : ℕ) → list_all is_good (terms k) ≡ true
good-terms zero = refl
good-terms (suc k) = good-terms k

pub completion : (due : Due) → (ws : List Word) × Completes due ws
completion Start = (the_set ∷ [], (record { attrset = None; tree = TermValue 0 no_head the_set.text }, is_structure (the_set ∷ []) (TermValue 0 no_head the_set.text) (is_term the_set refl refl)))
completion (Structures n) = (terms n, are_terms n)
completion (SetOrSpec n) =
    let p : AreStructures (suc n) (terms (suc n)) = are_terms (suc n) in
    (the_spec ∷ terms (suc n), λ attr key. record { front = attr ∷ the_spec ∷ p.front; rest = p.rest; tree = under (with_attribute None spec_is.0) p.tree; is = ap (λ xs. attr ∷ the_spec ∷ xs) p.is; spelled = is_attribute attr the_spec p.front p.tree spec_is.0 key refl spec_is.1 p.spelled; past = p.past })
completion (Spec n) =
    let p : AreStructures (suc n) (terms (suc n)) = are_terms (suc n) in
    (the_spec ∷ terms (suc n), λ attr set key good plain. record { front = attr ∷ set ∷ the_spec ∷ p.front; rest = p.rest; tree = under (with_attribute (Some set.text) spec_is.0) p.tree; is = ap (λ xs. attr ∷ set ∷ the_spec ∷ xs) p.is; spelled = is_attribute_of_set attr set the_spec p.front p.tree spec_is.0 key good plain refl spec_is.1 p.spelled; past = p.past })
completion (MoreWords k n) = (terms (suc k) ++ terms n, record { parameters = terms (suc k); rest = terms n; is = refl; count = length-terms (suc k); good = good-terms (suc k); past = are_terms n })

-- what completes a text without an operator
no_fault_in_terms : (n end room : ℕ) → fault end room (Structures n) (terms n) ≡ None
no_fault_in_terms zero end room = refl
no_fault_in_terms (suc n) end room = no_fault_in_terms n end room

pub no_fault_in_completion : (due : Due) (end room : ℕ) → fault end room due (completion due).0 ≡ None
unfolding completion
no_fault_in_completion Start end room = refl
no_fault_in_completion (Structures n) end room = no_fault_in_terms n end room
no_fault_in_completion (SetOrSpec n) end room = over-set_or_spec end room n the_spec (terms (suc n)) spec_is.0 refl spec_is.1 ∙ no_fault_in_terms (suc n) end room
no_fault_in_completion (Spec n) end room = over-spec end room n the_spec (terms (suc n)) spec_is.0 refl spec_is.1 ∙ no_fault_in_terms (suc n) end room
no_fault_in_completion (MoreWords k n) end room = over-words end room (suc k) n (terms (suc k)) (terms n) (length-terms (suc k)) (good-terms (suc k)) ∙ no_fault_in_terms n end room

-- nothing is what is due only where nothing is
nonempty : {a : List Word} {t : TreeValue} → IsStructure a t → (rest : List Word) → [] ≡ a ++ rest → ⊥
nonempty (is_term term good key) rest e = absurd (cc)
nonempty (is_named set name key good) rest e = absurd (cc)
nonempty (is_attribute attr spec words tree read key good reads inside) rest e = absurd (cc)
nonempty (is_attribute_of_set attr set spec words tree read key good plain good2 reads inside) rest e = absurd (cc)
nonempty (is_typed keyword type words tree key good inside) rest e = absurd (cc)
nonempty (is_pair operator word connective ps left right x z key is good l r) rest e = absurd (cc)

no_query : {us : List Word} {q : QueryValue} → IsQuery us q → us ≡ [] → ⊥
no_query (is_structure us tree s) e = nonempty s [] (sym e ∙ sym (append-nil us))
no_query (is_structure_of_set keyword set us tree key good s) e = absurd (cc)

pub nothing_due : (end : ℕ) (due : Due) → Completes due [] → fault_at_end end due ≡ None
nothing_due end Start c = absurd (no_query c.1 refl)
nothing_due end (Structures zero) c = refl
nothing_due end (Structures (suc n)) c = absurd (nonempty c.spelled c.rest c.is)
nothing_due end (SetOrSpec n) c =
    let p = c the_attr attr_is in
    let s : Attributed the_attr [] p.rest p.front p.tree ⊎ AttributedOfSet the_attr [] p.rest p.front p.tree = shape_of p.spelled the_attr [] p.rest p.is in
    elim s [ inl q ↦ let z = q.rest_is in absurd (empty_cons z) | inr q ↦ absurd (empty_cons q.rest_is) ]
  where
    empty_cons : {w : Word} {ws : List Word} → [] ≡ w ∷ ws → ⊥
    empty_cons h = absurd (cc)
nothing_due end (Spec n) c =
    let p = c the_attr the_set attr_is refl refl in
    let s : Attributed the_attr (the_set ∷ []) p.rest p.front p.tree ⊎ AttributedOfSet the_attr (the_set ∷ []) p.rest p.front p.tree = shape_of p.spelled the_attr (the_set ∷ []) p.rest p.is in
    elim s [
      | inl q ↦ absurd (no_set q.spec q.read q.reads (ap (λ x. has_equals x.text) (sym (heads_same q.rest_is))))
      | inr q ↦ absurd (empty_cons (tails_same q.rest_is))
    ]
  where
    empty_cons : {w : Word} {ws : List Word} → [] ≡ w ∷ ws → ⊥
    empty_cons h = absurd (cc)
nothing_due end (MoreWords k n) c = absurd (none c.parameters c.count c.is)
  where
    none : (ps : List Word) → length ps ≡ suc k → [] ≡ ps ++ c.rest → ⊥
    none [] h e = absurd (omega arith)
    none (p ∷ ps) h e = absurd (cc)

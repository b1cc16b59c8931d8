-- Steps of a reader of queries, in the words of the grammar.
use Rattle.zeb_query.proofs.Cited.{◌≡◌, ◌≢◌, ℕ, suc, ◌<◌, ◌+◌, true, false, List, [], ◌∷◌, ◌++◌, Option, Some, None, length, cond, eqb, refl, ap, sym, subst, ◌∙◌, arith, append_assoc, ◌-◌, zero, nil_from_length, operator_step, IsQuery, option_and_then, nat_lt, map, list_all, before_first, after_first, position_or_len, nat_tests, length-map, length-append, Rest, Spelling, Plain, Quoted, Bad, OperatorWord, Keyword, AttributeSet, Attribute, TermType, ResultSet, Operator, number_of, keyword_of, if_any, is_equals_sign, has_equals, is_good, is_good_spelling, IsStructure, is_attribute, is_attribute_of_set, under, heads, no_head, or_else, with_type, text_of, is_term, is_named, is_pair, parameter_count, is_structure, is_structure_of_set, AttributeValue, HeadValue, TreeValue, TermValue, NamedValue, PairValue, Word, left, word_of, fault_of, first_keyword, ReadsText, ReadsWord, IsSpec, SpellsAttribute, SpellsHead, SpellsMore, SpellsParameters, SpellsOperator, SpellsSet, Spells, SpellsUnder, Due, Start, Structures, words_then, fault, Step, Allowed, Refused, step, structure_step, start_step, And, Or, Not, Proximity, ConnectiveValue, connective_of, ◌&&◌, QueryFault, Diagnostic, Memory, IsFault, IsDiagnostic, Result, Ok, Err, MatchResult, Bool, Tree, tree_value, IsRead, ReadsStructure, SpellsWholeHead, more_structures}
use Rattle.std.specs.Result.{IsErrAnd}
use Rattle.zeb_query.specs.PrivateReading.{first_place}
use Rattle.zeb_query.specs.declared.words.Word.{Word as WordOfText}
use Rattle.zeb_query.specs.Grammar.{kind_and_value}

-- the type and value of a word without `=`, and of one with it
pub kind_and_value-none : (text : List ℕ) → position_or_len is_equals_sign text ≡ length text → kind_and_value text ≡ None
unfolding kind_and_value
kind_and_value-none text e =
    let f : nat_lt (position_or_len is_equals_sign text) (length text) ≡ false = grind (arith, nat_tests) in
    rw f refl

pub kind_and_value-some : (text front rest : List ℕ) (n : Option ℕ) → (position_or_len is_equals_sign text < length text) × (front ≡ before_first is_equals_sign text) × (rest ≡ after_first is_equals_sign text) → n ≡ number_of 9 front → kind_and_value text ≡ option_and_then (λ kind. if_any kind rest) n
unfolding kind_and_value
kind_and_value-some text front rest n h e =
    let t : nat_lt (position_or_len is_equals_sign text) (length text) ≡ true = grind (arith, nat_tests) in
    rw (e, h.1, h.2, t) refl

zero_from_test : (n : ℕ) → true ≡ eqb n 0 → n ≡ 0
zero_from_test n e = grind (arith, nat_tests)

pub if_any-empty : (kind : ℕ) (rest : List ℕ) → true ≡ eqb (length rest) 0 → if_any kind rest ≡ None
if_any-empty kind [] e = refl
if_any-empty kind (b ∷ bs) e = let z : length (b ∷ bs) ≡ 0 = zero_from_test (length (b ∷ bs)) e in absurd (omega arith)

pub if_any-more : (kind : ℕ) (rest : List ℕ) → false ≡ eqb (length rest) 0 → if_any kind rest ≡ Some (kind, rest)
if_any-more kind [] e = cc
if_any-more kind (b ∷ bs) e = refl

-- an attribute without a set, and one with it
pub spells_attribute : (rest after : Rest) (a : AttributeValue) (spec : Word) → ReadsWord rest after spec → IsSpec spec None a → SpellsAttribute rest after a
spells_attribute rest after a spec reads s = record {
  words = spec ∷ [];
  is = reads.is;
  spells = λ attr more tree keyword spelled.
      subst (λ set. IsStructure (attr ∷ spec ∷ more) (under (record { attributes = record { set = set; kind = a.kind; value = a.value } ∷ []; term_type = None }) tree)) (sym s.set_is)
      (is_attribute attr spec more tree (a.kind, a.value) keyword reads.good s.read spelled);
}

pub spells_attribute_of_set : (rest middle after : Rest) (a : AttributeValue) (set spec : Word) (text : List ℕ) → ReadsWord rest middle set → has_equals set.text ≡ false → text ≡ set.text → ReadsWord middle after spec → IsSpec spec (Some text) a → SpellsAttribute rest after a
spells_attribute_of_set rest middle after a set spec text reads plain same then s = record {
  words = set ∷ spec ∷ [];
  is = reads.is ∙ ap (λ ws. set ∷ ws) then.is;
  spells = λ attr more tree keyword spelled.
      subst (λ named. IsStructure (attr ∷ set ∷ spec ∷ more) (under (record { attributes = record { set = named; kind = a.kind; value = a.value } ∷ []; term_type = None }) tree)) (sym (s.set_is ∙ ap (λ t. Some t) same))
      (is_attribute_of_set attr set spec more tree (a.kind, a.value) keyword reads.good plain then.good s.read spelled);
}

-- what follows a step
abbrev pub after_step : ℕ → ℕ → Step → List Word → Option (ℕ × ℕ)
after_step end place (Allowed room due) words = fault end room due words
after_step end place (Refused number) words = Some (number, place)

pub fault-step : (end room : ℕ) (due : Due) (word : Word) (words : List Word) (s : Step) → step room word due ≡ s → fault end room due (word ∷ words) ≡ after_step end word.place s words
fault-step end room due word words s e =
    ap (λ t. elim t as (λ _. Option (ℕ × ℕ)) [ Allowed r d ↦ fault end r d words | Refused number ↦ Some (number, word.place) ]) e
    ∙ after_step_is s
  where
    after_step_is : (t : Step) → elim t as (λ _. Option (ℕ × ℕ)) [ Allowed r d ↦ fault end r d words | Refused number ↦ Some (number, word.place) ] ≡ after_step end word.place t words
    after_step_is (Allowed r d) = refl
    after_step_is (Refused number) = refl

-- one word more is read, and the next due
pub fault_of-read : (rest after : Rest) (word : Word) → ReadsWord rest after word → (due next : Due)
    → ((end room : ℕ) (ws : List Word) → fault end room due (word ∷ ws) ≡ fault end room next ws) → fault_of rest due ≡ fault_of after next
fault_of-read rest after word reads due next over =
    ap (λ ws. fault rest.end rest.room due ws) reads.is
    ∙ over rest.end rest.room (left after)
    ∙ ap (λ end. fault end rest.room next (left after)) (sym reads.end)
    ∙ ap (λ room. fault after.end room next (left after)) (sym reads.room)

good_by : (w : Word) (s : Spelling) (k : Keyword) → keyword_of (record w { spelling = s }) ≡ Some k → is_good_spelling s ≡ true
good_by w Plain k e = refl
good_by w Quoted k e = refl
good_by w Bad k e = cc

pub good_from_keyword : (w : Word) (k : Keyword) → keyword_of w ≡ Some k → is_good w ≡ true
good_from_keyword w k e = good_by w w.spelling k e

-- how much is left after some words, and after a word and others
pub left_after : (rest after : Rest) (words : List Word) → left rest ≡ words ++ left after → length rest.words.now ≡ length words + length after.words.now
left_after rest after words is =
    sym (length-map rest.words.now word_of) ∙ ap length is ∙ length-append words (left after) ∙ ap (λ n. length words + n) (length-map after.words.now word_of)

pub less_after : (rest after : Rest) (w : Word) (words : List Word) → left rest ≡ w ∷ (words ++ left after) → length after.words.now < length rest.words.now
less_after rest after w words is = let e : length rest.words.now ≡ suc (length words) + length after.words.now = left_after rest after (w ∷ words) is in omega (arith, e)

pub step-structure : (room n : ℕ) (w : Word) → is_good w ≡ true → step room w (Structures (suc n)) ≡ structure_step room (keyword_of w) n
step-structure room n w good = rw good refl

-- a keyword at the front of a structure
pub fault_of-keyword : (k : Keyword) (rest middle : Rest) (w : Word) → ReadsWord rest middle w → keyword_of w ≡ Some k → (n : ℕ) (due : Due) → ((room : ℕ) → structure_step room (Some k) n ≡ Allowed room due) → fault_of rest (Structures (suc n)) ≡ fault_of middle due
fault_of-keyword k rest middle w reads found n due allowed =
    fault_of-read rest middle w reads (Structures (suc n)) due (λ end room ws. fault-step end room (Structures (suc n)) w ws (Allowed room due)
    (step-structure room n w (good_from_keyword w k found) ∙ ap (λ key. structure_step room key n) found ∙ allowed room))

-- heads one after another
pub append-nil : {A : Type 0} (xs : List A) → xs ++ [] ≡ xs
append-nil [] = refl
append-nil (x ∷ xs) = ap (λ ys. x ∷ ys) (append-nil xs)

or_else-assoc : (a b c : Option (List ℕ)) → or_else c (or_else b a) ≡ or_else (or_else c b) a
or_else-assoc a b (Some t) = refl
or_else-assoc a b None = refl

heads-assoc : (a b c : HeadValue) → heads (heads a b) c ≡ heads a (heads b c)
heads-assoc a b c =
    ap (λ attributes. record { attributes = attributes; term_type = or_else c.term_type (or_else b.term_type a.term_type) }) (append_assoc a.attributes b.attributes c.attributes)
    ∙ ap (λ type. record { attributes = a.attributes ++ (b.attributes ++ c.attributes); term_type = type }) (or_else-assoc a.term_type b.term_type c.term_type)

under-under : (a b : HeadValue) (tree : TreeValue) → under a (under b tree) ≡ under (heads a b) tree
under-under a b (TermValue place head text) = ap (λ h. TermValue place h text) (sym (heads-assoc a b head))
under-under a b (NamedValue place head name) = ap (λ h. NamedValue place h name) (sym (heads-assoc a b head))
under-under a b (PairValue place head connective left right) = ap (λ h. PairValue place h connective left right) (sym (heads-assoc a b head))

-- one more piece of a head is read
pub reads_more : (start rest after : Rest) (old new : HeadValue) → IsRead more_structures more_structures start rest (SpellsHead start rest old) → IsRead more_structures more_structures rest after (SpellsMore rest after old new)
    → IsRead more_structures more_structures start after (SpellsHead start after new)
reads_more start rest after old new first second =
    let s = first.spelled in
    let m = second.spelled in
    record {
      goes = λ n. first.goes n ∙ second.goes n;
      spelled = subst (λ head. SpellsHead start after head) (sym m.new_is) (record {
        words = s.words ++ (m.keyword ∷ m.words);
        is = s.is ∙ ap (λ ws. s.words ++ ws) m.is ∙ sym (append_assoc s.words (m.keyword ∷ m.words) (left after));
        spells = λ more tree spelled.
            subst (λ ws. IsStructure ws (under (heads old m.piece) tree)) (sym (append_assoc s.words (m.keyword ∷ m.words) more))
            (subst (λ t. IsStructure (s.words ++ (m.keyword ∷ (m.words ++ more))) t) (under-under old m.piece tree)
            (s.spells (m.keyword ∷ (m.words ++ more)) (under m.piece tree) (m.spells more tree spelled)));
      });
    }

pub heads-with_type : (h : HeadValue) (t : List ℕ) → record { attributes = h.attributes; term_type = Some t } ≡ heads h (with_type t)
heads-with_type h t = ap (λ attributes. record { attributes = attributes; term_type = Some t }) (sym (append-nil h.attributes))

heads-to_no_head : (h : HeadValue) → heads h no_head ≡ h
heads-to_no_head h = ap (λ attributes. record { attributes = attributes; term_type = h.term_type }) (append-nil h.attributes)

-- a structure after its head
spells_after : (start rest after : Rest) (head : HeadValue) (tree : TreeValue) → SpellsHead start rest head → SpellsUnder rest after head tree → Spells start after tree
spells_after start rest after head tree s u =
    subst (λ t. Spells start after t) (sym u.is_under) (record {
      words = s.words ++ u.spelled.words;
      is = s.is ∙ ap (λ ws. s.words ++ ws) u.spelled.is ∙ sym (append_assoc s.words u.spelled.words (left after));
      spells = s.spells u.spelled.words u.bare u.spelled.spells;
    })

pub spells_term : (rest after : Rest) (head : HeadValue) (w : Word) (text : List ℕ) → ReadsWord rest after w → None ≡ keyword_of w → text ≡ w.text → SpellsUnder rest after head (TermValue w.place head text)
spells_term rest after head w text reads key same = record {
  bare = TermValue w.place no_head w.text;
  is_under = ap (λ t. TermValue w.place head t) same ∙ ap (λ h. TermValue w.place h w.text) (sym (heads-to_no_head head));
  spelled = record { words = w ∷ []; is = reads.is; spells = is_term w reads.good (sym key) };
}

pub spells_named : (rest middle after : Rest) (head : HeadValue) (set : Word) (text : List ℕ) → ReadsWord rest middle set → keyword_of set ≡ Some ResultSet → ReadsText middle after text → SpellsUnder rest after head (NamedValue set.place head text)
spells_named rest middle after head set text reads key name = record {
  bare = NamedValue set.place no_head name.word.text;
  is_under = ap (λ t. NamedValue set.place head t) name.text_is ∙ ap (λ h. NamedValue set.place h name.word.text) (sym (heads-to_no_head head));
  spelled = record {
    words = set ∷ name.word ∷ [];
    is = reads.is ∙ ap (λ ws. set ∷ ws) name.reads.is;
    spells = is_named set name.word key name.reads.good;
  };
}

-- no parameters, and one more in front
pub no_parameters : (rest : Rest) → IsRead Structures Structures rest rest (SpellsParameters rest rest [])
no_parameters rest = record { goes = λ n. refl; spelled = record { words = []; is = refl; good = refl; texts_are = refl } }

pub parameter_read : (k : ℕ) (rest middle after : Rest) (text : List ℕ) (texts : List (List ℕ)) → ReadsText rest middle text
    → IsRead (words_then k) Structures middle after (SpellsParameters middle after texts) → IsRead (words_then (suc k)) Structures rest after (SpellsParameters rest after (text ∷ texts))
parameter_read k rest middle after text texts r second =
    let s = second.spelled in
    record {
      goes = λ n. r.goes k n ∙ second.goes n;
      spelled = record {
        words = r.word ∷ s.words;
        is = r.reads.is ∙ ap (λ ws. r.word ∷ ws) s.is;
        good = ap (λ b. b && list_all is_good s.words) r.reads.good ∙ s.good;
        texts_are = ap (λ t. t ∷ map text_of s.words) (sym r.text_is) ∙ ap (λ ts. text ∷ ts) s.texts_are;
      };
    }

-- the whole of a query, after which nothing is left
pub spells_whole : (rest middle after : Rest) (set : Option (List ℕ)) (tree : TreeValue) → SpellsSet rest middle set → Spells middle after tree → left after ≡ [] → IsQuery (left rest) (record { attrset = set; tree = tree })
spells_whole rest middle after set tree s t ended =
    subst (λ ws. IsQuery ws (record { attrset = set; tree = tree }))
    (sym (s.is ∙ ap (λ ws. s.words ++ ws) (t.is ∙ ap (λ ws. t.words ++ ws) ended ∙ append-nil t.words)))
    (s.spells t.words tree t.spells)

pub ended : (rest : Rest) → true ≡ eqb (length rest.words.now) 0 → left rest ≡ []
ended rest e = ap (λ words. map word_of words) (nil_from_length rest.words.now (zero_from_test (length rest.words.now) e))

-- as many parameters as the operator has
count_of : (word : OperatorWord) (texts : List (List ℕ)) (connective : ConnectiveValue) → connective_of word texts ≡ Some connective → length texts ≡ parameter_count word
count_of And [] connective e = refl
count_of And (a ∷ texts) connective e = absurd cc
count_of Or [] connective e = refl
count_of Or (a ∷ texts) connective e = absurd cc
count_of Not [] connective e = refl
count_of Not (a ∷ texts) connective e = absurd cc
count_of Proximity [] connective e = absurd cc
count_of Proximity (a ∷ []) connective e = absurd cc
count_of Proximity (a ∷ b ∷ []) connective e = absurd cc
count_of Proximity (a ∷ b ∷ c ∷ []) connective e = absurd cc
count_of Proximity (a ∷ b ∷ c ∷ d ∷ []) connective e = absurd cc
count_of Proximity (a ∷ b ∷ c ∷ d ∷ f ∷ []) connective e = absurd cc
count_of Proximity (a ∷ b ∷ c ∷ d ∷ f ∷ g ∷ []) connective e = refl
count_of Proximity (a ∷ b ∷ c ∷ d ∷ f ∷ g ∷ h ∷ texts) connective e = absurd cc

pub words_count : (word : OperatorWord) (words : List Word) (connective : ConnectiveValue) → connective_of word (map text_of words) ≡ Some connective → length words ≡ parameter_count word
words_count word words connective e = sym (length-map words text_of) ∙ count_of word (map text_of words) connective e

-- so many parameters are those of the operator
pub connective_with : (word : OperatorWord) (texts : List (List ℕ)) → length texts ≡ parameter_count word → (connective : ConnectiveValue) × (connective_of word texts ≡ Some connective)
connective_with And [] e = (_, refl)
connective_with And (a ∷ texts) e = absurd (omega arith)
connective_with Or [] e = (_, refl)
connective_with Or (a ∷ texts) e = absurd (omega arith)
connective_with Not [] e = (_, refl)
connective_with Not (a ∷ texts) e = absurd (omega arith)
connective_with Proximity [] e = absurd (omega arith)
connective_with Proximity (a ∷ []) e = absurd (omega arith)
connective_with Proximity (a ∷ b ∷ []) e = absurd (omega arith)
connective_with Proximity (a ∷ b ∷ c ∷ []) e = absurd (omega arith)
connective_with Proximity (a ∷ b ∷ c ∷ d ∷ []) e = absurd (omega arith)
connective_with Proximity (a ∷ b ∷ c ∷ d ∷ f ∷ []) e = absurd (omega arith)
connective_with Proximity (a ∷ b ∷ c ∷ d ∷ f ∷ g ∷ []) e = (_, refl)
connective_with Proximity (a ∷ b ∷ c ∷ d ∷ f ∷ g ∷ h ∷ texts) e = absurd (omega arith)

-- the step of an operator, for which there is room
operator_allowed : (room n : ℕ) (operator : OperatorWord) → (room ≡ 0 → ⊥) → operator_step room operator n ≡ Allowed (room - 1) (words_then (parameter_count operator) (suc (suc n)))
operator_allowed zero n operator ne = absurd (ne refl)
operator_allowed (suc room) n operator ne =
    let less : room ≡ suc room - 1 = omega arith in
    ap (λ r. Allowed r (words_then (parameter_count operator) (suc (suc n)))) less

pub operator_goes : (operator : OperatorWord) (rest middle : Rest) (w : Word) → ReadsWord rest middle w → keyword_of w ≡ Some (Operator operator) → (middle.room ≡ 0 → ⊥) → (n : ℕ)
    → fault_of rest (Structures (suc n)) ≡ fault middle.end (middle.room - 1) (words_then (parameter_count operator) (suc (suc n))) (left middle)
operator_goes operator rest middle w reads found ne n =
    ap (λ ws. fault rest.end rest.room (Structures (suc n)) ws) reads.is
    ∙ ap (λ end. fault end rest.room (Structures (suc n)) (w ∷ left middle)) (sym reads.end)
    ∙ ap (λ room. fault middle.end room (Structures (suc n)) (w ∷ left middle)) (sym reads.room)
    ∙ fault-step middle.end middle.room (Structures (suc n)) w (left middle) _
    (step-structure middle.room n w (good_from_keyword w (Operator operator) found) ∙ ap (λ key. structure_step middle.room key n) found ∙ operator_allowed middle.room n operator ne)

-- a word that is no operator on sets is that of proximity
is_proximity : (operator : OperatorWord) → connective_of operator [] ≡ None → operator ≡ Proximity
is_proximity And e = absurd cc
is_proximity Or e = absurd cc
is_proximity Not e = absurd cc
is_proximity Proximity e = refl

-- the words that are due after that one
pub proximity_goes : (operator : OperatorWord) (rest middle : Rest) (w : Word) → ReadsWord rest middle w → keyword_of w ≡ Some (Operator operator) → (middle.room ≡ 0 → ⊥) → connective_of operator [] ≡ None → (n : ℕ)
    → fault_of rest (Structures (suc n)) ≡ fault middle.end (middle.room - 1) (words_then 6 (suc (suc n))) (left middle)
proximity_goes operator rest middle w reads found ne none n =
    operator_goes operator rest middle w reads found ne n
    ∙ ap (λ word. fault middle.end (middle.room - 1) (words_then (parameter_count word) (suc (suc n))) (left middle)) (is_proximity operator none)

-- one whose parameters are read, none or six
pub operator_read : (operator : OperatorWord) (rest middle after : Rest) (w : Word) (texts : List (List ℕ)) (connective : ConnectiveValue) → ReadsWord rest middle w → keyword_of w ≡ Some (Operator operator) → (middle.room ≡ 0 → ⊥)
    → connective_of operator texts ≡ Some connective → IsRead (words_then (length texts)) Structures (record middle { room = middle.room - 1 }) after (SpellsParameters (record middle { room = middle.room - 1 }) after texts)
    → IsRead more_structures (λ n. more_structures (suc n)) rest after (SpellsOperator rest after operator w.place connective)
operator_read operator rest middle after w texts connective reads found ne is read =
    let s = read.spelled in
    record {
      goes = λ n.
          operator_goes operator rest middle w reads found ne n
          ∙ ap (λ k. fault middle.end (middle.room - 1) (words_then k (suc (suc n))) (left middle)) (sym (count_of operator texts connective is))
          ∙ read.goes (suc (suc n));
      spelled = record {
        operator = w;
        words = s.words;
        is = reads.is ∙ ap (λ ws. w ∷ ws) s.is;
        place_is = refl;
        keyword = found;
        good = s.good;
        connective_is = ap (connective_of operator) s.texts_are ∙ is;
      };
    }

pub proximity_with : (operator : OperatorWord) (texts : List (List ℕ)) (connective : ConnectiveValue) → connective_of operator [] ≡ None → connective_of Proximity texts ≡ Some connective → connective_of operator texts ≡ Some connective
proximity_with operator texts connective none is = ap (λ word. connective_of word texts) (is_proximity operator none) ∙ is

pub spells_pair : (rest first middle after : Rest) (head : HeadValue) (word : OperatorWord) (place : ℕ) (connective : ConnectiveValue) (x y : TreeValue) → SpellsOperator rest first word place connective → Spells first middle x → Spells middle after y → SpellsUnder rest after head (PairValue place head connective x y)
spells_pair rest first middle after head word place connective x y o l r = record {
  bare = PairValue o.operator.place no_head connective x y;
  is_under = ap (λ p. PairValue p head connective x y) o.place_is ∙ ap (λ h. PairValue o.operator.place h connective x y) (sym (heads-to_no_head head));
  spelled = record {
    words = o.operator ∷ (o.words ++ (l.words ++ r.words));
    is = o.is ∙ ap (λ ws. o.operator ∷ ws) (ap (λ ws. o.words ++ ws) (l.is ∙ ap (λ ws. l.words ++ ws) r.is ∙ sym (append_assoc l.words r.words (left after))) ∙ sym (append_assoc o.words (l.words ++ r.words) (left after)));
    spells = is_pair o.operator word connective o.words l.words r.words x y o.keyword o.connective_is o.good l.spells r.spells;
  };
}

-- the start of a query without an attribute set is that of a structure
pub start_step-structure : (room : ℕ) (k : Option Keyword) → k ≢ Some AttributeSet → start_step room k ≡ structure_step room k 0
start_step-structure room None ne = refl
start_step-structure room (Some AttributeSet) ne = absurd (ne refl)
start_step-structure room (Some Attribute) ne = refl
start_step-structure room (Some TermType) ne = refl
start_step-structure room (Some ResultSet) ne = refl
start_step-structure room (Some (Operator connective)) ne = refl

pub step-start : (room : ℕ) (w : Word) → keyword_of w ≢ Some AttributeSet → step room w Start ≡ step room w (Structures 1)
step-start room w ne = ap (λ s. cond (is_good w) s (Refused 108)) (start_step-structure room (keyword_of w) ne)

pub fault-start : (end room : ℕ) (words : List Word) → first_keyword words ≢ Some AttributeSet → fault end room Start words ≡ fault end room (Structures 1) words
fault-start end room [] ne = refl
fault-start end room (w ∷ ws) ne =
    fault-step end room Start w ws _ (step-start room w ne) ∙ sym (fault-step end room (Structures 1) w ws _ refl)

pub spells_no_set : (rest : Rest) → SpellsSet rest rest None
spells_no_set rest = record { words = []; is = refl; spells = λ more tree spelled. is_structure more tree spelled }

pub spells_set : (rest middle after : Rest) (keyword : Word) (text : List ℕ) → ReadsWord rest middle keyword → keyword_of keyword ≡ Some AttributeSet → ReadsText middle after text → SpellsSet rest after (Some text)
spells_set rest middle after keyword text reads found name =
    subst (λ t. SpellsSet rest after (Some t)) (sym name.text_is)
    (record {
      words = keyword ∷ name.word ∷ [];
      is = reads.is ∙ ap (λ ws. keyword ∷ ws) name.reads.is;
      spells = λ more tree spelled. is_structure_of_set keyword name.word more tree found name.reads.good spelled;
    })

-- ---- faults

-- a diagnostic without an addinfo
pub told_as : (fault : QueryFault) (number place : ℕ) (expected : Option (ℕ × ℕ)) → IsDiagnostic fault number place [] → expected ≡ Some (number, place) → IsFault fault expected
told_as Memory number place expected is e = tt
told_as (Diagnostic n p a) number place expected is e =
    (e ∙ ap (λ m. Some (m, place)) (sym is.0) ∙ ap (λ at. Some (n, at)) (sym is.1), is.2)

-- a call hands on an error
pub handed_on : {A : Type 0} (r : Result A QueryFault) (e : QueryFault) (P : A → Type 0) (Q : QueryFault → Type 0) → IsErrAnd r (λ met. met ≡ e) → Q e → MatchResult r P Q
handed_on (Ok x) e P Q failed q = absurd failed
handed_on (Err f) e P Q is q = subst Q (sym is) q

-- it is the fault of a part, and so that of the whole
pub fault_behind : (e : QueryFault) {whole part : Option (ℕ × ℕ)} → whole ≡ part → IsFault e part → IsFault e whole
fault_behind e same fault = subst (IsFault e) (sym same) fault

-- a structure after its head, whatever a function gives that reads behind that
pub reads_after : (start rest : Rest) (head : HeadValue) (r : Result (Tree × Rest) QueryFault) → IsRead more_structures more_structures start rest (SpellsWholeHead start rest head)
    → ReadsStructure rest (λ after tree. SpellsUnder rest after head (tree_value tree)) r → ReadsStructure start (λ after tree. Spells start after (tree_value tree)) r
reads_after start rest head (Ok read) first second =
    record { goes = λ n. first.goes n ∙ second.goes n; spelled = spells_after start rest read.1 head (tree_value read.0) first.spelled.spelled second.spelled }
reads_after start rest head (Err e) first second = λ n. fault_behind e (first.goes n) (second n)

-- no word may follow
pub unended : (end room : ℕ) (words : List WordOfText) → false ≡ eqb (length words) 0 → fault end room (Structures 0) (map word_of words) ≡ Some (108, first_place end (map word_of words))
unended end room [] e = absurd cc
unended end room (w ∷ ws) e = fault-step end room (Structures 0) (word_of w) (map word_of ws) (Refused 108) (refusal (is_good (word_of w)))
  where
    refusal : (good : Bool) → cond good (Refused 108) (Refused 108) ≡ Refused 108
    refusal true = refl
    refusal false = refl

-- an operator for which there is no room
pub operator_crowded : (operator : OperatorWord) (rest middle : Rest) (w : Word) → ReadsWord rest middle w → keyword_of w ≡ Some (Operator operator) → middle.room ≡ 0 → (n : ℕ) → fault_of rest (Structures (suc n)) ≡ Some (6, w.place)
operator_crowded operator rest middle w reads found none n =
    ap (λ ws. fault rest.end rest.room (Structures (suc n)) ws) reads.is
    ∙ fault-step rest.end rest.room (Structures (suc n)) w (left middle) (Refused 6)
    (step-structure rest.room n w (good_from_keyword w (Operator operator) found) ∙ ap (λ key. structure_step rest.room key n) found
    ∙ ap (λ room. operator_step room operator n) (sym reads.room ∙ none))

-- One text is one structure: the first word says which rule it is by, and each part is read to its end and no further.
use Rattle.zeb_query.proofs.Cited.{◌≡◌, ℕ, ◌⊎◌, inl, inr, true, false, true≢false, List, [], ◌∷◌, ◌++◌, Option, Some, None, length, refl, ap, sym, subst, ◌∙◌, arith, append_assoc, map, OperatorWord, Keyword, AttributeSet, Attribute, TermType, ResultSet, Operator, Word, keyword_of, IsStructure, is_term, is_named, is_attribute, is_attribute_of_set, is_typed, is_pair, IsQuery, is_structure, is_structure_of_set, is_good, has_equals, under, text_of, no_head, with_attribute, with_type, TreeValue, TermValue, NamedValue, PairValue, QueryValue, first_keyword, ConnectiveValue, connective_of}
use Rattle.zeb_query.specs.Grammar.{kind_and_value}
use Rattle.zeb_query.proofs.GrammarLemmas.{words_count}
use Rattle.zeb_query.proofs.GrammarLaws.{has_equals_from_read, not_set_first}

-- what a structure is, whose words and then v are the word and then rest, by the keyword that the word is
pub record Attributed (word : Word) (rest v whole : List Word) (y : TreeValue) : Type 0 where
  pub spec : Word
  pub words : List Word
  pub tree : TreeValue
  pub read : ℕ × List ℕ
  pub is : whole ≡ word ∷ spec ∷ words
  pub rest_is : rest ≡ spec ∷ (words ++ v)
  pub good : is_good spec ≡ true
  pub reads : kind_and_value spec.text ≡ Some read
  pub inside : IsStructure words tree
  pub tree_is : y ≡ under (with_attribute None read) tree

pub record AttributedOfSet (word : Word) (rest v whole : List Word) (y : TreeValue) : Type 0 where
  pub set : Word
  pub spec : Word
  pub words : List Word
  pub tree : TreeValue
  pub read : ℕ × List ℕ
  pub is : whole ≡ word ∷ set ∷ spec ∷ words
  pub rest_is : rest ≡ set ∷ spec ∷ (words ++ v)
  pub good : is_good set ≡ true
  pub plain : has_equals set.text ≡ false
  pub good_spec : is_good spec ≡ true
  pub reads : kind_and_value spec.text ≡ Some read
  pub inside : IsStructure words tree
  pub tree_is : y ≡ under (with_attribute (Some set.text) read) tree

pub record Typed (word : Word) (rest v whole : List Word) (y : TreeValue) : Type 0 where
  pub type : Word
  pub words : List Word
  pub tree : TreeValue
  pub is : whole ≡ word ∷ type ∷ words
  pub rest_is : rest ≡ type ∷ (words ++ v)
  pub inside : IsStructure words tree
  pub tree_is : y ≡ under (with_type type.text) tree

pub record Paired (operator : OperatorWord) (word : Word) (rest v whole : List Word) (y : TreeValue) : Type 0 where
  pub connective : ConnectiveValue
  pub parameters : List Word
  pub left : List Word
  pub right : List Word
  pub x : TreeValue
  pub z : TreeValue
  pub is : whole ≡ word ∷ (parameters ++ (left ++ right))
  pub rest_is : rest ≡ parameters ++ (left ++ (right ++ v))
  pub read : connective_of operator (map text_of parameters) ≡ Some connective
  pub first : IsStructure left x
  pub second : IsStructure right z
  pub tree_is : y ≡ PairValue word.place no_head connective x z

pub record Termed (word : Word) (rest v whole : List Word) (y : TreeValue) : Type 0 where
  pub is : whole ≡ word ∷ []
  pub rest_is : rest ≡ v
  pub tree_is : y ≡ TermValue word.place no_head word.text

pub record Nameds (word : Word) (rest v whole : List Word) (y : TreeValue) : Type 0 where
  pub name : Word
  pub is : whole ≡ word ∷ name ∷ []
  pub rest_is : rest ≡ name ∷ v
  pub tree_is : y ≡ NamedValue word.place no_head name.text

abbrev pub Shape : Option Keyword → Word → List Word → List Word → List Word → TreeValue → Type 0
Shape None word rest v whole y = Termed word rest v whole y
Shape (Some AttributeSet) word rest v whole y = ⊥
Shape (Some Attribute) word rest v whole y = Attributed word rest v whole y ⊎ AttributedOfSet word rest v whole y
Shape (Some TermType) word rest v whole y = Typed word rest v whole y
Shape (Some ResultSet) word rest v whole y = Nameds word rest v whole y
Shape (Some (Operator connective)) word rest v whole y = Paired connective word rest v whole y

pub heads_same : {v w : Word} {vs ws : List Word} → v ∷ vs ≡ w ∷ ws → v ≡ w
heads_same e = cc

pub tails_same : {v w : Word} {vs ws : List Word} → v ∷ vs ≡ w ∷ ws → vs ≡ ws
tails_same e = cc

-- the shape at the keyword of the structure's own first word
pub shape_of : {b : List Word} {y : TreeValue} → IsStructure b y → (w : Word) (rest v : List Word) → w ∷ rest ≡ b ++ v → Shape (keyword_of w) w rest v b y
shape_of (is_term term good key) w rest v e =
    let same : w ≡ term = heads_same e in
    subst (λ x. Shape (keyword_of x) x rest v (term ∷ []) (TermValue term.place no_head term.text)) (sym same)
    (subst (λ k. Shape k term rest v (term ∷ []) (TermValue term.place no_head term.text)) (sym key)
    (record { is = refl; rest_is = tails_same e; tree_is = refl }))
shape_of (is_named set name key good) w rest v e =
    let same : w ≡ set = heads_same e in
    subst (λ x. Shape (keyword_of x) x rest v (set ∷ name ∷ []) (NamedValue set.place no_head name.text)) (sym same)
    (subst (λ k. Shape k set rest v (set ∷ name ∷ []) (NamedValue set.place no_head name.text)) (sym key)
    (record { name = name; is = refl; rest_is = tails_same e; tree_is = refl }))
shape_of (is_attribute attr spec words tree read key good reads inside) w rest v e =
    let same : w ≡ attr = heads_same e in
    subst (λ x. Shape (keyword_of x) x rest v (attr ∷ spec ∷ words) (under (with_attribute None read) tree)) (sym same)
    (subst (λ k. Shape k attr rest v (attr ∷ spec ∷ words) (under (with_attribute None read) tree)) (sym key)
    (inl (record { spec = spec; words = words; tree = tree; read = read; is = refl; rest_is = tails_same e; good = good; reads = reads; inside = inside; tree_is = refl })))
shape_of (is_attribute_of_set attr set spec words tree read key good plain good2 reads inside) w rest v e =
    let same : w ≡ attr = heads_same e in
    subst (λ x. Shape (keyword_of x) x rest v (attr ∷ set ∷ spec ∷ words) (under (with_attribute (Some set.text) read) tree)) (sym same)
    (subst (λ k. Shape k attr rest v (attr ∷ set ∷ spec ∷ words) (under (with_attribute (Some set.text) read) tree)) (sym key)
    (inr (record { set = set; spec = spec; words = words; tree = tree; read = read; is = refl; rest_is = tails_same e; good = good; plain = plain; good_spec = good2; reads = reads; inside = inside; tree_is = refl })))
shape_of (is_typed keyword type words tree key good inside) w rest v e =
    let same : w ≡ keyword = heads_same e in
    subst (λ x. Shape (keyword_of x) x rest v (keyword ∷ type ∷ words) (under (with_type type.text) tree)) (sym same)
    (subst (λ k. Shape k keyword rest v (keyword ∷ type ∷ words) (under (with_type type.text) tree)) (sym key)
    (record { type = type; words = words; tree = tree; is = refl; rest_is = tails_same e; inside = inside; tree_is = refl }))
shape_of (is_pair operator word connective ps left right x z key read good l r) w rest v e =
    let same : w ≡ operator = heads_same e in
    let tree : TreeValue = PairValue operator.place no_head connective x z in
    let whole : List Word = operator ∷ (ps ++ (left ++ right)) in
    subst (λ o. Shape (keyword_of o) o rest v whole tree) (sym same)
    (subst (λ k. Shape k operator rest v whole tree) (sym key)
    (record { connective = connective; parameters = ps; left = left; right = right; x = x; z = z; is = refl; rest_is = tails_same e ∙ append_assoc ps (left ++ right) v ∙ ap (λ ws. ps ++ ws) (append_assoc left right v); read = read; first = l; second = r; tree_is = refl }))

-- two structures at the front of one text
pub record IsSame (a b u v : List Word) (x y : TreeValue) : Type 0 where
  pub words : a ≡ b
  pub rest : u ≡ v
  pub tree : x ≡ y

same_fronts : (ps qs us vs : List Word) → length ps ≡ length qs → ps ++ us ≡ qs ++ vs → (ps ≡ qs) × (us ≡ vs)
same_fronts [] [] us vs n e = (refl, e)
same_fronts [] (q ∷ qs) us vs n e = absurd (omega arith)
same_fronts (p ∷ ps) [] us vs n e = absurd (omega arith)
same_fronts (p ∷ ps) (q ∷ qs) us vs n e =
    let t : (ps ≡ qs) × (us ≡ vs) = same_fronts ps qs us vs (omega arith) (tails_same e) in
    (ap (λ w. w ∷ ps) (heads_same e) ∙ ap (λ ws. q ∷ ws) t.0, t.1)

pub somes_same : {A : Type 0} {a b : A} → Some a ≡ Some b → a ≡ b
somes_same e = cc

pub no_set : (w : Word) (read : ℕ × List ℕ) → kind_and_value w.text ≡ Some read → has_equals w.text ≡ false → ⊥
no_set w read reads plain = true≢false (sym (has_equals_from_read w.text read reads) ∙ plain)

same_value : {a b : ConnectiveValue} → Some a ≡ Some b → a ≡ b
same_value e = cc

pub same_structure : {a : List Word} {x : TreeValue} → IsStructure a x → {b : List Word} {y : TreeValue} → IsStructure b y → (u v : List Word) → a ++ u ≡ b ++ v → IsSame a b u v x y
same_structure (is_term term good key) {b} {y} d u v e =
    let s : Termed term u v b y = subst (λ k. Shape k term u v b y) key (shape_of d term u v e) in
    record { words = sym s.is; rest = s.rest_is; tree = sym s.tree_is }
same_structure (is_named set name key good) {b} {y} d u v e =
    let s : Nameds set (name ∷ u) v b y = subst (λ k. Shape k set (name ∷ u) v b y) key (shape_of d set (name ∷ u) v e) in
    let n : name ≡ s.name = heads_same s.rest_is in
    record { words = ap (λ w. set ∷ w ∷ []) n ∙ sym s.is; rest = tails_same s.rest_is; tree = ap (λ w. NamedValue set.place no_head w.text) n ∙ sym s.tree_is }
same_structure (is_attribute attr spec words tree read key good reads inside) {b} {y} d u v e =
    let s : Attributed attr (spec ∷ (words ++ u)) v b y ⊎ AttributedOfSet attr (spec ∷ (words ++ u)) v b y = subst (λ k. Shape k attr (spec ∷ (words ++ u)) v b y) key (shape_of d attr (spec ∷ (words ++ u)) v e) in
    elim s [
      | inl p ↦
          let n : spec ≡ p.spec = heads_same p.rest_is in
          let i : IsSame words p.words u v tree p.tree = same_structure inside p.inside u v (tails_same p.rest_is) in
          let r : read ≡ p.read = somes_same (sym reads ∙ ap (λ w. kind_and_value w.text) n ∙ p.reads) in
          record {
            words = ap (λ w. attr ∷ w ∷ words) n ∙ ap (λ ws. attr ∷ p.spec ∷ ws) i.words ∙ sym p.is;
            rest = i.rest;
            tree = ap (λ q. under (with_attribute None q) tree) r ∙ ap (λ t. under (with_attribute None p.read) t) i.tree ∙ sym p.tree_is;
          }
      | inr p ↦
          let n : spec ≡ p.set = heads_same p.rest_is in
          absurd (no_set spec read reads (ap (λ w. has_equals w.text) n ∙ p.plain))
    ]
same_structure (is_attribute_of_set attr set spec words tree read key good plain good2 reads inside) {b} {y} d u v e =
    let s : Attributed attr (set ∷ spec ∷ (words ++ u)) v b y ⊎ AttributedOfSet attr (set ∷ spec ∷ (words ++ u)) v b y = subst (λ k. Shape k attr (set ∷ spec ∷ (words ++ u)) v b y) key (shape_of d attr (set ∷ spec ∷ (words ++ u)) v e) in
    elim s [
      | inl p ↦
          let n : set ≡ p.spec = heads_same p.rest_is in
          absurd (no_set p.spec p.read p.reads (ap (λ w. has_equals w.text) (sym n) ∙ plain))
      | inr p ↦
          let n : set ≡ p.set = heads_same p.rest_is in
          let t : spec ∷ (words ++ u) ≡ p.spec ∷ (p.words ++ v) = tails_same p.rest_is in
          let m : spec ≡ p.spec = heads_same t in
          let i : IsSame words p.words u v tree p.tree = same_structure inside p.inside u v (tails_same t) in
          let r : read ≡ p.read = somes_same (sym reads ∙ ap (λ w. kind_and_value w.text) m ∙ p.reads) in
          record {
            words = ap (λ w. attr ∷ w ∷ spec ∷ words) n ∙ ap (λ w. attr ∷ p.set ∷ w ∷ words) m ∙ ap (λ ws. attr ∷ p.set ∷ p.spec ∷ ws) i.words ∙ sym p.is;
            rest = i.rest;
            tree = ap (λ w. under (with_attribute (Some w.text) read) tree) n ∙ ap (λ q. under (with_attribute (Some p.set.text) q) tree) r ∙ ap (λ t. under (with_attribute (Some p.set.text) p.read) t) i.tree ∙ sym p.tree_is;
          }
    ]
same_structure (is_typed keyword type words tree key good inside) {b} {y} d u v e =
    let p : Typed keyword (type ∷ (words ++ u)) v b y = subst (λ k. Shape k keyword (type ∷ (words ++ u)) v b y) key (shape_of d keyword (type ∷ (words ++ u)) v e) in
    let n : type ≡ p.type = heads_same p.rest_is in
    let i : IsSame words p.words u v tree p.tree = same_structure inside p.inside u v (tails_same p.rest_is) in
    record {
      words = ap (λ w. keyword ∷ w ∷ words) n ∙ ap (λ ws. keyword ∷ p.type ∷ ws) i.words ∙ sym p.is;
      rest = i.rest;
      tree = ap (λ w. under (with_type w.text) tree) n ∙ ap (λ t. under (with_type p.type.text) t) i.tree ∙ sym p.tree_is;
    }
same_structure (is_pair operator word connective ps left right x z key read good l r) {b} {y} d u v e =
    let front : List Word = ps ++ (left ++ right) in
    let p : Paired word operator (front ++ u) v b y = subst (λ k. Shape k operator (front ++ u) v b y) key (shape_of d operator (front ++ u) v e) in
    let rest : ps ++ (left ++ (right ++ u)) ≡ p.parameters ++ (p.left ++ (p.right ++ v)) =
    ap (λ ws. ps ++ ws) (sym (append_assoc left right u)) ∙ sym (append_assoc ps (left ++ right) u) ∙ p.rest_is in
    let f : (ps ≡ p.parameters) × (left ++ (right ++ u) ≡ p.left ++ (p.right ++ v)) = same_fronts ps p.parameters _ _ (words_count word ps connective read ∙ sym (words_count word p.parameters p.connective p.read)) rest in
    let i : IsSame left p.left (right ++ u) (p.right ++ v) x p.x = same_structure l p.first (right ++ u) (p.right ++ v) f.1 in
    let j : IsSame right p.right u v z p.z = same_structure r p.second u v i.rest in
    record {
      words = ap (λ qs. operator ∷ (qs ++ (left ++ right))) f.0 ∙ ap (λ ws. operator ∷ (p.parameters ++ (ws ++ right))) i.words ∙ ap (λ ws. operator ∷ (p.parameters ++ (p.left ++ ws))) j.words ∙ sym p.is;
      rest = j.rest;
      tree = ap (λ c. PairValue operator.place no_head c x z) (same_value (sym read ∙ ap (λ qs. connective_of word (map text_of qs)) f.0 ∙ p.read)) ∙ ap (λ t. PairValue operator.place no_head p.connective t z) i.tree ∙ ap (λ t. PairValue operator.place no_head p.connective p.x t) j.tree ∙ sym p.tree_is;
    }

-- one text is one query
first_of_set : (keyword : Word) (ws : List Word) {us : List Word} {t : TreeValue} → keyword_of keyword ≡ Some AttributeSet → IsStructure us t → us ≡ keyword ∷ ws → ⊥
first_of_set keyword ws key s e = not_set_first s (ap first_keyword e ∙ key)

same_query_by : {us : List Word} {x : QueryValue} → IsQuery us x → {vs : List Word} {y : QueryValue} → IsQuery vs y → us ≡ vs → x ≡ y
same_query_by (is_structure us t s) (is_structure vs r q) e =
    let i = same_structure s q [] [] (ap (λ ws. ws ++ []) e) in
    ap (λ tree. record { attrset = None; tree = tree }) i.tree
same_query_by (is_structure us t s) (is_structure_of_set keyword set vs r key good q) e = absurd (first_of_set keyword (set ∷ vs) key s e)
same_query_by (is_structure_of_set keyword set us t key good s) (is_structure vs r q) e = absurd (first_of_set keyword (set ∷ us) key q (sym e))
same_query_by (is_structure_of_set keyword set us t key good s) (is_structure_of_set keyword2 set2 vs r key2 good2 q) e =
    let f : set ∷ us ≡ set2 ∷ vs = tails_same e in
    let i = same_structure s q [] [] (ap (λ ws. ws ++ []) (tails_same f)) in
    ap (λ w. record { attrset = Some w.text; tree = t }) (heads_same f) ∙ ap (λ tree. record { attrset = Some set2.text; tree = tree }) i.tree

pub same_query : (words : List Word) (x y : QueryValue) → IsQuery words x → IsQuery words y → x ≡ y
same_query words x y p q = same_query_by p q refl

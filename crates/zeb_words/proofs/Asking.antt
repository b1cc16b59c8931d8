-- What the words behind `find` and `scan` ask.
use Rattle.zeb_words.proofs.Cited.{◌≡◌, ◌∙◌, ◌⊎◌, ◌<◌, ◌^◌, inl, inr, ℕ, Bool, refl, sym, ap, subst, List, [], ◌∷◌, Some, None, codes, true, false, map, cond, arith, ⊤, if◌then◌else◌, unwrap_or, slice_get, option_map, is_some, pos, bytes_eq, bytes_eq-Decides, Row, Text, rows_after, has_row, one_of, used, with_values, without, check_fault, use_fault, values_fault, Kinds, or_else, is_given, accepts, read_as, Accepts-accepts, accepts-Accepts, ValueParser, AsWritten, WithoutMinus, CommandLine, Argument, Flag, HasOnly, IsNumberOr, Part, arguments, values_of, Named, Asks, NumberOption, IsNumberRead, text_or}
use Rattle.clap.specs.declared.builder.value_parser.ValueParser.TheVariants as parser
use Rattle.clap.specs.declared.error.kind.ErrorKind.TheVariants as kind
use Rattle.zeb_words.specs.Names as names
use Rattle.zeb_words.proofs.Items.{AllItems, AllRead, most_once, AtMostOne, Item, Once, first_is, given_is, once_most, one_is, row, values}
use Rattle.zeb_words.proofs.Uses.{Each, clean, no_clash, rows_are}
use Rattle.zeb_words.proofs.Leaf.{Bare, Changing, Finding, Fits, Founding, IsFlag, IsOption, Leaf, Naming, Scanning, count, first, number, part_rule, part_values, place, plain_leaf, HasSlot, filled_by, leaves, rules, uses}
use Rattle.zeb_words.proofs.LeafRead.{Own, finished, own_fault, taken}
use Rattle.zeb_words.proofs.Numbers.{passed_says, says_passes, says_read}

abbrev pub IsAsking : Leaf → Type 0
IsAsking Bare = ⊥
IsAsking Founding = ⊥
IsAsking Naming = ⊥
IsAsking Changing = ⊥
IsAsking Finding = ⊤
IsAsking Scanning = ⊤

abbrev pub item_of : Part → Item
item_of (Named name value) = record { id = name; value = value; how = WithoutMinus }
item_of (Flag name) = record { id = codes "query"; value = []; how = AsWritten }
item_of (Argument word) = record { id = codes "query"; value = word; how = AsWritten }

abbrev pub Well : Leaf → Part → Type 0
Well l (Named name value) = IsOption l name
Well l (Flag name) = ⊥
Well l (Argument word) = IsAsking l

abbrev pub Sound : Leaf → Part → Type 0
Sound l part = values_fault (part_rule l part) (part_values part) ≡ []

good : (l : Leaf) (part : Part) (rows : List Row) → Well l part → has_row (item_of part).id rows ≡ false → Sound l part
    → use_fault false (part_rule l part) (part_values part) rows ≡ []
good l (Named name value) rows well fresh sound = by l name well fresh sound
  where
    by : (l : Leaf) (name : Text) → IsOption l name → has_row name rows ≡ false → Sound l (Named name value)
        → use_fault false (part_rule l (Named name value)) (value ∷ []) rows ≡ []
    by l name first fresh sound = rw fresh sound
    by l name _ fresh sound = rw fresh sound
good l (Flag name) rows well fresh sound = absurd well
good Finding (Argument word) rows well fresh sound = rw fresh refl
good Scanning (Argument word) rows well fresh sound = rw fresh refl
good _ (Argument word) rows well fresh sound = absurd well

only : (l : Leaf) (part : Part) (rows : List Row) → Well l part → use_fault false (part_rule l part) (part_values part) rows ≡ []
    → (has_row (item_of part).id rows ≡ false) × Sound l part
only l (Named name value) rows well fault = by l name (has_row name rows) well refl fault
  where
    by : (l : Leaf) (name : Text) (is : Bool) → IsOption l name → has_row name rows ≡ is
        → use_fault false (part_rule l (Named name value)) (value ∷ []) rows ≡ [] → (has_row name rows ≡ false) × Sound l (Named name value)
    by l name true first e fault = let bad : kind.ArgumentConflict ∷ [] ≡ [] = rw e at fault in cc
    by l name false first e fault = (e, rw e at fault)
    by l name true _ e fault = let bad : kind.ArgumentConflict ∷ [] ≡ [] = rw e at fault in cc
    by l name false _ e fault = (e, rw e at fault)
only l (Flag name) rows well fault = absurd well
only l (Argument word) rows well fault = by l (has_row (codes "query") rows) well refl fault
  where
    by : (l : Leaf) (is : Bool) → IsAsking l → has_row (codes "query") rows ≡ is
        → use_fault false (part_rule l (Argument word)) (word ∷ []) rows ≡ [] → (has_row (codes "query") rows ≡ false) × Sound l (Argument word)
    by Finding true asking e fault = let bad : kind.ArgumentConflict ∷ [] ≡ [] = rw e at fault in cc
    by Finding false asking e fault = (e, refl)
    by Scanning true asking e fault = let bad : kind.ArgumentConflict ∷ [] ≡ [] = rw e at fault in cc
    by Scanning false asking e fault = (e, refl)
    by _ is asking e fault = absurd asking

using : (l : Leaf) (part : Part) (rows : List Row) → Well l part → used (part_rule l part) (part_values part) rows
    ≡ with_values (item_of part).id (item_of part).how CommandLine ((item_of part).value ∷ []) (without (item_of part).id rows)
using l (Named name value) rows well = by l name well
  where
    by : (l : Leaf) (name : Text) → IsOption l name → used (part_rule l (Named name value)) (value ∷ []) rows
        ≡ with_values name WithoutMinus CommandLine (value ∷ []) (without name rows)
    by l name first = refl
    by l name _ = refl
using l (Flag name) rows well = absurd well
using Finding (Argument word) rows well = refl
using Scanning (Argument word) rows well = refl
using _ (Argument word) rows well = absurd well

-- no command that asks has a flag
no_flag : (l : Leaf) (name : Text) → IsAsking l → IsFlag l name → ⊥
no_flag l name asking leaves = asking

-- nothing is read of a command that asks but what its words say
finished_asking : (l : Leaf) → IsAsking l → (rows : List Row) → finished l rows ≡ rows
finished_asking Finding asking rows = refl
finished_asking Scanning asking rows = refl
finished_asking _ asking rows = absurd asking

pub each_well : (l : Leaf) → IsAsking l → (parts : List Part) (full : Bool) → Fits l full parts → Each (Well l) parts
each_well l asking [] full fits = tt
each_well l asking (Named name value ∷ parts) full fits = (fits.0, each_well l asking parts full fits.1)
each_well l asking (Flag name ∷ parts) full fits = absurd (no_flag l name asking fits.0)
each_well l asking (Argument word ∷ parts) full fits = (asking, each_well l asking parts _ fits.1)

-- ---- values by name

option_values : (name : Text) → bytes_eq (codes "query") name ≡ false → (parts : List Part) → values name (map item_of parts) ≡ values_of name parts
option_values name other [] = refl
option_values name other (Named n value ∷ parts) = ap (λ l. cond (bytes_eq n name) (value ∷ l) l) (option_values name other parts)
option_values name other (Flag n ∷ parts) = rw other (option_values name other parts)
option_values name other (Argument word ∷ parts) = rw other (option_values name other parts)

no_query : (l : Leaf) (name : Text) → IsOption l name → bytes_eq name (codes "query") ≡ false
no_query l name first = refl
no_query l name _ = refl

query_values : (l : Leaf) (parts : List Part) → Each (Well l) parts → values (codes "query") (map item_of parts) ≡ arguments parts
query_values l [] well = refl
query_values l (Named name value ∷ parts) well = let other = no_query l name well.0 in rw other (query_values l parts well.1)
query_values l (Flag n ∷ parts) well = absurd well.0
query_values l (Argument word ∷ parts) well = ap (λ l. word ∷ l) (query_values l parts well.1)

all_written : (l : Leaf) (name : Text) → bytes_eq (codes "query") name ≡ false → (parts : List Part) → AllRead name WithoutMinus (map item_of parts)
all_written l name other [] = tt
all_written l name other (Named n value ∷ parts) = (λ e. refl, all_written l name other parts)
all_written l name other (Flag n ∷ parts) = (λ e. let bad : false ≡ true = sym other ∙ e in cc, all_written l name other parts)
all_written l name other (Argument word ∷ parts) = (λ e. let bad : false ≡ true = sym other ∙ e in cc, all_written l name other parts)

-- ---- sound values

abbrev pub AllTexts : (Text → Type 0) → List Text → Type 0
AllTexts P [] = ⊤
AllTexts P (t ∷ ts) = P t × AllTexts P ts

-- an option's range, as the parser has it
abbrev pub range_of : NumberOption → ValueParser
range_of o = parser.Signed (pos o.least) (pos o.most)

-- an option of the command
pub data Ranged : Leaf → NumberOption → Type 0 where
  by_first : Ranged Finding names.first
  by_count : Ranged Finding names.count
  by_number : Ranged Scanning names.number
  by_position : Ranged Scanning names.position

passes_if : (b : Bool) (k : Kinds) → or_else (cond b [] (kind.ValueValidation ∷ [])) [] ≡ [] → b ≡ true
passes_if true k e = refl
passes_if false k e = let bad : kind.ValueValidation ∷ [] ≡ [] = e in cc

sound_value : (l : Leaf) (o : NumberOption) (value : Text) → Ranged l o → Sound l (Named o.name value) → accepts false (range_of o) value ≡ true
sound_value l o value by_first sound = passes_if _ [] sound
sound_value l o value _ sound = passes_if _ [] sound

sound_values : (l : Leaf) (o : NumberOption) → Ranged l o → (parts : List Part) → Each (Sound l) parts
    → AllTexts (λ t. accepts false (range_of o) t ≡ true) (values_of o.name parts)
sound_values l o ranged [] sound = tt
sound_values l o ranged (Named name value ∷ parts) sound = by (bytes_eq name o.name) refl (sound_values l o ranged parts sound.1)
  where
    by : (is : Bool) → bytes_eq name o.name ≡ is → AllTexts (λ t. accepts false (range_of o) t ≡ true) (values_of o.name parts)
        → AllTexts (λ t. accepts false (range_of o) t ≡ true) (values_of o.name (Named name value ∷ parts))
    by true e more =
        let is : name ≡ o.name = (bytes_eq-Decides name o.name).0 e in
        rw e (sound_value l o value ranged (subst (λ n. Sound l (Named n value)) is sound.0), more)
    by false e more = rw e more
sound_values l o ranged (Flag name ∷ parts) sound = sound_values l o ranged parts sound.1
sound_values l o ranged (Argument word ∷ parts) sound = sound_values l o ranged parts sound.1

is_number : (o : NumberOption) (vs : List Text) (n : ℕ) → o.most < 2 ^ 32 → AtMostOne vs → AllTexts (λ t. accepts false (range_of o) t ≡ true) vs
    → IsNumberRead (option_map (read_as WithoutMinus) (slice_get vs 0)) o.default n → IsNumberOr o.default o.least o.most vs n
is_number o [] n fits one all read = read.absent refl
is_number o (v ∷ []) n fits one all read = passed_says o.least o.most o.default n v fits (accepts-Accepts false (range_of o) v all.0) read
is_number o (v ∷ w ∷ more) n fits one all read = absurd one

-- ---- what is asked

-- the options of a command that asks
pub record Options (l : Leaf) (a b : NumberOption) : Type 0 where
  pub asking : IsAsking l
  pub a_ranged : Ranged l a
  pub b_ranged : Ranged l b
  pub a_fits : a.most < 2 ^ 32
  pub b_fits : b.most < 2 ^ 32
  pub a_other : bytes_eq (codes "query") a.name ≡ false
  pub b_other : bytes_eq (codes "query") b.name ≡ false
  pub two : (name : Text) → IsOption l name → (name ≡ a.name) ⊎ (name ≡ b.name)
  pub missing : (rows : List Row) → check_fault (plain_leaf l) rows false ≡ [] → is_given (codes "query") rows ≡ true
  pub present : (rows : List Row) → is_given (codes "query") rows ≡ true → check_fault (plain_leaf l) rows false ≡ []

find_two : (name : Text) → IsOption Finding name → (name ≡ codes "first") ⊎ (name ≡ codes "count")
find_two name first = inl refl
find_two name count = inr refl

scan_two : (name : Text) → IsOption Scanning name → (name ≡ codes "number") ⊎ (name ≡ codes "position")
scan_two name number = inl refl
scan_two name place = inr refl

find_missing : (rows : List Row) (is : Bool) → is_given (codes "query") rows ≡ is → check_fault (plain_leaf Finding) rows false ≡ [] → is_given (codes "query") rows ≡ true
find_missing rows true e fault = e
find_missing rows false e fault = let bad : kind.MissingRequiredArgument ∷ [] ≡ [] = rw e at fault in cc

scan_missing : (rows : List Row) (is : Bool) → is_given (codes "query") rows ≡ is → check_fault (plain_leaf Scanning) rows false ≡ [] → is_given (codes "query") rows ≡ true
scan_missing rows true e fault = e
scan_missing rows false e fault = let bad : kind.MissingRequiredArgument ∷ [] ≡ [] = rw e at fault in cc

pub find_options : Options Finding names.first names.count
find_options = record {
  asking = tt;
  a_ranged = by_first;
  b_ranged = by_count;
  a_fits = omega arith;
  b_fits = omega arith;
  a_other = refl;
  b_other = refl;
  two = find_two;
  missing = λ rows fault. find_missing rows (is_given (codes "query") rows) refl fault;
  present = λ rows given. rw given refl;
}

pub scan_options : Options Scanning names.number names.position
scan_options = record {
  asking = tt;
  a_ranged = by_number;
  b_ranged = by_position;
  a_fits = omega arith;
  b_fits = omega arith;
  a_other = refl;
  b_other = refl;
  two = scan_two;
  missing = λ rows fault. scan_missing rows (is_given (codes "query") rows) refl fault;
  present = λ rows given. rw given refl;
}

has_only : (l : Leaf) (a b : NumberOption) → Options l a b → (parts : List Part) → Each (Well l) parts → HasOnly a.name b.name parts
has_only l a b o [] well = tt
has_only l a b o (Named name value ∷ parts) well = (o.two name well.0, has_only l a b o parts well.1)
has_only l a b o (Flag name ∷ parts) well = absurd well.0
has_only l a b o (Argument word ∷ parts) well = has_only l a b o parts well.1

one_argument : (vs : List Text) → AtMostOne vs → is_some (slice_get vs 0) ≡ true → vs ≡ unwrap_or (slice_get vs 0) [] ∷ []
one_argument [] one some = let bad : false ≡ true = some in cc
one_argument (v ∷ []) one some = refl
one_argument (v ∷ w ∷ more) one some = absurd one

-- what is read of the words is what they ask
pub asked : (l : Leaf) (a b : NumberOption) → Options l a b → (words : List Text) (own : Own l words) (query : Text) (m n : ℕ)
    → query ≡ text_or (codes "query") [] (finished l (uses l own.parts [])) → IsNumberRead (one_of a.name (finished l (uses l own.parts []))) a.default m
    → IsNumberRead (one_of b.name (finished l (uses l own.parts []))) b.default n → Asks words query a m b n
asked l a b o words own query m n is a_read b_read =
    let plain = finished_asking l o.asking (uses l own.parts []) in
    let well = each_well l o.asking own.parts false own.fits in
    let items = map item_of own.parts in
    let clear = clean (part_rule l) part_values item_of (Well l) (Sound l) (good l) (only l) (using l) own.parts [] well own.clashes in
    let rows : uses l own.parts [] ≡ map row items = rows_are (part_rule l) part_values item_of (Well l) (Sound l) (good l) (only l) (using l) own.parts [] well clear.0 in
    let queries = query_values l own.parts well in
    let given : is_some (slice_get (arguments own.parts) 0) ≡ true =
    ap (λ vs. is_some (slice_get vs 0)) (sym queries) ∙ sym (given_is (codes "query") items) ∙ ap (is_given (codes "query")) (sym rows) ∙ o.missing (uses l own.parts []) (subst (λ rows. check_fault (plain_leaf l) rows false ≡ []) plain own.checked) in
    let most : AtMostOne (arguments own.parts) = subst AtMostOne queries (once_most items [] (codes "query") clear.0).1 in
    let text : query ≡ unwrap_or (slice_get (arguments own.parts) 0) [] =
    is ∙ ap (text_or (codes "query") []) (plain ∙ rows) ∙ ap (λ t. unwrap_or t []) (first_is (codes "query") items ∙ ap (λ vs. slice_get vs 0) queries) in
    let a_vs = option_values a.name o.a_other own.parts in
    let b_vs = option_values b.name o.b_other own.parts in
    let a_one = ap (one_of a.name) (plain ∙ rows) ∙ one_is a.name WithoutMinus items (all_written l a.name o.a_other own.parts) ∙ ap (λ vs. option_map (read_as WithoutMinus) (slice_get vs 0)) a_vs in
    let b_one = ap (one_of b.name) (plain ∙ rows) ∙ one_is b.name WithoutMinus items (all_written l b.name o.b_other own.parts) ∙ ap (λ vs. option_map (read_as WithoutMinus) (slice_get vs 0)) b_vs in
    record {
      parts = own.parts;
      says = own.says;
      only = has_only l a b o own.parts well;
      one = one_argument (arguments own.parts) most given ∙ ap (λ t. t ∷ []) (sym text);
      a_number = is_number a (values_of a.name own.parts) m o.a_fits (subst AtMostOne a_vs (once_most items [] a.name clear.0).1) (sound_values l a o.a_ranged own.parts clear.1)
          (subst (λ t. IsNumberRead t a.default m) a_one a_read);
      b_number = is_number b (values_of b.name own.parts) n o.b_fits (subst AtMostOne b_vs (once_most items [] b.name clear.0).1) (sound_values l b o.b_ranged own.parts clear.1)
          (subst (λ t. IsNumberRead t b.default n) b_one b_read);
    }

-- ---- the other way

number_sound : (o : NumberOption) (vs : List Text) (n : ℕ) → o.most < 2 ^ 32 → IsNumberOr o.default o.least o.most vs n
    → AtMostOne vs × AllTexts (λ t. accepts false (range_of o) t ≡ true) vs × IsNumberRead (option_map (read_as WithoutMinus) (slice_get vs 0)) o.default n
number_sound o [] n fits is = (tt, tt, record { absent = λ e. is; value = λ t e. let bad : None ≡ Some t = e in cc })
number_sound o (v ∷ []) n fits is =
    (tt, (Accepts-accepts false (range_of o) v (says_passes o.least o.most n v fits is), tt), says_read o.least o.most o.default n v is)
number_sound o (v ∷ w ∷ more) n fits is = absurd is

number_only : (o : NumberOption) (vs : List Text) (n x : ℕ) → o.most < 2 ^ 32 → IsNumberOr o.default o.least o.most vs n
    → IsNumberRead (option_map (read_as WithoutMinus) (slice_get vs 0)) o.default x → x ≡ n
number_only o [] n x fits is read = read.absent refl ∙ sym is
number_only o (v ∷ []) n x fits is read =
    same_number x n (sym (passed_says o.least o.most o.default x v fits (says_passes o.least o.most n v fits is) read).value ∙ is.value)
  where
    same_number : (a b : ℕ) → pos a ≡ pos b → a ≡ b
    same_number a b e = cc
number_only o (v ∷ w ∷ more) n x fits is read = absurd is

passed_value : (l : Leaf) (o : NumberOption) (value : Text) → Ranged l o → accepts false (range_of o) value ≡ true → Sound l (Named o.name value)
passed_value l o value by_first passed = rw passed refl
passed_value l o value _ passed = rw passed refl

argument_sound : (l : Leaf) (word : Text) → IsAsking l → Sound l (Argument word)
argument_sound Finding word asking = refl
argument_sound Scanning word asking = refl
argument_sound _ word asking = absurd asking

ranged_option : (l : Leaf) (o : NumberOption) → Ranged l o → IsOption l o.name
ranged_option l o by_first = first
ranged_option l o by_count = count
ranged_option l o by_number = number
ranged_option l o by_position = place

value_here : (name : Text) (value : Text) (parts : List Part) → values_of name (Named name value ∷ parts) ≡ value ∷ values_of name parts
value_here name value parts = let self : bytes_eq name name ≡ true = (bytes_eq-Decides name name).1 refl in rw self refl

rest_passes : (P : Text → Type 0) (name other : Text) (value : Text) (parts : List Part) → AllTexts P (values_of name (Named other value ∷ parts)) → AllTexts P (values_of name parts)
rest_passes P name other value parts all = by (bytes_eq other name) all
  where
    by : (is : Bool) → AllTexts P (if is then value ∷ values_of name parts else values_of name parts) → AllTexts P (values_of name parts)
    by true all = all.1
    by false all = all

each_sound : (l : Leaf) (a b : NumberOption) → Options l a b → (parts : List Part) → HasOnly a.name b.name parts
    → AllTexts (λ t. accepts false (range_of a) t ≡ true) (values_of a.name parts) → AllTexts (λ t. accepts false (range_of b) t ≡ true) (values_of b.name parts)
    → Each (Sound l) parts
each_sound l a b o [] only_these a_all b_all = tt
each_sound l a b o (Flag name ∷ parts) only_these a_all b_all = absurd only_these
each_sound l a b o (Argument word ∷ parts) only_these a_all b_all = (argument_sound l word o.asking, each_sound l a b o parts only_these a_all b_all)
each_sound l a b o (Named name value ∷ parts) only_these a_all b_all =
    (by only_these.0 a_all b_all, each_sound l a b o parts only_these.1 (rest_passes _ a.name name value parts a_all) (rest_passes _ b.name name value parts b_all))
  where
    by : (name ≡ a.name) ⊎ (name ≡ b.name) → AllTexts (λ t. accepts false (range_of a) t ≡ true) (values_of a.name (Named name value ∷ parts))
        → AllTexts (λ t. accepts false (range_of b) t ≡ true) (values_of b.name (Named name value ∷ parts)) → Sound l (Named name value)
    by (inl e) a_all b_all =
        let here = subst (AllTexts (λ t. accepts false (range_of a) t ≡ true)) (ap (λ n. values_of a.name (Named n value ∷ parts)) e ∙ value_here a.name value parts) a_all in
        subst (λ n. Sound l (Named n value)) (sym e) (passed_value l a value o.a_ranged here.0)
    by (inr e) a_all b_all =
        let here = subst (AllTexts (λ t. accepts false (range_of b) t ≡ true)) (ap (λ n. values_of b.name (Named n value ∷ parts)) e ∙ value_here b.name value parts) b_all in
        subst (λ n. Sound l (Named n value)) (sym e) (passed_value l b value o.b_ranged here.0)

-- one argument at most stands where it may
abbrev Room : Bool → List Text → Type 0
Room false vs = AtMostOne vs
Room true vs = vs ≡ []

asking_slot : (l : Leaf) → IsAsking l → (HasSlot l false) × (filled_by l ≡ true)
asking_slot Finding asking = (refl, refl)
asking_slot Scanning asking = (refl, refl)
asking_slot _ asking = absurd asking

none_more : (word : Text) (words : List Text) → AtMostOne (word ∷ words) → words ≡ []
none_more word [] one = refl
none_more word (w ∷ words) one = absurd one

parts_fit : (l : Leaf) (a b : NumberOption) → Options l a b → (parts : List Part) (full : Bool) → HasOnly a.name b.name parts → Room full (arguments parts) → Fits l full parts
parts_fit l a b o [] full only_these room = tt
parts_fit l a b o (Named name value ∷ parts) full only_these room = (by only_these.0, parts_fit l a b o parts full only_these.1 room)
  where
    by : (name ≡ a.name) ⊎ (name ≡ b.name) → IsOption l name
    by (inl e) = subst (IsOption l) (sym e) (ranged_option l a o.a_ranged)
    by (inr e) = subst (IsOption l) (sym e) (ranged_option l b o.b_ranged)
parts_fit l a b o (Flag name ∷ parts) full only_these room = absurd only_these
parts_fit l a b o (Argument word ∷ parts) true only_these room = let bad : word ∷ arguments parts ≡ [] = room in cc
parts_fit l a b o (Argument word ∷ parts) false only_these room =
    let slot = asking_slot l o.asking in
    (slot.0, subst (λ f. Fits l f parts) (sym slot.1) (parts_fit l a b o parts true only_these (none_more word (arguments parts) room)))

abbrev Known : NumberOption → NumberOption → Text → Type 0
Known a b id = (id ≡ a.name) ⊎ ((id ≡ b.name) ⊎ (id ≡ codes "query"))

all_known : (a b : NumberOption) (parts : List Part) → HasOnly a.name b.name parts → AllItems (Known a b) (map item_of parts)
all_known a b [] only_these = tt
all_known a b (Named name value ∷ parts) only_these = (by only_these.0, all_known a b parts only_these.1)
  where
    by : (name ≡ a.name) ⊎ (name ≡ b.name) → Known a b name
    by (inl e) = inl e
    by (inr e) = inr (inl e)
all_known a b (Flag name ∷ parts) only_these = absurd only_these
all_known a b (Argument word ∷ parts) only_these = (inr (inr refl), all_known a b parts only_these)

-- what the words ask is taken and read
pub record Taken (l : Leaf) (words : List Text) (query : Text) (a : NumberOption) (m : ℕ) (b : NumberOption) (n : ℕ) : Type 0 where
  pub fault : own_fault l words ≡ []
  pub text : query ≡ text_or (codes "query") [] (rows_after (rules l) [] words)
  pub a_read : IsNumberRead (one_of a.name (rows_after (rules l) [] words)) a.default m
  pub b_read : IsNumberRead (one_of b.name (rows_after (rules l) [] words)) b.default n
  pub a_only : (x : ℕ) → IsNumberRead (one_of a.name (rows_after (rules l) [] words)) a.default x → x ≡ m
  pub b_only : (x : ℕ) → IsNumberRead (one_of b.name (rows_after (rules l) [] words)) b.default x → x ≡ n

pub asks_taken : (l : Leaf) (a b : NumberOption) → Options l a b → (words : List Text) (query : Text) (m n : ℕ) → Asks words query a m b n → Taken l words query a m b n
asks_taken l a b o words query m n asks =
    let parts = asks.parts in
    let items = map item_of parts in
    let a_is = number_sound a (values_of a.name parts) m o.a_fits asks.a_number in
    let b_is = number_sound b (values_of b.name parts) n o.b_fits asks.b_number in
    let fits = parts_fit l a b o parts false asks.only (subst AtMostOne (sym asks.one) tt) in
    let well = each_well l o.asking parts false fits in
    let queries = query_values l parts well in
    let a_vs = option_values a.name o.a_other parts in
    let b_vs = option_values b.name o.b_other parts in
    let once : Once items [] = most_once (Known a b) items [] (all_known a b parts asks.only) (λ id known. (λ has. let bad : false ≡ true = has in cc, most id known)) in
    let clear = no_clash (part_rule l) part_values item_of (Well l) (Sound l) (good l) (only l) (using l) parts [] well once (each_sound l a b o parts asks.only a_is.1 b_is.1) in
    let rows : uses l parts [] ≡ map row items = rows_are (part_rule l) part_values item_of (Well l) (Sound l) (good l) (only l) (using l) parts [] well once in
    let given : is_given (codes "query") (uses l parts []) ≡ true =
    ap (is_given (codes "query")) rows ∙ given_is (codes "query") items ∙ ap (λ vs. is_some (slice_get vs 0)) (queries ∙ asks.one) in
    let plain = finished_asking l o.asking (uses l parts []) in
    let t = taken l words parts asks.says fits clear (subst (λ rows. check_fault (plain_leaf l) rows false ≡ []) (sym plain) (o.present (uses l parts []) given)) in
    let all = t.1 ∙ plain ∙ rows in
    let a_one = ap (one_of a.name) all ∙ one_is a.name WithoutMinus items (all_written l a.name o.a_other parts) ∙ ap (λ vs. option_map (read_as WithoutMinus) (slice_get vs 0)) a_vs in
    let b_one = ap (one_of b.name) all ∙ one_is b.name WithoutMinus items (all_written l b.name o.b_other parts) ∙ ap (λ vs. option_map (read_as WithoutMinus) (slice_get vs 0)) b_vs in
    record {
      fault = t.0;
      text = sym (ap (text_or (codes "query") []) all ∙ ap (λ t. unwrap_or t []) (first_is (codes "query") items ∙ ap (λ vs. slice_get vs 0) (queries ∙ asks.one)));
      a_read = subst (λ t. IsNumberRead t a.default m) (sym a_one) a_is.2;
      b_read = subst (λ t. IsNumberRead t b.default n) (sym b_one) b_is.2;
      a_only = λ x read. number_only a (values_of a.name parts) m x o.a_fits asks.a_number (subst (λ t. IsNumberRead t a.default x) a_one read);
      b_only = λ x read. number_only b (values_of b.name parts) n x o.b_fits asks.b_number (subst (λ t. IsNumberRead t b.default x) b_one read);
    }
  where
    most : (id : Text) → Known a b id → AtMostOne (values id (map item_of asks.parts))
    most id (inl e) = subst (λ id. AtMostOne (values id (map item_of asks.parts))) (sym e)
        (subst AtMostOne (sym (option_values a.name o.a_other asks.parts)) (number_sound a (values_of a.name asks.parts) m o.a_fits asks.a_number).0)
    most id (inr (inl e)) = subst (λ id. AtMostOne (values id (map item_of asks.parts))) (sym e)
        (subst AtMostOne (sym (option_values b.name o.b_other asks.parts)) (number_sound b (values_of b.name asks.parts) n o.b_fits asks.b_number).0)
    most id (inr (inr e)) =
        let fits = parts_fit l a b o asks.parts false asks.only (subst AtMostOne (sym asks.one) tt) in
        subst (λ id. AtMostOne (values id (map item_of asks.parts))) (sym e)
        (subst AtMostOne (sym (query_values l asks.parts (each_well l o.asking asks.parts false fits) ∙ asks.one)) tt)

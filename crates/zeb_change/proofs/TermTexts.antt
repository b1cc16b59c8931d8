-- Each occurrence can be stored: its term is UTF-8, and units and places are numbered from 1.
use Rattle.zeb_change.proofs.Cited.{◌≡◌, ℕ, ◌+◌, ◌≤◌, ◌<◌, ◌^◌, suc, ◌||◌, Bool, true, false, not, List, [], ◌∷◌, map, encode_utf8, encode_utf8_all, IsUtf8, All, ℤ, refl, sym, ap, ◌∙◌, subst, inl, inr, arith, lit<, IsScalar, AllByRecursion, AllPass, Contains, enumerate_from, nat_tests, All-head, All-tail, IsUtf8-nil, IsUtf8-append, IsUtf8-encode, IsUtf8-from_ascii, encode_ascii, IsAscii-from_digits, Has, has_contained, Range, of_ranges, zip_stepped, Stepped-everywhere, general_category, in_group, GeneralCategory, joined_text, words_of, folded, number_key, numbers_of, digits_of_key, numbers_below, AllRuns, runs_are_runs, FieldText, fields_of, Piece, UnitText, numbered_from, Directive, Register, Word, Phrase, Number, unit_targets, Occurrence, Targets, IsOccurrence, text_of, word_terms, joined, terms_of, Contains-map, Content, IsStorable, IsStorablePosting, Kept, ArePosted, HaveSystemNumbers}
use Rattle.ucd_table.specs.Rows.{in_ranges}
use Rattle.ucd_table.proofs.Computing.{tables}
use Rattle.ucd_category.specs.declared.GeneralCategoryGroup.TheVariants as group
use Rattle.ucd_category.proofs.GeneralCategoryLemmas.{general_category_stepped}
use Rattle.zeb_text.specs.Words.{is_word_character}
use Rattle.zeb_marc.specs.Contents.{units_of}

-- the characters that there are
characters : List Range
characters = (0, 0xD7FF) ∷ (0xE000, 0x10_FFFF) ∷ []

of_word : GeneralCategory → Bool
of_word g = in_group group.Letter g || in_group group.Mark g || in_group group.Number g

word_within : (c : ℕ) → (not (of_word (general_category c)) || in_ranges characters c) ≡ true
unfolding tables general_category_stepped of_word characters
word_within c =
    let both = zip_stepped (λ g within. not (of_word g) || within) general_category (in_ranges characters) general_category_stepped (of_ranges characters refl) in
    Stepped-everywhere _ both refl c

scalar_from : (c : ℕ) → in_ranges characters c ≡ true → IsScalar c
unfolding in_ranges characters
scalar_from c within = grind (arith, nat_tests)

of_word_is : (c : ℕ) → is_word_character c ≡ of_word (general_category c)
unfolding is_word_character of_word
of_word_is c = refl

implied : (a b : Bool) → (not a || b) ≡ true → a ≡ true → b ≡ true
implied true b or is = or
implied false b or is = absurd (cc)

-- a character of a word is a character
word_scalar : (c : ℕ) → is_word_character c ≡ true → IsScalar c
word_scalar c is = scalar_from c (implied (of_word (general_category c)) (in_ranges characters c) (word_within c) (sym (of_word_is c) ∙ is))

-- ---- words

word_text : (cs : List ℕ) → AllPass is_word_character cs → IsUtf8 (encode_utf8_all cs)
word_text [] all = IsUtf8-nil
word_text (c ∷ cs) all =
    IsUtf8-append (encode_utf8 c) (encode_utf8_all cs) (IsUtf8-encode c (word_scalar c (All-head (λ d. is_word_character d ≡ true) c cs all))) (word_text cs (All-tail (λ d. is_word_character d ≡ true) c cs all))

word_texts : (words : List (List ℕ)) → AllRuns is_word_character words → AllByRecursion IsUtf8 (map encode_utf8_all words)
word_texts [] all = tt
word_texts (word ∷ words) all = (word_text word all.1, word_texts words all.2)

space_text : IsUtf8 (32 ∷ [])
space_text = subst IsUtf8 (encode_ascii 32 (lit< tt)) (IsUtf8-encode 32 refl)

joined_utf8 : (words : List (List ℕ)) → AllByRecursion IsUtf8 words → IsUtf8 (joined_text words)
joined_utf8 [] all = IsUtf8-nil
joined_utf8 (word ∷ []) all = all.0
joined_utf8 (word ∷ next ∷ words) all =
    let rest = joined_text (next ∷ words) in
    IsUtf8-append word (32 ∷ rest) all.0 (IsUtf8-append (32 ∷ []) rest space_text (joined_utf8 (next ∷ words) all.1))

-- ---- terms

number_text : (n : ℕ) → n < 10 ^ 18 → IsUtf8 (number_key n)
number_text n small = IsUtf8-from_ascii (number_key n) (IsAscii-from_digits (number_key n) (digits_of_key n small))

number_texts : (numbers : List ℕ) → All (λ n. n < 10 ^ 18) numbers → AllByRecursion IsUtf8 (map number_key numbers)
number_texts [] all = tt
number_texts (n ∷ numbers) all = (number_text n (All-head (λ n. n < 10 ^ 18) n numbers all), number_texts numbers (All-tail (λ n. n < 10 ^ 18) n numbers all))

phrase_texts : (words : List (List ℕ)) → AllByRecursion IsUtf8 words → AllByRecursion IsUtf8 (joined words)
phrase_texts [] all = tt
phrase_texts (word ∷ words) all = (joined_utf8 (word ∷ words) all, tt)

terms_text : (register : Register) (text : List ℕ) → AllByRecursion IsUtf8 (terms_of register text)
terms_text Word text = word_texts (words_of text) (runs_are_runs is_word_character (folded text))
terms_text Phrase text = phrase_texts (word_terms text) (word_texts (words_of text) (runs_are_runs is_word_character (folded text)))
terms_text Number text = number_texts (numbers_of text) (numbers_below text)

each_text : (texts : List (List ℕ)) → AllByRecursion IsUtf8 texts → (text : List ℕ) → Has texts text → IsUtf8 text
each_text [] all text there = absurd there
each_text (first ∷ texts) all text (inl same) = subst IsUtf8 (sym same) all.0
each_text (first ∷ texts) all text (inr later) = each_text texts all.1 text later

pub numbered : {X : Type 0} (n : ℕ) (xs : List X) → map (λ (p : ℕ × X). p.1) (enumerate_from n xs) ≡ xs
numbered n [] = refl
numbered n (x ∷ xs) = ap (λ rest. x ∷ rest) (numbered (n + 1) xs)

pub occurrence_text : (targets : Targets) (units : List UnitText) (o : Occurrence) → IsOccurrence targets units o → IsUtf8 o.key.term
occurrence_text targets units o is =
    let terms = terms_of o.key.register (text_of is.unit.text) in
    let there : Contains terms o.key.term = subst (λ (l : List (List ℕ)). Contains l o.key.term) (numbered 1 terms) (Contains-map (λ (p : ℕ × List ℕ). p.1) (enumerate_from 1 terms) (o.pos, o.key.term) is.in_unit) in
    each_text terms (terms_text o.key.register (text_of is.unit.text)) o.key.term (has_contained terms o.key.term there)

-- ---- places

-- what is numbered from n on has no number below n
counted_from : {X : Type 0} (n : ℕ) (xs : List X) (x : ℕ × X) → Has (enumerate_from n xs) x → n ≤ x.0
counted_from n [] x there = absurd there
counted_from n (y ∷ ys) x (inl same) = (let e : x.0 ≡ n = ap (λ (p : ℕ × _). p.0) same in omega (arith, e))
counted_from n (y ∷ ys) x (inr later) = (let more = counted_from (n + 1) ys x later in omega (arith, more))

units_from : (n : ℕ) (contents : List Piece) (unit : UnitText) → Has (numbered_from n contents) unit → n ≤ unit.seq
units_from n [] unit there = absurd there
units_from n (c ∷ contents) unit (inl same) = (let e : unit.seq ≡ n = ap (λ (u : UnitText). u.seq) same in omega (arith, e))
units_from n (c ∷ contents) unit (inr later) = (let more = units_from (suc n) contents unit later in omega (arith, more))

unit_from : (fields : List FieldText) (unit : UnitText) → Contains (units_of fields) unit → 1 ≤ unit.seq
unfolding units_of
unit_from fields unit there = units_from 1 _ unit (has_contained _ unit there)

pub occurrence_storable : (targets : Targets) (fields : List FieldText) (o : Occurrence) (sysno : ℕ) → IsOccurrence targets (units_of fields) o → (1 ≤ sysno) × (sysno ≤ 999999999)
    → IsStorablePosting o.key (record { sysno = sysno; seq = o.seq; pos = o.pos })
occurrence_storable targets fields o sysno is number =
    let unit = unit_from fields is.unit is.in_record in
    let terms = terms_of o.key.register (text_of is.unit.text) in
    record {
      text = occurrence_text targets (units_of fields) o is;
      sysno = number;
      seq = omega (arith, unit, is.same_seq);
      pos = counted_from 1 terms (o.pos, o.key.term) (has_contained (enumerate_from 1 terms) (o.pos, o.key.term) is.in_unit);
    }

-- ---- what registers hold

-- what is posted of numbered records can be stored
pub posted_storable : (profile : List Directive) (records_of : ℤ → List Kept) → HaveSystemNumbers records_of → (content : Content) → ArePosted profile records_of content → IsStorable content
posted_storable profile records_of numbered content posted db key p there =
    let it = (posted.each db p.sysno (record { key = key; seq = p.seq; pos = p.pos })).0 there in
    let number = subst (λ (n : ℕ). (1 ≤ n) × (n ≤ 999999999)) it.2 (numbered db it.0 it.1) in
    occurrence_storable (unit_targets profile) (fields_of it.0.bytes) (record { key = key; seq = p.seq; pos = p.pos }) p.sysno it.3 number

-- Stars put on one word at a time are those that the truncation puts on all.
use Rattle.zeb_text.proofs.Cited.{◌≡◌, ℕ, ◌+◌, ◌<◌, ◌≤◌, zero, suc, Bool, true, false, ◌&&◌, ◌||◌, ◌==◌, List, [], ◌∷◌, ◌++◌, length, get_or, drop, map, add-one, refl, sym, ap, ◌∙◌, arith, chars, string_bytes, String, encode_utf8_all, nat_tests, append-nil, append_assoc, encodes_same, encodes-chars, IsUtf8-string_bytes, Cut, Right, Left, Both, Hash, Spread, Ends, Each, cuts_left, cuts_right, cuts_each, star_if, Symbol, Star, texts_of, star_before_first, star_after_last}
use Rattle.zeb_text.specs.declared.truncation.Cut.TheVariants.{None}
use Rattle.zeb_text.specs.Truncation.{truncated}

abbrev pub is_nil : {A : Type 0} → List A → Bool
is_nil [] = true
is_nil (x ∷ xs) = false

-- the words with their stars, where the first of them is the term's first word or not
abbrev pub built : (left right each is_first : Bool) → List (List Symbol) → List (List Symbol)
built left right each is_first [] = []
built left right each is_first (word ∷ words) = ((star_if (left && (each || is_first)) ++ word) ++ star_if (right && (each || is_nil words))) ∷ built left right each false words

built-plain : (each is_first : Bool) (words : List (List Symbol)) → built false false each is_first words ≡ words
built-plain each is_first [] = refl
built-plain each is_first (word ∷ words) = ap (λ w. w ∷ built false false each false words) (append-nil word) ∙ ap (λ ws. word ∷ ws) (built-plain each false words)

built-right : (is_first : Bool) (words : List (List Symbol)) → built false true false is_first words ≡ star_after_last words
built-right is_first [] = refl
built-right is_first (word ∷ []) = refl
built-right is_first (word ∷ next ∷ words) = ap (λ w. w ∷ built false true false false (next ∷ words)) (append-nil word) ∙ ap (λ ws. word ∷ ws) (built-right false (next ∷ words))

built-later : (words : List (List Symbol)) → built true true false false words ≡ star_after_last words
built-later [] = refl
built-later (word ∷ []) = refl
built-later (word ∷ next ∷ words) = ap (λ w. w ∷ built true true false false (next ∷ words)) (append-nil word) ∙ ap (λ ws. word ∷ ws) (built-later (next ∷ words))

built-left_later : (words : List (List Symbol)) → built true false false false words ≡ words
built-left_later [] = refl
built-left_later (word ∷ words) = ap (λ w. w ∷ built true false false false words) (append-nil word) ∙ ap (λ ws. word ∷ ws) (built-left_later words)

built-left : (words : List (List Symbol)) → built true false false true words ≡ star_before_first words
built-left [] = refl
built-left (word ∷ words) = ap (λ w. (Star ∷ w) ∷ built true false false false words) (append-nil word) ∙ ap (λ ws. (Star ∷ word) ∷ ws) (built-left_later words)

built-both : (words : List (List Symbol)) → built true true false true words ≡ star_before_first (star_after_last words)
built-both [] = refl
built-both (word ∷ []) = refl
built-both (word ∷ next ∷ words) = ap (λ w. (Star ∷ w) ∷ built true true false false (next ∷ words)) (append-nil word) ∙ ap (λ ws. (Star ∷ word) ∷ ws) (built-later (next ∷ words))

built-each_right : (is_first : Bool) (words : List (List Symbol)) → built false true true is_first words ≡ map (λ word. word ++ Star ∷ []) words
built-each_right is_first [] = refl
built-each_right is_first (word ∷ words) = ap (λ ws. (word ++ Star ∷ []) ∷ ws) (built-each_right false words)

built-each_left : (is_first : Bool) (words : List (List Symbol)) → built true false true is_first words ≡ map (λ word. Star ∷ word) words
built-each_left is_first [] = refl
built-each_left is_first (word ∷ words) = ap (λ w. (Star ∷ w) ∷ built true false true false words) (append-nil word) ∙ ap (λ ws. (Star ∷ word) ∷ ws) (built-each_left false words)

built-each_both : (is_first : Bool) (words : List (List Symbol)) → built true true true is_first words ≡ map (λ word. Star ∷ (word ++ Star ∷ [])) words
built-each_both is_first [] = refl
built-each_both is_first (word ∷ words) = ap (λ ws. (Star ∷ (word ++ Star ∷ [])) ∷ ws) (built-each_both false words)

pub built-truncated : (cut : Cut) (spread : Spread) (words : List (List Symbol)) → built (cuts_left cut) (cuts_right cut) (cuts_each spread) true words ≡ truncated cut spread words
unfolding truncated
built-truncated None spread words = built-plain (cuts_each spread) true words
built-truncated Hash spread words = built-plain (cuts_each spread) true words
built-truncated Right Ends words = built-right true words
built-truncated Left Ends words = built-left words
built-truncated Both Ends words = built-both words
built-truncated Right Each words = built-each_right true words
built-truncated Left Each words = built-each_left true words
built-truncated Both Each words = built-each_both true words

not_zero : (n : ℕ) → (0 == suc n) ≡ false
not_zero n = grind (arith, nat_tests)

same_next : (m n : ℕ) → (suc m == suc n) ≡ (m == n)
same_next m n = grind (arith, nat_tests)

-- the last word is where nothing is left
pub is_nil-drop : {A : Type 0} (n : ℕ) (xs : List A) → n ≤ length xs → is_nil (drop n xs) ≡ (n == length xs)
is_nil-drop zero [] short = refl
is_nil-drop (suc n) [] short = absurd (omega arith)
is_nil-drop zero (x ∷ xs) short = sym (not_zero (length xs))
is_nil-drop (suc n) (x ∷ xs) short = is_nil-drop n xs (omega arith) ∙ sym (same_next n (length xs))

-- strings that are the encoded runs hold their characters
pub texts_from_bytes : {A : Type 0} (strings : List (String A)) (runs : List (List ℕ)) → map string_bytes strings ≡ map encode_utf8_all runs → texts_of strings ≡ runs
texts_from_bytes [] [] e = refl
texts_from_bytes [] (run ∷ runs) e = cc
texts_from_bytes (s ∷ strings) [] e = cc
texts_from_bytes (s ∷ strings) (run ∷ runs) e =
    let heads : string_bytes s ≡ encode_utf8_all run = cc in
    let tails : map string_bytes strings ≡ map encode_utf8_all runs = cc in
    let same = encodes_same (chars (string_bytes s)) run (encodes-chars (string_bytes s) (IsUtf8-string_bytes s) ∙ heads) in
    ap (λ text. text ∷ texts_of strings) same ∙ ap (λ texts. run ∷ texts) (texts_from_bytes strings runs tails)

pub drop_map : {A B : Type 0} (f : A → B) (xs : List A) (n : ℕ) (x : A) → n < length xs → x ≡ get_or xs n x → drop n (map f xs) ≡ f x ∷ drop (n + 1) (map f xs)
drop_map f [] n x lt is = absurd (omega arith)
drop_map f (y ∷ ys) zero x lt is = ap (λ z. f z ∷ map f ys) (sym is)
drop_map f (y ∷ ys) (suc n) x lt is = rw add-one (drop_map f ys n x (omega arith) is ∙ ap (λ i. f x ∷ drop i (map f ys)) (add-one n))

pub map_map : {A B C : Type 0} (g : B → C) (f : A → B) (xs : List A) → map g (map f xs) ≡ map (λ x. g (f x)) xs
map_map g f [] = refl
map_map g f (x ∷ xs) = ap (λ ys. g (f x) ∷ ys) (map_map g f xs)

later : (n : ℕ) → (n + 1 == 0) ≡ false
later n = grind (arith, nat_tests)

-- one more word
pub built-more : (left right each : Bool) (n : ℕ) (plain done whole : List (List Symbol)) (word pattern : List Symbol) (before after : Bool) → n < length plain → drop n plain ≡ word ∷ drop (n + 1) plain
    → before ≡ (left && (each || (n == 0))) → after ≡ (right && (each || (n + 1 == length plain))) → pattern ≡ (star_if before ++ word) ++ star_if after
    → done ++ built left right each (n == 0) (drop n plain) ≡ whole → (done ++ pattern ∷ []) ++ built left right each (n + 1 == 0) (drop (n + 1) plain) ≡ whole
built-more left right each n plain done whole word pattern before after lt next before_is after_is pattern_is so_far =
    let rest = drop (n + 1) plain in
    let last : is_nil rest ≡ (n + 1 == length plain) = is_nil-drop (n + 1) plain (omega arith) in
    let step : pattern ∷ built left right each (n + 1 == 0) rest ≡ built left right each (n == 0) (drop n plain) =
    rw (next, pattern_is, before_is, after_is, later n, ← last) in
    append_assoc done (pattern ∷ []) (built left right each (n + 1 == 0) rest) ∙ ap (λ patterns. done ++ patterns) step ∙ so_far

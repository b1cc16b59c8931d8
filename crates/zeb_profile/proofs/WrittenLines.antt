-- The lines that directives are written on, and what each says when it is read.
use Rattle.zeb_profile.proofs.Cited.{◌≡◌, ◌==◌, ℕ, codes, ◌-◌, ◌<◌, ◌≢◌, List, [], ◌∷◌, ◌++◌, length, true, false, Ok, not, arith, refl, ap, ◌∙◌, get_or, append_assoc, map, decimal, list_all, lines, is_ascii_graphic, ne_eqb, not-true, All-append, All-get_or, All-weaker, AllPass-from_list_all, Directive, Store, Identifier, Att, Melm, AllUnits, canonical_line, canonical_text, pattern_text, targets_text, directive_from, directive_of, without_store, after_word, says_something, trimmed, is_store}
use Rattle.zeb_profile.proofs.DirectivesBack.{IsRead}
use Rattle.zeb_profile.proofs.LinesBack.{IsOneLine, is_line_feed, lines-first, lines-last}
use Rattle.zeb_profile.proofs.PlainWords.{IsPlain, graphic_range, last_of, trimmed-line, words_of-three, words_of-two}
use Rattle.zeb_profile.proofs.StorePaths.{store_line, store_line_trimmed}
use Rattle.zeb_profile.proofs.WordsBack.{name_word}

-- the line of a directive, not ended
abbrev pub written : Directive → List ℕ
written (Store path) = codes "store " ++ path
written (Identifier pattern) = codes "identifier " ++ pattern_text pattern
written (Att number name) = codes "att " ++ decimal number ++ codes " " ++ name
written (Melm pattern targets) = codes "melm " ++ pattern_text pattern ++ codes " " ++ targets_text targets
written (AllUnits targets) = codes "all " ++ targets_text targets

-- a line that has no blanks at its ends, is no comment, and says the directive
pub record Says (line : List ℕ) (directive : Directive) : Type 0 where
  pub read : directive_of line ≡ Ok directive
  pub whole : trimmed line ≡ line
  pub telling : says_something line ≡ true

-- ---- words behind a keyword
keyword_word : (keyword : List ℕ) → 0 < length keyword → list_all is_ascii_graphic keyword ≡ true → IsPlain keyword
keyword_word keyword some graphic = record { some = some; graphic = graphic }

one_behind : (keyword word : List ℕ) (directive : Directive) → IsPlain keyword → IsPlain word
    → ((rest : List ℕ) → directive_from (keyword ∷ word ∷ []) rest ≡ Ok directive) → directive_of (keyword ++ 32 ∷ word) ≡ Ok directive
one_behind keyword word directive k w read =
    ap (λ words. directive_from words (trimmed (after_word (keyword ++ 32 ∷ word)))) (words_of-two keyword word k w) ∙ read (trimmed (after_word (keyword ++ 32 ∷ word)))

two_behind : (keyword first second : List ℕ) (directive : Directive) → IsPlain keyword → IsPlain first → IsPlain second
    → ((rest : List ℕ) → directive_from (keyword ∷ first ∷ second ∷ []) rest ≡ Ok directive) → directive_of (keyword ++ 32 ∷ ((first ++ 32 ∷ []) ++ second)) ≡ Ok directive
two_behind keyword first second directive k f s read =
    let line : List ℕ = keyword ++ 32 ∷ ((first ++ 32 ∷ []) ++ second) in
    ap (λ words. directive_from words (trimmed (after_word line))) (words_of-three keyword first second k f s) ∙ read (trimmed (after_word line))

-- a line that begins with another byte than the number sign
tells : (first : ℕ) (others : List ℕ) → (first == 35) ≡ false → says_something (first ∷ others) ≡ true
tells first others h = rw (ne_eqb (length (first ∷ others)) 0 (λ e. absurd (omega (arith, e))), h) refl

pub written_says : (directive : Directive) → IsRead directive → Says (written directive) directive
written_says (Store path) h = record { read = store_line path h.0; whole = store_line_trimmed path h.0; telling = tells 115 (codes "tore " ++ path) refl }
written_says (Identifier pattern) h = record {
  read = one_behind (codes "identifier") (pattern_text pattern) (Identifier pattern) (keyword_word (codes "identifier") (omega arith) refl) h.1 (λ rest. rw (h.0) refl);
  whole = trimmed-line 105 (codes "dentifier ") (pattern_text pattern) refl h.1;
  telling = tells 105 (codes "dentifier " ++ pattern_text pattern) refl;
}
written_says (Att number name) h = record {
  read = two_behind (codes "att") (decimal number) name (Att number name) (keyword_word (codes "att") (omega arith) refl) h.1 (name_word name h.2) (λ rest. rw (h.0, h.2) refl);
  whole = trimmed-line 97 (codes "tt " ++ decimal number ++ codes " ") name refl (name_word name h.2);
  telling = tells 97 (codes "tt " ++ decimal number ++ codes " " ++ name) refl;
}
written_says (Melm pattern targets) h = record {
  read = two_behind (codes "melm") (pattern_text pattern) (targets_text targets) (Melm pattern targets) (keyword_word (codes "melm") (omega arith) refl) h.1 h.3 (λ rest. rw (h.0, h.2) refl);
  whole = trimmed-line 109 (codes "elm " ++ pattern_text pattern ++ codes " ") (targets_text targets) refl h.3;
  telling = tells 109 (codes "elm " ++ pattern_text pattern ++ codes " " ++ targets_text targets) refl;
}
written_says (AllUnits targets) h = record {
  read = one_behind (codes "all") (targets_text targets) (AllUnits targets) (keyword_word (codes "all") (omega arith) refl) h.1 (λ rest. rw (h.0) refl);
  whole = trimmed-line 97 (codes "ll ") (targets_text targets) refl h.1;
  telling = tells 97 (codes "ll " ++ targets_text targets) refl;
}

-- ---- a written line is one line
plain_one_line : (word : List ℕ) → IsPlain word → IsOneLine word
plain_one_line word h =
    All-weaker (λ b. is_ascii_graphic b ≡ true) (λ b. is_line_feed b ≡ false)
    (λ b g. let range = graphic_range b g in ne_eqb b 10 (λ e. absurd (omega (arith, e, range.0))))
    word (AllPass-from_list_all is_ascii_graphic word h.graphic)

joined_one_line : (front back : List ℕ) → IsOneLine front → IsOneLine back → IsOneLine (front ++ back)
joined_one_line front back f b = All-append (λ b. is_line_feed b ≡ false) front back f b

known_one_line : (text : List ℕ) → list_all (λ b. not (is_line_feed b)) text ≡ true → IsOneLine text
known_one_line text h =
    All-weaker (λ b. not (is_line_feed b) ≡ true) (λ b. is_line_feed b ≡ false) (λ b n. not-true (is_line_feed b) n) text (AllPass-from_list_all (λ b. not (is_line_feed b)) text h)

pub written_one_line : (directive : Directive) → IsRead directive → IsOneLine (written directive)
written_one_line (Store path) h = joined_one_line (codes "store ") path (known_one_line (codes "store ") refl) h.1
written_one_line (Identifier pattern) h = joined_one_line (codes "identifier ") (pattern_text pattern) (known_one_line (codes "identifier ") refl) (plain_one_line (pattern_text pattern) h.1)
written_one_line (Att number name) h =
    joined_one_line (codes "att " ++ decimal number ++ codes " ") name
    (joined_one_line (codes "att " ++ decimal number) (codes " ")
    (joined_one_line (codes "att ") (decimal number) (known_one_line (codes "att ") refl) (plain_one_line (decimal number) h.1))
    (known_one_line (codes " ") refl))
    (plain_one_line name (name_word name h.2))
written_one_line (Melm pattern targets) h =
    joined_one_line (codes "melm " ++ pattern_text pattern ++ codes " ") (targets_text targets)
    (joined_one_line (codes "melm " ++ pattern_text pattern) (codes " ")
    (joined_one_line (codes "melm ") (pattern_text pattern) (known_one_line (codes "melm ") refl) (plain_one_line (pattern_text pattern) h.1))
    (known_one_line (codes " ") refl))
    (plain_one_line (targets_text targets) h.3)
written_one_line (AllUnits targets) h = joined_one_line (codes "all ") (targets_text targets) (known_one_line (codes "all ") refl) (plain_one_line (targets_text targets) h.1)

-- a line that ends with a plain word doesn't end with CR
ends_plain : (front word : List ℕ) → IsPlain word → get_or (front ++ word) (length (front ++ word) - 1) 0 ≢ 13
ends_plain front word h e =
    let last : is_ascii_graphic (get_or word (length word - 1) 0) ≡ true =
    All-get_or (λ b. is_ascii_graphic b ≡ true) word (length word - 1) 0 (omega (arith, h.some)) (AllPass-from_list_all is_ascii_graphic word h.graphic) in
    let range = graphic_range (get_or word (length word - 1) 0) last in
    absurd (omega (arith, range.0, last_of front word h.some, e))

written_ends : (directive : Directive) → IsRead directive → is_store directive ≡ false → get_or (written directive) (length (written directive) - 1) 0 ≢ 13
written_ends (Store path) h other = absurd (cc)
written_ends (Identifier pattern) h other = ends_plain (codes "identifier ") (pattern_text pattern) h.1
written_ends (Att number name) h other = ends_plain (codes "att " ++ decimal number ++ codes " ") name (name_word name h.2)
written_ends (Melm pattern targets) h other = ends_plain (codes "melm " ++ pattern_text pattern ++ codes " ") (targets_text targets) h.3
written_ends (AllUnits targets) h other = ends_plain (codes "all ") (targets_text targets) h.1

-- ---- the lines of a canonical text with a last line behind it
abbrev pub AllRead : List Directive → Type 0
AllRead [] = Unit {0}
AllRead (directive ∷ others) = IsRead directive × AllRead others

ended : (directive : Directive) → is_store directive ≡ false → canonical_line directive ≡ written directive ++ codes "\n"
ended (Store path) h = absurd (cc)
ended (Identifier pattern) h = refl
ended (Att number name) h = refl
ended (Melm pattern targets) h = refl
ended (AllUnits targets) h = refl

line_more : (directive : Directive) (text last : List ℕ) (others : List (List ℕ)) → IsRead directive → is_store directive ≡ false
    → lines (text ++ last) ≡ others → lines ((canonical_line directive ++ text) ++ last) ≡ written directive ∷ others
line_more directive text last others h other rest =
    let line : List ℕ = written directive in
    let joined : (canonical_line directive ++ text) ++ last ≡ line ++ 10 ∷ (text ++ last) =
    ap (λ front. (front ++ text) ++ last) (ended directive other) ∙ ap (λ front. front ++ last) (append_assoc line (codes "\n") text) ∙ append_assoc line (10 ∷ text) last in
    ap lines joined ∙ lines-first line (text ++ last) (written_one_line directive h) (written_ends directive h other) ∙ ap (λ found. line ∷ found) rest

pub canonical_lines : (directives : List Directive) (last : List ℕ) → AllRead directives → IsOneLine last → 0 < length last
    → lines (canonical_text directives ++ last) ≡ map written (without_store directives) ++ last ∷ []
canonical_lines [] last h one some = lines-last last one some
canonical_lines (Store path ∷ ds) last h one some = canonical_lines ds last h.1 one some
canonical_lines (Identifier pattern ∷ ds) last h one some = line_more (Identifier pattern) (canonical_text ds) last _ h.0 refl (canonical_lines ds last h.1 one some)
canonical_lines (Att number name ∷ ds) last h one some = line_more (Att number name) (canonical_text ds) last _ h.0 refl (canonical_lines ds last h.1 one some)
canonical_lines (Melm pattern targets ∷ ds) last h one some = line_more (Melm pattern targets) (canonical_text ds) last _ h.0 refl (canonical_lines ds last h.1 one some)
canonical_lines (AllUnits targets ∷ ds) last h one some = line_more (AllUnits targets) (canonical_text ds) last _ h.0 refl (canonical_lines ds last h.1 one some)

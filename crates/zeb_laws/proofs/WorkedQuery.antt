-- The word of a title, asked for by a query's text.
use Rattle.zeb_laws.proofs.Cited.{◌≡◌, ◌↔◌, ℕ, List, [], ◌∷◌, None, Ok, inl, inr, refl, sym, subst, codes, string_bytes, words_at, unquoted, IsReadable, QueryValue, TermValue, IsQuery, is_term, is_attribute, is_structure, no_head, with_attribute, SpellsQuery, words_are_read, apart, readable, plan_of, title_profile, Command, Find, Limits, name_bytes, Answer, Conditions, IsPlanned, Holdings, AskedAmong, FindAnswers, FoundFrom, Step, book_base, book_conditions, one_book, title_plan, IsFindBy, answered_once, name_once, ready}
use Rattle.std.specs.Str.{chars, is_utf8}
use lib.Utf8.{encode}
use Rattle.ucd_category.proofs.Computing.{ucd_category}
use Rattle.caseless.proofs.Computing.{caseless}
use Rattle.zeb_text.specs.Folding.{folded}
use Rattle.zeb_text.specs.Words.{is_word_character, runs_of}
use Rattle.zeb_text.specs.Truncation.{truncated}
use Rattle.zeb_query.specs.Words.{Word}
use Rattle.zeb_query.specs.Grammar.{kind_and_value, under}
use Rattle.zeb_query.specs.Attributes.{holding_of}
use Rattle.zeb_query.specs.Plans.{plan_asked}
use Rattle.zeb_laws.proofs.WorkedAnswers.{book_named, book_occurs, one_found, word_found}
use Rattle.zeb_laws.proofs.WorkedLemmas.{ready_held}

abbrev text : List ℕ
text = codes "@attr 1=4 whale"

abbrev plain : ℕ → List ℕ → Word
plain place word = record { place = place; spelling = unquoted word; text = word }

abbrev term : Word
term = plain 10 (codes "whale")

abbrev query : QueryValue
query = record { attrset = None; tree = under (with_attribute None (1, codes "4")) (TermValue 10 no_head (codes "whale")) }

words_are : words_at 0 (chars text) ≡ plain 0 (codes "@attr") ∷ plain 6 (codes "1=4") ∷ term ∷ []
unfolding chars is_utf8 encode
words_are = refl

spells_words : IsQuery (plain 0 (codes "@attr") ∷ plain 6 (codes "1=4") ∷ term ∷ []) query
unfolding kind_and_value
spells_words = is_structure _ _ (is_attribute (plain 0 (codes "@attr")) (plain 6 (codes "1=4")) (term ∷ []) _ (1, codes "4") refl refl refl (is_term term refl refl))

spells : SpellsQuery text query
spells = record { words = words_at 0 (chars text); are_words = words_are_read (chars text); spelled = subst (λ words. IsQuery words query) (sym words_are) spells_words }

is_readable : IsReadable text
unfolding chars is_utf8 encode kind_and_value
is_readable = readable text refl

planned : plan_of title_profile query ≡ Ok (title_plan (codes "whale"))
unfolding plan_asked holding_of chars is_utf8 encode caseless ucd_category folded is_word_character runs_of truncated
planned = refl

abbrev AnswersBook : Answer → Type 0
AnswersBook = FindAnswers title_profile text 1 20 book_base

answered : AnswersBook one_found
answered = (query, spells, subst (λ p. IsPlanned book_occurs book_named p 1 20 one_found) (sym planned) ((word_found one_found).1 refl))

-- nothing else is answered
only_answered : (answer : Answer) → AnswersBook answer → answer ≡ one_found
only_answered answer is = answered_once book_occurs book_named (name_once book_base.records) 1 20 answer one_found title_profile text is answered

module _ (version : List ℕ) (limits : Limits) (answer : Answer) where
  abbrev c : Conditions
  c = book_conditions version limits

  -- the text has no fault, and the database is there
  here : AnswersBook answer → FoundFrom c (codes "Default") text 1 20 (ready c (one_book version)) answer
  here is =
      subst (λ bases. FoundFrom c (codes "Default") text 1 20 bases answer) (sym (ready_held c (book_base ∷ []))) (inl (is_readable, is))

  there : FoundFrom c (codes "Default") text 1 20 (ready c (one_book version)) answer → AnswersBook answer
  there is = go (subst (λ bases. FoundFrom c (codes "Default") text 1 20 bases answer) (ready_held c (book_base ∷ [])) is)
    where
      go : AskedAmong (FindAnswers title_profile text 1 20) (codes "Default") text (book_base ∷ []) answer → AnswersBook answer
      go (inl read) = read.1
      go (inr faulty) = absurd (apart text faulty.0 faulty.1 is_readable faulty.2)

  -- asked under any names for the four parts of the command
  asked_as : (name words : List ℕ) (first count : ℕ) → name ≡ codes "Default" → words ≡ text → first ≡ 1 → count ≡ 20
      → FoundFrom c name words first count (ready c (one_book version)) answer ↔ (answer ≡ one_found)
  asked_as name words first count is_name is_text is_first is_count =
      let asked_here : FoundFrom c (codes "Default") text 1 20 (ready c (one_book version)) answer ↔ (answer ≡ one_found) =
      (λ h. only_answered answer (there h), λ same. here (subst (λ a. AnswersBook a) (sym same) answered)) in
      let by_name = subst (λ n. FoundFrom c n text 1 20 (ready c (one_book version)) answer ↔ (answer ≡ one_found)) (sym is_name) asked_here in
      let by_text = subst (λ t. FoundFrom c name t 1 20 (ready c (one_book version)) answer ↔ (answer ≡ one_found)) (sym is_text) by_name in
      let by_first = subst (λ n. FoundFrom c name words n 20 (ready c (one_book version)) answer ↔ (answer ≡ one_found)) (sym is_first) by_text in
      subst (λ n. FoundFrom c name words first n (ready c (one_book version)) answer ↔ (answer ≡ one_found)) (sym is_count) by_first

  pub asked : (later : Holdings) (command : Command) → IsFindBy text command → Step c command (one_book version) answer later ↔ ((answer ≡ one_found) × (later ≡ one_book version))
  asked later (Find name asked_for first count) is =
      let it = asked_as (name_bytes name) (string_bytes asked_for) first count is.0 is.1 is.2 is.3 in
      (λ step. (it.0 step.0, step.1), λ both. (it.1 both.0, both.1))
  asked later _ is = absurd is

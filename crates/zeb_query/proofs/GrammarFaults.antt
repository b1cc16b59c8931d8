-- Where a text's fault stands: past a front that some query begins with, at a word that none has there or none has room
-- for, or at the end.
use Rattle.zeb_query.proofs.Cited.{◌≡◌, ◌≢◌, ℕ, zero, suc, ◌⊎◌, inl, inr, Bool, true, false, List, [], ◌∷◌, ◌++◌, Option, Some, None, refl, ap, sym, subst, ◌∙◌, arith, append_assoc, slice_get, option_map, OperatorWord, Keyword, AttributeSet, Attribute, TermType, ResultSet, Operator, Word, keyword_of, IsQuery, is_good, has_equals, parameter_count, QueryValue, Due, Start, Structures, SetOrSpec, Spec, MoreWords, words_then, fault, fault_at_end, Step, Allowed, Refused, step, good_step, structure_step, start_step, spec_step, IsBeginning, IsQueryWithin, IsBeginningWithin, IsStrange, IsUnfinished, IsUnspelled, IsCrowded, operators}
use Rattle.zeb_query.specs.Grammar.{kind_and_value}
use Rattle.zeb_query.proofs.GrammarLemmas.{append-nil, step-start, fault-step}
use Rattle.zeb_query.proofs.GrammarLaws.{over_query}
use Rattle.zeb_query.proofs.GrammarOnce.{somes_same}
use Rattle.zeb_query.proofs.GrammarRoom.{six_at, fault_of_query, room_for_query}
use Rattle.zeb_query.proofs.GrammarPlaces.{Completes, After, forward, backward, completion, no_fault_in_completion, nothing_due, not_refused, step-keyword}

-- a front is read, so that all is due after it that was due before it but the front
record Passes (due : Due) (room : ℕ) (front : List Word) (after : Due) (left : ℕ) : Type 0 where
  same : (end : ℕ) (words : List Word) → fault end room due (front ++ words) ≡ fault end left after words
  back : (words : List Word) → Completes after words → Completes due (front ++ words)
  forth : (words : List Word) → Completes due (front ++ words) → Completes after words

passes_nothing : (due : Due) (room : ℕ) → Passes due room [] due room
passes_nothing due room = record { same = λ end words. refl; back = λ words c. c; forth = λ words c. c }

passes_word : (due d after : Due) (room r left : ℕ) (w : Word) (front : List Word) → step room w due ≡ Allowed r d → Passes d r front after left → Passes due room (w ∷ front) after left
passes_word due d after room r left w front e p = record {
  same = λ end words. fault-step end room due w (front ++ words) (Allowed r d) e ∙ p.same end words;
  back = λ words c. backward due w (front ++ words) room r d e (p.back words c);
  forth = λ words c. p.forth words (subst (λ x. After x (front ++ words)) e (forward due w (front ++ words) c room));
}

-- a word is refused after a front
record Stops (due : Due) (room : ℕ) (words : List Word) : Type 0 where
  front : List Word
  word : Word
  more : List Word
  is : words ≡ front ++ word ∷ more
  after : Due
  left : ℕ
  passes : Passes due room front after left
  number : ℕ
  refused : step left word after ≡ Refused number

-- or all words are read
record Ends (due : Due) (room : ℕ) (words : List Word) : Type 0 where
  after : Due
  left : ℕ
  passes : Passes due room words after left

walk : (words : List Word) (room : ℕ) (due : Due) → Stops due room words ⊎ Ends due room words
walk [] room due = inr (record { after = due; left = room; passes = passes_nothing due room })
walk (w ∷ ws) room due = at (walk ws) (step room w due) refl
  where
    at : ((r : ℕ) (d : Due) → Stops d r ws ⊎ Ends d r ws) → (s : Step) → step room w due ≡ s → Stops due room (w ∷ ws) ⊎ Ends due room (w ∷ ws)
    at again (Allowed r d) e = elim (again r d) [
      | inl s ↦ inl (record { front = w ∷ s.front; word = s.word; more = s.more; is = ap (λ xs. w ∷ xs) s.is; after = s.after; left = s.left; passes = passes_word due d s.after room r s.left w s.front e s.passes; number = s.number; refused = s.refused })
      | inr s ↦ inr (record { after = s.after; left = s.left; passes = passes_word due d s.after room r s.left w ws e s.passes })
    ]
    at again (Refused number) e = inl (record { front = []; word = w; more = ws; is = refl; after = due; left = room; passes = passes_nothing due room; number = number; refused = e })

fault_where_stopped : {due : Due} {room : ℕ} {words : List Word} → (s : Stops due room words) → (end : ℕ) → fault end room due words ≡ Some (s.number, s.word.place)
fault_where_stopped {due} {room} {words} s end =
    ap (λ ws. fault end room due ws) s.is
    ∙ s.passes.same end (s.word ∷ s.more)
    ∙ fault-step end s.left s.after s.word s.more (Refused s.number) s.refused

fault_where_ended : {due : Due} {room : ℕ} {words : List Word} → (s : Ends due room words) → (end : ℕ) → fault end room due words ≡ fault_at_end end s.after
fault_where_ended {due} {room} {words} s end = ap (λ ws. fault end room due ws) (sym (append-nil words)) ∙ s.passes.same end []

pub pairs_same : {a b c d : ℕ} → ◌≡◌ {A = Option (ℕ × ℕ)} (Some (a, b)) (Some (c, d)) → (a ≡ c) × (b ≡ d)
pairs_same e = (ap (λ p. p.0) (somes_same e), ap (λ p. p.1) (somes_same e))

none_some : {x : ℕ × ℕ} → None ≡ Some x → ⊥
none_some h = absurd (cc)

-- a word is refused where there is no room for it, and then it is an operator, or where nothing goes on with it
record NoRoom (room : ℕ) (w : Word) (due : Due) : Type 0 where
  connective : OperatorWord
  is : keyword_of w ≡ Some (Operator connective)
  next : Due
  allowed : step 1 w due ≡ Allowed 0 next

refused_same : {m n : ℕ} → Refused m ≡ Refused n → m ≡ n
refused_same e = cc

no_room_at_structure : (room n number : ℕ) (w : Word) (k : Option Keyword) → keyword_of w ≡ k → structure_step room k n ≡ Refused number → ((number ≡ 6) × NoRoom room w (Structures (suc n))) ⊎ (number ≡ 108)
no_room_at_structure room n number w None key e = absurd (not_refused (sym e))
no_room_at_structure room n number w (Some AttributeSet) key e = inr (sym (refused_same e))
no_room_at_structure room n number w (Some Attribute) key e = absurd (not_refused (sym e))
no_room_at_structure room n number w (Some TermType) key e = absurd (not_refused (sym e))
no_room_at_structure room n number w (Some ResultSet) key e = absurd (not_refused (sym e))
no_room_at_structure zero n number w (Some (Operator connective)) key e =
    inl (sym (refused_same e), record { connective = connective; is = key; next = words_then (parameter_count connective) (suc (suc n)); allowed = step-keyword 1 n w (Operator connective) key })
no_room_at_structure (suc room) n number w (Some (Operator connective)) key e = absurd (not_refused (sym e))

at_start : (room : ℕ) (w : Word) → keyword_of w ≢ Some AttributeSet → NoRoom room w (Structures 1) → NoRoom room w Start
at_start room w other s = record { connective = s.connective; is = s.is; next = s.next; allowed = step-start 1 w other ∙ s.allowed }

no_room_at_start : (room number : ℕ) (w : Word) (k : Option Keyword) → keyword_of w ≡ k → start_step room k ≡ Refused number → ((number ≡ 6) × NoRoom room w Start) ⊎ (number ≡ 108)
no_room_at_start room number w (Some AttributeSet) key e = absurd (not_refused (sym e))
no_room_at_start room number w None key e = absurd (not_refused (sym e))
no_room_at_start room number w (Some Attribute) key e = absurd (not_refused (sym e))
no_room_at_start room number w (Some TermType) key e = absurd (not_refused (sym e))
no_room_at_start room number w (Some ResultSet) key e = absurd (not_refused (sym e))
no_room_at_start room number w (Some (Operator connective)) key e =
    elim (no_room_at_structure room 0 number w (Some (Operator connective)) key e) [
      | inl p ↦ inl (p.0, at_start room w other p.1)
      | inr h ↦ inr h
    ]
  where
    other : keyword_of w ≢ Some AttributeSet
    other h = absurd (cc)

refused_at_spec : (room n number : ℕ) (text : List ℕ) (read : Option (ℕ × List ℕ)) → kind_and_value text ≡ read → spec_step room text n ≡ Refused number → number ≡ 108
refused_at_spec room n number text None is e = sym (refused_same (sym refusal ∙ e))
  where
    refusal : spec_step room text n ≡ Refused 108
    refusal = rw is refl
refused_at_spec room n number text (Some kv) is e = absurd (not_refused (sym e ∙ allowance))
  where
    allowance : spec_step room text n ≡ Allowed room (Structures (suc n))
    allowance = rw is refl

refused_good : (room number : ℕ) (w : Word) (due : Due) → good_step room w due ≡ Refused number → ((number ≡ 6) × NoRoom room w due) ⊎ (number ≡ 108)
refused_good room number w Start e = no_room_at_start room number w (keyword_of w) refl e
refused_good room number w (Structures zero) e = inr (sym (refused_same e))
refused_good room number w (Structures (suc n)) e = no_room_at_structure room n number w (keyword_of w) refl e
refused_good room number w (SetOrSpec n) e = split (has_equals w.text) refl
  where
    split : (b : Bool) → has_equals w.text ≡ b → ((number ≡ 6) × NoRoom room w (SetOrSpec n)) ⊎ (number ≡ 108)
    split true is = inr (refused_at_spec room n number w.text (kind_and_value w.text) refl (sym (rw is refl) ∙ e))
    split false is = let same : Allowed room (Spec n) ≡ Refused number = sym (rw is refl) ∙ e in absurd (not_refused (sym same))
refused_good room number w (Spec n) e = inr (refused_at_spec room n number w.text (kind_and_value w.text) refl e)
refused_good room number w (MoreWords k n) e = absurd (not_refused (sym e))

refused_word : (room number : ℕ) (w : Word) (due : Due) → step room w due ≡ Refused number → ((number ≡ 6) × NoRoom room w due) ⊎ (number ≡ 108)
refused_word room number w due e = split (is_good w) refl
  where
    split : (b : Bool) → is_good w ≡ b → ((number ≡ 6) × NoRoom room w due) ⊎ (number ≡ 108)
    split true is = refused_good room number w due (sym (step_is is) ∙ e)
      where
        step_is : is_good w ≡ true → step room w due ≡ good_step room w due
        step_is h = rw h refl
    split false is = inr (sym (refused_same (sym (refusal is) ∙ e)))
      where
        refusal : is_good w ≡ false → step room w due ≡ Refused 108
        refusal h = rw h refl

-- some query begins with a front that is read, and no more operators are in it than there is room for
begins_within : (room left : ℕ) (front : List Word) (after : Due) → Passes Start room front after left → IsBeginningWithin room front
begins_within room left front after p =
    let c = completion after in
    let q : Completes Start (front ++ c.0) = p.back c.0 c.1 in
    (c.0, (q.0, (q.1, room_for_query q.1 0 room (p.same 0 c.0 ∙ no_fault_in_completion after 0 left))))

beginning : (front : List Word) (word : Word) (rest : List Word) → Completes Start (front ++ word ∷ rest) → IsBeginning (front ++ word ∷ [])
beginning front word rest c = (rest, (c.0, subst (λ xs. IsQuery xs c.0) (sym (append_assoc front (word ∷ []) rest)) c.1))

whole : (front : List Word) (word : Word) → (b : IsBeginning (front ++ word ∷ [])) → Completes Start (front ++ word ∷ b.0)
whole front word b = (b.1.0, subst (λ xs. IsQuery xs b.1.0) (append_assoc front (word ∷ []) b.0) b.1.1)

-- where there is room for one more operator, a query goes on with it
begins_with_room : (room left : ℕ) (front : List Word) (word : Word) (after : Due) → Passes Start room front after left → NoRoom left word after → IsBeginning (front ++ word ∷ [])
begins_with_room room left front word after p s =
    let c = completion s.next in
    beginning front word c.0 (p.back (word ∷ c.0) (backward after word c.0 1 0 s.next s.allowed c.1))

refused_is_strange : (room left : ℕ) (front : List Word) (word : Word) (after : Due) → Passes Start room front after left → step left word after ≡ Refused 108 → ¬ IsBeginning (front ++ word ∷ [])
refused_is_strange room left front word after p e b =
    six (subst (λ x. After x b.0) e (forward after word b.0 (p.forth (word ∷ b.0) (whole front word b)) left))
  where
    six : ◌≡◌ {A = ℕ} 108 6 → ⊥
    six h = absurd (omega arith)

strange_query : (room : ℕ) (words : List Word) → (s : Stops Start room words) → s.number ≡ 108 → IsStrange room words s.word.place
strange_query room words s n = record {
  front = s.front;
  word = s.word;
  more = s.more;
  is = s.is;
  place_is = refl;
  begins = begins_within room s.left s.front s.after s.passes;
  strange = refused_is_strange room s.left s.front s.word s.after s.passes (s.refused ∙ ap (λ number. Refused number) n);
}

crowded_query : (room : ℕ) (words : List Word) → (s : Stops Start room words) → s.number ≡ 6 → NoRoom s.left s.word s.after → IsCrowded room words s.word.place
crowded_query room words s n full = record {
  front = s.front;
  word = s.word;
  more = s.more;
  is = s.is;
  place_is = refl;
  operator = (full.connective, full.is);
  fits = begins_within room s.left s.front s.after s.passes;
  begins = begins_with_room room s.left s.front s.word s.after s.passes full;
  crowded = λ rest query spelled.
      place_of (slice_get (operators query.tree) room)
      (sym (fault_of_query spelled 0 room)
      ∙ s.passes.same 0 (s.word ∷ rest)
      ∙ fault-step 0 s.left s.after s.word rest (Refused s.number) s.refused
      ∙ ap (λ number. Some (number, s.word.place)) n);
}
  where
    place_of : (found : Option ℕ) → option_map six_at found ≡ Some (6, s.word.place) → found ≡ Some s.word.place
    place_of None e = absurd (none_some e)
    place_of (Some place) e = ap (λ x. Some x) (pairs_same e).1

unfinished_query : (end room : ℕ) (words : List Word) → (s : Ends Start room words) → fault_at_end end s.after ≡ Some (108, end) → IsUnfinished end room words end
unfinished_query end room words s e = record {
  place_is = refl;
  begins = begins_within room s.left words s.after s.passes;
  unfinished = λ q spelled. none_some (sym (nothing_due end s.after (s.passes.forth [] (q, subst (λ xs. IsQuery xs q) (sym (append-nil words)) spelled))) ∙ e);
}

-- what is due at the end
nothing_or_more : (end : ℕ) (due : Due) → (due ≡ Structures 0) ⊎ (fault_at_end end due ≡ Some (108, end))
nothing_or_more end Start = inr refl
nothing_or_more end (Structures zero) = inl refl
nothing_or_more end (Structures (suc n)) = inr refl
nothing_or_more end (SetOrSpec n) = inr refl
nothing_or_more end (Spec n) = inr refl
nothing_or_more end (MoreWords k n) = inr refl

-- words that are read, after which nothing is due, are a query
complete_query : (room left : ℕ) (words : List Word) (after : Due) → Passes Start room words after left → after ≡ Structures 0 → (q : QueryValue) × IsQuery words q
complete_query room left words after p e =
    let q : Completes Start (words ++ []) = p.back [] (subst (λ d. Completes d []) (sym e) refl) in
    (q.0, subst (λ xs. IsQuery xs q.0) (append-nil words) q.1)

-- what a fault means
pub fault_is : (end room : ℕ) (words : List Word) (number place : ℕ) → fault end room Start words ≡ Some (number, place) → ((number ≡ 6) × IsCrowded room words place) ⊎ ((number ≡ 108) × IsUnspelled end room words place)
fault_is end room words number place e = elim (walk words room Start) [
  | inl s ↦ stopped s (pairs_same (sym (fault_where_stopped s end) ∙ e))
  | inr s ↦ ended s (nothing_or_more end s.after)
]
  where
    stopped : (s : Stops Start room words) → (s.number ≡ number) × (s.word.place ≡ place) → ((number ≡ 6) × IsCrowded room words place) ⊎ ((number ≡ 108) × IsUnspelled end room words place)
    stopped s p = elim (refused_word s.left s.number s.word s.after s.refused) [
      | inl full ↦ inl (sym p.0 ∙ full.0, subst (λ at. IsCrowded room words at) p.1 (crowded_query room words s full.0 full.1))
      | inr is ↦ inr (sym p.0 ∙ is, inl (subst (λ at. IsStrange room words at) p.1 (strange_query room words s is)))
    ]

    ended : (s : Ends Start room words) → ((s.after ≡ Structures 0) ⊎ (fault_at_end end s.after ≡ Some (108, end))) → ((number ≡ 6) × IsCrowded room words place) ⊎ ((number ≡ 108) × IsUnspelled end room words place)
    ended s (inl nothing) = absurd (none_some (ap (λ d. fault_at_end end d) (sym nothing) ∙ sym (fault_where_ended s end) ∙ e))
    ended s (inr more) =
        let p : (108 ≡ number) × (end ≡ place) = pairs_same (sym more ∙ sym (fault_where_ended s end) ∙ e) in
        inr (sym p.0, inr (subst (λ at. IsUnfinished end room words at) p.1 (unfinished_query end room words s more)))

-- and what none means
pub no_fault_is : (end room : ℕ) (words : List Word) → fault end room Start words ≡ None → IsQueryWithin room words
no_fault_is end room words e = elim (walk words room Start) [
  | inl s ↦ absurd (none_some (sym e ∙ fault_where_stopped s end))
  | inr s ↦ ended s (nothing_or_more end s.after)
]
  where
    ended : (s : Ends Start room words) → ((s.after ≡ Structures 0) ⊎ (fault_at_end end s.after ≡ Some (108, end))) → IsQueryWithin room words
    ended s (inl nothing) =
        let q = complete_query room s.left words s.after s.passes nothing in
        (q.0, (q.1, room_for_query q.1 end room e))
    ended s (inr more) = absurd (none_some (sym e ∙ fault_where_ended s end ∙ more))

-- a front that some query with room begins with is read
passes_front : (front rest : List Word) (due : Due) (room : ℕ) → fault 0 room due (front ++ rest) ≡ None → Ends due room front
passes_front [] rest due room e = record { after = due; left = room; passes = passes_nothing due room }
passes_front (w ∷ front) rest due room e = at (passes_front front rest) (step room w due) refl
  where
    at : ((d : Due) (r : ℕ) → fault 0 r d (front ++ rest) ≡ None → Ends d r front) → (s : Step) → step room w due ≡ s → Ends due room (w ∷ front)
    at again (Allowed r d) is =
        let p : Ends d r front = again d r (sym (fault-step 0 room due w (front ++ rest) (Allowed r d) is) ∙ e) in
        record { after = p.after; left = p.left; passes = passes_word due d p.after room r p.left w front is p.passes }
    at again (Refused number) is = absurd (none_some (sym e ∙ fault-step 0 room due w (front ++ rest) (Refused number) is))

reads_front : (room : ℕ) (front : List Word) → IsBeginningWithin room front → Ends Start room front
reads_front room front b = passes_front front b.0 Start room (over_query b.1.1.0 0 room b.1.1.1)

fault_after : (end room number : ℕ) (words front : List Word) (word : Word) (more : List Word) → (p : Ends Start room front) → words ≡ front ++ word ∷ more → step p.left word p.after ≡ Refused number → fault end room Start words ≡ Some (number, word.place)
fault_after end room number words front word more p is e =
    ap (λ ws. fault end room Start ws) is
    ∙ p.passes.same end (word ∷ more)
    ∙ fault-step end p.left p.after word more (Refused number) e

-- each of the two is the fault of its words
pub fault_where_strange : (end room : ℕ) (words : List Word) (place : ℕ) → IsStrange room words place → fault end room Start words ≡ Some (108, place)
fault_where_strange end room words place s = at (step p.left s.word p.after) refl
  where
    p : Ends Start room s.front
    p = reads_front room s.front s.begins

    at : (t : Step) → step p.left s.word p.after ≡ t → fault end room Start words ≡ Some (108, place)
    at (Allowed r d) e =
        let c = completion d in
        absurd (s.strange (beginning s.front s.word c.0 (p.passes.back (s.word ∷ c.0) (backward p.after s.word c.0 p.left r d e c.1))))
    at (Refused number) e = elim (refused_word p.left number s.word p.after e) [
      | inl full ↦ absurd (s.strange (begins_with_room room p.left s.front s.word p.after p.passes full.1))
      | inr is ↦ fault_after end room number words s.front s.word s.more p s.is e ∙ ap (λ n. Some (n, s.word.place)) is ∙ ap (λ at. Some (108, at)) (sym s.place_is)
    ]

pub fault_where_unfinished : (end room : ℕ) (words : List Word) (place : ℕ) → IsUnfinished end room words place → fault end room Start words ≡ Some (108, place)
fault_where_unfinished end room words place s = at (nothing_or_more end p.after)
  where
    p : Ends Start room words
    p = reads_front room words s.begins

    at : ((p.after ≡ Structures 0) ⊎ (fault_at_end end p.after ≡ Some (108, end))) → fault end room Start words ≡ Some (108, place)
    at (inl nothing) =
        let q = complete_query room p.left words p.after p.passes nothing in
        absurd (s.unfinished q.0 q.1)
    at (inr more) = fault_where_ended p end ∙ more ∙ ap (λ at. Some (108, at)) (sym s.place_is)

pub fault_where_crowded : (end room : ℕ) (words : List Word) (place : ℕ) → IsCrowded room words place → fault end room Start words ≡ Some (6, place)
fault_where_crowded end room words place s = at (step p.left s.word p.after) refl
  where
    p : Ends Start room s.front
    p = reads_front room s.front s.fits

    at : (t : Step) → step p.left s.word p.after ≡ t → fault end room Start words ≡ Some (6, place)
    at (Allowed r d) e =
        let c = completion d in
        let q : Completes Start (s.front ++ s.word ∷ c.0) = p.passes.back (s.word ∷ c.0) (backward p.after s.word c.0 p.left r d e c.1) in
        let none : fault 0 room Start (s.front ++ s.word ∷ c.0) ≡ None = p.passes.same 0 (s.word ∷ c.0) ∙ fault-step 0 p.left p.after s.word c.0 (Allowed r d) e ∙ no_fault_in_completion d 0 r in
        absurd (none_some (sym none ∙ fault_of_query q.1 0 room ∙ ap (λ found. option_map six_at found) (s.crowded c.0 q.0 q.1)))
    at (Refused number) e = elim (refused_word p.left number s.word p.after e) [
      | inl full ↦ fault_after end room number words s.front s.word s.more p s.is e ∙ ap (λ n. Some (n, s.word.place)) full.0 ∙ ap (λ at. Some (6, at)) (sym s.place_is)
      | inr is ↦ absurd (refused_is_strange room p.left s.front s.word p.after p.passes (e ∙ ap (λ n. Refused n) is) s.begins)
    ]

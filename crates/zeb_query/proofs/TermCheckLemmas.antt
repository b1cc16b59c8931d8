-- A term is refused by the first of its checks that applies, and else its plan, or where a scan begins, is what its attributes ask for.
use Rattle.zeb_query.proofs.Cited.{◌≡◌, ℕ, Bool, true, false, cond, List, [], ◌∷◌, ◌++◌, Option, Some, None, refl, Ok, not, ◌&&◌, is_none, unwrap_or, digits_value, Profile, Register, Symbol, Structure, Phrase, Asked, Compared, Always, Equal, Any, Incomplete, Subject, Record, Entries, Values, Purpose, Find, Scan, Near, HoldingValue, asks_number, completeness_of, index_in, index_used, is_local_number, joined_words, patterns_asked, position_of, register_of, relation_of, structure_of, truncation_of, values_held, Check, check, checked_by, clash_check, find_checks, index_check, kind_check, number_check, number_checks, one_of, operand_checks, Operand, scan_checks, set_check, term_checks, type_check, use_checks, words_check, written, entries_asked, index_near, operand_pattern, subject_asked, start_asked, texts_asked, NumberOf, RecordNumberOf, ScanValue, Err, number_of, answered, passed, ◌>>=◌, index_read, kept_or, patterns_read, related_plan, subject_index, subject_plan, subject_read, few, many}
use Rattle.zeb_text.specs.declared.Cut.TheVariants as cut
use Rattle.zeb_text.specs.Numbers.{number_key}
use Rattle.zeb_query.specs.Plans.{plan_asked, scan_asked}
use Rattle.zeb_query.specs.PrivatePlanning.{compared_plan, head_read, leaf_plan, leaf_scan, scan_start, term_taken, values_read, word_near}
use Rattle.zeb_query.proofs.CheckLemmas.{kept_then, number_then, passed_then, then_checks}

-- ---- the attributes

abbrev head_checks : ℕ → HoldingValue → List Check
head_checks place h = type_check place h.term_type ∷ set_check place h.other_set ∷ kind_check place h.other_kind ∷ []

head_steps : (place : ℕ) (h : HoldingValue) → head_read place h ≡ checked_by (head_checks place h) tt
unfolding head_read
head_steps place h =
    passed_then (type_check place h.term_type) _ (set_check place h.other_set ∷ kind_check place h.other_kind ∷ []) tt
    (passed_then (set_check place h.other_set) _ (kind_check place h.other_kind ∷ []) tt (last (kind_check place h.other_kind)))
  where
    last : (c : Check) → passed c ≡ checked_by (c ∷ []) (tt {0})
    last c = elim c.applies as (λ p. cond p (Err c.refusal) (Ok tt) ≡ answered (cond p (Some c.refusal) None) (tt {0})) [
      | true ↦ refl
      | false ↦ refl
    ]

abbrev index_if : Profile → Bool → Option (List ℕ) → Option ℕ
index_if profile local text = cond local None (Some (unwrap_or (index_used profile text) 0))

index_steps : (profile : Profile) (place : ℕ) (local : Bool) (text : Option (List ℕ))
    → index_read profile place local text ≡ checked_by (use_checks profile place local text) (index_if profile local text)
index_steps profile place true None = refl
index_steps profile place true (Some text) = refl
index_steps profile place false None = elim (index_used profile None) as (λ o. (kept_or 116 place None o >>= λ index. Ok (Some index)) ≡ checked_by (check place 114 [] false ∷ check place 116 [] (is_none o) ∷ []) (Some (unwrap_or o 0))) [
  | Some index ↦ refl
  | None ↦ refl
]
index_steps profile place false (Some text) = elim (index_used profile (Some text)) as (λ o. (kept_or 114 place (Some text) o >>= λ index. Ok (Some index)) ≡ checked_by (check place 114 text (is_none o) ∷ check place 116 [] false ∷ []) (Some (unwrap_or o 0))) [
  | Some index ↦ refl
  | None ↦ refl
]

abbrev structure_check : ℕ → Bool → Option (List ℕ) → Check
structure_check place local text = check place 118 (written text) (not local && is_none (structure_of text))

subject_steps : (place : ℕ) (index : ℕ) (local : Bool) (text : Option (List ℕ)) → subject_read place text (cond local None (Some index))
    ≡ checked_by (structure_check place local text ∷ []) (cond local Record (Entries index (unwrap_or (structure_of text) Phrase)))
subject_steps place index true text = refl
subject_steps place index false text = kept_then 118 place text (structure_of text) Phrase _ [] (Entries index (unwrap_or (structure_of text) Phrase)) refl

abbrev value_checks : Profile → ℕ → HoldingValue → List Check
value_checks profile place h =
    use_checks profile place (is_local_number h.structure) h.use_attribute
    ++ check place 117 (written h.relation) (is_none (relation_of h.relation))
    ∷ check place 119 (written h.position) (is_none (position_of h.position))
    ∷ structure_check place (is_local_number h.structure) h.structure
    ∷ check place 120 (written h.truncation) (is_none (truncation_of h.truncation))
    ∷ check place 122 (written h.completeness) (is_none (completeness_of h.completeness))
    ∷ []

values_steps : (profile : Profile) (place : ℕ) (h : HoldingValue) → values_read profile place h ≡ checked_by (value_checks profile place h) (values_held profile h)
unfolding values_read
values_steps profile place h =
    let v : Values = values_held profile h in
    let local = is_local_number h.structure in
    let relation = check place 117 (written h.relation) (is_none (relation_of h.relation)) in
    let position = check place 119 (written h.position) (is_none (position_of h.position)) in
    let structure = structure_check place local h.structure in
    let truncation = check place 120 (written h.truncation) (is_none (truncation_of h.truncation)) in
    let completeness = check place 122 (written h.completeness) (is_none (completeness_of h.completeness)) in
    then_checks (index_read profile place local h.use_attribute) _ (use_checks profile place local h.use_attribute) (relation ∷ position ∷ structure ∷ truncation ∷ completeness ∷ [])
    (index_if profile local h.use_attribute) v (index_steps profile place local h.use_attribute)
    (kept_then 117 place h.relation (relation_of h.relation) (Compared Equal) _ (position ∷ structure ∷ truncation ∷ completeness ∷ []) v
    (kept_then 119 place h.position (position_of h.position) Any _ (structure ∷ truncation ∷ completeness ∷ []) v
    (then_checks (subject_read place h.structure (index_if profile local h.use_attribute)) _ (structure ∷ []) (truncation ∷ completeness ∷ []) v.subject v
    (subject_steps place (unwrap_or (index_used profile h.use_attribute) 0) local h.structure)
    (kept_then 120 place h.truncation (truncation_of h.truncation) cut.None _ (completeness ∷ []) v
    (kept_then 122 place h.completeness (completeness_of h.completeness) Incomplete _ [] v refl)))))

-- ---- a term for a purpose

abbrev taken : Profile → HoldingValue → List ℕ → Values × List (List Symbol)
taken profile h text = (values_held profile h, patterns_asked (values_held profile h) text)

taken_steps : (profile : Profile) (purpose : Purpose) (place : ℕ) (text : List ℕ) (h : HoldingValue)
    → term_taken profile purpose place text h ≡ checked_by (term_checks purpose profile place h text) (taken profile h text)
unfolding term_taken
taken_steps profile purpose place text h =
    let v : Values = values_held profile h in
    let words = words_check place v text in
    let clash = clash_check purpose profile place v in
    then_checks (head_read place h) _ (head_checks place h) (value_checks profile place h ++ words ∷ clash ∷ []) tt (taken profile h text) (head_steps place h)
    (then_checks (values_read profile place h) _ (value_checks profile place h) (words ∷ clash ∷ []) v (taken profile h text) (values_steps profile place h)
    (then_checks (patterns_read place text v) _ (words ∷ []) (clash ∷ []) (patterns_asked v text) (taken profile h text) (passed_then words _ [] (patterns_asked v text) refl)
    (passed_then clash _ [] (taken profile h text) refl)))

-- ---- in a find

related_steps : (place : ℕ) (text : List ℕ) (v : Values) (index : ℕ) (structure : Structure) (patterns : List (List Symbol)) (asked : Asked)
    → related_plan place text v index structure patterns asked ≡ checked_by (number_checks place text (Entries index structure) asked) (entries_asked v index structure text patterns asked)
unfolding compared_plan
related_steps place text v index structure patterns Always = refl
related_steps place text v index structure patterns (Compared relation) = elim (asks_number structure) as (λ b.
    cond b (kept_or 126 place (Some text) (number_of many text) >>= λ number. Ok (NumberOf index relation number)) (Ok (texts_asked v index structure text patterns relation))
    ≡ checked_by (cond b (number_check many place text ∷ []) []) (cond b (NumberOf index relation (digits_value 10 text)) (texts_asked v index structure text patterns relation))) [
      | true ↦ number_then 126 place many text (λ number. Ok (NumberOf index relation number)) [] (NumberOf index relation (digits_value 10 text)) refl
      | false ↦ refl
    ]

subject_plans : (place : ℕ) (text : List ℕ) (v : Values) (patterns : List (List Symbol)) (subject : Subject)
    → subject_plan place text v patterns subject ≡ checked_by (number_checks place text subject v.relation) (subject_asked v text patterns subject)
subject_plans place text v patterns Record = number_then 126 place few text (λ number. Ok (RecordNumberOf number)) [] (RecordNumberOf (digits_value 10 text)) refl
subject_plans place text v patterns (Entries index structure) = related_steps place text v index structure patterns v.relation

pub leaf_steps : (profile : Profile) (h : HoldingValue) (place : ℕ) (text : List ℕ) → leaf_plan profile h place text ≡ checked_by (find_checks profile place h text) (plan_asked profile h text)
unfolding leaf_plan plan_asked
leaf_steps profile h place text =
    let v : Values = values_held profile h in
    then_checks (term_taken profile Find place text h) _ (term_checks Find profile place h text) (number_checks place text v.subject v.relation) (taken profile h text) (subject_asked v text (patterns_asked v text) v.subject)
    (taken_steps profile Find place text h) (subject_plans place text v (patterns_asked v text) v.subject)

-- ---- in a scan

abbrev scan_with : Register → ℕ → List ℕ → ScanValue
scan_with r index start = record { index = index; register = r; start = start }

scan_from : (place : ℕ) (text : List ℕ) (r : Register) (subject : Subject)
    → (subject_index place subject >>= λ index. (scan_start place text subject >>= λ start. Ok (scan_with r index start)))
    ≡ checked_by (index_check place subject ∷ number_checks place text subject (Compared Equal)) (scan_with r (index_in subject) (start_asked subject text))
unfolding scan_start
scan_from place text r Record = refl
scan_from place text r (Entries index structure) = elim (asks_number structure) as (λ b.
    (cond b (kept_or 126 place (Some text) (number_of many text) >>= λ number. Ok (number_key number)) (Ok (joined_words text)) >>= λ start. Ok (scan_with r index start))
    ≡ checked_by (cond b (number_check many place text ∷ []) []) (scan_with r index (cond b (number_key (digits_value 10 text)) (joined_words text)))) [
      | true ↦ then_checks (kept_or 126 place (Some text) (number_of many text) >>= λ number. Ok (number_key number)) _ (number_check many place text ∷ []) [] (number_key (digits_value 10 text)) (scan_with r index (number_key (digits_value 10 text)))
          (number_then 126 place many text (λ number. Ok (number_key number)) [] (number_key (digits_value 10 text)) refl) refl
      | false ↦ refl
    ]

pub scan_steps : (profile : Profile) (h : HoldingValue) (place : ℕ) (text : List ℕ) → leaf_scan profile h place text ≡ checked_by (scan_checks profile place h text) (scan_asked profile h text)
unfolding leaf_scan scan_asked
scan_steps profile h place text =
    let v : Values = values_held profile h in
    then_checks (term_taken profile Scan place text h) _ (term_checks Scan profile place h text) (index_check place v.subject ∷ number_checks place text v.subject (Compared Equal)) (taken profile h text) (scan_with (register_of v) (index_in v.subject) (start_asked v.subject text))
    (taken_steps profile Scan place text h) (scan_from place text (register_of v) v.subject)

-- ---- near another term

pub near_steps : (profile : Profile) (o : Operand) → word_near profile o ≡ checked_by (operand_checks profile o) (index_near profile o, operand_pattern profile o)
unfolding word_near
near_steps profile o =
    let v : Values = values_held profile o.held in
    let one = one_of (patterns_asked v o.text) in
    then_checks (term_taken profile Near o.place o.text o.held) _ (term_checks Near profile o.place o.held o.text) (index_check o.place v.subject ∷ check o.place 123 [] (is_none one) ∷ []) (taken profile o.held o.text) (index_near profile o, operand_pattern profile o)
    (taken_steps profile Near o.place o.text o.held)
    (then_checks (subject_index o.place v.subject) _ (index_check o.place v.subject ∷ []) (check o.place 123 [] (is_none one) ∷ []) (index_in v.subject) (index_near profile o, operand_pattern profile o)
    (passed_then (index_check o.place v.subject) _ [] (index_in v.subject) refl)
    (kept_then 123 o.place None one [] _ [] (index_near profile o, operand_pattern profile o) refl))

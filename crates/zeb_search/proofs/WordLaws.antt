-- What lists of several patterns tell, where the tables hold a content, and which rows were sound.
use Rattle.zeb_search.proofs.Cited.{◌≡◌, ◌≢◌, ◌↔◌, ◌∙◌, ◌+◌, ◌∷◌, [], ℕ, ℤ, Bool, List, inl, inr, refl, subst, sym, Trees, Has, Symbol, Occurrence, Separation, Content, IsStorable, posted, Posting, Format, holds_in, Fits, HasMatch, HasNear, HasNoStar, HasPhrase, HasWord, HasWords, AreEntriesSound, AreWordsSound, Follow, HasEach, HasPosting, HasRun, HasSome, HidesWords, IsNear, ReadsWord, ReadsWords}
use Rattle.zeb_keys.specs.declared.Register.TheVariants as register
use Rattle.zeb_search.proofs.EntryLaws.{entry_numbers, none_hidden, read_sound, word_held}
use Rattle.zeb_search.proofs.WordReads.{some_read}

module _ (format : Format) (trees : Trees) (db : ℤ) (index : ℕ) where
  -- each row that is asked for is sound
  pub words_sound : (patterns : List (List Symbol)) (lists : List (List Posting)) → ReadsWords format trees db index patterns lists → AreWordsSound format trees db index patterns
  words_sound [] [] reads pattern there = absurd there
  words_sound [] (list ∷ lists) reads pattern there = absurd reads
  words_sound (first ∷ patterns) [] reads pattern there = absurd reads
  words_sound (first ∷ patterns) (list ∷ lists) reads pattern there = elim there [
    | inl same ↦ subst (λ (p : List Symbol). AreEntriesSound format trees db (HasNoStar p) index register.Word (Fits p)) (sym same)
        (read_sound format trees db (HasNoStar first) index register.Word (Fits first) list reads.0)
    | inr later ↦ words_sound patterns lists reads.1 pattern later
  ]

  module _ (content : Content) (holds : holds_in format trees content) where
    abbrev O : ℕ → Occurrence → Type 0
    O = posted content db

    match_held : (pattern : List Symbol) (list : List Posting) → ReadsWord format trees db index pattern list → (n : ℕ) → HasPosting list n ↔ HasMatch O index pattern n
    match_held pattern list reads = entry_numbers format trees db (HasNoStar pattern) index register.Word (Fits pattern) content holds list reads

    follow_held : (patterns : List (List Symbol)) (lists : List (List Posting)) → ReadsWords format trees db index patterns lists → (n seq pos : ℕ) → Follow lists n seq pos ↔ HasWords O index patterns n seq pos
    follow_held [] [] reads n seq pos = (λ _. tt, λ _. tt)
    follow_held [] (list ∷ lists) reads n seq pos = absurd reads
    follow_held (pattern ∷ patterns) [] reads n seq pos = absurd reads
    follow_held (pattern ∷ patterns) (list ∷ lists) reads n seq pos =
        let here = word_held format trees db index pattern content holds list reads.0 (record { sysno = n; seq = seq; pos = pos }) in
        let rest = follow_held patterns lists reads.1 n seq (1 + pos) in (
          λ run. (here.0 run.0, rest.0 run.1),
          λ words. (here.1 words.0, rest.1 words.1),
        )

    pub run_held : (patterns : List (List Symbol)) (lists : List (List Posting)) → ReadsWords format trees db index patterns lists → (first : Bool) (n : ℕ)
        → HasRun lists first n ↔ ((patterns ≢ []) × HasPhrase O index patterns first n)
    run_held patterns lists reads first n =
        let some = some_read format trees db index patterns lists reads in (
          λ run. (some.1 run.0, (run.1, run.2, run.3, (follow_held patterns lists reads n run.1 run.2).0 run.4)),
          λ phrase. (some.0 phrase.0, phrase.1.0, phrase.1.1, phrase.1.2, (follow_held patterns lists reads n phrase.1.0 phrase.1.1).1 phrase.1.3),
        )

    pub some_held : (patterns : List (List Symbol)) (lists : List (List Posting)) → ReadsWords format trees db index patterns lists → (n : ℕ)
        → HasSome lists n ↔ ((pattern : List Symbol) × Has patterns pattern × HasMatch O index pattern n)
    some_held [] [] reads n = (λ has. absurd has.1, λ has. absurd has.1)
    some_held [] (list ∷ lists) reads n = absurd reads
    some_held (pattern ∷ patterns) [] reads n = absurd reads
    some_held (pattern ∷ patterns) (list ∷ lists) reads n =
        let here = match_held pattern list reads.0 n in
        let rest = some_held patterns lists reads.1 n in (
          λ has. elim has.1 [
            | inl same ↦ (pattern, inl refl, here.0 (subst (λ (l : List Posting). HasPosting l n) same has.2))
            | inr later ↦ (let it = rest.0 (has.0, later, has.2) in (it.0, inr it.1, it.2))
          ],
          λ has. elim has.1 [
            | inl same ↦ (list, inl refl, here.1 (subst (λ (p : List Symbol). HasMatch O index p n) same has.2))
            | inr later ↦ (let it = rest.1 (has.0, later, has.2) in (it.0, inr it.1, it.2))
          ],
        )

    all_held : (patterns : List (List Symbol)) (lists : List (List Posting)) → ReadsWords format trees db index patterns lists → (n : ℕ)
        → ((list : List Posting) → Has lists list → HasPosting list n) ↔ ((pattern : List Symbol) → Has patterns pattern → HasMatch O index pattern n)
    all_held [] [] reads n = (λ _ pattern none. absurd none, λ _ list none. absurd none)
    all_held [] (list ∷ lists) reads n = absurd reads
    all_held (pattern ∷ patterns) [] reads n = absurd reads
    all_held (pattern ∷ patterns) (list ∷ lists) reads n =
        let here = match_held pattern list reads.0 n in
        let rest = all_held patterns lists reads.1 n in (
          λ all p there. elim there [ inl same ↦ subst (λ (q : List Symbol). HasMatch O index q n) (sym same) (here.0 (all list (inl refl))) | inr later ↦ rest.0 (λ l h. all l (inr h)) p later ],
          λ all l there. elim there [ inl same ↦ subst (λ (k : List Posting). HasPosting k n) (sym same) (here.1 (all pattern (inl refl))) | inr later ↦ rest.1 (λ p h. all p (inr h)) l later ],
        )

    pub each_held : (patterns : List (List Symbol)) (lists : List (List Posting)) → ReadsWords format trees db index patterns lists → (n : ℕ)
        → HasEach lists n ↔ ((patterns ≢ []) × ((pattern : List Symbol) → Has patterns pattern → HasMatch O index pattern n))
    each_held patterns lists reads n =
        let some = some_read format trees db index patterns lists reads in
        let all = all_held patterns lists reads n in (
          λ has. (some.1 has.0, all.0 has.1),
          λ has. (some.0 has.0, all.1 has.1),
        )

    pub near_held : (left right : List Symbol) (separation : Separation) (lefts rights : List Posting) → ReadsWord format trees db index left lefts → ReadsWord format trees db index right rights → (n : ℕ)
        → IsNear separation lefts rights n ↔ HasNear O index left right separation n
    near_held left right separation lefts rights one two n =
        let first = word_held format trees db index left content holds lefts one in
        let second = word_held format trees db index right content holds rights two in (
          λ near.
              let p = near.0 in
              let q = near.1 in
              let here : HasWord O index left n p.seq p.pos = subst (λ (m : ℕ). HasWord O index left m p.seq p.pos) near.4 ((first p).0 near.2) in
              let there = (second q).0 near.3 in
              let same_record : q.sysno ≡ n = sym near.5.0 ∙ near.4 in
              let other : HasWord O index right n p.seq q.pos = subst (λ (s : ℕ). HasWord O index right n s q.pos) (sym near.5.1) (subst (λ (m : ℕ). HasWord O index right m q.seq q.pos) same_record there) in
              (p.seq, p.pos, q.pos, here, other, near.6),
          λ has.
              let p : Posting = record { sysno = n; seq = has.0; pos = has.1 } in
              let q : Posting = record { sysno = n; seq = has.0; pos = has.2 } in
              (p, q, (first p).1 has.3, (second q).1 has.4, refl, (refl, refl), has.5),
        )

    -- nothing is hidden of a content that can be stored
    pub no_word_hidden : IsStorable content → (patterns : List (List Symbol)) → HidesWords format trees db index patterns → ⊥
    no_word_hidden storable patterns bad = none_hidden format trees db (HasNoStar bad.0) index register.Word (Fits bad.0) content holds storable bad.2

-- Lists of postings of several patterns, as they are read pattern by pattern, and the records that have postings of some or of each.
use Rattle.zeb_search.proofs.Cited.{◌≡◌, ◌≢◌, ◌↔◌, ◌⊎◌, ◌++◌, ◌∷◌, ◌+◌, ◌==◌, [], ℕ, ℤ, true, false, List, arith, inl, inr, refl, subst, sym, filter, eqb-true, eq-eqb, Trees, Has, has_either, has_filtered, has_kept, has_left, has_right, Symbol, Posting, posting_cmp, Format, Fits, HasNoStar, AreNumbers, ArePostings, FindsEntries, FindsWords, Follow, HasEach, HasPosting, HasRun, HasSome, HasWithin, PlacesFound, ReadsWord, ReadsWords, IsStrictlySortedBy, words_between}
use Rattle.zeb_keys.specs.declared.Register.TheVariants as register
use Rattle.zeb_search.proofs.JustLemmas.{just_none, just_same}

some_list : (list : List Posting) (lists : List (List Posting)) → (list ∷ lists) ≢ []
some_list list lists same = cc

more_some : (lists : List (List Posting)) (list : List Posting) → (lists ++ list ∷ []) ≢ []
more_some [] list same = cc
more_some (first ∷ lists) list same = cc

module _ (format : Format) (trees : Trees) (db : ℤ) (index : ℕ) where
  abbrev Reads : List (List Symbol) → List (List Posting) → Type 0
  Reads = ReadsWords format trees db index

  abbrev Finds : List Symbol → List ℕ → Type 0
  Finds pattern = FindsEntries format trees db (HasNoStar pattern) index register.Word (Fits pattern)

  -- one pattern more at the end
  reads_behind : (patterns : List (List Symbol)) (lists : List (List Posting)) (pattern : List Symbol) (list : List Posting) → Reads patterns lists → ReadsWord format trees db index pattern list
      → Reads (patterns ++ pattern ∷ []) (lists ++ list ∷ [])
  reads_behind [] [] pattern list before here = (here, tt)
  reads_behind [] (other ∷ lists) pattern list before here = absurd before
  reads_behind (first ∷ patterns) [] pattern list before here = absurd before
  reads_behind (first ∷ patterns) (other ∷ lists) pattern list before here = (before.0, reads_behind patterns lists pattern list before.1 here)

  -- there are as many lists as patterns
  pub some_read : (patterns : List (List Symbol)) (lists : List (List Posting)) → Reads patterns lists → (patterns ≢ []) ↔ (lists ≢ [])
  some_read [] [] reads = (λ some. absurd (some refl), λ some. absurd (some refl))
  some_read [] (list ∷ lists) reads = absurd reads
  some_read (pattern ∷ patterns) [] reads = absurd reads
  some_read (pattern ∷ patterns) (list ∷ lists) reads = (λ _ same. cc, λ _ same. cc)

  -- ---- some of the patterns

  pub no_word_found : (hits : List ℕ) → hits ≡ [] → FindsWords format trees db HasSome index [] hits
  no_word_found hits none = ([], tt, subst (AreNumbers (HasSome [])) (sym none) (just_none (HasSome []) (λ n has. has.1)))

  pub some_found : (patterns : List (List Symbol)) (pattern : List Symbol) (hits found numbers : List ℕ) → FindsWords format trees db HasSome index patterns hits → Finds pattern found
      → AreNumbers (λ n. Has hits n ⊎ Has found n) numbers → FindsWords format trees db HasSome index (patterns ++ pattern ∷ []) numbers
  some_found patterns pattern hits found numbers before here joined = (
    before.0 ++ here.0 ∷ [],
    reads_behind patterns before.0 pattern here.0 before.1 here.1,
    just_same (λ n. Has hits n ⊎ Has found n) (HasSome (before.0 ++ here.0 ∷ [])) numbers (λ n. (
      λ has. elim has [
        | inl old ↦ (let it = (before.2.each n).0 old in (it.0, has_left before.0 (here.0 ∷ []) it.0 it.1, it.2))
        | inr new ↦ (here.0, has_right before.0 (here.0 ∷ []) here.0 (inl refl), (here.2.each n).0 new)
      ],
      λ has. elim (has_either before.0 (here.0 ∷ []) has.0 has.1) [
        | inl old ↦ inl ((before.2.each n).1 (has.0, old, has.2))
        | inr new ↦ elim new [ inl same ↦ inr ((here.2.each n).1 (subst (λ (l : List Posting). HasPosting l n) same has.2)) | inr none ↦ absurd none ]
      ],
    )) joined,
  )

  -- ---- each of them

  pub one_found : (pattern : List Symbol) (hits : List ℕ) → Finds pattern hits → FindsWords format trees db HasEach index (pattern ∷ []) hits
  one_found pattern hits here = (
    here.0 ∷ [],
    (here.1, tt),
    just_same (HasPosting here.0) (HasEach (here.0 ∷ [])) hits (λ n. (
      λ has. (some_list here.0 [], λ list there. elim there [ inl same ↦ subst (λ (l : List Posting). HasPosting l n) (sym same) has | inr none ↦ absurd none ]),
      λ has. has.1 here.0 (inl refl),
    )) here.2,
  )

  pub each_found : (patterns : List (List Symbol)) (pattern : List Symbol) (hits found numbers : List ℕ) → patterns ≢ [] → FindsWords format trees db HasEach index patterns hits → Finds pattern found
      → AreNumbers (λ n. Has hits n × Has found n) numbers → FindsWords format trees db HasEach index (patterns ++ pattern ∷ []) numbers
  each_found patterns pattern hits found numbers some before here joined = (
    before.0 ++ here.0 ∷ [],
    reads_behind patterns before.0 pattern here.0 before.1 here.1,
    just_same (λ n. Has hits n × Has found n) (HasEach (before.0 ++ here.0 ∷ [])) numbers (λ n. (
      λ has. (
        more_some before.0 here.0,
        λ list there. elim (has_either before.0 (here.0 ∷ []) list there) [
          | inl old ↦ ((before.2.each n).0 has.0).1 list old
          | inr new ↦ elim new [ inl same ↦ subst (λ (l : List Posting). HasPosting l n) (sym same) ((here.2.each n).0 has.1) | inr none ↦ absurd none ]
        ],
      ),
      λ has. (
        (before.2.each n).1 ((some_read patterns before.0 before.1).0 some, λ list old. has.1 list (has_left before.0 (here.0 ∷ []) list old)),
        (here.2.each n).1 (has.1 here.0 (has_right before.0 (here.0 ∷ []) here.0 (inl refl))),
      ),
    )) joined,
  )

  pub no_each : (patterns : List (List Symbol)) (hits : List ℕ) → patterns ≡ [] → hits ≡ [] → FindsWords format trees db HasEach index patterns hits
  no_each patterns hits none empty = subst (λ (l : List (List Symbol)). FindsWords format trees db HasEach index l hits) (sym none)
      ([], tt, subst (AreNumbers (HasEach [])) (sym empty) (just_none (HasEach []) (λ n has. has.0 refl)))

  -- ---- words one after another

  pub one_place : (pattern : List Symbol) (list : List Posting) → ReadsWord format trees db index pattern list → IsStrictlySortedBy posting_cmp list → PlacesFound format trees db index (pattern ∷ []) list
  one_place pattern list reads rising = (
    list ∷ [],
    (reads, tt),
    record { rising = rising; each = λ p. (λ here. (some_list list [], (here, tt)), λ run. run.1.0) },
  )

  pub no_place : (patterns : List (List Symbol)) (list : List Posting) → patterns ≡ [] → list ≡ [] → PlacesFound format trees db index patterns list
  no_place patterns list none empty = subst (λ (l : List (List Symbol)). PlacesFound format trees db index l list) (sym none)
      ([], tt, subst (ArePostings (λ p. ([] ≢ []) × Follow [] p.sysno p.seq p.pos)) (sym empty) (just_none (λ (p : Posting). ([] ≢ []) × Follow [] p.sysno p.seq p.pos) (λ p has. has.0 refl)))

  -- one word more before them
  pub place_before : (pattern : List Symbol) (patterns : List (List Symbol)) (starts places list : List Posting) → patterns ≢ [] → ReadsWord format trees db index pattern starts
      → PlacesFound format trees db index patterns places → ArePostings (λ p. Has starts p × HasWithin (words_between 1 1) places p) list → PlacesFound format trees db index (pattern ∷ patterns) list
  place_before pattern patterns starts places list some reads rest joined = (
    starts ∷ rest.0,
    (reads, rest.1),
    just_same (λ p. Has starts p × HasWithin (words_between 1 1) places p) (λ p. ((starts ∷ rest.0) ≢ []) × Follow (starts ∷ rest.0) p.sysno p.seq p.pos) list (λ p. (
      λ has.
          let q = has.1.0 in
          let at : q.pos ≡ 1 + p.pos = omega (arith, has.1.2.2, has.1.2.3.0, has.1.2.3.1) in
          let moved : Follow rest.0 p.sysno p.seq (1 + p.pos) = subst (λ (k : ℕ). Follow rest.0 p.sysno p.seq k) at
          (subst (λ (s : ℕ). Follow rest.0 p.sysno s q.pos) has.1.2.1 (subst (λ (m : ℕ). Follow rest.0 m q.seq q.pos) has.1.2.0 (((rest.2.each q).0 has.1.1).1))) in
          (some_list starts rest.0, (has.0, moved)),
      λ run.
          let q : Posting = record { sysno = p.sysno; seq = p.seq; pos = 1 + p.pos } in
          (run.1.0, (q, (rest.2.each q).1 ((some_read patterns rest.0 rest.1).0 some, run.1.1), (refl, refl, omega arith, (omega arith, omega arith)))),
    )) joined,
  )

  -- the records of the places at which the phrase begins
  pub phrase_found : (patterns : List (List Symbol)) (places : List Posting) (hits : List ℕ) → PlacesFound format trees db index patterns places → AreNumbers (HasPosting places) hits
      → FindsWords format trees db (λ lists. HasRun lists false) index patterns hits
  phrase_found patterns places hits are numbers = (
    are.0,
    are.1,
    just_same (HasPosting places) (HasRun are.0 false) hits (λ n. (
      λ has.
          let p = has.0 in
          let run = (are.2.each p).0 has.1 in
          (run.0, p.seq, p.pos, λ first. absurd (cc), subst (λ (m : ℕ). Follow are.0 m p.seq p.pos) has.2 run.1),
      λ run. (let p : Posting = record { sysno = n; seq = run.1; pos = run.2 } in (p, (are.2.each p).1 (run.0, run.4), refl)),
    )) numbers,
  )

  -- the same for those at a unit's first word
  pub first_phrase_found : (patterns : List (List Symbol)) (places : List Posting) (hits : List ℕ) → PlacesFound format trees db index patterns places
      → AreNumbers (HasPosting (filter (λ p. p.pos == 1) places)) hits → FindsWords format trees db (λ lists. HasRun lists true) index patterns hits
  first_phrase_found patterns places hits are numbers = (
    are.0,
    are.1,
    just_same (HasPosting (filter (λ p. p.pos == 1) places)) (HasRun are.0 true) hits (λ n. (
      λ has.
          let p = has.0 in
          let kept = has_filtered (λ (p : Posting). p.pos == 1) places p has.1 in
          let run = (are.2.each p).0 kept.0 in
          (run.0, p.seq, p.pos, λ _. eqb-true p.pos 1 kept.1, subst (λ (m : ℕ). Follow are.0 m p.seq p.pos) has.2 run.1),
      λ run. (
          let p : Posting = record { sysno = n; seq = run.1; pos = run.2 } in
          (p, has_kept (λ (p : Posting). p.pos == 1) places p ((are.2.each p).1 (run.0, run.4)) (eq-eqb p.pos 1 (run.3 refl)), refl)
          ),
    )) numbers,
  )

  -- a phrase of one word
  pub one_phrase_found : (pattern : List Symbol) (hits : List ℕ) → Finds pattern hits → FindsWords format trees db (λ lists. HasRun lists false) index (pattern ∷ []) hits
  one_phrase_found pattern hits here = (
    here.0 ∷ [],
    (here.1, tt),
    just_same (HasPosting here.0) (HasRun (here.0 ∷ []) false) hits (λ n. (
      λ has. (let p = has.0 in (some_list here.0 [], p.seq, p.pos, λ first. absurd (cc), (subst (λ (m : ℕ). Has here.0 (record { sysno = m; seq = p.seq; pos = p.pos })) has.2 has.1, tt))),
      λ run. (record { sysno = n; seq = run.1; pos = run.2 }, run.4.0, refl),
    )) here.2,
  )

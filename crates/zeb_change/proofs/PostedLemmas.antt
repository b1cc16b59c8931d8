-- The postings of a database's records, of which one is put or taken.
use Rattle.zeb_change.proofs.Cited.{◌≡◌, ◌≢◌, ◌⊎◌, ◌↔◌, ◌∙◌, ℕ, ℤ, Bool, true, false, List, [], inl, inr, refl, sym, subst, nat_eq, Contains, Decides-eqb, Has, has_contained, contains_had, Directive, Key, Occurrence, Place, Content, posting_at, Posting, occurrence_at, ArePostingsOf, IsReposted, AreOccurrencesOf, OccursIn, occurs, Kept, ArePosted, with_records}
use Rattle.zeb_change.proofs.KeptLemmas.{AreRisingKept, one_number}
use Rattle.zeb_change.proofs.KeptChanges.{IsPutIn}
use Rattle.zeb_change.proofs.StoredLemmas.{told_id, at_id, at_other}

-- these are the occurrences of the record with this number, if there is one
abbrev pub AreOccurrencesAt : List Directive → ℕ → List Kept → List Occurrence → Type 0
AreOccurrencesAt profile sysno records occurrences = (o : Occurrence) → Contains occurrences o ↔ ((kept : Kept) × Has records kept × (kept.sysno ≡ sysno) × OccursIn profile kept o)

-- the one record with this number gives way to the other; the others are as they were
pub record IsSwap (profile : List Directive) (sysno : ℕ) (elder newer : List Occurrence) (before after : List Kept) : Type 0 where
  pub old : AreOccurrencesAt profile sysno before elder
  pub new : AreOccurrencesAt profile sysno after newer
  pub others : (kept : Kept) → kept.sysno ≢ sysno → Has after kept ↔ Has before kept

module _ (profile : List Directive) where
  pub no_occurrences : (sysno : ℕ) (records : List Kept) → ((kept : Kept) → Has records kept → kept.sysno ≢ sysno) → AreOccurrencesAt profile sysno records []
  no_occurrences sysno records none o = (λ there. absurd (has_contained [] o there), λ it. absurd (none it.0 it.1 it.2))

  pub put_occurrences : (kept : Kept) (before after : List Kept) (occurrences : List Occurrence) → IsPutIn kept before after → AreOccurrencesOf profile kept.bytes occurrences → AreOccurrencesAt profile kept.sysno after occurrences
  put_occurrences kept before after occurrences put are o = (
    λ there. (kept, (put.each kept).1 (inr refl), refl, (are.each o).0 there),
    λ it. elim ((put.each it.0).0 it.1) [
      | inl was ↦ absurd (was.1 it.2)
      | inr same ↦ (are.each o).1 (subst (λ (k : Kept). OccursIn profile k o) same it.3)
    ],
  )

  pub elder_occurrences : (elder : Kept) (records : List Kept) (occurrences : List Occurrence) → AreRisingKept records → Has records elder → AreOccurrencesOf profile elder.bytes occurrences → AreOccurrencesAt profile elder.sysno records occurrences
  elder_occurrences elder records occurrences rising here are o = (
    λ there. (elder, here, refl, (are.each o).0 there),
    λ it. (are.each o).1 (subst (λ (k : Kept). OccursIn profile k o) (one_number records rising it.0 elder it.1 here it.2) it.3),
  )

  module _ (id : ℤ) (records_of : ℤ → List Kept) (sysno : ℕ) (elder newer : List Occurrence) (before after : List Kept) (swap : IsSwap profile sysno elder newer before after)
      (content : Content) (posted : ArePosted profile (with_records id before records_of) content) where
    abbrev IsOf : (ℤ → List Kept) → ℤ → Key → Posting → Type 0
    IsOf all d key p = occurs profile (all d) p.sysno (record { key = key; seq = p.seq; pos = p.pos })

    -- what the registers hold of the record
    pub posted_elder : ArePostingsOf sysno elder (content id)
    posted_elder key place = (
      λ there.
          let it = (posted.each id sysno (occurrence_at key place)).0 there in
          (swap.old (occurrence_at key place)).1 (it.0, has_contained before it.0 (subst (λ l. Contains l it.0) (at_id id records_of before id refl) it.1), it.2, it.3),
      λ there.
          let it = (swap.old (occurrence_at key place)).0 there in
          (posted.each id sysno (occurrence_at key place)).1 (it.0, subst (λ l. Contains l it.0) (sym (at_id id records_of before id refl)) (contains_had before it.0 it.1), it.2, it.3),
    )

    module _ (next : Content) (reposted : IsReposted id sysno newer content next) where
      place_of : Posting → Place
      place_of p = record { seq = p.seq; pos = p.pos }

      as_posting : (p : Posting) → p.sysno ≡ sysno → p ≡ posting_at sysno (place_of p)
      unfolding place_of
      as_posting p same i = record { sysno = same i; seq = p.seq; pos = p.pos }

      -- a posting of the record
      of_record : (d : ℤ) (key : Key) (p : Posting) → d ≡ id → p.sysno ≡ sysno → Has (next d key) p ↔ IsOf (with_records id after records_of) d key p
      unfolding place_of
      of_record d key p here same =
          let is = as_posting p same in (
            λ there.
                let moved : Has (next id key) (posting_at sysno (place_of p)) = subst (λ q. Has (next id key) q) is (subst (λ x. Has (next x key) p) here there) in
                let it = (swap.new (occurrence_at key (place_of p))).0 ((reposted.part key (place_of p)).0 moved) in
                (it.0, subst (λ l. Contains l it.0) (sym (at_id id records_of after d here)) (contains_had after it.0 it.1), it.2 ∙ sym same, it.3),
            λ it.
                let kept = has_contained after it.0 (subst (λ l. Contains l it.0) (at_id id records_of after d here) it.1) in
                let there : Has (next id key) (posting_at sysno (place_of p)) =
                (reposted.part key (place_of p)).1 ((swap.new (occurrence_at key (place_of p))).1 (it.0, kept, it.2 ∙ same, it.3)) in
                subst (λ x. Has (next x key) p) (sym here) (subst (λ q. Has (next id key) q) (sym is) there),
          )

      -- another record's posting
      of_other : (d : ℤ) (key : Key) (p : Posting) → ((kept : Kept) → kept.sysno ≡ p.sysno → Contains (with_records id after records_of d) kept ↔ Contains (with_records id before records_of d) kept)
          → ¬ ((d ≡ id) × (p.sysno ≡ sysno)) → Has (next d key) p ↔ IsOf (with_records id after records_of) d key p
      unfolding place_of
      of_other d key p same differs = (
        λ there.
            let it = (posted.each d p.sysno (occurrence_at key (place_of p))).0 ((reposted.others d key p differs).0 there) in
            (it.0, (same it.0 it.2).1 it.1, it.2, it.3),
        λ it. (reposted.others d key p differs).1 ((posted.each d p.sysno (occurrence_at key (place_of p))).1 (it.0, (same it.0 it.2).0 it.1, it.2, it.3)),
      )

      in_here : (d : ℤ) (kept : Kept) → d ≡ id → kept.sysno ≢ sysno → Contains (with_records id after records_of d) kept ↔ Contains (with_records id before records_of d) kept
      in_here d kept here differs = (
        λ there. subst (λ l. Contains l kept) (sym (at_id id records_of before d here))
            (contains_had before kept ((swap.others kept differs).0 (has_contained after kept (subst (λ l. Contains l kept) (at_id id records_of after d here) there)))),
        λ there. subst (λ l. Contains l kept) (sym (at_id id records_of after d here))
            (contains_had after kept ((swap.others kept differs).1 (has_contained before kept (subst (λ l. Contains l kept) (at_id id records_of before d here) there)))),
      )

      in_other : (d : ℤ) (kept : Kept) → d ≢ id → Contains (with_records id after records_of d) kept ↔ Contains (with_records id before records_of d) kept
      in_other d kept other =
          let same : with_records id after records_of d ≡ with_records id before records_of d = at_other id records_of after d other ∙ sym (at_other id records_of before d other) in
          (λ there. subst (λ l. Contains l kept) same there, λ there. subst (λ l. Contains l kept) (sym same) there)

      told_number : (a b : ℕ) → (a ≡ b) ⊎ (a ≢ b)
      told_number a b = go (nat_eq a b) refl
        where
          go : (x : Bool) → nat_eq a b ≡ x → (a ≡ b) ⊎ (a ≢ b)
          go true e = inl ((Decides-eqb a b).0 e)
          go false e = inr (λ same. let t : true ≡ false = sym ((Decides-eqb a b).1 same) ∙ e in cc)

      each_after : (d : ℤ) (key : Key) (p : Posting) → Has (next d key) p ↔ IsOf (with_records id after records_of) d key p
      each_after d key p = elim (told_id d id) [
        | inl here ↦ elim (told_number p.sysno sysno) [
          | inl same ↦ of_record d key p here same
          | inr differs ↦ of_other d key p (λ kept is. in_here d kept here (λ number. differs (sym is ∙ number))) (λ h. differs h.1)
        ]
        | inr other ↦ of_other d key p (λ kept is. in_other d kept other) (λ h. other h.0)
      ]

      -- the registers then hold the postings of the records then
      pub posted_after : ArePosted profile (with_records id after records_of) next
      posted_after = record {
        rising = reposted.rising;
        each = λ d n o. each_after d o.key (record { sysno = n; seq = o.seq; pos = o.pos });
      }

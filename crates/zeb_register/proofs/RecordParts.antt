-- One record's part of a list of postings: taken apart, compared and put together again.
use Rattle.zeb_register.proofs.Cited.{◌≡◌, ◌⊎◌, ◌∙◌, ◌<◌, ◌≤◌, ◌/◌, ◌^◌, ◌==◌, ℕ, nat_lt, true, List, ◌++◌, map, filter, refl, sym, ap, ap₂, subst, inl, inr, Ordering, Less, Equal, Greater, nat_cmp, arith, nat_tests, Has, all_from, all_has, has_either, has_filtered, has_kept, has_left, has_right, has_mapped, mapped_has, numbers_apart, Posting, IsNumbered, LiesIn, Place, RecordChange, IsListChanged, posting_at, posting_cmp, AreStorablePlaces, IsStorablePlace, places_in, IsStorableChange, TurnsPlaces}
use Rattle.std.specs.List.Sorted.{IsStrictlySortedBy}
use Rattle.zeb_register.proofs.ContentChanges.{posting_total}
use Rattle.zeb_register.proofs.CountLemmas.{is_less}
use Rattle.zeb_register.proofs.KeyPlaces.{place_of}
use Rattle.zeb_register.proofs.ListChanges.{place_is}
use Rattle.zeb_register.proofs.RisingLists.{joined_rises, kept_rises}
use Rattle.zeb_register.proofs.RisingPlaces.{are_in, mapped_back, places_rise, same_places}
use Rattle.zeb_register.proofs.StorablePlaces.{below_first}

-- ---- the postings of a record

abbrev pub own_of : ℕ → List Posting → List Posting
own_of sysno list = filter (λ p. p.sysno == sysno) list

-- ---- a list put together

below_is : (p : Posting) (sysno : ℕ) → nat_lt p.sysno sysno ≡ true → p.sysno < sysno
below_is p sysno h = grind (arith, nat_tests)

is_below : (m n : ℕ) → m < n → nat_lt m n ≡ true
is_below m n h = grind (arith, nat_tests)

module _ (sysno : ℕ) (list : List Posting) (places : List Place) (block : ℕ) (here : sysno / 256 ≡ block) (some : 1 ≤ sysno) (small : sysno < 2 ^ 64) (lies : LiesIn block list) (stored : AreStorablePlaces places) where
  abbrev lower : List Posting
  lower = filter (λ p. nat_lt p.sysno sysno) list

  abbrev own : List Posting
  own = map (posting_at sysno) places

  abbrev higher : List Posting
  higher = filter (λ p. nat_lt sysno p.sysno) list

  abbrev whole : List Posting
  whole = lower ++ (own ++ higher)

  in_lower : (p : Posting) → Has lower p → Has list p × (p.sysno < sysno)
  in_lower p h = let it = has_filtered (λ q. nat_lt q.sysno sysno) list p h in (it.0, below_is p sysno it.1)

  in_higher : (p : Posting) → Has higher p → Has list p × (sysno < p.sysno)
  in_higher p h = let it = has_filtered (λ q. nat_lt sysno q.sysno) list p h in (it.0, let e : sysno < p.sysno = let t = it.1 in grind (arith, nat_tests) in e)

  in_own : (p : Posting) → Has own p → p.sysno ≡ sysno
  in_own p h = let q = has_mapped (posting_at sysno) places p h in ap (λ (r : Posting). r.sysno) q.2

  in_whole : (p : Posting) → Has whole p → Has lower p ⊎ (Has own p ⊎ Has higher p)
  in_whole p h = elim (has_either lower (own ++ higher) p h) [ inl first ↦ inl first | inr rest ↦ inr (has_either own higher p rest) ]

  behind_rises : IsStrictlySortedBy posting_cmp (own ++ higher)
  behind_rises = joined_rises posting_total own higher (places_rise sysno places stored.0) (kept_rises posting_total (λ p. nat_lt sysno p.sysno) list lies.rising)
      (λ p q h k. below_first p.sysno q.sysno _ (omega (arith, in_own p h, (in_higher q k).1)))

  whole_rises : IsStrictlySortedBy posting_cmp whole
  whole_rises = joined_rises posting_total lower (own ++ higher) (kept_rises posting_total (λ p. nat_lt p.sysno sysno) list lies.rising) behind_rises
      (λ p q h k. elim (has_either own higher q k) [
        | inl at ↦ below_first p.sysno q.sysno _ (omega (arith, (in_lower p h).1, in_own q at))
        | inr behind ↦ below_first p.sysno q.sysno _ (omega (arith, (in_lower p h).1, (in_higher q behind).1))
      ])

  placed : (p : Posting) → Has own p → (q : Place) × Has places q × (p ≡ posting_at sysno q)
  placed p h = has_mapped (posting_at sysno) places p h

  own_numbered : (p : Posting) → Has own p → IsNumbered p
  own_numbered p h =
      let q = placed p h in
      let it = all_has IsStorablePlace places q.0 stored.1 q.1 in
      subst IsNumbered (sym q.2) (record { sysno = (some, small); seq = (it.seq.0, omega (arith, it.seq.1)); pos = (it.pos.0, omega (arith, it.pos.1)) })

  pub whole_lies : LiesIn block whole
  whole_lies = record {
    rising = whole_rises;
    numbered = all_from IsNumbered whole (λ p h. elim (in_whole p h) [
      | inl first ↦ all_has IsNumbered list p lies.numbered (in_lower p first).0
      | inr rest ↦ elim rest [ inl at ↦ own_numbered p at | inr behind ↦ all_has IsNumbered list p lies.numbered (in_higher p behind).0 ]
    ]);
    inside = all_from (λ p. p.sysno / 256 ≡ block) whole (λ p h. elim (in_whole p h) [
      | inl first ↦ all_has (λ r. r.sysno / 256 ≡ block) list p lies.inside (in_lower p first).0
      | inr rest ↦ elim rest [
        | inl at ↦ ap (λ n. n / 256) (in_own p at) ∙ here
        | inr behind ↦ all_has (λ r. r.sysno / 256 ≡ block) list p lies.inside (in_higher p behind).0
      ]
    ]);
  }

  pub whole_spliced : IsListChanged sysno places list whole
  whole_spliced = record {
    rising = whole_rises;
    part = λ q. (
      λ h. has_right lower (own ++ higher) (posting_at sysno q) (has_left own higher (posting_at sysno q) (mapped_has (posting_at sysno) places q h)),
      λ h. elim (in_whole (posting_at sysno q) h) [
        | inl first ↦ absurd (omega (arith, (in_lower (posting_at sysno q) first).1))
        | inr rest ↦ elim rest [
          | inl at ↦ let r = placed (posting_at sysno q) at in subst (Has places) (sym (place_is sysno q r.0 r.2)) r.1
          | inr behind ↦ absurd (omega (arith, (in_higher (posting_at sysno q) behind).1))
        ]
      ],
    );
    others = λ p differs. (
      λ h. elim (in_whole p h) [
        | inl first ↦ (in_lower p first).0
        | inr rest ↦ elim rest [ inl at ↦ absurd (differs (in_own p at)) | inr behind ↦ (in_higher p behind).0 ]
      ],
      λ h. elim (nat_cases p.sysno sysno) [
        | inl low ↦ has_left lower (own ++ higher) p (has_kept (λ q. nat_lt q.sysno sysno) list p h (is_below p.sysno sysno low))
        | inr rest ↦ elim rest [
          | inl same ↦ absurd (differs same)
          | inr high ↦ has_right lower (own ++ higher) p (has_right own higher p (has_kept (λ q. nat_lt sysno q.sysno) list p h (is_below sysno p.sysno high)))
        ]
      ],
    );
  }
    where
      nat_cases : (m n : ℕ) → (m < n) ⊎ ((m ≡ n) ⊎ (n < m))
      nat_cases m n = from (nat_cmp m n) refl
        where
          from : (o : Ordering) → nat_cmp m n ≡ o → (m < n) ⊎ ((m ≡ n) ⊎ (n < m))
          from Less is = inl (is_less m n is)
          from Equal is = inr (inl (numbers_apart m n is))
          from Greater is = inr (inr (Rattle.std.proofs.lemmas.Cmp.ranked m n Greater (sym is)))

-- ---- the list that is put together has what the change says

-- the own postings, without their number, are the places
pub own_unit : (sysno : ℕ) (list : List Posting) (own : List Place) → map (posting_at sysno) own ≡ own_of sysno list → own ≡ places_in sysno list
own_unit sysno list own same = sym (mapped_back sysno own) ∙ ap (map place_of) same

abbrev pub IsPutTogether : RecordChange → List Posting → List Posting → Type 0
IsPutTogether change list next = next ≡ filter (λ p. nat_lt p.sysno change.sysno) list ++ (map (posting_at change.sysno) change.new.now ++ filter (λ p. nat_lt change.sysno p.sysno) list)

module _ (change : RecordChange) (list next : List Posting) (lies : LiesIn (change.sysno / 256) list) (stored : IsStorableChange change)
    (is : IsPutTogether change list next) where
  small : change.sysno < 2 ^ 64
  small = omega (arith, stored.sysno.1)

  next_changed : IsListChanged change.sysno change.new.now list next
  next_changed = subst (IsListChanged change.sysno change.new.now list) (sym is) (whole_spliced change.sysno list change.new.now (change.sysno / 256) refl stored.sysno.0 small lies stored.places)

  pub next_lies : LiesIn (change.sysno / 256) next
  next_lies = subst (LiesIn (change.sysno / 256)) (sym is) (whole_lies change.sysno list change.new.now (change.sysno / 256) refl stored.sysno.0 small lies stored.places)

  pub places_turned : places_in change.sysno list ≡ change.old.now → TurnsPlaces change list next
  places_turned found = record {
    found = found;
    put = sym (are_in change.sysno change.new.now next stored.places.0 next_changed.rising next_changed.part);
    kept = λ n other. same_places n next list next_changed.rising lies.rising (λ p at. next_changed.others p (λ it. other (sym at ∙ it)));
  }

-- ---- the parts are put together

module _ (change : RecordChange) (list before behind : List Posting) (lies : LiesIn (change.sysno / 256) list) (stored : IsStorableChange change) (found : places_in change.sysno list ≡ change.old.now)
    (first : before ≡ filter (λ p. nat_lt p.sysno change.sysno) list) (last : behind ≡ filter (λ p. nat_lt change.sysno p.sysno) list)
    (next : List Posting) (is : next ≡ before ++ (map (posting_at change.sysno) change.new.now ++ behind)) where
  together : IsPutTogether change list next
  together = is ∙ ap₂ (λ a b. a ++ (map (posting_at change.sysno) change.new.now ++ b)) first last

  pub turned_as : TurnsPlaces change list next
  turned_as = places_turned change list next lies stored together found

  pub lies_so : LiesIn (change.sysno / 256) next
  lies_so = next_lies change list next lies stored together

-- The postings of one record's occurrences, noted for registers that have none of it.
use Rattle.zeb_image.proofs.Cited.{◌≡◌, ◌≢◌, ◌⊎◌, ◌≤◌, ℕ, ℤ, List, [], inl, inr, sym, subst, nat_cmp_total, Contains, Trees, Has, has_contained, fields_of, Directive, unit_targets, Occurrence, numbers_apart, Record, Place, Content, HasRisingLists, IsStorable, IsStorablePosting, posting_at, Format, told_by, Pending, LeadsTo, WillHold, AreOccurrencesOf, OccursIn, place_in, ArePostingsOf, IsReposted, occurrence_at, will_rise, reposted, reposted_is, occurrence_storable, kept_of, IsRecordPosted, LacksRecord, WillHoldSuch}
use Rattle.zeb_image.proofs.Ids.{ids_told}

-- every layout can store the postings of these occurrences under this number
abbrev pub CanBePosted : ℕ → List Occurrence → Type 0
CanBePosted sysno found = (o : Occurrence) → Contains found o → IsStorablePosting o.key (record { sysno = sysno; seq = o.seq; pos = o.pos })

-- the occurrences of a record can be stored under a number that a register gives
found_storable : (profile : List Directive) (bytes : List ℕ) (found : List Occurrence) → AreOccurrencesOf profile bytes found → (sysno : ℕ) → (1 ≤ sysno) × (sysno ≤ 999999999) → CanBePosted sysno found
found_storable profile bytes found are sysno number o there = occurrence_storable (unit_targets profile) (fields_of bytes) o sysno ((are.each o).0 there) number

module _ (id : ℤ) (sysno : ℕ) where
  -- a record without a posting has none of no occurrence
  none_of : (content : Content) → LacksRecord id sysno content → ArePostingsOf sysno [] (content id)
  none_of content lacks key place = (
    λ there. absurd (lacks (occurrence_at key place) there),
    λ none. absurd (has_contained [] (occurrence_at key place) none),
  )

  module _ (found : List Occurrence) (before after : Content) (is : IsReposted id sysno found before after) where
    reposted_so : IsRecordPosted id sysno (Contains found) before after
    reposted_so = record {
      part = λ o. is.part o.key (place_in o);
      others = λ d n o differs. is.others d o.key (record { sysno = n; seq = o.seq; pos = o.pos }) differs;
    }

    -- what can be stored can be stored still, where the occurrences can be
    reposted_storable : CanBePosted sysno found → IsStorable before → IsStorable after
    reposted_storable can storable d k p there = by (ids_told d id) (told_by nat_cmp_total numbers_apart p.sysno sysno)
      where
        by : (d ≡ id) ⊎ (d ≢ id) → (p.sysno ≡ sysno) ⊎ (p.sysno ≢ sysno) → IsStorablePosting k p
        by (inl at) (inl number) =
            let place : Place = record { seq = p.seq; pos = p.pos } in
            let same : p ≡ posting_at sysno place = λ i. record { sysno = number i; seq = p.seq; pos = p.pos } in
            let put : Has (after id k) (posting_at sysno place) = subst (Has (after id k)) same (subst (λ (x : ℤ). Has (after x k) p) at there) in
            subst (IsStorablePosting k) (sym same) (can (occurrence_at k place) ((is.part k place).0 put))
        by (inr other) number = storable d k p ((is.others d k p (λ h. other h.0)).0 there)
        by (inl at) (inr other) = storable d k p ((is.others d k p (λ h. other h.1)).0 there)

-- the postings of a record's bytes are noted for registers that will have none of it
module _ (profile : List Directive) (kept : Record) (found : List Occurrence) (are : AreOccurrencesOf profile kept.bytes.items found) (number : (1 ≤ kept.sysno) × (kept.sysno ≤ 999999999))
    (id : ℤ) (old new : Pending)
    (moved : (behind before after : Content) → LeadsTo id old behind before → HasRisingLists before → ArePostingsOf kept.sysno [] (before id) → IsReposted id kept.sysno found before after → LeadsTo id new behind after) where
  pub will_post : (format : Format) (trees : Trees) (before : Content) → WillHold format trees id old before → IsStorable before → LacksRecord id kept.sysno before
      → WillHoldSuch format trees id new (IsRecordPosted id kept.sysno (OccursIn profile (kept_of kept)) before)
  will_post format trees before will storable lacks =
      let up = will_rise format trees id old before will in
      let after = reposted id kept.sysno found before in
      let is = reposted_is id kept.sysno found before up in
      let change = reposted_so id kept.sysno found before after is in
      record {
        content = after;
        held = record {
          behind = will.behind;
          held = will.held;
          storable = will.storable;
          leads = moved will.behind before after will.leads up (none_of id kept.sysno before lacks) is;
        };
        storable = reposted_storable id kept.sysno found before after is (found_storable profile kept.bytes.items found are kept.sysno number) storable;
        is = record {
          part = λ o. (λ h. (are.each o).0 ((change.part o).0 h), λ h. (change.part o).1 ((are.each o).1 h));
          others = change.others;
        };
      }

-- One record is taken: it is added, stands in its elder's place, or takes it away.
use Rattle.zeb_change.proofs.Cited.{◌≡◌, ℕ, ℤ, pos, ◌+◌, ◌<◌, List, [], Some, None, refl, arith, Trees, State, Directive, Occurrence, Content, Loses, Replaces, Changes, KeepsRegisters, records_tree, record_row, HasNumber, SharesRecord, Inserted, Updated, Deleted, Pending, WillBe, WillBeTaken, standing, Base, Kept, kept_as, with_new, with_bytes, without_ident, IsKept, IsNewer, AreOccurrencesOf, Format, holds_in}
use Rattle.zeb_change.proofs.BaseLemmas.{one_ident, within_last, new_base, bytes_base, ident_base}
use Rattle.zeb_change.proofs.StoredLemmas.{put_kept, take_kept}
use Rattle.zeb_change.proofs.KeptLemmas.{kept_found}
use Rattle.zeb_change.proofs.KeptChanges.{IsPutIn, IsTakenFrom, kept_of, new_put, bytes_put, ident_taken, others_put, others_taken}
use Rattle.zeb_change.proofs.PostedLemmas.{IsSwap, no_occurrences, put_occurrences, elder_occurrences}
use Rattle.zeb_change.proofs.UnderWay.{IsMoved, further}

-- a record with its identifier and its occurrences can be kept
newer_kept : (profile : List Directive) (sysno : ℕ) (ident bytes : List ℕ) (newer : List Occurrence) → IsNewer profile ident bytes newer → IsKept profile (kept_of sysno ident bytes)
newer_kept profile sysno ident bytes newer is = record { whole = is.whole; named = is.named; text = is.text }

module _ (format : Format) (stays : (old new : Trees) (content : Content) → KeepsRegisters old new → holds_in format old content → holds_in format new content)
    (profile : List Directive) (id : ℤ) (records_of : ℤ → List Kept) (old mid : State) (pending pending' : Pending) (base : Base)
    (under : WillBe format profile id records_of (standing old pending) base) where
  abbrev pub PutAs : ℕ → List ℕ → List ℕ → Type 0
  PutAs sysno ident bytes = Changes records_tree (Replaces (SharesRecord id (pos sysno) ident) (record_row id (pos sysno) ident bytes)) old mid

  -- ---- a record is added

  module _ (ident bytes : List ℕ) (newer : List Occurrence) (none : kept_as ident base ≡ None) (is : IsNewer profile ident bytes newer) (put : PutAs (base.last + 1) ident bytes) where
    new_one : IsPutIn (kept_of (base.last + 1) ident bytes) base.records (with_new ident bytes base).records
    new_one = new_put ident bytes base (within_last profile base under.2) none

    new_swap : IsSwap profile (base.last + 1) [] newer base.records (with_new ident bytes base).records
    new_swap = record {
      old = no_occurrences profile (base.last + 1) base.records (λ kept here same. let below = within_last profile base under.2 kept here in omega (arith, below, same));
      new = put_occurrences profile (kept_of (base.last + 1) ident bytes) base.records (with_new ident bytes base).records newer new_one is.found;
      others = others_put (kept_of (base.last + 1) ident bytes) base.records (with_new ident bytes base).records new_one;
    }

    pub insert_taken : base.last < 999999999 → IsMoved format profile id records_of (base.last + 1) [] newer pending pending'
        → WillBeTaken format profile id records_of (standing old pending) (standing mid pending') (base.last + 1) (with_new ident bytes base, Inserted) Inserted
    insert_taken few moved =
        let kept = put_kept id records_of old.now.trees mid.now.trees base.records (with_new ident bytes base).records under.1.kept (kept_of (base.last + 1) ident bytes) new_one put.rows in
        let on = further format profile id records_of stays old mid pending base (with_new ident bytes base) under _ put (base.last + 1) [] newer new_swap pending' kept
        (new_base profile base under.2 ident bytes none few (newer_kept profile (base.last + 1) ident bytes newer is)) moved in
        record { fate_is = refl; last_is = refl; under_way = on.0; names = on.1 }

  -- ---- a record stands in its elder's place, or takes it away

  module _ (ident : List ℕ) (kept : Kept) (elder : List Occurrence) (there : kept_as ident base ≡ Some kept) (was : AreOccurrencesOf profile kept.bytes elder) where
    module _ (bytes : List ℕ) (newer : List Occurrence) (is : IsNewer profile ident bytes newer) (put : PutAs kept.sysno ident bytes) where
      one_put : IsPutIn (kept_of kept.sysno ident bytes) base.records (with_bytes ident bytes base).records
      one_put = bytes_put ident bytes base kept under.2.rising (one_ident profile base under.2) there

      put_swap : IsSwap profile kept.sysno elder newer base.records (with_bytes ident bytes base).records
      put_swap = record {
        old = elder_occurrences profile kept base.records elder under.2.rising (kept_found ident base kept there).0 was;
        new = put_occurrences profile (kept_of kept.sysno ident bytes) base.records (with_bytes ident bytes base).records newer one_put is.found;
        others = others_put (kept_of kept.sysno ident bytes) base.records (with_bytes ident bytes base).records one_put;
      }

      pub replace_taken : IsMoved format profile id records_of kept.sysno elder newer pending pending' → WillBeTaken format profile id records_of (standing old pending) (standing mid pending') base.last (with_bytes ident bytes base, Updated) Updated
      replace_taken moved =
          let rows = put_kept id records_of old.now.trees mid.now.trees base.records (with_bytes ident bytes base).records under.1.kept (kept_of kept.sysno ident bytes) one_put put.rows in
          let on = further format profile id records_of stays old mid pending base (with_bytes ident bytes base) under _ put kept.sysno elder newer put_swap pending' rows
          (bytes_base profile base under.2 ident kept there bytes (newer_kept profile kept.sysno ident bytes newer is)) moved in
          record { fate_is = refl; last_is = refl; under_way = on.0; names = on.1 }

    module _ (take : Changes records_tree (Loses (HasNumber id (pos kept.sysno))) old mid) where
      one_taken : IsTakenFrom kept.sysno base.records (without_ident ident base).records
      one_taken = ident_taken ident [] base kept under.2.rising (one_ident profile base under.2) there

      take_swap : IsSwap profile kept.sysno elder [] base.records (without_ident ident base).records
      take_swap = record {
        old = elder_occurrences profile kept base.records elder under.2.rising (kept_found ident base kept there).0 was;
        new = no_occurrences profile kept.sysno (without_ident ident base).records (λ k here. ((one_taken k).0 here).1);
        others = others_taken kept.sysno base.records (without_ident ident base).records one_taken;
      }

      pub withdraw_taken : IsMoved format profile id records_of kept.sysno elder [] pending pending' → WillBeTaken format profile id records_of (standing old pending) (standing mid pending') base.last (without_ident ident base, Deleted) Deleted
      withdraw_taken moved =
          let rows = take_kept id records_of old.now.trees mid.now.trees base.records (without_ident ident base).records under.1.kept kept.sysno one_taken take.rows in
          let on = further format profile id records_of stays old mid pending base (without_ident ident base) under _ take kept.sysno elder [] take_swap pending' rows
          (ident_base profile base under.2 ident kept there) moved in
          record { fate_is = refl; last_is = refl; under_way = on.0; names = on.1 }

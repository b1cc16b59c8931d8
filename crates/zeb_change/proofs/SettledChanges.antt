-- A change on its way whose noted changes are written, and one that begins and ends with nothing noted.
use Rattle.zeb_change.proofs.Cited.{◌≡◌, ℕ, ℤ, List, Result, arith, refl, subst, State, Directive, RegFault, Work, Format, IsStore, Fold, Pending, Base, Kept, IsNothingNoted, IsSettled, Settles, WillBe, standing, IsUnderWay, with_records}
use Rattle.zeb_change.proofs.BaseLemmas.{with_numbered}
use Rattle.zeb_change.proofs.CostLemmas.{due_noted}
use Rattle.zeb_change.proofs.LeadsToContent.{held_whole, will_begin}
use Rattle.zeb_change.proofs.TermTexts.{posted_storable}

-- what is left as it is
pub still_settled : (format : Format) (row_work : ℕ) (db : ℤ) (s : State) (pending : Pending) (work : Work) → IsStore s → IsSettled format row_work db s s pending pending work work
still_settled format row_work db s pending work store = (store, (refl, refl, refl), λ ahead storable holds. (holds, due_noted format row_work 0 s.now.trees s.now.trees work pending pending refl (omega arith)))

-- the fold once some of what is noted is written, with the work of that
abbrev pub worked : Fold → Work → Fold
worked fold work = record { progress = record { database = fold.progress.database; last = fold.progress.last; work = work }; tally = fold.tally }

-- the same call, by another name of its database
pub at_id : {T : Type 0} {format : Format} {row_work : ℕ} {d id : ℤ} {old new : State} {before after : Pending} {work worked : Work} {result : Result T RegFault} → d ≡ id
    → Settles format row_work d old new before after work worked result → Settles format row_work id old new before after work worked result
at_id {format = format} {row_work = row_work} {old = old} {new = new} {before = before} {after = after} {work = work} {worked = worked} {result = result} same does =
    subst (λ (i : ℤ). Settles format row_work i old new before after work worked result) same does

module _ (format : Format) (profile : List Directive) (id : ℤ) (records_of : ℤ → List Kept) where
  -- ---- nothing is noted

  module _ (pending : Pending) (none : IsNothingNoted pending) where
    pub begun : (s : State) (base : Base) → IsUnderWay format profile id records_of s base → WillBe format profile id records_of (standing s pending) base
    begun s base under = (
      under.0,
      record {
        kept = under.1.kept;
        content = under.1.content;
        held = will_begin format s.now.trees id pending under.1.content none under.1.held
            (posted_storable profile (with_records id base.records records_of) (with_numbered profile id records_of base under.2 under.3) under.1.content under.1.posted);
        posted = under.1.posted;
      },
      under.2,
      under.3,
    )

    pub ended : (s : State) (base : Base) → WillBe format profile id records_of (standing s pending) base → IsUnderWay format profile id records_of s base
    ended s base under = (
      under.0,
      record { kept = under.1.kept; content = under.1.content; held = held_whole format s.now.trees id pending under.1.content none under.1.held; posted = under.1.posted },
      under.2,
      under.3,
    )

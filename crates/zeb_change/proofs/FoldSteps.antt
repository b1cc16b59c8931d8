-- One record more of a change: what the definition says of it, and that the code counts the same.
use Rattle.zeb_change.proofs.Cited.{◌≡◌, ◌∙◌, ◌+◌, ℕ, ℤ, List, true, false, Result, Ok, Err, nat_le, refl, sym, ap, subst, Fold, Kind, Fate, Inserted, Updated, Deleted, PassedOver, Tally, Why, too_many_records, Meets, Conditions, Changed, Progress, counted, Base, Kept, IsTallied, Standing, WillBe, WillBeFolded, WillBeTaken, StandsFor, Format}
use Rattle.zeb_change.specs.Folding.{changed_record, record_folded}

module _ (c : Conditions) (kind : Kind) (file nth : ℕ) (bytes : List ℕ) (p : Progress) where
  pub too_many : nat_le c.limits.records p.taken ≡ true → record_folded c kind file nth bytes p ≡ Err too_many_records
  unfolding record_folded
  too_many full = rw full refl

  pub folded_err : nat_le c.limits.records p.taken ≡ false → (why : Why) → changed_record c kind file nth bytes p.base ≡ Err why → record_folded c kind file nth bytes p ≡ Err why
  unfolding record_folded
  folded_err room why is = rw (room, is) refl

  pub folded_ok : nat_le c.limits.records p.taken ≡ false → (changed : Changed) → changed_record c kind file nth bytes p.base ≡ Ok changed → record_folded c kind file nth bytes p ≡ Ok (counted changed.0 p changed.1)
  unfolding record_folded
  folded_ok room changed is = rw (room, is) refl

-- the tally counts what the definition counts
stands_by : (fold : Fold) (p : Progress) (tally : Tally) (base : Base) (fate : Fate) → StandsFor fold p → IsTallied fate fold.tally tally → (new : Fold) → new.tally ≡ tally → new.progress.last ≡ base.last
    → StandsFor new (counted base p fate)
stands_by fold p tally base Inserted stands one new is last = record {
  last = last;
  taken = ap (λ (t : Tally). t.records) is ∙ one.0 ∙ ap (λ n. n + 1) stands.taken;
  inserted = ap (λ (t : Tally). t.inserted) is ∙ one.1 ∙ ap (λ n. n + 1) stands.inserted;
  updated = ap (λ (t : Tally). t.updated) is ∙ one.2 ∙ stands.updated;
  deleted = ap (λ (t : Tally). t.deleted) is ∙ one.3 ∙ stands.deleted;
}
stands_by fold p tally base Updated stands one new is last = record {
  last = last;
  taken = ap (λ (t : Tally). t.records) is ∙ one.0 ∙ ap (λ n. n + 1) stands.taken;
  inserted = ap (λ (t : Tally). t.inserted) is ∙ one.1 ∙ stands.inserted;
  updated = ap (λ (t : Tally). t.updated) is ∙ one.2 ∙ ap (λ n. n + 1) stands.updated;
  deleted = ap (λ (t : Tally). t.deleted) is ∙ one.3 ∙ stands.deleted;
}
stands_by fold p tally base Deleted stands one new is last = record {
  last = last;
  taken = ap (λ (t : Tally). t.records) is ∙ one.0 ∙ ap (λ n. n + 1) stands.taken;
  inserted = ap (λ (t : Tally). t.inserted) is ∙ one.1 ∙ stands.inserted;
  updated = ap (λ (t : Tally). t.updated) is ∙ one.2 ∙ stands.updated;
  deleted = ap (λ (t : Tally). t.deleted) is ∙ one.3 ∙ ap (λ n. n + 1) stands.deleted;
}
stands_by fold p tally base PassedOver stands one new is last = record {
  last = last;
  taken = ap (λ (t : Tally). t.records) is ∙ one.0 ∙ ap (λ n. n + 1) stands.taken;
  inserted = ap (λ (t : Tally). t.inserted) is ∙ one.1 ∙ stands.inserted;
  updated = ap (λ (t : Tally). t.updated) is ∙ one.2 ∙ stands.updated;
  deleted = ap (λ (t : Tally). t.deleted) is ∙ one.3 ∙ stands.deleted;
}

module _ (format : Format) (c : Conditions) (id : ℤ) (records_of : ℤ → List Kept) (old new : Standing) (kind : Kind) (file nth : ℕ) (bytes : List ℕ) (p : Progress) (before after : Fold) (fate : Fate) where
  pub one_folded : nat_le c.limits.records p.taken ≡ false → StandsFor before p → IsTallied fate before.tally after.tally
      → Meets (WillBeTaken format c.profile id records_of old new after.progress.last) (changed_record c kind file nth bytes p.base) (Ok fate)
      → (done : Unit {0}) → Meets {A = Progress} {X = Unit {0}} (λ q _. WillBeFolded format c.profile id records_of old new after q) (record_folded c kind file nth bytes p) (Ok done)
  one_folded room stands one taken done = by (changed_record c kind file nth bytes p.base) refl taken
    where
      by : (said : Result Changed Why) → changed_record c kind file nth bytes p.base ≡ said → Meets (WillBeTaken format c.profile id records_of old new after.progress.last) said (Ok fate)
          → Meets {A = Progress} {X = Unit {0}} (λ q _. WillBeFolded format c.profile id records_of old new after q) (record_folded c kind file nth bytes p) (Ok done)
      by (Ok changed) is taken =
          let told : WillBeFolded format c.profile id records_of old new after (counted changed.0 p changed.1) = record {
            stands = stands_by before p after.tally changed.0 changed.1 stands (subst (λ f. IsTallied f before.tally after.tally) taken.fate_is one) after refl taken.last_is;
            under_way = in_base changed.1 changed.0 taken.under_way;
            names = taken.names;
          } in
          subst (λ said. Meets {A = Progress} {X = Unit {0}} (λ q _. WillBeFolded format c.profile id records_of old new after q) said (Ok done)) (sym (folded_ok c kind file nth bytes p room changed is)) told
        where
          in_base : (f : Fate) (base : Base) → WillBe format c.profile id records_of new base → WillBe format c.profile id records_of new (counted base p f).base
          in_base Inserted base h = h
          in_base _ base h = h
      by (Err why) is taken = absurd taken

-- What a transaction comes to from tables that are an image, by a law of what it does to the rows: such a law is carried to its end.
use Rattle.zeb_engine.proofs.Cited.{◌≡◌, ◌⊎◌, Result, Ok, Err, inl, refl, sym, subst, IsTrue, Database, State, Trees, HasCleanDisk, IsStore, store_same, Refusal, Reply, refused, IsFailure, why_of, Holdings, IsImage, Outcome, CommitsRows, Transacts, Commanded, Serves, Commits, Accepts, Stands}
use Rattle.zeb_engine.proofs.ChangeNumbers.{showing}
use Rattle.zeb_engine.proofs.CommitCrashes.{reply_accepts, store_disk}
use Rattle.zeb_engine.proofs.ServesLemmas.{early_serves}
use Rattle.zeb_engine.proofs.TurnedOutcomes.{Leads}

module _ (Does : (old new : Database) → Result Reply Refusal → Type 0) (F : Trees → Holdings → Type 0) (outcome : Holdings → Outcome) (s : State) where
  -- accepted, it leaves the image of the outcome
  abbrev pub LeadsOn : Type 0
  LeadsOn = (before : Holdings) → IsStore s → IsImage s.now.trees before → F s.now.trees before → (new : Database) (told : Reply) → Does s.now new (Ok told) → Leads (showing s new) told (outcome before)

  -- refused, it failed, or the outcome is that refusal
  abbrev pub RefusesAs : Type 0
  RefusesAs = (before : Holdings) → IsImage s.now.trees before → F s.now.trees before → (new : Database) (refusal : Refusal) → Does s.now new (Err refusal)
      → IsFailure (refused (why_of refusal)) ⊎ (outcome before ≡ (refused (why_of refusal), before))

  module _ (leads : LeadsOn) (opened : IsTrue s.is_open) where
    -- what may be committed is what the definition leaves
    pub rows_commit : (disk : Trees) → CommitsRows Does s disk → Commits F outcome s disk
    rows_commit disk made before fits keeps =
        let at = (keeps opened).0 in
        let left = made at.0 in
        let led = leads before at.0 at.1 (fits opened) left.1 left.0 left.3 in
        (subst Accepts (sym led.0) (reply_accepts left.0), subst (λ (trees : Trees). Stands trees (outcome before).1) (sym left.2) (inl (store_disk (showing s left.1) led.1, led.2)))

    pub rows_accept : (new : State) (told : Reply) → Transacts Does s new (Ok told) → HasCleanDisk new → Serves F outcome s new (Ok told)
    rows_accept new told did clean before fits keeps =
        let at = (keeps opened).0 in
        let led = leads before at.0 at.1 (fits opened) new.now told (did.rows clean at.0) in
        inl (led.0, λ is_open. ((store_same (showing s new.now) new refl led.1, led.2), did.settled clean))

    pub rows_serve : RefusesAs → (new : State) (result : Result Reply Refusal) → Commanded s new result → Transacts Does s new result → HasCleanDisk new → Serves F outcome s new result
    rows_serve refuses new (Ok told) call did clean = rows_accept new told did clean
    rows_serve refuses new (Err refusal) call did clean = early_serves outcome F s new refusal (call.refused clean) (λ before known keeps.
        let at = (keeps opened).0 in refuses before at.1 (known opened) new.now refusal (did.rows clean at.0))

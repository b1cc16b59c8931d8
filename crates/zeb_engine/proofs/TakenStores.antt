-- A store that is taken over keeps what it held.
use Rattle.zeb_engine.proofs.Cited.{◌≡◌, ◌∙◌, inl, inr, sym, subst, ap, Database, IsDatabase, State, IsLive, Opens, IsStore, StaysOpen, HasOwnTables, MakesTables, MayBeTaken, Holdings, IsImage, Keeps, Bears, Stands}
use Rattle.zeb_engine.proofs.CommitCrashes.{opened_bears}
use Rattle.zeb_engine.proofs.ServesLemmas.{keeps_still}

module _ (old new : State) (opened : StaysOpen old new) where
  pub bears_keeps : MakesTables old new → (before : Holdings) → Bears old before → Keeps new before
  bears_keeps makes before (inl keeps) is_open = keeps_still before old new (makes.there (keeps opened.0).0.0.is) keeps is_open
  bears_keeps makes before (inr none) is_open =
      let empty = makes.made none.0 in
      subst (λ (held : Holdings). (IsStore new × IsImage new.now.trees held) × (new.committed ≡ new.now)) (sym none.1) ((empty.store, (empty.lists, empty.registers)), empty.settled)

  pub has_own : MayBeTaken old → MakesTables old new → HasOwnTables new
  has_own taken makes = elim taken.tables [
    | inl none ↦ let empty = makes.made none in record { is = empty.store.is; sound = empty.store.sound }
    | inr own ↦
        let same : new.now ≡ old.now = (makes.there own opened.1).1 in
        record { is = ap (λ (d : Database). d.schema) same ∙ own; sound = subst IsDatabase (sym same) (taken.live opened.0).0 }
  ]

pub reopens : (old new : State) → ((before : Holdings) → Bears old before → Keeps new before) → IsLive old → Opens old → (before : Holdings) → Stands old.now.trees before → Keeps new before
reopens old new keeps live opens before stands = keeps before (opened_bears old before live opens stands)

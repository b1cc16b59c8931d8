-- A key that no record has, whose rows are held; and what is so whatever a call answers.
use Rattle.zeb_packed.proofs.Cited.{◌≡◌, ◌≢◌, ℤ, Result, Ok, Err, List, [], ◌∷◌, inr, refl, ap, Database, State, Key, RecordChange, OnOk, CountsAs, IsStore, AreBehind, BeginsKey, TurnsKey, NewRows}

-- a key whose rows are held
pub held_turns : (db : ℤ) (key : Key) (changes : List RecordChange) (old new : State) (made before after : NewRows) → changes ≢ [] → new.now ≡ old.now → IsStore new → CountsAs old.now.trees db key 0 → BeginsKey key changes made → AreBehind before made after
    → IsStore new × TurnsKey db key changes old.now.trees new.now.trees before after
held_turns db key [] old new made before after some same store counts begun behind = absurd (some refl)
held_turns db key (change ∷ changes) old new made before after some same store counts begun behind = (store, inr (made, begun, counts, behind, ap (λ (d : Database). d.trees) same))

pub always_ok : {A E : Type 0} (r : Result A E) (P : Type 0) → P → OnOk r P
always_ok (Ok a) P p = p
always_ok (Err e) P p = tt

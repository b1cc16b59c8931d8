-- What a query inside a transaction tells that finds a leaf.
use Rattle.zeb_leaves.proofs.Cited.{Row, Trees, State, Shown, ◌≡◌, ◌∷◌, ℕ, List, [], Ok, Err, Result, subst, Some, None, Option, IsLastOf, IsStore, ShowsLast, ShowsSome, TellsSome, never_last, Inside}
use Rattle.sqlite.specs.declared.error.Error.{Error}
use Rattle.zeb_register.proofs.LooksInside.{shown_inside}
use Rattle.zeb_register.specs.Answers.{LooksInside}

-- what is found is told by the rows that are shown; parameters are what they are bound as
pub tells_last : {sql : List ℕ} {params row : Row} (Q : Trees → Option Row → Type 0) (old new : State) (result : Result (Option Row) Error) → Inside old new result (ShowsLast sql params) → params ≡ row
    → ((rows : List Row) (found : Option Row) → IsStore old → Shown sql row old new rows → IsLastOf rows found → Q old.now.trees found) → LooksInside (λ _ _. Unit {0}) Q old new result
tells_last {sql} Q old new (Ok found) shows same so =
    shown_inside _ _ old new found (Ok found) _ shows (λ it. it.reads) (λ it store. so it.last.0 found store (subst (λ (p : Row). Shown sql p old new it.last.0) same it.last.1) it.last.2)
tells_last Q old new (Err e) shows same so = record { call = record { ok = λ clean inside. tt; err = shows.err; crash = shows.crash }; finds = λ clean inside store. tt }

-- it tells whether there is a row, by the rows that are shown
pub shown_some : (P Q : Row → Type 0) (rows : List Row) (found : Option Row) → ((row : Row) → P row → Q row) → ((row : Row) → Q row → P row) → IsLastOf rows found → ShowsSome P rows → TellsSome Q found
shown_some P Q [] None so back is none = λ row there. none row (back row there)
shown_some P Q (r ∷ rows) None so back is some = absurd (let e : r ∷ rows ≡ [] = is in cc)
shown_some P Q [] (Some row) so back is none = absurd (never_last row is)
shown_some P Q (r ∷ rows) (Some row) so back is some = (some.0, so some.0 some.1)

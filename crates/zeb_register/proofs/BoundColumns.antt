-- What the parameters of a statement are bound as: the columns of a register, and values behind them. `simp` finds it too, and takes seconds.
use Rattle.zeb_register.proofs.Cited.{Row, State, Int, pos, w64, to_z, of_z, FitsSigned, ◌≡◌, ◌∙◌, ◌++◌, ◌∷◌, ℕ, ℤ, List, [], Result, ap, ap₂, refl, subst, sym, Executes, ExecutesInside, Error, Value}
use Rattle.sqlite.specs.State.{Shown}
use Rattle.sqlite.specs.Values.{bound_value}
use Rattle.zeb_register.proofs.Columns.{column_is}
use Rattle.zeb_register.proofs.PostingStatements.{register_of}
use Rattle.zeb_register.proofs.Refusals.{IsReasonedQuery}
use Rattle.zeb_register.specs.PrivateClauses.{Ran}
use Rattle.zeb_register.specs.Queries.{LooksUp}

pub none_bound : ◌≡◌ {A = Row} [] []
none_bound = refl

-- one value more. A real number may be bound as another.
pub value_bound : {given value : Value} {more row : Row} → given ≡ value → bound_value value ≡ value → more ≡ row → bound_value given ∷ more ≡ value ∷ row
value_bound is plain rest = ap₂ (λ (x : Value) (xs : Row). x ∷ xs) (ap bound_value is ∙ plain) rest

-- a number that fits its column
pub number_bound : {z d : ℤ} {given : Value} {more row : Row} → FitsSigned w64 z → z ≡ d → given ≡ Int (to_z w64 (of_z w64 z)) → more ≡ row → bound_value given ∷ more ≡ Int d ∷ row
number_bound fits is given_is rest = value_bound (given_is ∙ ap Int (column_is fits is)) refl rest

-- the columns of a register, whose database is given as a word, and its register as a number
pub register_bound : {db idx z : ℤ} {n code : ℕ} {d i r : Value} {more row : Row} → FitsSigned w64 z → z ≡ db → n ≡ code → d ≡ Int (to_z w64 (of_z w64 z)) → i ≡ Int idx → r ≡ Int (pos n) → more ≡ row
    → bound_value d ∷ bound_value i ∷ bound_value r ∷ more ≡ register_of db idx (pos code) ++ row
register_bound fits is named d_is i_is r_is rest = value_bound (d_is ∙ ap Int (column_is fits is)) refl (value_bound i_is refl (value_bound (r_is ∙ ap (λ n. Int (pos n)) named) refl rest))

-- ---- what is said of a statement with its parameters is said of it with what they are bound as

pub looks_up_so : {A : Type 0} {rows : A → List Row} {sql : List ℕ} {params row : Row} {old new : State} {r : Result A Error} → LooksUp rows sql params old new r → params ≡ row → LooksUp rows sql row old new r
looks_up_so {A} {rows} {sql} {params} {row} {old} {new} {r} it same = subst (λ (p : Row). LooksUp rows sql p old new r) same it

pub executes_so : (sql : List ℕ) {params row : Row} (old new : State) (r : Result ℕ Error) → Executes sql params old new r → params ≡ row → Executes sql row old new r
executes_so sql {params} {row} old new r it same = subst (λ (p : Row). Executes sql p old new r) same it

pub looks_up_as : {A : Type 0} {rows : A → List Row} {sql text : List ℕ} {params row : Row} {old new : State} {r : Result A Error} → LooksUp rows sql params old new r → sql ≡ text → params ≡ row → LooksUp rows text row old new r
looks_up_as {A} {rows} {sql} {text} {params} {row} {old} {new} {r} it is same = subst (λ (t : List ℕ). LooksUp rows t row old new r) is (looks_up_so it same)

pub shown_so : (sql : List ℕ) {params row : Row} (old new : State) (rows : List Row) → Shown sql params old new rows → params ≡ row → Shown sql row old new rows
shown_so sql {params} {row} old new rows it same = subst (λ (p : Row). Shown sql p old new rows) same it

pub reasoned_so : (sql : List ℕ) (params row : Row) → params ≡ row → IsReasonedQuery sql row → IsReasonedQuery sql params
reasoned_so sql params row same it = subst (IsReasonedQuery sql) (sym same) it

pub ran_so : {A E : Type 0} {sql : List ℕ} {params row : Row} {old new : State} {r : Result A E} → Ran sql params old new r → params ≡ row → Ran sql row old new r
ran_so {A} {E} {sql} {params} {row} {old} {new} {r} it same = subst (λ (p : Row). Ran sql p old new r) same it

pub ran_as : {A E : Type 0} {sql text : List ℕ} {params row : Row} {old new : State} {r : Result A E} → Ran sql params old new r → sql ≡ text → params ≡ row → Ran text row old new r
ran_as {A} {E} {sql} {text} {params} {row} {old} {new} {r} it is same = subst (λ (t : List ℕ). Ran t row old new r) is (ran_so it same)

pub executes_inside_so : (sql : List ℕ) {params row : Row} (old new : State) (r : Result ℕ Error) → ExecutesInside 0 sql params old new r → params ≡ row → ExecutesInside 0 sql row old new r
executes_inside_so sql {params} {row} old new r it same = subst (λ (p : Row). ExecutesInside 0 sql p old new r) same it

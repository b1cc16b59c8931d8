-- Numbers as columns store them, and lists of rows that begin with such columns.
use Rattle.zeb_register.proofs.Cited.{Row, Trees, Int, ◌≡◌, ◌∙◌, ◌++◌, [], ◌∷◌, ℕ, ℤ, List, pos, subst, to_z, of_z, w64, FitsSigned, to_z-of_z, Key, key_row, IsRestAtLeast, IsListOf, IsRest}

-- a number that fits its column is stored as it is
pub column_is : {z d : ℤ} → FitsSigned w64 z → z ≡ d → to_z w64 (of_z w64 z) ≡ d
column_is {z} {d} fits is = to_z-of_z {w = w64} {z = z} fits ∙ is

-- rows of a key and a number are those of the number that is stored
pub numbered_rows : (trees : Trees) (tree : ℕ) (db : ℤ) (key : Key) (stored : ℤ) (number : ℕ) → stored ≡ pos number → (rows : List Row)
    → IsListOf (IsRest tree (key_row db key ++ Int stored ∷ []) trees) rows → IsListOf (IsRest tree (key_row db key ++ Int (pos number) ∷ []) trees) rows
numbered_rows trees tree db key stored number is rows = subst (λ n. IsListOf (IsRest tree (key_row db key ++ Int n ∷ []) trees) rows) is

-- the same of rows from a number on
pub rows_at_least : (trees : Trees) (tree : ℕ) (column db stored start : ℤ) (rows : List Row) → column ≡ db → stored ≡ start
    → IsListOf (IsRestAtLeast tree (Int column ∷ []) stored trees) rows → IsListOf (IsRestAtLeast tree (Int db ∷ []) start trees) rows
rows_at_least trees tree column db stored start rows same is are =
    subst (λ n. IsListOf (IsRestAtLeast tree (Int db ∷ []) n trees) rows) is (subst (λ d. IsListOf (IsRestAtLeast tree (Int d ∷ []) stored trees) rows) same are)

-- The columns of the row of a key and a block, and of the row of a key.
use Rattle.zeb_register.proofs.Cited.{ℤ, List, ℕ, [], ◌∷◌, Row, Int, Text, Blob}

abbrev pub block_key : ℤ → ℤ → ℤ → List ℕ → ℤ → Row
block_key db idx reg term block = Int db ∷ Int idx ∷ Int reg ∷ Text term ∷ Int block ∷ []

abbrev pub block_columns : ℤ → ℤ → ℤ → List ℕ → ℤ → List ℕ → Row
block_columns db idx reg term block bytes = Int db ∷ Int idx ∷ Int reg ∷ Text term ∷ Int block ∷ Blob bytes ∷ []

abbrev pub dict_columns : ℤ → ℤ → ℤ → List ℕ → ℤ → Row
dict_columns db idx reg term records = Int db ∷ Int idx ∷ Int reg ∷ Text term ∷ Int records ∷ []

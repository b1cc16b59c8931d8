-- What the first row of an answer says of the rows that are listed, and what it says that there is none.
use Rattle.zeb_register.proofs.Cited.{Row, has_got, Has, ◌≡◌, ◌∙◌, ap, sym, Option, List, [], ◌∷◌, slice_get, Some, None, IsListOf}

-- the first of a slice of the rows
pub first_got : {shown got : Option Row} {slice rows : List Row} → shown ≡ slice_get slice 0 → slice ≡ rows → shown ≡ got → slice_get rows 0 ≡ got
first_got first same is = sym (first ∙ ap (λ l. slice_get l 0) same) ∙ is

pub first_is : (P : Row → Type 0) (rows : List Row) (row : Row) → IsListOf P rows → slice_get rows 0 ≡ Some row → P row
first_is P rows row list first = (list.each row).0 (has_got rows 0 row first)

pub none_is : (P : Row → Type 0) (rows : List Row) (x : Row) → IsListOf P rows → slice_get rows 0 ≡ None → ¬ P x
none_is P rows x list none there = never rows none ((list.each x).1 there)
  where
    never : (rows : List Row) → slice_get rows 0 ≡ None → Has rows x → ⊥
    never [] none h = h
    never (r ∷ rows) none h = cc

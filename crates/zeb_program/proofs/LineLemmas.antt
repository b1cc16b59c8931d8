-- What the first line of a text is, by what `str` says of its methods.
use Rattle.zeb_program.proofs.Cited.{suc, ne_eqb, ◌≡◌, ◌≢◌, ℕ, ◌-◌, ◌<◌, List, [], ◌∷◌, ◌++◌, length, get_or, take, refl, arith, sym, ◌∙◌, ap, length-append, take-length, take-suc, take-append_seam, get_or-append_seam, Option, Some, None, MatchOption, unwrap_or, strip_carriage_return}
use Rattle.std.specs.Borrow.{Bor}

-- a text that ends in CR loses it
pub strip_carriage_return-append : (xs : List ℕ) → strip_carriage_return (xs ++ 13 ∷ []) ≡ xs
strip_carriage_return-append xs =
    let len : length (xs ++ 13 ∷ []) - 1 ≡ length xs = simp length-append (omega arith) in
    rw len (rw (get_or-append_seam, take-append_seam) refl)

-- a list whose last byte is b ends in b
pub ends_in : (xs : List ℕ) (b : ℕ) → 0 < b → get_or xs (length xs - 1) 0 ≡ b → xs ≡ take (length xs - 1) xs ++ b ∷ []
ends_in [] b pos e = absurd (omega arith)
ends_in (x ∷ xs) b pos e =
    let m : suc (length xs) - 1 ≡ length xs = omega arith in
    let last : get_or (x ∷ xs) (length xs) 0 ≡ b = rw m at e in
    let l : length xs < length (x ∷ xs) = omega arith in
    rw m (sym (take-length (x ∷ xs)) ∙ take-suc (x ∷ xs) (length xs) 0 l ∙ ap (λ y. take (length xs) (x ∷ xs) ++ y ∷ []) last)

-- a text that doesn't end in CR stays
pub strip_carriage_return-same : (xs : List ℕ) → ((front : List ℕ) → xs ≢ front ++ 13 ∷ []) → strip_carriage_return xs ≡ xs
strip_carriage_return-same xs ends_otherwise =
    let otherwise : get_or xs (length xs - 1) 0 ≢ 13 = λ e. ends_otherwise (take (length xs - 1) xs) (ends_in xs 13 (omega arith) e) in
    rw (ne_eqb _ _ otherwise) refl

-- what `strip_suffix` leaves, or the text itself
pub stripped : (bs : List ℕ) (r : Option (Bor (List ℕ))) (d : Bor (List ℕ)) → d.now ≡ bs → MatchOption r ((front : List ℕ) → bs ≢ front ++ 13 ∷ []) (λ x. bs ≡ x.now ++ 13 ∷ []) → (unwrap_or r d).now ≡ strip_carriage_return bs
stripped bs None d same h = same ∙ sym (strip_carriage_return-same bs h)
stripped bs (Some x) d same h = rw h (sym (strip_carriage_return-append x.now))

use Rattle.zeb_register.proofs.Cited.{Row, column, Int, ◌≡◌, ◌∙◌, pos, [], ◌∷◌, sym, ap, slice_get, refl, Err, None, Option, Some, option_copied, Damaged, DamagedRow}
use Rattle.zeb_register.proofs.LooksInTurn.{looks_failed, looks_refused}
use Rattle.zeb_register.proofs.kept.record_count.Goals as goal

pub returns : goal.returns
returns g c =
    looks_refused _ _ _ DamagedRow (Err Damaged) _ _ _ c.in_ok-rows.ensures refl (λ store shown told.
    let got : slice_get c.in_ok-rows.rows.items 0 ≡ None = sym (c.first.ensures.value ∙ ap (λ l. slice_get l 0) c.deref.ensures.value) ∙ ap option_copied c.in-None.is in
    let e : ◌≡◌ {A = Option Row} None (Some (Int (pos shown.0) ∷ [])) = sym got ∙ ap (λ l. slice_get l 0) shown.2 in cc)

pub returns-in_err-rows : goal.returns-in_err-rows
returns-in_err-rows g c = looks_failed _ _ _ c.from_residual.result _ _ _ c.in_err-rows.ensures c.from_residual.ensures.1

pub returns-in_err-read_number-in-Some : goal.returns-in_err-read_number-in-Some
returns-in_err-read_number-in-Some g c =
    looks_refused _ _ _ c.in_err-read_number-in-Some.field-0.0 c.from_residual-in_err-read_number-in-Some.result _ _ _ c.in_ok-rows.ensures c.from_residual-in_err-read_number-in-Some.ensures.1 (λ store shown told.
    let row = c.in-Some.row.now in
    let got : slice_get c.in_ok-rows.rows.items 0 ≡ Some row = sym (c.first.ensures.value ∙ ap (λ l. slice_get l 0) c.deref.ensures.value) ∙ ap option_copied c.in-Some.is in
    let same : row ≡ Int (pos shown.0) ∷ [] = let e : Some row ≡ Some (Int (pos shown.0) ∷ []) = sym got ∙ ap (λ l. slice_get l 0) shown.2 in cc in
    c.in_err-read_number-in-Some.ensures.refused.1 (shown.0, ap (λ (r : Row). column r 0) same))

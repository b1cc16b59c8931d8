-- The form of a file, by its first three bytes.
use Rattle.zeb_program.proofs.Cited.{◌≡◌, ◌≤◌, ◌∙◌, ℕ, Bool, false, List, [], ◌∷◌, ◌++◌, Option, Some, None, Result, Ok, Err, IfOk, length, refl, ap, subst, sym, arith, Consumes, IsAtEnd, AllocError}
use Rattle.zeb_program.specs.Forms.{IsFormOf, form_of}
use Rattle.zeb_program.specs.declared.forms.Form.{Form}

-- three bytes are enough, or all that there are
same_form : (first rest : List ℕ) → (length first ≤ 2 → rest ≡ []) → form_of (first ++ rest) ≡ form_of first
same_form [] rest end = ap form_of (end (omega arith))
same_form (a ∷ []) rest end = ap (λ left. form_of (a ∷ left)) (end (omega arith))
same_form (a ∷ b ∷ []) rest end = ap (λ left. form_of (a ∷ b ∷ left)) (end (omega arith))
same_form (a ∷ b ∷ c ∷ first) rest end = refl

pub read_form : (told left : Option (List ℕ)) (first : List ℕ) → Consumes told left first → (length first ≤ 2 → IsAtEnd left) → IsFormOf told (form_of first)
read_form None left first read end = tt
read_form (Some bytes) None first read end = absurd read
read_form (Some bytes) (Some rest) first read end = sym (ap form_of read ∙ same_form first rest end)

-- a source that can't fail gives the bytes that the paths tell
pub told_form : (told left : Option (List ℕ)) (may : Bool) (result : Result (Option Form) AllocError) → left ≡ told → ((bytes : List ℕ) → told ≡ Some bytes → may ≡ false)
    → (may ≡ false → IfOk result (IsFormOf left)) → IfOk result (IsFormOf told)
told_form told left may (Err e) same able reads = tt
told_form None left may (Ok form) same able reads = tt
told_form (Some bytes) left may (Ok form) same able reads = subst (λ given. IsFormOf given form) same (reads (able bytes refl))

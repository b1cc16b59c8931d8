-- The lines of a text: whether they begin a register, and whether the files that they name are told.
use Rattle.zeb_program.proofs.Cited.{◌≡◌, ◌∙◌, inl, inr, ℕ, zero, suc, List, [], ap, subst, sym, refl, Option, Some, codes, string_bytes, PathChange, IsLineUntold, first_line, after_first_line, AreFilesTold, IsLineTold, HasPath, NamesPath, BeginsRegister, after_lines, without_blanks}

-- ---- the lines of a text

after_first : (n : ℕ) (text : List ℕ) → after_lines (suc n) text ≡ after_lines n (after_first_line text)
after_first zero text = refl
after_first (suc n) text = ap after_first_line (after_first n text)

pub told_first : (told : List ℕ → Option (List ℕ)) (text : List ℕ) → AreFilesTold told text → IsLineTold told (first_line text)
told_first told text all = all 0

pub told_rest : (told : List ℕ → Option (List ℕ)) (text : List ℕ) → AreFilesTold told text → AreFilesTold told (after_first_line text)
told_rest told text all n = subst (λ rest. IsLineTold told (first_line rest)) (after_first n text) (all (suc n))

-- which of them begin a register
pub begins_rest : (text : List ℕ) → ¬ (without_blanks (first_line text) ≡ codes "init") → ¬ BeginsRegister (after_first_line text) → ¬ BeginsRegister text
begins_rest text first rest (zero, is) = first is
begins_rest text first rest (suc n, is) = rest (n, subst (λ r. without_blanks (first_line r) ≡ codes "init") (after_first n text) is)

pub begins_here : (text : List ℕ) → without_blanks (first_line text) ≡ codes "init" → BeginsRegister text
begins_here text is = (0, is)

pub begins_later : (text : List ℕ) → BeginsRegister (after_first_line text) → BeginsRegister text
begins_later text (n, is) = (suc n, subst (λ r. without_blanks (first_line r) ≡ codes "init") (sym (after_first n text)) is)

after_none : (n : ℕ) → after_lines n [] ≡ []
after_none zero = refl
after_none (suc n) = ap after_first_line (after_none n)

pub begins_none : ¬ BeginsRegister []
begins_none (n, is) = empty (subst (λ rest. without_blanks (first_line rest) ≡ codes "init") (after_none n) is)
  where
    empty : without_blanks (first_line []) ≡ codes "init" → ⊥
    empty e = cc

-- ---- one line

-- a line that names this change names one by a path
has_path : (text : List ℕ) (change : PathChange) → NamesPath text change → HasPath text
has_path text change named = record { kind = change.kind; word = named.word; name = named.name.0; some = named.some; other = named.other }

-- a line of which the file is told names none that isn't
pub told_or_untold : (told : List ℕ → Option (List ℕ)) (text : List ℕ) → IsLineTold told text → ¬ IsLineUntold told text
told_or_untold told text known (change, inl (utf8, says), none) =
    let at = known utf8 (has_path (without_blanks text) change says.1) in
    let there : told (string_bytes change.path) ≡ Some at.0 = ap told says.1.rest ∙ at.1 in
    absurd cc
told_or_untold told text known (change, inr (other, is), none) = absurd cc

-- A scan, step by step: the terms around a start, and that the postings have the terms that the kept records have.
use Rattle.zeb_engine.proofs.Cited.{◌≡◌, ◌↔◌, ◌∙◌, ℕ, ℤ, ◌+◌, ◌-◌, List, ◌++◌, filter, take, Result, Ok, Err, ap, ap₂, subst₂, inl, inr, Trees, ScanValue, Occurrence, TermCount, Format, AreTermsBefore, AreTermsFrom, is_before, is_from, last, HidesBefore, HidesFrom, ListsBefore, ListsFrom, one_terms, terms_as, Answer, HidesAround, TellsAround, AreAround, IsScanPlanned}
use Rattle.zeb_query.specs.Checks.{Refusal}

-- the terms below the start, and those from it on, of the one list that a register has
pub around_lists : (O : ℕ → Occurrence → Type 0) (plan : ScanValue) (number position : ℕ) (start : List ℕ) (below from : ℕ) (first rest terms : List TermCount)
    → start ≡ plan.start → below ≡ position - 1 → from ≡ number + 1 - position
    → AreTermsBefore O plan.index plan.register start below first → AreTermsFrom O plan.index plan.register start from rest → terms ≡ first ++ rest
    → AreAround O plan number position terms
around_lists O plan number position start below from first rest terms is_start is_below_many is_from_many before after is =
    let one = one_terms O plan.index plan.register after.all before.all after.are before.are in
    let front : first ≡ last (position - 1) (filter (is_before plan.start) before.all) =
    before.is ∙ ap₂ (λ (n : ℕ) (s : List ℕ). last n (filter (is_before s) before.all)) is_below_many is_start in
    let back : rest ≡ take (number + 1 - position) (filter (is_from plan.start) before.all) =
    after.is ∙ ap (λ (l : List TermCount). take from (filter (is_from start) l)) one ∙ ap₂ (λ (n : ℕ) (s : List ℕ). take n (filter (is_from s) before.all)) is_from_many is_start in
    record { all = before.all; are = before.are; is = is ∙ ap₂ (λ (xs ys : List TermCount). xs ++ ys) front back }

-- the same of the terms that their counts tell
pub around_told : (format : Format) (trees : Trees) (db : ℤ) (plan : ScanValue) (number position : ℕ) (start : List ℕ) (below from : ℕ) (first rest terms : List TermCount)
    → start ≡ plan.start → below ≡ position - 1 → from ≡ number + 1 - position
    → ListsBefore format trees db plan.index plan.register start below first → ListsFrom format trees db plan.index plan.register start from rest → terms ≡ first ++ rest
    → TellsAround format trees db plan number position terms
around_told format trees db plan number position start below from first rest terms is_start is_below_many is_from_many before after is =
    let front = subst₂ (λ (s : List ℕ) (n : ℕ). ListsBefore format trees db plan.index plan.register s n first) is_start is_below_many before in
    let back = subst₂ (λ (s : List ℕ) (n : ℕ). ListsFrom format trees db plan.index plan.register s n rest) is_start is_from_many after in
    record { below = first; rest = rest; before = front; from = back; joined = is }

-- ---- counts that can't be shown

module _ (format : Format) (trees : Trees) (db : ℤ) (plan : ScanValue) (number position : ℕ) (start : List ℕ) (is_start : start ≡ plan.start) where
  pub before_hides : (below : ℕ) → below ≡ position - 1 → HidesBefore format trees db plan.index plan.register start below → HidesAround format trees db plan number position
  before_hides below is_many hides = inl (subst₂ (λ (s : List ℕ) (n : ℕ). HidesBefore format trees db plan.index plan.register s n) is_start is_many hides)

  pub from_hides : (from : ℕ) → from ≡ number + 1 - position → HidesFrom format trees db plan.index plan.register start from → HidesAround format trees db plan number position
  from_hides from is_many hides = inr (subst₂ (λ (s : List ℕ) (n : ℕ). HidesFrom format trees db plan.index plan.register s n) is_start is_many hides)

-- ---- sets of the same occurrences

module _ (O P : ℕ → Occurrence → Type 0) (same : (n : ℕ) (o : Occurrence) → O n o ↔ P n o) (number position : ℕ) (answer : Answer) where
  pub scan_planned_as : (plan : Result ScanValue Refusal) → IsScanPlanned O plan number position answer → IsScanPlanned P plan number position answer
  scan_planned_as (Ok plan) is = (is.0, record { all = is.1.all; are = terms_as O P same plan.index plan.register is.1.all is.1.are; is = is.1.is }, is.2)
  scan_planned_as (Err e) is = is

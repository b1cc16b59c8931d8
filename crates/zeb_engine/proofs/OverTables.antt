-- A find, a scan and a stat on any tables of a store, step by step.
use Rattle.zeb_engine.proofs.Cited.{◌≡◌, ◌⊎◌, ℕ, ℤ, List, length, map, Result, Ok, Err, string_bytes, refl, sym, ap, subst, inl, inr, Trees, Directive, QueryFault, Diagnostic, Memory, Fails, QueryValue, SpellsQuery, IsFaultOf, IsReadable, PlanValue, ScanValue, plan_of, scan_of, TermCount, HasDatabase, MissesDatabase, Refusal, query_refusal, Why, diagnostic, why_of, Meets, Reply, IsAsked, IsSaidOrMissed, OfDatabase, Answer, found, refused, scanned, IsFailure, TellsUnlessHidden, AreShown, HidesDatabase, IsAnsweredBy, IsPlannedBy, IsShown, asked_of, IsScannedBy, IsScanPlannedBy}
use Rattle.zeb_change.specs.declared.refusals.Refusal.TheVariants as refusal
use Rattle.zeb_engine.proofs.HiddenRows.{misses_hidden}

-- ---- damage and failures

-- refused as damage, or by a failure
abbrev pub IsFew : Refusal → Type 0
IsFew why = (why ≡ refusal.Damaged) ⊎ IsFailure (refused (why_of why))

-- it is said so, or it failed
abbrev pub IsOrFails : (Answer → Type 0) → Refusal → Type 0
IsOrFails Is why = Is (refused (why_of why)) ⊎ IsFailure (refused (why_of why))

-- ---- a query of the database of a name

module _ (Tells : OfDatabase) (name : List ℕ) (Hides : Trees → Type 0) (trees : Trees) (text : List ℕ) where
  abbrev pub AskedEnds : Result Reply Refusal → Type 0
  AskedEnds result = TellsUnlessHidden (λ t. IsAsked Tells name text t) Hides trees result

  pub query_over : (e : QueryFault) → IsFaultOf e text → AskedEnds (Err (query_refusal e))
  query_over Memory is = inr (inr (inr refl))
  query_over (Diagnostic number place addinfo) is = inl (inr (number, place, is.0, ap (λ t. refused (diagnostic number place t)) is.1))

  module _ (readable : IsReadable text) where
    -- what is told of the database is told of the query
    asked_over : (result : Result Reply Refusal) → TellsUnlessHidden (λ t. IsSaidOrMissed Tells name t) Hides trees result → AskedEnds result
    asked_over result (inl told) = inl (inl (readable, told))
    asked_over result (inr other) = inr other

    -- the database isn't found
    pub missed_over : (IsReadable text × HidesDatabase name trees → Hides trees) → (why : Refusal) → IsFailure (refused (why_of why)) ⊎ MissesDatabase trees name why → AskedEnds (Err why)
    missed_over hides why is = asked_over (Err why) (misses_hidden Tells name Hides trees (λ hidden. hides (readable, hidden)) why is)

    pub or_fails : (id last : ℤ) → HasDatabase trees id name last → (why : Refusal) → IsOrFails (Tells id last) why → AskedEnds (Err why)
    or_fails id last row why (inl is) = inl (inl (readable, inr (id, last, row, is)))
    or_fails id last row why (inr failed) = inr (inr failed)

-- ---- what a query comes to

module _ (profile : List Directive) (text : List ℕ) (value : QueryValue) (spells : SpellsQuery text value) where
  module _ (Named : ℕ → List ℕ → Type 0) (Hits : PlanValue → List ℕ → Type 0) (first count : ℕ) where
    abbrev pub Finds : Answer → Type 0
    Finds = IsAnsweredBy Named Hits profile text first count

    planned_found : (answer : Answer) → IsPlannedBy Named Hits (plan_of profile value) first count answer → Finds answer
    planned_found answer is = (value, spells, is)

    pub plan_found : (e : QueryFault) → Fails e (plan_of profile value) → IsOrFails Finds (query_refusal e)
    plan_found Memory said = inr (inr refl)
    plan_found (Diagnostic number place addinfo) said =
        let answer = refused (diagnostic number place (string_bytes addinfo)) in
        inl (planned_found answer (subst (λ r. IsPlannedBy Named Hits r first count answer) (sym said) refl))

    module _ (plan : PlanValue) (planned : plan_of profile value ≡ Ok plan) (numbers : List ℕ) (hits : Hits plan numbers) where
      shown_found : (answer : Answer) → IsShown Named numbers (asked_of numbers first count) answer → Finds answer
      shown_found answer is = planned_found answer (subst (λ r. IsPlannedBy Named Hits r first count answer) (sym planned) (numbers, hits, is))

      pub past_found : {X : Type 0} (Good : List ℕ → X → Type 0) (why : Refusal) → Meets {X = X} Good (asked_of numbers first count) (Err why) → IsOrFails Finds why
      past_found Good why (inl failed) = inr failed
      past_found Good why (inr said) =
          let answer = refused (why_of why) in
          inl (shown_found answer (subst (λ (r : Result (List ℕ) Why). IsShown Named numbers r answer) (sym said) refl))

      pub numbers_found : (asked : List ℕ) → asked_of numbers first count ≡ Ok asked → (shown : List (ℕ × List ℕ)) → AreShown Named asked shown → Finds (found (length numbers) shown)
      numbers_found asked said shown told =
          let answer = found (length numbers) shown in
          shown_found answer (subst (λ (r : Result (List ℕ) Why). IsShown Named numbers r answer) (sym said) (shown, told, refl))

  module _ (Terms : ScanValue → ℕ → ℕ → List TermCount → Type 0) (number position : ℕ) where
    abbrev pub Scans : Answer → Type 0
    Scans = IsScannedBy Terms profile text number position

    pub plan_scanned : (e : QueryFault) → Fails e (scan_of profile value) → IsOrFails Scans (query_refusal e)
    plan_scanned Memory said = inr (inr refl)
    plan_scanned (Diagnostic number_of place addinfo) said =
        inl (value, spells, subst (λ r. IsScanPlannedBy Terms r number position (refused (diagnostic number_of place (string_bytes addinfo)))) (sym said) refl)

    pub terms_scanned : (plan : ScanValue) → scan_of profile value ≡ Ok plan → (terms : List TermCount) → Terms plan number position terms → Scans (scanned plan.register (map (λ t. (t.term, t.records)) terms))
    terms_scanned plan planned terms are =
        let answer = scanned plan.register (map (λ t. (t.term, t.records)) terms) in
        (value, spells, subst (λ r. IsScanPlannedBy Terms r number position answer) (sym planned) (terms, are, refl))

-- Commands that ask, on tables that hold a content: what is said of any tables is then the answer by the registers alone, and the reason
-- why a find is refused.
use Rattle.zeb_engine.proofs.Cited.{◌≡◌, ◌⊎◌, ◌+◌, ◌-◌, ℕ, ℤ, List, [], Result, Ok, Err, refl, inl, inr, Trees, State, Directive, PlanRefusal, PlanValue, ScanValue, plan_of, scan_of, TermCount, Content, IsStorable, posted, Format, holds_in, IsStore, has_ident_in, HasDatabase, IsReadable, PlanFinds, PlanHides, Refusal, Damaged, why_of, Why, diagnostic, Reply, Alone, IsAsked, IsSaid, IsSaidOrMissed, OfDatabase, TellsUnlessHidden, Answer, IsFailure, no_database, refused, reply_answer, AreAround, FindOver, FindSays, FindTells, HidesFind, HidesFound, HidesOf, HidesPlan, RefusedAlone, RefusesFind, MeetsDamage, IsPlanOf, IsPlanned, IsPlannedBy, ScanOver, ScanSays, ScanTells, HidesTerms, TellsAround, IsScanPlanned, IsScanPlannedBy, StatOver, StatSays, StatTells, HidesRegisters, IsExtent, IsSummedUp, Target, target_list, Extent, before_held, from_held, totals_held, plan_held, plan_shown}
use Rattle.zeb_engine.specs.declared.replies.Reply.TheVariants as reply
use Rattle.zeb_query.proofs.PlanNumbers.{plan_numbers}
use Rattle.zeb_engine.proofs.FindRefusals.{asked_small}
use Rattle.zeb_engine.proofs.ScanAnswers.{around_lists}
use Rattle.zeb_engine.proofs.StatAnswers.{paired_so}

-- ---- a reply is no refusal, and no failure

reply_never : (it : Reply) (why : Why) → reply_answer it ≡ refused why → ⊥
reply_never reply.Done why is = cc
reply_never _ why is = cc

reply_fails : (it : Reply) → IsFailure (reply_answer it) → ⊥
reply_fails reply.Done failed = failed
reply_fails _ failed = failed

-- so an accepted command tells of the database of the name
module _ (Tells : Trees → OfDatabase) (name : List ℕ) (Hides : Trees → Type 0) (trees : Trees) (it : Reply) where
  said_ok : TellsUnlessHidden (λ t. IsSaidOrMissed (Tells t) name t) Hides trees (Ok it) → IsSaid (Tells trees) name trees (reply_answer it)
  said_ok (inl (inl missed)) = absurd (reply_never it (no_database name) missed.1)
  said_ok (inl (inr said)) = said
  said_ok (inr (inl hidden)) = absurd (let e : ◌≡◌ {A = Result Reply Refusal} (Ok it) (Err Damaged) = hidden.0 in cc)
  said_ok (inr (inr failed)) = absurd (reply_fails it failed)

  asked_ok : (text : List ℕ) → TellsUnlessHidden (λ t. IsAsked (Tells t) name text t) Hides trees (Ok it) → IsSaid (Tells trees) name trees (reply_answer it)
  asked_ok text (inl (inl asked)) = said_ok (inl asked.1)
  asked_ok text (inl (inr faulty)) = absurd (reply_never it (diagnostic faulty.0 faulty.1 []) faulty.3)
  asked_ok text (inr other) = said_ok (inr other)

-- ---- what is told, by the postings

module _ (format : Format) (trees : Trees) (content : Content) (holds : holds_in format trees content) (id : ℤ) where
  pub extent_content : (profile : List Directive) (target : Target) (extent : Extent) → IsSummedUp format profile trees id target extent → IsExtent (posted content id) profile target extent
  extent_content profile target extent is = record {
    under = is.under;
    totals = totals_held format trees id target.0 target.1 content holds (record { terms = extent.terms; occurrences = extent.occurrences }) is.sums;
  }

  stat_content : (profile : List Directive) (last : ℤ) (answer : Answer) → StatTells format profile trees id last answer → StatSays profile trees content id last answer
  stat_content profile last answer told = (
    told.0,
    told.1,
    told.2,
    told.3,
    (told.4.0, paired_so (IsSummedUp format profile trees id) (IsExtent (posted content id) profile) (extent_content profile) (target_list profile) told.4.0 told.4.1, told.4.2),
  )

  module _ (profile : List Directive) (text : List ℕ) (first count : ℕ) (answer : Answer) where
    found_content : (plan : Result PlanValue PlanRefusal) → IsPlannedBy (has_ident_in trees id) (PlanFinds format trees id) plan first count answer → IsPlanned (posted content id) (has_ident_in trees id) plan first count answer
    found_content (Err e) is = is
    found_content (Ok plan) is = (is.0, plan_held format trees id content holds plan is.0 is.1, is.2)

    pub find_content : (last : ℤ) → FindTells format profile text first count trees id last answer → FindSays profile text first count trees content id last answer
    find_content last told = (told.0, told.1, found_content (plan_of profile told.0) told.2)

  module _ (profile : List Directive) (text : List ℕ) (number position : ℕ) (answer : Answer) where
    around_content : (plan : ScanValue) (terms : List TermCount) → TellsAround format trees id plan number position terms → AreAround (posted content id) plan number position terms
    around_content plan terms told =
        around_lists (posted content id) plan number position plan.start (position - 1) (number + 1 - position) told.below told.rest terms refl refl refl
        (before_held format trees id plan.index plan.register content holds plan.start (position - 1) told.below told.before)
        (from_held format trees id plan.index plan.register content holds plan.start (number + 1 - position) told.rest told.from) told.joined

    scanned_content : (plan : Result ScanValue PlanRefusal) → IsScanPlannedBy (TellsAround format trees id) plan number position answer → IsScanPlanned (posted content id) plan number position answer
    scanned_content (Err e) is = is
    scanned_content (Ok plan) is = (is.0, around_content plan is.0 is.1, is.2)

    pub scan_content : (last : ℤ) → ScanTells format profile text number position trees id last answer → ScanSays profile text number position trees content id last answer
    scan_content last told = (told.0, told.1, scanned_content (scan_of profile told.0) told.2)

-- ---- the answer by the registers alone

module _ (format : Format) (profile : List Directive) (name : List ℕ) (s : State) where
  pub stat_alone : (result : Result Reply Refusal) → (IsStore s → TellsUnlessHidden (StatOver format profile name) (HidesRegisters format profile name) s.now.trees result) → Alone format (StatSays profile) name s result
  stat_alone (Err why) told store content holds = tt
  stat_alone (Ok it) told store content holds =
      let said = said_ok (λ t. StatTells format profile t) name (HidesRegisters format profile name) s.now.trees it (told store) in
      (said.0, said.1, said.2, stat_content format s.now.trees content holds said.0 profile said.1 (reply_answer it) said.3)

  pub find_alone : (text : List ℕ) (first count : ℕ) (result : Result Reply Refusal)
      → (IsStore s → TellsUnlessHidden (FindOver format profile name text first count) (HidesFind format profile name text first count) s.now.trees result)
      → Alone format (FindSays profile text first count) name s result
  find_alone text first count (Err why) told store content holds = tt
  find_alone text first count (Ok it) told store content holds =
      let said = asked_ok (λ t. FindTells format profile text first count t) name (HidesFind format profile name text first count) s.now.trees it text (told store) in
      (said.0, said.1, said.2, find_content format s.now.trees content holds said.0 profile text first count (reply_answer it) said.1 said.3)

  pub scan_alone : (text : List ℕ) (number position : ℕ) (result : Result Reply Refusal)
      → (IsStore s → TellsUnlessHidden (ScanOver format profile name text number position) (HidesTerms format profile name text number position) s.now.trees result)
      → Alone format (ScanSays profile text number position) name s result
  scan_alone text number position (Err why) told store content holds = tt
  scan_alone text number position (Ok it) told store content holds =
      let said = asked_ok (λ t. ScanTells format profile text number position t) name (HidesTerms format profile name text number position) s.now.trees it text (told store) in
      (said.0, said.1, said.2, scan_content format s.now.trees content holds said.0 profile text number position (reply_answer it) said.1 said.3)

-- ---- why a find is refused

module _ (format : Format) (profile : List Directive) (name text : List ℕ) (first count : ℕ) (trees : Trees) (content : Content) (storable : IsStorable content) (holds : holds_in format trees content) where
  told_content : (answer : Answer) → IsSaidOrMissed (FindTells format profile text first count trees) name trees answer → IsSaidOrMissed (FindSays profile text first count trees content) name trees answer
  told_content answer (inl missed) = inl missed
  told_content answer (inr said) = inr (said.0, said.1, said.2, find_content format trees content holds said.0 profile text first count answer said.1 said.3)

  asked_content : (answer : Answer) → FindOver format profile name text first count trees answer → IsAsked (FindSays profile text first count trees content) name text trees answer
  asked_content answer (inl asked) = inl (asked.0, told_content answer asked.1)
  asked_content answer (inr faulty) = inr faulty

  hidden_content : (id last : ℤ) → HasDatabase trees id name last → (plan : PlanValue) → IsPlanOf profile text plan → PlanHides format trees id plan ⊎ HidesFound format trees id plan first count
      → MeetsDamage profile name text first count trees content
  hidden_content id last row plan is_plan (inl hides) = inr (id, last, plan, row, is_plan, inl (λ named. plan_shown format trees id content holds storable plan named hides))
  hidden_content id last row plan is_plan (inr found) =
      let are = plan_held format trees id content holds plan found.0 found.2 in
      let small = asked_small trees content storable id plan (plan_numbers profile is_plan.0 plan is_plan.2) found.0 found.1 first count are found.3 in
      inr (id, last, plan, row, is_plan, inr (found.0, found.1, are, found.3, found.4 small))

  damage_content : IsReadable text → HidesOf (HidesPlan format profile text first count trees) name trees → MeetsDamage profile name text first count trees content
  damage_content readable (inl below) = inl (readable, below)
  damage_content readable (inr it) = hidden_content it.0 it.1 it.2 it.3.0 it.3.1 it.3.2

  why_refused : (why : Refusal) → TellsUnlessHidden (FindOver format profile name text first count) (HidesFind format profile name text first count) trees (Err why)
      → IsFailure (refused (why_of why)) ⊎ RefusesFind profile name text first count trees content why
  why_refused why (inl over) = inr (inl (asked_content (refused (why_of why)) over))
  why_refused why (inr (inl hidden)) =
      let is : why ≡ Damaged = (let e : ◌≡◌ {A = Result Reply Refusal} (Err why) (Err Damaged) = hidden.0 in cc) in
      inr (inr (is, damage_content hidden.1.0 hidden.1.1))
  why_refused why (inr (inr failed)) = inl failed

pub find_refused : (format : Format) (profile : List Directive) (name text : List ℕ) (first count : ℕ) (s : State) (result : Result Reply Refusal)
    → (IsStore s → TellsUnlessHidden (FindOver format profile name text first count) (HidesFind format profile name text first count) s.now.trees result)
    → RefusedAlone format (RefusesFind profile name text first count) s result
find_refused format profile name text first count s (Ok it) told store content storable holds = tt
find_refused format profile name text first count s (Err why) told store content storable holds =
    why_refused format profile name text first count s.now.trees content storable holds why (told store)

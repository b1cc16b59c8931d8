-- What the definition says that a command answers is one answer.
use Rattle.zeb_engine.proofs.Cited.{◌≡◌, ◌∙◌, ℕ, List, [], ◌∷◌, map, length, Option, Some, None, Result, Ok, Err, refl, sym, ap, ap₂, subst, inl, inr, string_bytes, nat_cmp_total, Has, Directive, QueryValue, PlanValue, ScanValue, plan_of, scan_of, apart, one_fault, one_query, Occurrence, analyses_once, TermCount, one_terms, same_list, Command, Stat, Find, Scan, Analyse, IsAnalysed, analysis_answer, Answer, found, refused, scanned, Why, diagnostic, Conditions, TreeHolds, AreNumbers, IsAnswered, IsFound, IsNamed, IsPlanned, IsShown, asked_of, has_name, occurs, Base, Kept, Holdings, base_named, name_bytes, IsScanned, IsScanPlanned, around, AskedAmong, AskedFrom, AskedIn, FindAnswers, ScanAnswers, Step, ready}
use Rattle.zeb_query.specs.Checks.{Refusal}
use Rattle.zeb_engine.proofs.StepLemmas.{MayAnswer, step_told}
use Rattle.zeb_engine.proofs.OneCount.{counted_once}

-- ---- finds

-- pairs whose first parts are the same, where a first part has one second part at most
same_pairs : (N : ℕ → List ℕ → Type 0) → ((n : ℕ) (a b : List ℕ) → N n a → N n b → a ≡ b) → (one other : List (ℕ × List ℕ))
    → ((hit : ℕ × List ℕ) → Has one hit → N hit.0 hit.1) → ((hit : ℕ × List ℕ) → Has other hit → N hit.0 hit.1)
    → map (λ (hit : ℕ × List ℕ). hit.0) one ≡ map (λ (hit : ℕ × List ℕ). hit.0) other → one ≡ other
same_pairs N single [] [] x y same = refl
same_pairs N single [] (b ∷ bs) x y same = cc
same_pairs N single (a ∷ more) [] x y same = cc
same_pairs N single (a ∷ more) (b ∷ bs) x y same =
    let number : a.0 ≡ b.0 = cc in
    let rest : map (λ (hit : ℕ × List ℕ). hit.0) more ≡ map (λ (hit : ℕ × List ℕ). hit.0) bs = cc in
    let ident : a.1 ≡ b.1 = single b.0 a.1 b.1 (subst (λ n. N n a.1) number (x a (inl refl))) (y b (inl refl)) in
    let pair : a ≡ b = ap₂ (λ (n : ℕ) (t : List ℕ). (n, t)) number ident in
    ap₂ (λ (h : ℕ × List ℕ) (hs : List (ℕ × List ℕ)). h ∷ hs) pair (same_pairs N single more bs (λ h there. x h (inr there)) (λ h there. y h (inr there)) rest)

numbers_once : (P : ℕ → Type 0) (one other : List ℕ) → AreNumbers P one → AreNumbers P other → one ≡ other
numbers_once P one other x y = same_list nat_cmp_total one other x.rising y.rising (λ n h. (y.each n).1 ((x.each n).0 h)) (λ n h. (x.each n).1 ((y.each n).0 h))

module _ (O : ℕ → Occurrence → Type 0) (N : ℕ → List ℕ → Type 0) (single : (n : ℕ) (a b : List ℕ) → N n a → N n b → a ≡ b) (first count : ℕ) (one other : Answer) where
  shown_once : (hits : List ℕ) (asked : Result (List ℕ) Why) → IsShown N hits asked one → IsShown N hits asked other → one ≡ other
  shown_once hits (Err why) x y = x ∙ sym y
  shown_once hits (Ok asked) x y = x.2 ∙ ap (found (length hits)) (same_pairs N single x.0 y.0 x.1.named y.1.named (x.1.in_order ∙ sym y.1.in_order)) ∙ sym y.2

  pub found_once : (plan : PlanValue) → IsFound O N plan first count one → IsFound O N plan first count other → one ≡ other
  found_once plan x y =
      shown_once y.0 (asked_of y.0 first count) (subst (λ (hits : List ℕ). IsShown N hits (asked_of hits first count) one) (numbers_once (TreeHolds O (IsNamed O N) plan) x.0 y.0 x.1 y.1) x.2) y.2

  planned_once : (plan : Result PlanValue Refusal) → IsPlanned O N plan first count one → IsPlanned O N plan first count other → one ≡ other
  planned_once (Ok plan) x y = found_once plan x y
  planned_once (Err e) x y = x ∙ sym y

  pub answered_once : (profile : List Directive) (text : List ℕ) → IsAnswered O N profile text first count one → IsAnswered O N profile text first count other → one ≡ other
  answered_once profile text x y =
      let same : x.0 ≡ y.0 = one_query text x.0 y.0 x.1 y.1 in
      planned_once (plan_of profile y.0) (subst (λ (query : QueryValue). IsPlanned O N (plan_of profile query) first count one) same x.2) y.2

-- a record has one identifier
pub name_once : (records : List Kept) (n : ℕ) (a b : List ℕ) → has_name records n a → has_name records n b → a ≡ b
name_once records n a b x y = (let e : ◌≡◌ {A = Option (List ℕ)} (Some a) (Some b) = sym x ∙ y in cc)

-- ---- scans

module _ (O : ℕ → Occurrence → Type 0) (number position : ℕ) (one other : Answer) where
  scan_planned_once : (plan : Result ScanValue Refusal) → IsScanPlanned O plan number position one → IsScanPlanned O plan number position other → one ≡ other
  scan_planned_once (Ok plan) x y =
      let same = x.1.is ∙ ap (around number position plan.start) (one_terms O plan.index plan.register x.1.all y.1.all x.1.are y.1.are) ∙ sym y.1.is in
      x.2 ∙ ap (λ (terms : List TermCount). scanned plan.register (map (λ t. (t.term, t.records)) terms)) same ∙ sym y.2
  scan_planned_once (Err e) x y = x ∙ sym y

  scanned_once : (profile : List Directive) (text : List ℕ) → IsScanned O profile text number position one → IsScanned O profile text number position other → one ≡ other
  scanned_once profile text x y =
      let same : x.0 ≡ y.0 = one_query text x.0 y.0 x.1 y.1 in
      scan_planned_once (scan_of profile y.0) (subst (λ (query : QueryValue). IsScanPlanned O (scan_of profile query) number position one) same x.2) y.2

-- ---- analyses

analysed_once : (profile : List Directive) (limit : ℕ) (texts : List (List ℕ)) (one other : Answer) → IsAnalysed profile limit texts one → IsAnalysed profile limit texts other → one ≡ other
analysed_once profile limit texts one other x y = x.2 ∙ ap (analysis_answer profile) (analyses_once profile limit texts x.0 y.0 x.1 y.1) ∙ sym y.2

-- ---- any command

module _ (one other : Answer) where
  asked_once : (Says : Base → Answer → Type 0) → ((base : Base) → Says base one → Says base other → one ≡ other) → (name query : List ℕ) (said : Result (List Base) Why)
      → AskedFrom Says name query said one → AskedFrom Says name query said other → one ≡ other
  asked_once Says each name query (Err why) x y = x ∙ sym y
  asked_once Says each name query (Ok bases) x y = go x y
    where
      there : (base : Option Base) → AskedIn Says name base one → AskedIn Says name base other → one ≡ other
      there None a b = a ∙ sym b
      there (Some base) a b = each base a b

      go : AskedAmong Says name query bases one → AskedAmong Says name query bases other → one ≡ other
      go (inl a) (inl b) = there (base_named name bases) a.1 b.1
      go (inl a) (inr b) = absurd (apart query b.0 b.1 a.0 b.2)
      go (inr a) (inl b) = absurd (apart query a.0 a.1 b.0 a.2)
      go (inr a) (inr b) =
          let same : (a.0 ≡ b.0) × (a.1 ≡ b.1) = one_fault query a.0 a.1 b.0 b.1 a.2 b.2 in
          a.3 ∙ ap₂ (λ (number place : ℕ). refused (diagnostic number place [])) same.0 same.1 ∙ sym b.3

pub answers_once : (c : Conditions) (command : Command) (before : Holdings) (one other : Answer) → MayAnswer c command before one → MayAnswer c command before other → one ≡ other
answers_once c (Find name query first count) before one other x y =
    asked_once one other (FindAnswers c.profile (string_bytes query) first count)
    (λ base. answered_once (occurs c.profile base.records) (has_name base.records) (name_once base.records) first count one other c.profile (string_bytes query)) (name_bytes name) (string_bytes query) (ready c before) x y
answers_once c (Stat name) before one other x y = counted_once c (name_bytes name) one other (ready c before) x y
answers_once c (Scan name query number position) before one other x y =
    asked_once one other (ScanAnswers c.profile (string_bytes query) number position)
    (λ base. scanned_once (occurs c.profile base.records) number position one other c.profile (string_bytes query)) (name_bytes name) (string_bytes query) (ready c before) x y
answers_once c (Analyse files) before one other x y = analysed_once c.profile c.limits.records (map (λ file. file.items) files.items) one other x y
answers_once c _ before one other x y = x ∙ sym y

pub steps_once : (c : Conditions) (command : Command) (before : Holdings) (one other : Answer) (left right : Holdings) → Step c command before one left → Step c command before other right
    → (one ≡ other) × (left ≡ right)
steps_once c command before one other left right x y =
    let a = step_told c command before one left x in
    let b = step_told c command before other right y in
    (answers_once c command before one other a.0 b.0, a.1 ∙ sym b.1)

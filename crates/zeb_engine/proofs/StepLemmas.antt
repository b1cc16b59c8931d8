-- A command's step, in two parts: its answer, and what is held then, which is computed.
use Rattle.zeb_engine.proofs.Cited.{◌≡◌, ◌↔◌, ◌∙◌, map, Option, Some, None, string_bytes, ap, sym, Command, Init, Check, Reindex, Upgrade, Create, Drop, Stat, Dump, Change, Find, Scan, Analyse, name_bytes, IsAnalysed, Answer, Conditions, Holdings, Outcome, Ends, Step, CountedFrom, FoundFrom, ScannedFrom, dumped_by, checked, splits_of, changed_by_files, created, dropped, initialised, ready, turned, reindexed, upgraded}

-- What a command answers and leaves. A find, a scan and a stat have none: what they answer is said by the records that are kept; nor has an
-- analysis, which is said by its files.
abbrev pub outcome : Conditions → Command → Holdings → Option Outcome
outcome c Init before = Some (initialised c before)
outcome c (Create name) before = Some (turned c (created (name_bytes name)) before)
outcome c (Drop name) before = Some (turned c (dropped (name_bytes name)) before)
outcome c (Change kind name files) before = Some (turned c (changed_by_files c kind (name_bytes name) (splits_of (map (λ file. file.items) files.items))) before)
outcome c (Find name query first count) before = None
outcome c Check before = Some (checked c before)
outcome c Reindex before = Some (reindexed c before)
outcome c Upgrade before = Some (upgraded c before)
outcome c (Stat name) before = None
outcome c (Dump name) before = Some (dumped_by c (name_bytes name) before)
outcome c (Scan name query number position) before = None
outcome c (Analyse files) before = None

abbrev pub left_by : Holdings → Option Outcome → Holdings
left_by before None = before
left_by before (Some told) = told.1

-- what is held after a command; a find, a scan, a stat and an analysis leave what was held
abbrev pub after : Conditions → Command → Holdings → Holdings
after c command before = left_by before (outcome c command before)

abbrev pub IsTold : Option Outcome → Answer → Type 0
IsTold None answer = ⊥
IsTold (Some told) answer = answer ≡ told.0

-- what a command answers: a find, a scan and a stat by the kept records, an analysis by its files, each other by its outcome
abbrev pub MayAnswer : Conditions → Command → Holdings → Answer → Type 0
MayAnswer c (Find name query first count) before answer = FoundFrom c (name_bytes name) (string_bytes query) first count (ready c before) answer
MayAnswer c (Scan name query number position) before answer = ScannedFrom c (name_bytes name) (string_bytes query) number position (ready c before) answer
MayAnswer c (Stat name) before answer = CountedFrom c (name_bytes name) (ready c before) answer
MayAnswer c (Analyse files) before answer = IsAnalysed c.profile c.limits.records (map (λ file. file.items) files.items) answer
MayAnswer c command before answer = IsTold (outcome c command before) answer

pub step_told : (c : Conditions) (command : Command) (before : Holdings) (answer : Answer) (later : Holdings) → Step c command before answer later
    → MayAnswer c command before answer × (later ≡ after c command before)
step_told c Init before answer later step = step
step_told c _ before answer later step = step

module _ (answer : Answer) (later : Holdings) where
  ends_so : (told o : Outcome) → ◌≡◌ {A = Option Outcome} (Some told) (Some o) → Ends told answer later ↔ ((answer ≡ o.0) × (later ≡ o.1))
  ends_so told o is =
      let same : told ≡ o = cc in (
        λ step. (step.0 ∙ ap (λ (x : Outcome). x.0) same, step.1 ∙ ap (λ (x : Outcome). x.1) same),
        λ both. (both.0 ∙ sym (ap (λ (x : Outcome). x.0) same), both.1 ∙ sym (ap (λ (x : Outcome). x.1) same)),
      )

  -- a step whose outcome is known is that outcome
  pub step_is : (c : Conditions) (command : Command) (before : Holdings) (o : Outcome) → outcome c command before ≡ Some o → Step c command before answer later ↔ ((answer ≡ o.0) × (later ≡ o.1))
  step_is c Init before o is = ends_so (initialised c before) o is
  step_is c (Create name) before o is = ends_so (turned c (created (name_bytes name)) before) o is
  step_is c (Drop name) before o is = ends_so (turned c (dropped (name_bytes name)) before) o is
  step_is c (Change kind name files) before o is = ends_so (turned c (changed_by_files c kind (name_bytes name) (splits_of (map (λ file. file.items) files.items))) before) o is
  step_is c Check before o is = ends_so (checked c before) o is
  step_is c Reindex before o is = ends_so (reindexed c before) o is
  step_is c Upgrade before o is = ends_so (upgraded c before) o is
  step_is c (Dump name) before o is = ends_so (dumped_by c (name_bytes name) before) o is
  step_is c _ before o is = absurd cc

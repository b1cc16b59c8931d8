-- What a call does that searches a store's tables: what it leaves of them, what it finds, why it is refused, and what it counts.
use Rattle.std.specs.Prelude.{◌≡◌, ℕ, ℤ, List, OnOk, Result, Vec}
use Rattle.std.specs.declared.alloc.Global.{Global}
use Rattle.sqlite.specs.State.{State}
use Rattle.sqlite.specs.Tree.{Trees}
use Rattle.zeb_query.specs.Plans.{PlanValue}
use Rattle.zeb_register.specs.declared.faults.RegFault.{RegFault}
use Rattle.zeb_register.specs.declared.registers.Work.{Work}
use Rattle.zeb_register.specs.Answers.{Answers, IfDamaged}
use Rattle.zeb_register.specs.Calls.{Reading}
use Rattle.zeb_register.specs.Clauses.{IsReasoned, OnStore}
use Rattle.zeb_register.specs.Content.{Content, Posting}
use Rattle.zeb_register.specs.Formats.{Format, holds_in}
use Rattle.zeb_search.specs.DictRows.{PlanDict}
use Rattle.zeb_search.specs.Finds.{PlanFinds, PlanHides}
use Rattle.zeb_search.specs.ListRows.{PlanRows}
use Rattle.zeb_search.specs.SearchCounts.{CountsRows}
use Rattle.zeb_search.specs.Untouched.{IsUntouched}

-- A call outside a transaction searches a store's tables: nothing that is seen changes, nor anything else of a connection that was open. Its answer
-- tells this of the tables, whatever rows they have; Damaged says that they have this damage, and it fails as the store only where the store may
-- refuse. An accepted one counts so, where they hold a content in this format; where a row adds nothing to the counts, they stay as they were.
pub record Searches {A : Type 0} (format : Format) (row_work : ℕ) (Damage : Trees → Type 0) (Found : Trees → A → Type 0) (Counts : Content → Work → Work → Type 0) (old new : State) (before after : Work)
    (result : Result A RegFault) : Type 0 where
  pub call : Reading old new result (λ _. IsUntouched)
  pub finds : OnStore old new (λ trees. Answers (IfDamaged (Damage trees)) (Found trees) result)
  pub refused : IsReasoned old new result
  pub work : OnOk result (OnStore old new (λ trees. (content : Content) → holds_in format trees content → Counts content before after))
  pub no_work : row_work ≡ 0 → after ≡ before

-- A call finds what a plan does, or is refused, as damage only where a row or a count that the plan may read is malformed, or the identifier of a
-- record that it asks for by number isn't UTF-8. `rows` says how many rows of `blocks` a list has.
abbrev pub SearchesPlan : Format → (row_work : ℕ) → (rows : List Posting → ℕ) → ℤ → PlanValue → (old new : State) → (before after : Work) → Result (Vec ℕ Global) RegFault → Type 0
SearchesPlan format row_work rows db plan =
    Searches format row_work (λ trees. PlanHides format trees db plan) (λ (trees : Trees) (hits : Vec ℕ Global). PlanFinds format trees db plan hits.items)
    (λ content. CountsRows (PlanDict row_work content db plan) (PlanRows rows content db plan))

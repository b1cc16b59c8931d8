use Rattle.zeb_register.proofs.Cited.{Schema, ◌≡◌, ◌∙◌, Bool, List, ap, sym, subst, Decides, store_schema}
use Rattle.std.specs.Fmt.{digits}
use Rattle.zeb_register.proofs.schema.is_store_schema.Goals.{then-are_tables, else-are_tables}
use Rattle.zeb_register.proofs.schema.is_store_schema.Goals as goal

from_parts : (s : Schema) → s.tables ≡ store_schema.tables → s.indexes ≡ store_schema.indexes → s.views ≡ store_schema.views → s ≡ store_schema
from_parts s tables indexes views = λ i. record { tables = tables i; indexes = indexes i; views = views i }

-- a slice is the list that it was taken of
told : {X : Type 0} (answer : Bool) (slice all own : List X) → slice ≡ all → Decides answer (slice ≡ own) → Decides answer (all ≡ own)
told answer slice all own same decides = subst (λ l. Decides answer (l ≡ own)) same decides

pub returns-then-are_indexes : goal.returns-then-are_indexes
unfolding digits
returns-then-are_indexes c =
    let schema = c.args.schema.now in
    let tables = told c.are_tables.result c.as_slice.result.now schema.tables store_schema.tables c.as_slice.ensures c.are_tables.ensures in
    elim c.if-are_tables.branch [
      | then-are_tables w ↦
          let indexes = told w.are_indexes.result w.as_slice-then-are_tables.result.now schema.indexes store_schema.indexes w.as_slice-then-are_tables.ensures w.are_indexes.ensures in (
            λ empty. from_parts schema (tables.0 w.if-are_tables.true) (indexes.0 (sym w.value-is ∙ c.if-are_indexes.true)) (c.is_empty.ensures.0 empty),
            λ same. c.is_empty.ensures.1 (ap (λ (s : Schema). s.views) same),
          )
      | else-are_tables w ↦ absurd (cc)
    ]

pub returns-else-are_indexes : goal.returns-else-are_indexes
unfolding digits
returns-else-are_indexes c =
    let schema = c.args.schema.now in
    let tables = told c.are_tables.result c.as_slice.result.now schema.tables store_schema.tables c.as_slice.ensures c.are_tables.ensures in
    elim c.if-are_tables.branch [
      | then-are_tables w ↦
          let indexes = told w.are_indexes.result w.as_slice-then-are_tables.result.now schema.indexes store_schema.indexes w.as_slice-then-are_tables.ensures w.are_indexes.ensures in
          (λ yes. absurd (cc), λ same. w.value-is ∙ indexes.1 (ap (λ (s : Schema). s.indexes) same))
      | else-are_tables w ↦ (λ yes. absurd (cc), λ same. w.value-is ∙ tables.1 (ap (λ (s : Schema). s.tables) same))
    ]

use Rattle.zeb_register.proofs.Cited.{Row, ◌≡◌, ◌≢◌, ◌↔◌, ◌<◌, ◌≤◌, ℕ, Option, List, ◌∷◌, length, map, drop, IfSome, MatchOption, sym, subst, KeyPosting, Record, key_posting_order, record_shown, IsBlockBefore, posting_shown, IsRunBefore, size_of}
use Rattle.std.specs.List.Sorted.{IsStrictlySortedBy}
use Rattle.zeb_register.proofs.RowReads.{EndsAt, block_ends, run_ends}
use Rattle.zeb_register.proofs.read_beside.row_end.Goals as goal

-- the place moves on, within the list
abbrev GoesOn : {A : Type 0} → ℕ → Option ℕ → List A → Type 0
GoesOn at found items = IfSome found (λ end. (at < end) × (end ≤ length items))

abbrev Shows : {A : Type 0} → (A → Row) → Row → ℕ → Option ℕ → List A → Type 0
Shows shown row at found items =
    MatchOption found ((more : List Row) → row ∷ more ≢ map shown (drop at items)) (λ end. (more : List Row) → (row ∷ more ≡ map shown (drop at items)) ↔ (more ≡ map shown (drop end items)))

abbrev Takes : (Row → List KeyPosting → List KeyPosting → Type 0) → Row → ℕ → Option ℕ → List KeyPosting → Type 0
Takes Before row at found items = MatchOption found ((rest : List KeyPosting) → ¬ Before row (drop at items) rest) (λ end. Before row (drop at items) (drop end items))

pub block_end-requires : goal.block_end-requires
block_end-requires c = subst (λ l. c.args.at ≤ length l) (sym c.deref-in-Blocks.ensures.value) (subst (λ t. c.args.at ≤ size_of t c.args.database.now) c.in-Blocks.is c.requires)

pub returns-in-Records-clause-further : goal.returns-in-Records-clause-further
returns-in-Records-clause-further c =
    let it = subst (λ (l : List Record). GoesOn c.args.at c.record_end.result l) c.deref.ensures.value c.record_end.ensures.further in
    subst (λ t. IfSome c.record_end.result (λ end. (c.args.at < end) × (end ≤ size_of t c.args.database.now))) (sym c.in-Records.is) it

pub returns-in-Records-clause-fits : goal.returns-in-Records-clause-fits
returns-in-Records-clause-fits c order =
    let it = subst (λ (l : List Record). Shows record_shown c.args.row.now c.args.at c.record_end.result l) c.deref.ensures.value c.record_end.ensures.fits in
    subst (λ t. EndsAt t c.args.database.now c.args.row.now c.args.at c.record_end.result) (sym c.in-Records.is) it

pub returns-in-Postings-clause-further : goal.returns-in-Postings-clause-further
returns-in-Postings-clause-further c =
    let it = subst (λ (l : List KeyPosting). GoesOn c.args.at c.posting_end.result l) c.deref-in-Postings.ensures.value c.posting_end.ensures.further in
    subst (λ t. IfSome c.posting_end.result (λ end. (c.args.at < end) × (end ≤ size_of t c.args.database.now))) (sym c.in-Postings.is) it

pub returns-in-Postings-clause-fits : goal.returns-in-Postings-clause-fits
returns-in-Postings-clause-fits c order =
    let it = subst (λ (l : List KeyPosting). Shows posting_shown c.args.row.now c.args.at c.posting_end.result l) c.deref-in-Postings.ensures.value c.posting_end.ensures.fits in
    subst (λ t. EndsAt t c.args.database.now c.args.row.now c.args.at c.posting_end.result) (sym c.in-Postings.is) it

pub returns-in-Blocks-clause-further : goal.returns-in-Blocks-clause-further
returns-in-Blocks-clause-further c =
    let it = subst (λ (l : List KeyPosting). GoesOn c.args.at c.block_end.result l) c.deref-in-Blocks.ensures.value c.block_end.ensures.further in
    subst (λ t. IfSome c.block_end.result (λ end. (c.args.at < end) × (end ≤ size_of t c.args.database.now))) (sym c.in-Blocks.is) it

pub returns-in-Blocks-clause-fits : goal.returns-in-Blocks-clause-fits
returns-in-Blocks-clause-fits c order =
    let it = subst (λ (l : List KeyPosting). Takes IsBlockBefore c.args.row.now c.args.at c.block_end.result l) c.deref-in-Blocks.ensures.value c.block_end.ensures.fits in
    subst (λ t. EndsAt t c.args.database.now c.args.row.now c.args.at c.block_end.result) (sym c.in-Blocks.is) (block_ends c.args.database.now c.args.row.now c.args.at c.block_end.result it)

pub returns-in-Dict-clause-further : goal.returns-in-Dict-clause-further
returns-in-Dict-clause-further c =
    let it = subst (λ (l : List KeyPosting). GoesOn c.args.at c.run_end.result l) c.deref-in-Dict.ensures.value c.run_end.ensures.further in
    subst (λ t. IfSome c.run_end.result (λ end. (c.args.at < end) × (end ≤ size_of t c.args.database.now))) (sym c.in-Dict.is) it

pub returns-in-Dict-clause-fits : goal.returns-in-Dict-clause-fits
returns-in-Dict-clause-fits c order =
    let it = subst (λ (l : List KeyPosting). IsStrictlySortedBy key_posting_order l → Takes IsRunBefore c.args.row.now c.args.at c.run_end.result l) c.deref-in-Dict.ensures.value c.run_end.ensures.fits order.1 in
    subst (λ t. EndsAt t c.args.database.now c.args.row.now c.args.at c.run_end.result) (sym c.in-Dict.is) (run_ends c.args.database.now c.args.row.now c.args.at c.run_end.result it)

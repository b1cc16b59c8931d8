-- What is said of tables that hold a content, after a look at whether the register is ready.
use Rattle.zeb_engine.proofs.Cited.{◌⊎◌, ℕ, List, Result, Ok, Err, IfErr, OnOk, sym, subst, Database, State, ChangesNothing, Trees, Content, Format, holds_in, store_same, Refusal, Reply, StaysOpen, Alone, IsSaid, RefusedAlone, Said, answer_of, refused, IsFailure, why_of}

-- what is answered by the registers alone
pub alone_after : (format : Format) (Says : Said) (name : List ℕ) (old mid new : State) (result : Result Reply Refusal) → ChangesNothing old mid → OnOk result (StaysOpen mid new)
    → Alone format Says name mid result → Alone format Says name old result
alone_after format Says name old mid new (Ok reply) nothing opened alone store content has =
    let same = nothing opened.0 in
    subst (λ (d : Database). IsSaid (Says d.trees content) name d.trees (answer_of (Ok reply))) same.1
    (alone (store_same old mid same.1 store) content (subst (λ (d : Database). holds_in format d.trees content) (sym same.1) has))
alone_after format Says name old mid new (Err refusal) nothing opened alone store content has = tt

-- why it is refused
pub refused_after : (format : Format) (Refuses : Trees → Content → Refusal → Type 0) (old mid : State) (result : Result Reply Refusal) → ChangesNothing old mid → StaysOpen old mid
    → RefusedAlone format Refuses mid result → RefusedAlone format Refuses old result
refused_after format Refuses old mid result nothing opened told store content storable has =
    let same = nothing opened.1 in
    subst (λ (d : Database). IfErr result (λ why. IsFailure (refused (why_of why)) ⊎ Refuses d.trees content why)) same.1
    (told (store_same old mid same.1 store) content storable (subst (λ (d : Database). holds_in format d.trees content) (sym same.1) has))

-- What a find or a scan reads, step by step.
use Rattle.zeb_engine.proofs.Cited.{◌≡◌, ℕ, ◌+◌, ◌-◌, ◌*◌, ◌≤◌, List, Result, Ok, Err, OnOk, arith, filter, length, sym, subst, take, length-drop, length-take, mul-add, mul-le-mul_left, Database, State, Trees, Register, Occurrence, TermCount, Work, ChangesNothing, Content, Format, holds_in, AreTermsBefore, AreTermsFrom, is_before, is_from, last, IsStore, Works, store_same, CountsAtMost, counts_then, counts_within, terms_count, Refusal, Reply, StaysOpen}

-- the first of a list, and the last, are at most so many
first_few : {X : Type 0} (n : ℕ) (xs : List X) → length (take n xs) ≤ n
first_few n xs = omega (arith, length-take n xs)

last_few : {X : Type 0} (n : ℕ) (xs : List X) → length (last n xs) ≤ n
last_few n xs = omega (arith, length-drop (length xs - n) xs)

-- the terms below the start, and those from it on
pub around_reads : (O : ℕ → Occurrence → Type 0) (index : ℕ) (register : Register) (start : List ℕ) (row_work number position below from : ℕ) (first rest : List TermCount) (a b c : Work)
    → below ≡ position - 1 → from ≡ number + 1 - position → 1 ≤ position → position ≤ number → AreTermsBefore O index register start below first → AreTermsFrom O index register start from rest
    → Works (row_work * length first) 0 0 0 a b → Works (row_work * length rest) 0 0 0 b c → CountsAtMost (row_work * (number + 1)) 0 a c
around_reads O index register start row_work number position below from first rest a b c of_below of_from least most are_first are_rest reads_first reads_rest =
    let before : length first ≤ below = subst (λ (l : List TermCount). length l ≤ below) (sym are_first.is) (last_few below (filter (is_before start) are_first.all)) in
    let behind : length rest ≤ from = subst (λ (l : List TermCount). length l ≤ from) (sym are_rest.is) (first_few from (filter (is_from start) are_rest.all)) in
    let few : length first + length rest ≤ number + 1 = omega (arith, before, behind, of_below, of_from, least, most) in
    let in_all : row_work * length first + row_work * length rest ≤ row_work * (number + 1) = omega (arith, mul-le-mul_left row_work few, mul-add row_work (length first) (length rest)) in
    counts_within (row_work * length first + row_work * length rest) (row_work * (number + 1)) 0 a c in_all
    (counts_then (row_work * length first) (row_work * length rest) 0 0 a b c (terms_count (row_work * length first) a b reads_first) (terms_count (row_work * length rest) b c reads_rest))

-- what is told of tables that hold a content, after a look that changed nothing
pub told_after : (format : Format) (Told : Trees → Content → Type 0) (old mid new : State) (result : Result Reply Refusal) → ChangesNothing old mid → OnOk result (StaysOpen mid new)
    → OnOk result (IsStore mid → (content : Content) → holds_in format mid.now.trees content → Told mid.now.trees content)
    → OnOk result (IsStore old → (content : Content) → holds_in format old.now.trees content → Told old.now.trees content)
told_after format Told old mid new (Ok reply) nothing opened told = λ store content has.
    let same = nothing opened.0 in
    subst (λ (d : Database). Told d.trees content) same.1 (told (store_same old mid same.1 store) content (subst (λ (d : Database). holds_in format d.trees content) (sym same.1) has))
told_after format Told old mid new (Err refusal) nothing opened told = tt

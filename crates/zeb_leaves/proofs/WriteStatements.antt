-- The statements that write leaves, each with what it is compiled to.
use Rattle.zeb_leaves.proofs.Cited.{arith, ◌≡◌, ◌∙◌, ◌∷◌, ℕ, ℤ, List, [], Ok, drop, refl, sym, ap, ap₂, inl, inr, Blob, Int, Null, Text, Row, State, IsStore, blocks_tree, store_schema, Executes, Term, col, lit, blocks, blocks_static, Condition, alone, equals, no_limit, reading, IsNumberedRow, Gains, Renews, Changes, HasMoreLeaves}
use Rattle.sqlite.proofs.Callers.{IsPlain, command_of}
use Rattle.sqlite.specs.Command.TheVariants.{Insert, Update}
use Rattle.sqlite.specs.Listing.{understood}
use Rattle.sqlite.specs.Source.TheVariants.{Values}
use Rattle.sqlite.specs.declared.types.Value.{Value}
use Rattle.sqlite_tied.specs.Compute.{everything}
use Rattle.zeb_leaves.specs.declared.writes.TheConstants.{ADD, SET}
use Rattle.zeb_register.proofs.RowCounts.{gained_longer, remade_as_many}
use Rattle.zeb_register.proofs.Writes.{RemakesRows, changed_so, gains, inserts, updates}

abbrev pub six : ℤ → ℤ → ℤ → List ℕ → ℤ → List ℕ → Row
six db idx reg term block bytes = Int db ∷ Int idx ∷ Int reg ∷ Text term ∷ Int block ∷ Blob bytes ∷ []

-- ---- INSERT

abbrev pub add_text : List ℕ
add_text = ADD.now

abbrev add_terms : List Term
add_terms = lit Null ∷ col 0 0 ∷ col 0 1 ∷ col 0 2 ∷ col 0 3 ∷ col 0 4 ∷ col 0 5 ∷ []

add_is : command_of (understood store_schema add_text) ≡ Insert 4 (Values add_terms 7)
unfolding understood everything
add_is = refl

add_plain : IsPlain (understood store_schema add_text)
unfolding understood everything
add_plain = (refl, refl)

pub adds_leaf : (db idx reg : ℤ) (term : List ℕ) (block : ℤ) (bytes : List ℕ) (old new : State) (count : ℕ) → IsStore old → Executes add_text (six db idx reg term block bytes) old new (Ok count)
    → Changes blocks_tree (Gains (six db idx reg term block bytes)) old new
adds_leaf db idx reg term block bytes old new count store ran =
    let row = six db idx reg term block bytes in
    gains store_schema 9 old new row (inserts store_schema 4 blocks blocks_static add_text row add_terms 7 row add_is add_plain refl refl old new count store ran).0

pub adds_one : (db idx reg : ℤ) (term : List ℕ) (block : ℤ) (bytes : List ℕ) (old new : State) (count : ℕ) → IsStore old → Executes add_text (six db idx reg term block bytes) old new (Ok count) → HasMoreLeaves 1 old.now.trees new.now.trees
adds_one db idx reg term block bytes old new count store ran =
    let row = six db idx reg term block bytes in
    gained_longer store_schema 4 blocks blocks_static old new store row (inserts store_schema 4 blocks blocks_static add_text row add_terms 7 row add_is add_plain refl refl old new count store ran).0

-- ---- UPDATE

abbrev pub set_text : List ℕ
set_text = SET.now

abbrev set_wheres : List Condition
set_wheres = equals 1 0 ∷ equals 2 1 ∷ equals 3 2 ∷ equals 4 3 ∷ equals 5 4 ∷ []

abbrev set_terms : List Term
set_terms = col 1 1 ∷ col 1 2 ∷ col 1 3 ∷ col 1 4 ∷ col 1 5 ∷ col 0 5 ∷ []

set_is : command_of (understood store_schema set_text) ≡ Update 4 (alone (reading 9 set_wheres (col 1 0 ∷ col 1 0 ∷ set_terms) [] no_limit))
unfolding understood everything
set_is = refl

set_plain : IsPlain (understood store_schema set_text)
unfolding understood everything
set_plain = (refl, refl)

five_shown : (db idx reg : ℤ) (term : List ℕ) (block : ℤ) (bytes : List ℕ) (one two three four five : Value) → one ≡ Int db → two ≡ Int idx → three ≡ Int reg → four ≡ Text term → five ≡ Int block
    → one ∷ two ∷ three ∷ four ∷ five ∷ Blob bytes ∷ [] ≡ six db idx reg term block bytes
five_shown db idx reg term block bytes one two three four five a b c d e =
    ap₂ (λ x y. x ∷ y ∷ three ∷ four ∷ five ∷ Blob bytes ∷ []) a b ∙ ap₂ (λ x y. Int db ∷ Int idx ∷ x ∷ y ∷ five ∷ Blob bytes ∷ []) c d ∙ ap (λ x. Int db ∷ Int idx ∷ Int reg ∷ Text term ∷ x ∷ Blob bytes ∷ []) e

pub sets_leaf : (db idx reg : ℤ) (term : List ℕ) (block : ℤ) (bytes : List ℕ) (old new : State) (count : ℕ) → IsStore old → Executes set_text (six db idx reg term block bytes) old new (Ok count)
    → Changes blocks_tree (Renews (IsNumberedRow db idx reg term block) (six db idx reg term block bytes)) old new
sets_leaf db idx reg term block bytes old new count store ran =
    let row = six db idx reg term block bytes in
    let done = updates store_schema 4 blocks blocks_static set_text row set_wheres (col 1 0) set_terms set_is set_plain refl refl refl old new count store ran in
    changed_so store_schema 9 (RemakesRows set_wheres (col 1 0 ∷ set_terms) row) (Renews (IsNumberedRow db idx reg term block) row) old new (λ each there columns. (
      λ h. elim ((each (Int h.0 ∷ columns)).0 h.1) [
        | inl kept ↦ inl ((h.0, kept.0), λ p. kept.1 (p.0, (p.1, (p.2, (p.3, (p.4, tt))))))
        | inr made ↦
            let m = made.2 in
            inr (ap (drop 1) made.3 ∙ five_shown db idx reg term block bytes _ _ _ _ _ m.0 m.1.0 m.1.1.0 m.1.1.1.0 m.1.1.1.1.0)
      ],
      λ h. elim h [
        | inl kept ↦ (kept.0.0, (each (Int kept.0.0 ∷ columns)).1 (inl (kept.0.1, λ m. kept.1 (m.0, m.1.0, m.1.1.0, m.1.1.1.0, m.1.1.1.1.0))))
        | inr same ↦
            let id = there.1.0 in
            let p = there.2 in
            let is = ap (λ c. Int id ∷ c) (same ∙ sym (five_shown db idx reg term block bytes _ _ _ _ _ p.0 p.1 p.2 p.3 p.4)) in
            (id, (each (Int id ∷ columns)).1 (inr (Int id ∷ there.0, there.1.1, (p.0, (p.1, (p.2, (p.3, (p.4, tt))))), is)))
      ],
    )) done

pub sets_none : (db idx reg : ℤ) (term : List ℕ) (block : ℤ) (bytes : List ℕ) (old new : State) (count : ℕ) → IsStore old → Executes set_text (six db idx reg term block bytes) old new (Ok count) → HasMoreLeaves 0 old.now.trees new.now.trees
sets_none db idx reg term block bytes old new count store ran =
    let row = six db idx reg term block bytes in
    let many = remade_as_many store_schema 4 blocks blocks_static old new store row set_wheres set_terms refl (updates store_schema 4 blocks blocks_static set_text row set_wheres (col 1 0) set_terms set_is set_plain refl refl refl old new count store ran) in
    omega (arith, many)

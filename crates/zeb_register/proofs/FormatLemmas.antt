-- What holds of registers in every format.
use Rattle.zeb_register.proofs.Cited.{State, Trees, Int, Has, ◌≡◌, ◌∙◌, ℕ, ℤ, List, [], ◌∷◌, sym, ap, subst, refl, get_or, arith, Register, TermCount, Content, HasRisingLists, IsWithout, posted, Format, packed_blocks, packed_leaves, plain_rows, version_of, holds_in, AreTermsOf, HoldsRows, DropsRegisters, Loses, Changes, IsOfDatabase, KeepsRegisters, LacksRegisters, TakesDatabase, databases_tree, records_tree}
use Rattle.std.specs.List.Sorted.{IsStrictlySortedBy}
use Rattle.zeb_register.proofs.ContentLemmas.{one_content}
use Rattle.zeb_register.proofs.LeafContents.{leaves_empty, leaves_hold_one, leaves_stay}
use Rattle.zeb_register.proofs.LeafTerms.{leaves_have_terms}
use Rattle.zeb_register.proofs.PackedLemmas.{blocks_empty, blocks_have_terms, blocks_hold_one, blocks_stay, blocks_without}
use Rattle.zeb_register.proofs.PlaceLemmas.{rows_without}
use Rattle.zeb_register.proofs.TakenLeaves.{leaves_dropped}
use Rattle.zeb_register.proofs.TermRows.{held_terms}

-- what the tables hold is told by the tables of the registers alone
rows_stay : (old new : Trees) (content : Content) → KeepsRegisters old new → HoldsRows old content → HoldsRows new content
rows_stay old new content kept holds = record {
  rising = holds.rising;
  each = λ row. (
    λ h. (holds.each row).0 (h.0, subst (λ rows. Has rows (Int h.0 ∷ row)) kept.0 h.1),
    λ h. let there = (holds.each row).1 h in (there.0, subst (λ rows. Has rows (Int there.0 ∷ row)) (sym kept.0) there.1),
  );
  alone = (kept.1 ∙ holds.alone.0, kept.2 ∙ holds.alone.1);
}

-- tables without a row hold no posting
rows_empty : (trees : Trees) → LacksRegisters trees → HoldsRows trees (λ db key. [])
unfolding IsStrictlySortedBy
rows_empty trees none = record {
  rising = λ db key. tt;
  each = λ row. (λ h. absurd (subst (λ rows. Has rows (Int h.0 ∷ row)) none.0 h.1), λ h. absurd h.3);
  alone = (none.1, none.2);
}

-- what the tables hold is told by the tables of the registers alone
pub registers_stay : (format : Format) (old new : Trees) (content : Content) → KeepsRegisters old new → holds_in format old content → holds_in format new content
registers_stay plain_rows = rows_stay
registers_stay packed_blocks = blocks_stay
registers_stay packed_leaves = leaves_stay

-- tables without a row hold no posting
pub registers_empty : (format : Format) (trees : Trees) → LacksRegisters trees → holds_in format trees (λ db key. [])
registers_empty plain_rows = rows_empty
registers_empty packed_blocks = blocks_empty
registers_empty packed_leaves = leaves_empty

-- what tables hold is one content at most
pub registers_hold_one : (format : Format) (trees : Trees) (one two : Content) → holds_in format trees one → holds_in format trees two → one ≡ two
registers_hold_one plain_rows trees one two left right = λ i db key. one_content trees one two db key left right i
registers_hold_one packed_blocks trees one two left right = λ i db key. blocks_hold_one trees one two db key left right i
registers_hold_one packed_leaves trees one two left right = leaves_hold_one trees one two left right

-- each of its lists rises
pub registers_rise : (format : Format) (trees : Trees) (content : Content) → holds_in format trees content → HasRisingLists content
registers_rise plain_rows trees content holds = holds.rising
registers_rise packed_blocks trees content holds = holds.rising
registers_rise packed_leaves trees content holds = holds.rising

-- each register has a list of its terms
pub registers_have_terms : (format : Format) (trees : Trees) (content : Content) (db : ℤ) (index : ℕ) (register : Register) → holds_in format trees content
    → (terms : List TermCount) × AreTermsOf (posted content db) index register terms
registers_have_terms plain_rows = held_terms
registers_have_terms packed_blocks = blocks_have_terms
registers_have_terms packed_leaves = λ trees content db index register holds. leaves_have_terms trees content holds db index register

-- the registers hold what is left where a database is taken
pub registers_without : (format : Format) (db : ℤ) (a b c d : State) → DropsRegisters db a b → Changes records_tree (Loses (IsOfDatabase db)) b c → Changes databases_tree (TakesDatabase db) c d
    → (before after : Content) → holds_in format a.now.trees before → IsWithout db before after → holds_in format d.now.trees after
registers_without plain_rows = rows_without
registers_without packed_blocks = blocks_without
registers_without packed_leaves = leaves_dropped

-- no two formats have one version
pub one_format : (one two : Format) → version_of one ≡ version_of two → one ≡ two
one_format plain_rows plain_rows same = refl
one_format packed_blocks packed_blocks same = refl
one_format packed_leaves packed_leaves same = refl
one_format plain_rows packed_blocks same = absurd (omega (arith, ap (λ (l : List ℕ). get_or l 0 0) same))
one_format plain_rows packed_leaves same = absurd (omega (arith, ap (λ (l : List ℕ). get_or l 0 0) same))
one_format packed_blocks plain_rows same = absurd (omega (arith, ap (λ (l : List ℕ). get_or l 0 0) same))
one_format packed_blocks packed_leaves same = absurd (omega (arith, ap (λ (l : List ℕ). get_or l 0 0) same))
one_format packed_leaves plain_rows same = absurd (omega (arith, ap (λ (l : List ℕ). get_or l 0 0) same))
one_format packed_leaves packed_blocks same = absurd (omega (arith, ap (λ (l : List ℕ). get_or l 0 0) same))

-- A run of keys that are changed, and then another, told as the run of all these keys.
use Rattle.zeb_change.proofs.Cited.{◌∙◌, ◌++◌, ℕ, ℤ, List, sym, inl, inr, Has, all_from, all_has, has_either, has_left, has_right, Row, Trees, Key, RecordChange, Format}
use Rattle.zeb_register.specs.Formats.{packed_blocks, packed_leaves, plain_rows}
use Rattle.zeb_register.specs.RunChanges.{IsAmong, IsCountAmong, IsOwnCount, IsUnitAmong, KeysRise, PutsKeys, TurnsAny, puts_run_rows, run_key}
use Rattle.zeb_register.specs.Store.{blocks_tree, dict_tree, postings_tree}
use Rattle.zeb_register.specs.UnitChanges.{IsBlockAmong, IsOwnBlock, IsOwnPlace, IsPlaceAmong, KeepsBut}
use Rattle.zeb_register.specs.declared.registers.KeyChanges.{KeyChanges}
use Rattle.zeb_register.proofs.AlikeRows.{are_alike, alike_back, turns_from, turns_to}
use Rattle.zeb_register.proofs.KeptLeaves.{kept_then}
use Rattle.zeb_register.proofs.RunRows.{beside_alike, rows_beside}
use Rattle.zeb_change.proofs.ChangeKeysContent.{keeps_then}
use Rattle.zeb_change.proofs.NotedEntries.{keys_apart_by}

module _ (front back : List KeyChanges) (old mid new : Trees) where
  in_front : (Of : Key → List RecordChange → Row → Type 0) (row : Row) → IsAmong Of front row → IsAmong Of (front ++ back) row
  in_front Of row among = (among.0, has_left front back among.0 among.1, among.2)

  in_back : (Of : Key → List RecordChange → Row → Type 0) (row : Row) → IsAmong Of back row → IsAmong Of (front ++ back) row
  in_back Of row among = (among.0, has_right front back among.0 among.1, among.2)

  both_kept : (These Such : Key → List RecordChange → Row → Type 0) (tree : ℕ) → KeepsBut (IsAmong These front) (IsAmong Such front) tree old mid → KeepsBut (IsAmong These back) (IsAmong Such back) tree mid new
      → KeepsBut (IsAmong These (front ++ back)) (IsAmong Such (front ++ back)) tree old new
  both_kept These Such tree one two = record {
    stays = λ row out there. two.stays row (λ among. out (in_back These row among)) (one.stays row (λ among. out (in_front These row among)) there);
    comes = λ row there. elim (two.comes row there) [
      | inr own ↦ inr (in_back Such row own)
      | inl was ↦ elim (one.comes row was.0) [
        | inr own ↦ inr (in_front Such row own)
        | inl first ↦ inl (first.0, λ among. elim (has_either front back among.0 among.1) [ inl here ↦ first.1 (among.0, here, among.2) | inr here ↦ was.1 (among.0, here, among.2) ])
      ]
    ];
  }

  both_rows : (format : Format) (db : ℤ) → puts_run_rows format db front old mid → puts_run_rows format db back mid new → puts_run_rows format db (front ++ back) old new
  both_rows plain_rows db one two = record {
    postings = both_kept (IsPlaceAmong db) (IsOwnPlace db) postings_tree one.postings two.postings;
    blocks = two.blocks ∙ one.blocks;
    dict = two.dict ∙ one.dict;
  }
  both_rows packed_blocks db one two = record {
    blocks = both_kept (IsBlockAmong db) (IsOwnBlock db) blocks_tree one.blocks two.blocks;
    dict = both_kept (IsCountAmong db) (IsOwnCount db) dict_tree one.dict two.dict;
    postings = two.postings ∙ one.postings;
  }
  both_rows packed_leaves db one two = kept_then db (IsUnitAmong front) (IsUnitAmong back) (IsUnitAmong (front ++ back))
      (λ key n it. (it.0, has_left front back it.0 it.1, it.2)) (λ key n it. (it.0, has_right front back it.0 it.1, it.2)) old mid new one two

  pub runs_then : (format : Format) (db : ℤ) → KeysRise (front ++ back) → PutsKeys format db front old mid → PutsKeys format db back mid new → PutsKeys format db (front ++ back) old new
  runs_then format db rise one two = record {
    each = all_from (λ (y : KeyChanges). TurnsAny format db y.key.now y.changes.now old new) (front ++ back) (λ y here. elim (has_either front back y here) [
      | inl first ↦ turns_to format db y.key.now mid new (after y first) y.changes.now old (all_has (λ (z : KeyChanges). TurnsAny format db z.key.now z.changes.now old mid) front y one.each first)
      | inr later ↦ turns_from format db y.key.now mid old (alike_back format db y.key.now old mid (before y later)) y.changes.now new (all_has (λ (z : KeyChanges). TurnsAny format db z.key.now z.changes.now mid new) back y two.each later)
    ]);
    rows = both_rows format db one.rows two.rows;
    lists = keeps_then old mid new one.lists two.lists;
  }
    where
      after : (y : KeyChanges) → Has front y → are_alike format db y.key.now mid new
      after y first = beside_alike format db back y.key.now mid new (λ it. keys_apart_by run_key front back rise y it.0 first it.1 it.2) (rows_beside format db back mid new two.rows)

      before : (y : KeyChanges) → Has back y → are_alike format db y.key.now old mid
      before y later = beside_alike format db front y.key.now old mid (λ it. keys_apart_by run_key front back rise it.0 y it.1 later (sym it.2)) (rows_beside format db front old mid one.rows)

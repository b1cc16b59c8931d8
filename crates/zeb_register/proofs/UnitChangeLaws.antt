-- What follows of changes of a key's units, in each format: for tables that hold a content, and for rows whatever they say.
use Rattle.zeb_register.proofs.Cited.{◌≡◌, ℤ, ℕ, List, [], ◌∷◌, refl, sym, subst, AllByRecursion, Trees, Key, RecordChange, AreChangedAt, Content, IsStorable, Format, holds_in, packed_blocks, packed_leaves, plain_rows, key_row, postings_tree, blocks_tree, dict_tree, keeps_malformed, OldsRise, KeepsLists, AllowsChanges, IsStorableChange, IsUnitTouched, KeyUnits, PutsAny, PutsUnits, keeps_others}
use Rattle.zeb_register.proofs.FormatLemmas.{registers_stay}
use Rattle.zeb_register.proofs.KeptLeaves.{kept_same}
use Rattle.zeb_register.proofs.LeafChanges as leaves
use Rattle.zeb_register.proofs.ListChanges.{content_none, one_content_changed}
use Rattle.zeb_register.proofs.Malformed.{beside_same, malformed_same}
use Rattle.zeb_register.proofs.PackedKeyLaws as packed
use Rattle.zeb_register.proofs.PlainKeyLaws as plain

-- ---- changed units

pub content_held : (format : Format) (db : ℤ) (key : Key) (changes : List RecordChange) (old new : Trees) → PutsUnits format db key changes old new → (before after : Content) → holds_in format old before → AreChangedAt db key changes before after → holds_in format new after
content_held plain_rows db key changes old new puts before after holds change = plain.content_held db key changes old before holds new puts after change
content_held packed_blocks db key changes old new puts before after holds change = packed.content_held db key changes old before holds new puts after change
content_held packed_leaves db key changes old new puts before after holds change = leaves.content_held db key changes old new puts before after holds change

pub change_there : (format : Format) (db : ℤ) (key : Key) (changes : List RecordChange) (old new : Trees) → PutsUnits format db key changes old new → (content : Content) → holds_in format old content → (after : Content) × AreChangedAt db key changes content after
change_there plain_rows db key changes old new puts content holds = plain.change_there db key changes old content holds new puts
change_there packed_blocks db key changes old new puts content holds = packed.change_there db key changes old content holds new puts
change_there packed_leaves db key changes old new puts content holds = leaves.change_there db key changes old new puts content holds

pub allows_held : (format : Format) (db : ℤ) (key : Key) (changes : List RecordChange) (trees : Trees) (content : Content) → holds_in format trees content → IsStorable content → AllByRecursion IsStorableChange changes → OldsRise changes
    → (after : Content) → AreChangedAt db key changes content after → (were : KeyUnits) × (are : KeyUnits) × AllowsChanges format db key changes trees were are
allows_held plain_rows db key changes trees content holds = plain.allows_held db key changes trees content holds
allows_held packed_blocks db key changes trees content holds = packed.allows_held db key changes trees content holds
allows_held packed_leaves db key changes trees content holds = leaves.allows_held db key changes trees content holds

pub rows_beside : (format : Format) (db : ℤ) (key : Key) (changes : List RecordChange) (old new : Trees) → PutsUnits format db key changes old new → keeps_others format db key changes old new
rows_beside plain_rows = plain.rows_beside
rows_beside packed_blocks = packed.rows_beside
rows_beside packed_leaves = λ db key changes old new puts. puts.rows

pub malformed_kept : (format : Format) (db : ℤ) (key : Key) (changes : List RecordChange) (old new : Trees) → PutsUnits format db key changes old new → keeps_malformed format old new
malformed_kept plain_rows = plain.malformed_kept
malformed_kept packed_blocks = packed.malformed_kept
malformed_kept packed_leaves = leaves.malformed_kept

-- ---- changed units, or none

-- what holds of changed units, and of rows that stay, holds of either
any_so : (format : Format) (db : ℤ) (key : Key) (changes : List RecordChange) (old new : Trees) (P : Type 0) → PutsAny format db key changes old new → (changes ≡ [] → ((tree : ℕ) → new tree ≡ old tree) → P) → (PutsUnits format db key changes old new → P) → P
any_so format db key [] old new P puts none some = none refl puts
any_so format db key (change ∷ changes) old new P puts none some = some puts

-- where each table is as it was, so is what isn't the key's
others_same : (format : Format) (db : ℤ) (key : Key) (changes : List RecordChange) (old new : Trees) → ((tree : ℕ) → new tree ≡ old tree) → keeps_others format db key changes old new
others_same plain_rows db key changes old new same = beside_same (key_row db key) old new (same postings_tree, same blocks_tree, same dict_tree)
others_same packed_blocks db key changes old new same = beside_same (key_row db key) old new (same postings_tree, same blocks_tree, same dict_tree)
others_same packed_leaves db key changes old new same = kept_same db (IsUnitTouched key changes) old new same

module _ (format : Format) (db : ℤ) (key : Key) (changes : List RecordChange) (old new : Trees) (puts : PutsAny format db key changes old new) where
  pub any_held : (before after : Content) → holds_in format old before → AreChangedAt db key changes before after → holds_in format new after
  any_held before after holds change = any_so format db key changes old new (holds_in format new after) puts
      (λ none same.
      let alone = subst (λ l. AreChangedAt db key l before after) none change in
      subst (holds_in format new) (one_content_changed db key [] before before after (content_none db key before) alone)
      (registers_stay format old new before (same postings_tree, same blocks_tree, same dict_tree) holds))
      (λ units. content_held format db key changes old new units before after holds change)

  pub any_there : (content : Content) → holds_in format old content → (after : Content) × AreChangedAt db key changes content after
  any_there content holds = any_so format db key changes old new ((after : Content) × AreChangedAt db key changes content after) puts
      (λ none same. (content, subst (λ l. AreChangedAt db key l content content) (sym none) (content_none db key content)))
      (λ units. change_there format db key changes old new units content holds)

  pub any_lists : KeepsLists old new
  any_lists = any_so format db key changes old new (KeepsLists old new) puts (λ none same. (same 0, same 2, same 4)) (λ units. units.lists)

  pub any_malformed : keeps_malformed format old new
  any_malformed = any_so format db key changes old new (keeps_malformed format old new) puts
      (λ none same. malformed_same format old new (same blocks_tree) (same dict_tree)) (λ units. malformed_kept format db key changes old new units)

  pub any_beside : keeps_others format db key changes old new
  any_beside = any_so format db key changes old new (keeps_others format db key changes old new) puts
      (λ none same. others_same format db key changes old new same) (λ units. rows_beside format db key changes old new units)

-- What follows of changes of the keys of a run, in each format: for tables that hold a content, and for rows whatever they say.
use Rattle.zeb_register.proofs.Cited.{◌≡◌, ◌≢◌, ◌∙◌, ℤ, pos, Int, Text, register_code, List, [], ◌∷◌, ◌++◌, refl, sym, ap, ap₂, subst, inl, inr, AllByRecursion, Has, all_from, all_has, Row, Trees, Key, AreListChanges, AreChangedAt, Content, IsStorable, Posting, Format, holds_in, packed_blocks, packed_leaves, plain_rows, key_row, KeepsRowsBeside, keeps_malformed, OldsRise, AreChangedBy, IsUnitAmong, KeepsBesideRun, KeysRise, PutsKeys, keeps_run_others, puts_run_rows, AllowsChanges, IsStorableChange, KeyUnits, KeyChanges}
use Rattle.std.specs.List.Sorted.{IsStrictlySortedBy}
use Rattle.zeb_register.specs.Formats.{KeepsRows}
use Rattle.zeb_register.proofs.ContentChanges.{told_spot, with_list, with_list_here, with_list_there}
use Rattle.zeb_register.proofs.KeptLeaves.{kept_beside}
use Rattle.zeb_register.proofs.LeafRuns as leaves
use Rattle.zeb_register.proofs.ListChanges.{content_changed}
use Rattle.zeb_register.proofs.Malformed.{malformed_same, malformed_then}
use Rattle.zeb_register.proofs.RunRows as rows
use Rattle.zeb_register.proofs.RunSplits.{parted}
use Rattle.zeb_register.proofs.RunTurns.{stands_once}
use Rattle.zeb_register.proofs.UnitChangeLaws.{allows_held, any_held, any_malformed, any_there}

-- ---- a run without a key

none_held : (format : Format) → KeepsRows format → (db : ℤ) (old new : Trees) (content : Content) → puts_run_rows format db [] old new → holds_in format old content → holds_in format new content
none_held plain_rows keeps db old new content rows holds = record {
  rising = holds.rising;
  each = λ row. (
    λ there. (holds.each row).0 (elim (rows.postings.comes row there) [ inl was ↦ was.0 | inr own ↦ absurd own.1 ]),
    λ it. rows.postings.stays row (λ among. among.1) ((holds.each row).1 it),
  );
  alone = (rows.blocks ∙ holds.alone.0, rows.dict ∙ holds.alone.1);
}
none_held packed_leaves keeps db old new content rows holds = absurd keeps
none_held packed_blocks keeps db old new content rows holds = record {
  rising = holds.rising;
  numbered = holds.numbered;
  blocks = λ row. (
    λ there. (holds.blocks row).0 (elim (rows.blocks.comes row there) [ inl was ↦ was.0 | inr own ↦ absurd own.1 ]),
    λ it. rows.blocks.stays row (λ among. among.1) ((holds.blocks row).1 it),
  );
  dict = λ row. (
    λ there. (holds.dict row).0 (elim (rows.dict.comes row there) [ inl was ↦ was.0 | inr own ↦ absurd own.1 ]),
    λ it. rows.dict.stays row (λ among. among.1) ((holds.dict row).1 it),
  );
  alone = rows.postings ∙ holds.alone;
}

none_malformed : (format : Format) → KeepsRows format → (db : ℤ) (old new : Trees) → puts_run_rows format db [] old new → keeps_malformed format old new
none_malformed plain_rows keeps db old new rows = malformed_same plain_rows old new rows.blocks rows.dict
none_malformed packed_leaves keeps db old new rows = absurd keeps
none_malformed packed_blocks keeps db old new rows = record {
  blocks = λ row bad there. rows.blocks.stays row (λ among. among.1) there;
  dict = λ row bad there. rows.dict.stays row (λ among. among.1) there;
}

-- ---- contents, key by key

module _ (db : ℤ) (x : KeyChanges) (xs : List KeyChanges) (rise : KeysRise (x ∷ xs)) where
  abbrev key : Key
  key = x.key.now

  other_key : (y : KeyChanges) → Has xs y → ¬ ((db ≡ db) × (y.key.now ≡ key))
  other_key y here same = stands_once x xs rise (y, here, same.1)

  -- what the first key's changes make of the content, and then the others'
  first_changed : (before after : Content) → AreChangedBy db (x ∷ xs) before after → AreChangedAt db key x.changes.now before (with_list db key (after db key) before)
  first_changed before after change = content_changed db key x.changes.now before (after db key) change.lists.0

  then_changed : (before after : Content) → AreChangedBy db (x ∷ xs) before after → AreChangedBy db xs (with_list db key (after db key) before) after
  then_changed before after change = record {
    lists = all_from (λ (y : KeyChanges). AreListChanges y.changes.now (with_list db key (after db key) before db y.key.now) (after db y.key.now)) xs (λ y here.
        subst (λ l. AreListChanges y.changes.now l (after db y.key.now)) (sym (with_list_there db key (after db key) before db y.key.now (other_key y here)))
        (all_has (λ (z : KeyChanges). AreListChanges z.changes.now (before db z.key.now) (after db z.key.now)) xs y change.lists.1 here));
    others = λ d k out. elim (told_spot d db k key) [
      | inl same ↦ ap₂ after same.0 same.1 ∙ sym (with_list_here db key (after db key) before) ∙ sym (ap₂ (with_list db key (after db key) before) same.0 same.1)
      | inr other ↦ change.others d k (λ it. elim it.1.1 [
        | inl first ↦ other (it.0, sym it.1.2 ∙ ap (λ (z : KeyChanges). z.key.now) first)
        | inr later ↦ out (it.0, (it.1.0, later, it.1.2))
      ]) ∙ sym (with_list_there db key (after db key) before d k other)
    ];
  }

  pub both_changed : (before mid after : Content) → AreChangedAt db key x.changes.now before mid → AreChangedBy db xs mid after → AreChangedBy db (x ∷ xs) before after
  both_changed before mid after one two = record {
    lists = (
      subst (AreListChanges x.changes.now (before db key)) (sym (two.others db key (λ it. stands_once x xs rise it.1))) one.list,
      all_from (λ (y : KeyChanges). AreListChanges y.changes.now (before db y.key.now) (after db y.key.now)) xs (λ y here.
          subst (λ l. AreListChanges y.changes.now l (after db y.key.now)) (one.others db y.key.now (other_key y here))
          (all_has (λ (z : KeyChanges). AreListChanges z.changes.now (mid db z.key.now) (after db z.key.now)) xs y two.lists here)),
    );
    others = λ d k out.
        two.others d k (λ it. out (it.0, (it.1.0, inr it.1.1, it.1.2)))
        ∙ one.others d k (λ same. out (same.0, (x, inl refl, sym same.1)));
  }

  -- and where the others' are changed first
  pub last_changed : (before mid : Content) (list : List Posting) → AreChangedBy db xs before mid → AreListChanges x.changes.now (before db key) list → AreChangedBy db (x ∷ xs) before (with_list db key list mid)
  last_changed before mid list two one = record {
    lists = (
      subst (AreListChanges x.changes.now (before db key)) (sym (with_list_here db key list mid)) one,
      all_from (λ (y : KeyChanges). AreListChanges y.changes.now (before db y.key.now) (with_list db key list mid db y.key.now)) xs (λ y here.
          subst (AreListChanges y.changes.now (before db y.key.now)) (sym (with_list_there db key list mid db y.key.now (other_key y here)))
          (all_has (λ (z : KeyChanges). AreListChanges z.changes.now (before db z.key.now) (mid db z.key.now)) xs y two.lists here)),
    );
    others = λ d k out.
        with_list_there db key list mid d k (λ same. out (same.0, (x, inl refl, sym same.1)))
        ∙ two.others d k (λ it. out (it.0, (it.1.0, inr it.1.1, it.1.2)));
  }

-- a run without a key changes nothing
pub none_changed : (db : ℤ) (content : Content) → AreChangedBy db [] content content
none_changed db content = record { lists = tt; others = λ d k out. refl }

-- ---- a run whose keys have rows of their own

rows_held : (format : Format) → KeepsRows format → (db : ℤ) (run : List KeyChanges) (old new : Trees) → KeysRise run → PutsKeys format db run old new → (before after : Content) → holds_in format old before → AreChangedBy db run before after → holds_in format new after
unfolding IsStrictlySortedBy
rows_held format keeps db [] old new rise puts before after holds change =
    let same : before ≡ after = λ i d k. sym (change.others d k (λ it. it.1.1)) i in
    subst (holds_in format new) same (none_held format keeps db old new before puts.rows holds)
rows_held format keeps db (x ∷ xs) old new rise puts before after holds change =
    let it = parted db x xs rise old new format keeps puts in
    let mid = with_list db x.key.now (after db x.key.now) before in
    rows_held format keeps db xs it.0 new rise.1 it.2 mid after
    (any_held format db x.key.now x.changes.now old it.0 it.1 before mid holds (first_changed db x xs rise before after change)) (then_changed db x xs rise before after change)

rows_there : (format : Format) → KeepsRows format → (db : ℤ) (run : List KeyChanges) (old new : Trees) → KeysRise run → PutsKeys format db run old new → (content : Content) → holds_in format old content → (after : Content) × AreChangedBy db run content after
unfolding IsStrictlySortedBy
rows_there format keeps db [] old new rise puts content holds = (content, none_changed db content)
rows_there format keeps db (x ∷ xs) old new rise puts content holds =
    let it = parted db x xs rise old new format keeps puts in
    let first = any_there format db x.key.now x.changes.now old it.0 it.1 content holds in
    let held = any_held format db x.key.now x.changes.now old it.0 it.1 content first.0 holds first.1 in
    let rest = rows_there format keeps db xs it.0 new rise.1 it.2 first.0 held in
    (rest.0, both_changed db x xs rise content first.0 rest.0 first.1 rest.1)

rows_malformed : (format : Format) → KeepsRows format → (db : ℤ) (run : List KeyChanges) (old new : Trees) → KeysRise run → PutsKeys format db run old new → keeps_malformed format old new
unfolding IsStrictlySortedBy
rows_malformed format keeps db [] old new rise puts = none_malformed format keeps db old new puts.rows
rows_malformed format keeps db (x ∷ xs) old new rise puts =
    let it = parted db x xs rise old new format keeps puts in
    malformed_then format old it.0 new (any_malformed format db x.key.now x.changes.now old it.0 it.1) (rows_malformed format keeps db xs it.0 new rise.1 it.2)

-- ---- lists of all keys, each changed on its own

lists_changed : (db : ℤ) (run : List KeyChanges) (content : Content) → KeysRise run → ((one : KeyChanges) → Has run one → (list : List Posting) × AreListChanges one.changes.now (content db one.key.now) list) → (after : Content) × AreChangedBy db run content after
unfolding IsStrictlySortedBy
lists_changed db [] content rise lists = (content, none_changed db content)
lists_changed db (x ∷ xs) content rise lists =
    let rest = lists_changed db xs content rise.1 (λ one here. lists one (inr here)) in
    let first = lists x (inl refl) in
    (with_list db x.key.now first.0 rest.0, last_changed db x xs rise content rest.0 first.0 rest.1 first.1)

-- ---- a run in each format

pub run_held : (format : Format) (db : ℤ) (run : List KeyChanges) (old new : Trees) → KeysRise run → PutsKeys format db run old new → (before after : Content) → holds_in format old before → AreChangedBy db run before after → holds_in format new after
run_held plain_rows = rows_held plain_rows tt
run_held packed_blocks = rows_held packed_blocks tt
run_held packed_leaves = λ db run old new rise puts. leaves.run_held db run old new puts

pub run_there : (format : Format) (db : ℤ) (run : List KeyChanges) (old new : Trees) → KeysRise run → PutsKeys format db run old new → (content : Content) → holds_in format old content → (after : Content) × AreChangedBy db run content after
run_there plain_rows = rows_there plain_rows tt
run_there packed_blocks = rows_there packed_blocks tt
run_there packed_leaves = λ db run old new rise puts content holds. lists_changed db run content rise (leaves.lists_there db run old new puts content holds)

pub run_malformed : (format : Format) (db : ℤ) (run : List KeyChanges) (old new : Trees) → KeysRise run → PutsKeys format db run old new → keeps_malformed format old new
run_malformed plain_rows = rows_malformed plain_rows tt
run_malformed packed_blocks = rows_malformed packed_blocks tt
run_malformed packed_leaves = λ db run old new rise puts. leaves.run_malformed db run old new puts

pub run_beside : (format : Format) (db : ℤ) (run : List KeyChanges) (old new : Trees) → PutsKeys format db run old new → keeps_run_others format db run old new
run_beside format db run old new puts = rows.rows_beside format db run old new puts.rows

-- what is beside the rows of a database is beside those of each key
rows_of_database : (db : ℤ) (run : List KeyChanges) (old new : Trees) → KeepsBesideRun db run old new → KeepsRowsBeside (Int db ∷ []) old new
rows_of_database db run old new kept = record {
  postings = λ row other. kept.postings row (apart row other);
  blocks = λ row other. kept.blocks row (apart row other);
  dict = λ row other. kept.dict row (apart row other);
}
  where
    apart : (row : Row) → ((rest : Row) → row ≢ (Int db ∷ []) ++ rest) → (one : KeyChanges) (rest : Row) → Has run one → row ≢ key_row db one.key.now ++ rest
    apart row other one rest here = other (Int (pos one.key.now.index) ∷ Int (pos (register_code one.key.now.register)) ∷ Text one.key.now.term ∷ rest)

pub beside_database : (format : Format) (db : ℤ) (run : List KeyChanges) (old new : Trees) → keeps_run_others format db run old new → KeepsRowsBeside (Int db ∷ []) old new
beside_database plain_rows = rows_of_database
beside_database packed_blocks = rows_of_database
beside_database packed_leaves = λ db run old new kept. kept_beside db (IsUnitAmong run) old new kept

-- the rows that hold a content allow the changes of each key that are those of a content
pub run_allowed : (format : Format) (db : ℤ) (run : List KeyChanges) (trees : Trees) (content : Content) → holds_in format trees content → IsStorable content → (after : Content) → AreChangedBy db run content after
    → (one : KeyChanges) → Has run one → AllByRecursion IsStorableChange one.changes.now → OldsRise one.changes.now
    → (were : KeyUnits) × (are : KeyUnits) × AllowsChanges format db one.key.now one.changes.now trees were are
run_allowed format db run trees content holds storable after change one here stored rise =
    let key = one.key.now in
    let list = all_has (λ (z : KeyChanges). AreListChanges z.changes.now (content db z.key.now) (after db z.key.now)) run one change.lists here in
    allows_held format db key one.changes.now trees content holds storable stored rise (with_list db key (after db key) content) (content_changed db key one.changes.now content (after db key) list)

-- Rows of the keys of a run: those of a call on one key, and those of two calls in turn.
use Rattle.zeb_register.proofs.Cited.{◌≡◌, ◌≢◌, ◌∙◌, ◌++◌, ◌≤◌, ℕ, ℤ, zero, suc, pos, List, [], ◌∷◌, refl, sym, ap, subst, inl, inr, arith, Has, Row, column, Trees, Int, HasRow, Key, RecordChange, Format, packed_blocks, packed_leaves, plain_rows, key_row, dict_row, postings_tree, blocks_tree, dict_tree, KeepsUnits, CountsAs, IsDictIn, IsAmong, IsCountAmong, IsOfRun, IsOwnCount, IsUnitAmong, KeepsBesideRun, TurnsAny, keeps_run_others, puts_run_rows, IsBlockAmong, IsOwnBlock, IsOwnPlace, IsPlaceAmong, IsUnitTouched, KeepsBut, KeyUnits, PutsAny, PutsCount, PutsPlaces, TurnsUnits, KeyChanges}
use Rattle.zeb_register.proofs.AlikeRows.{AreAlike, are_alike}
use Rattle.zeb_register.proofs.ContentLemmas.{told_apart}
use Rattle.zeb_register.proofs.KeptLeaves.{kept_same, kept_then, kept_wider}
use Rattle.zeb_register.proofs.Malformed.{key_begins, row_same}

-- ---- a row is of one key

-- a row with the first columns of two keys, which are one
pub one_key : (db : ℤ) (k key : Key) (row : Row) → IsDictIn db k row → IsDictIn db key row → k ≡ key
one_key db k key row of own =
    let one = key_begins db k row of.0 of.1 of.2 of.3 in
    let two = key_begins db key row own.0 own.1 own.2 own.3 in
    (told_apart db db k key two.0 one.0 (sym two.1 ∙ one.1)).1

-- rows that changes of a key read or write begin with it
pub place_of_key : (db : ℤ) (key : Key) (changes : List RecordChange) (row : Row) → IsPlaceAmong db key changes row → IsDictIn db key row
place_of_key db key changes row it = (it.2.0, it.2.1, it.2.2, it.2.3)

pub own_place_of_key : (db : ℤ) (key : Key) (changes : List RecordChange) (row : Row) → IsOwnPlace db key changes row → IsDictIn db key row
own_place_of_key db key changes row it = subst (IsDictIn db key) (sym it.3) (refl, refl, refl, refl)

pub block_of_key : (db : ℤ) (key : Key) (changes : List RecordChange) (row : Row) → IsBlockAmong db key changes row → IsDictIn db key row
block_of_key db key changes row it = (it.2.0, it.2.1, it.2.2, it.2.3)

pub own_block_of_key : (db : ℤ) (key : Key) (changes : List RecordChange) (row : Row) → IsOwnBlock db key changes row → IsDictIn db key row
own_block_of_key db key changes row it = subst (IsDictIn db key) (sym it.3) (refl, refl, refl, refl)

pub count_of_key : (db : ℤ) (key : Key) (changes : List RecordChange) (row : Row) → IsCountAmong db key changes row → IsDictIn db key row
count_of_key db key changes row it = it.1

pub own_count_of_key : (db : ℤ) (key : Key) (changes : List RecordChange) (row : Row) → IsOwnCount db key changes row → IsDictIn db key row
own_count_of_key db key changes row it = subst (IsDictIn db key) (sym it.2) (refl, refl, refl, refl)

-- ---- one key, and a run of it alone

-- the rows of one key's blocks and count
pub record PutsKeyBlocks (db : ℤ) (key : Key) (changes : List RecordChange) (old new : Trees) : Type 0 where
  pub blocks : KeepsBut (IsBlockAmong db key changes) (IsOwnBlock db key changes) blocks_tree old new
  pub dict : KeepsBut (IsCountAmong db key changes) (IsOwnCount db key changes) dict_tree old new
  pub postings : new postings_tree ≡ old postings_tree

abbrev pub puts_key_rows : Format → ℤ → Key → List RecordChange → (old new : Trees) → Type 0
puts_key_rows plain_rows = PutsPlaces
puts_key_rows packed_blocks = PutsKeyBlocks
puts_key_rows packed_leaves = λ db key changes. KeepsUnits db (IsUnitTouched key changes)

-- a table that is as it was, where none of its rows is such a one
pub table_kept : (These Such : Row → Type 0) (tree : ℕ) (old new : Trees) → new tree ≡ old tree → ((row : Row) → ¬ These row) → KeepsBut These Such tree old new
table_kept These Such tree old new same none = record {
  stays = λ row out there. row_same tree old new same row there;
  comes = λ row there. inl (row_same tree new old (sym same) row there, none row);
}

pub rows_put : (format : Format) (db : ℤ) (key : Key) (changes : List RecordChange) (old new : Trees) → PutsAny format db key changes old new → puts_key_rows format db key changes old new
rows_put plain_rows db key [] old new same = record {
  postings = table_kept (IsPlaceAmong db key []) (IsOwnPlace db key []) postings_tree old new (same postings_tree) (λ row it. it.1.1);
  blocks = same blocks_tree;
  dict = same dict_tree;
}
rows_put plain_rows db key (change ∷ changes) old new puts = puts.rows
rows_put packed_blocks db key [] old new same = record {
  blocks = table_kept (IsBlockAmong db key []) (IsOwnBlock db key []) blocks_tree old new (same blocks_tree) (λ row it. it.1.1);
  dict = table_kept (IsCountAmong db key []) (IsOwnCount db key []) dict_tree old new (same dict_tree) (λ row it. it.0 refl);
  postings = same postings_tree;
}
rows_put packed_blocks db key (change ∷ changes) old new puts = record {
  blocks = puts.rows.blocks;
  dict = record {
    stays = λ row out there. (puts.rows.dict row).1 (inl (there, λ in_it. out ((λ none. cc), in_it)));
    comes = λ row there. elim ((puts.rows.dict row).0 there) [ inl was ↦ inl (was.0, λ among. was.1 among.1) | inr own ↦ inr (puts.are.records, (λ none. cc), own.1) ];
  };
  postings = puts.rows.postings;
}
rows_put packed_leaves db key [] old new same = kept_same db (IsUnitTouched key []) old new same
rows_put packed_leaves db key (change ∷ changes) old new puts = puts.rows

-- ---- the count of one key

above_none : (n : ℕ) → n ≢ 0 → 1 ≤ n
above_none zero some = absurd (some refl)
above_none (suc n) some = omega arith

few_counted : (change : RecordChange) (changes : List RecordChange) (were are : KeyUnits) → TurnsUnits packed_blocks (change ∷ changes) were are → are.records ≤ 999999999
few_counted change [] were are turns = subst (λ n. n ≤ 999999999) (sym turns.2.1) turns.1.count.few
few_counted change (next ∷ changes) were are turns = few_counted next changes turns.0 are turns.2

one_number : (m n : ℕ) → Int (pos m) ≡ Int (pos n) → m ≡ n
one_number m n same = cc

module _ (old new : Trees) (db : ℤ) (key : Key) (records : ℕ) where
  row_is : (row : Row) (n : ℕ) → key_row db key ++ row ≡ dict_row db key n → row ≡ Int (pos n) ∷ []
  row_is row n is = (told_apart db db key key row (Int (pos n) ∷ []) is).2

  pub count_put : records ≤ 999999999 → PutsCount db key records dict_tree old new → CountsAs new db key records
  count_put few puts = record {
    said = λ row of. elim ((puts (key_row db key ++ row)).0 of) [
      | inl was ↦ absurd (was.1 (refl, refl, refl, refl))
      | inr own ↦ (above_none records own.0, few, ap (λ (r : Row). column r 0) (row_is row records own.1))
    ];
    there = λ some. (Int (pos records) ∷ [], (puts (dict_row db key records)).1 (inr ((λ none. absurd (omega (arith, some, none))), refl)));
  }

  -- and from the count to the row
  pub count_row : (changes : List RecordChange) → changes ≢ [] → KeepsBut (IsCountAmong db key changes) (IsOwnCount db key changes) dict_tree old new → CountsAs new db key records → PutsCount db key records dict_tree old new
  count_row changes some keeps counts row = (
    λ there. elim (keeps.comes row there) [
      | inl was ↦ inl (was.0, λ in_it. was.1 (some, in_it))
      | inr own ↦
          let said = counts.said (Int (pos own.0) ∷ []) (subst (HasRow new dict_tree) own.2 there) in
          let same = one_number own.0 records said.2 in
          inr ((λ none. absurd (omega (arith, said.0, none))), own.2 ∙ ap (dict_row db key) same)
    ],
    λ it. elim it [
      | inl was ↦ keeps.stays row (λ among. was.1 among.1) was.0
      | inr own ↦
          let shown = counts.there (above_none records own.0) in
          let said = counts.said shown.0 shown.1 in
          elim (keeps.comes (key_row db key ++ shown.0) shown.1) [
            | inl was ↦ absurd (was.1 (some, (refl, refl, refl, refl)))
            | inr put ↦
                let is = row_is shown.0 put.0 put.2 in
                let same = one_number put.0 records (ap (λ (r : Row). column r 0) (sym is) ∙ said.2) in
                subst (HasRow new dict_tree) (put.2 ∙ ap (dict_row db key) same ∙ sym own.1) shown.1
          ]
    ],
  )

-- changes that are put turn the key's units
pub turns_put : (format : Format) (db : ℤ) (key : Key) (changes : List RecordChange) (old new : Trees) → PutsAny format db key changes old new → TurnsAny format db key changes old new
turns_put format db key [] old new puts = tt
turns_put plain_rows db key (change ∷ changes) old new puts =
    record { text = puts.text; stored = puts.stored; were = puts.were; are = puts.are; allowed = puts.allowed; put = puts.put; counted = tt }
turns_put packed_leaves db key (change ∷ changes) old new puts =
    record { text = puts.text; stored = puts.stored; were = puts.were; are = puts.are; allowed = puts.allowed; put = puts.put; counted = tt }
turns_put packed_blocks db key (change ∷ changes) old new puts = record {
  text = puts.text;
  stored = puts.stored;
  were = puts.were;
  are = puts.are;
  allowed = puts.allowed;
  put = puts.put;
  counted = count_put old new db key puts.are.records (few_counted change changes puts.were puts.are puts.allowed.turns) puts.rows.dict;
}

-- ---- rows of two runs in turn

module _ (These Such : Key → List RecordChange → Row → Type 0) (x : KeyChanges) (tree : ℕ) (old : Trees) where
  keeps_more : (xs : List KeyChanges) (mid new : Trees) → KeepsBut (These x.key.now x.changes.now) (Such x.key.now x.changes.now) tree old mid → KeepsBut (IsAmong These xs) (IsAmong Such xs) tree mid new
      → KeepsBut (IsAmong These (x ∷ xs)) (IsAmong Such (x ∷ xs)) tree old new
  keeps_more xs mid new one two = record {
    stays = λ row out there. two.stays row (λ it. out (it.0, inr it.1, it.2)) (one.stays row (λ it. out (x, inl refl, it)) there);
    comes = λ row there. elim (two.comes row there) [
      | inl was ↦ elim (one.comes row was.0) [
        | inl first ↦ inl (first.0, λ it. elim it.1 [ inl same ↦ first.1 (subst (λ (y : KeyChanges). These y.key.now y.changes.now row) same it.2) | inr later ↦ was.1 (it.0, later, it.2) ])
        | inr own ↦ inr (x, inl refl, own)
      ]
      | inr own ↦ inr (own.0, inr own.1, own.2)
    ];
  }

  keeps_none : (new : Trees) → KeepsBut (These x.key.now x.changes.now) (Such x.key.now x.changes.now) tree old new → KeepsBut (IsAmong These (x ∷ [])) (IsAmong Such (x ∷ [])) tree old new
  keeps_none new one = record {
    stays = λ row out there. one.stays row (λ it. out (x, inl refl, it)) there;
    comes = λ row there. elim (one.comes row there) [
      | inl was ↦ inl (was.0, λ it. elim it.1 [ inl same ↦ was.1 (subst (λ (y : KeyChanges). These y.key.now y.changes.now row) same it.2) | inr none ↦ none ])
      | inr own ↦ inr (x, inl refl, own)
    ];
  }

-- a unit of the first key is of the run
first_among : (x : KeyChanges) (xs : List KeyChanges) (key : Key) (n : ℕ) → IsUnitTouched x.key.now x.changes.now key n → IsUnitAmong (x ∷ xs) key n
first_among x xs key n it = (x, inl refl, it)

pub rows_more : (format : Format) (db : ℤ) (x : KeyChanges) (xs : List KeyChanges) (old mid new : Trees) → puts_key_rows format db x.key.now x.changes.now old mid → puts_run_rows format db xs mid new → puts_run_rows format db (x ∷ xs) old new
rows_more plain_rows db x xs old mid new one two = record {
  postings = keeps_more (IsPlaceAmong db) (IsOwnPlace db) x postings_tree old xs mid new one.postings two.postings;
  blocks = two.blocks ∙ one.blocks;
  dict = two.dict ∙ one.dict;
}
rows_more packed_blocks db x xs old mid new one two = record {
  blocks = keeps_more (IsBlockAmong db) (IsOwnBlock db) x blocks_tree old xs mid new one.blocks two.blocks;
  dict = keeps_more (IsCountAmong db) (IsOwnCount db) x dict_tree old xs mid new one.dict two.dict;
  postings = two.postings ∙ one.postings;
}
rows_more packed_leaves db x xs old mid new one two =
    kept_then db (IsUnitTouched x.key.now x.changes.now) (IsUnitAmong xs) (IsUnitAmong (x ∷ xs)) (first_among x xs) (λ key n it. (it.0, inr it.1, it.2)) old mid new one two

-- the rows of one key are those of a run of it alone
pub rows_alone : (format : Format) (db : ℤ) (x : KeyChanges) (old new : Trees) → puts_key_rows format db x.key.now x.changes.now old new → puts_run_rows format db (x ∷ []) old new
rows_alone plain_rows db x old new one = record { postings = keeps_none (IsPlaceAmong db) (IsOwnPlace db) x postings_tree old new one.postings; blocks = one.blocks; dict = one.dict }
rows_alone packed_blocks db x old new one = record {
  blocks = keeps_none (IsBlockAmong db) (IsOwnBlock db) x blocks_tree old new one.blocks;
  dict = keeps_none (IsCountAmong db) (IsOwnCount db) x dict_tree old new one.dict;
  postings = one.postings;
}
rows_alone packed_leaves db x old new one = kept_wider db (IsUnitTouched x.key.now x.changes.now) (IsUnitAmong (x ∷ [])) (first_among x []) old new one

-- ---- rows beside the keys of a run

-- a row of a key of the run begins with it
begins_so : (db : ℤ) (run : List KeyChanges) (row : Row) (one : KeyChanges) → Has run one → IsDictIn db one.key.now row → ((other : KeyChanges) (rest : Row) → Has run other → row ≢ key_row db other.key.now ++ rest) → ⊥
begins_so db run row one here of apart = let it = key_begins db one.key.now row of.0 of.1 of.2 of.3 in apart one it.0 here it.1

same_beside : (db : ℤ) (run : List KeyChanges) (tree : ℕ) (old new : Trees) → new tree ≡ old tree → (row : Row) → (HasRow new tree row → HasRow old tree row) × (HasRow old tree row → HasRow new tree row)
same_beside db run tree old new same row = (row_same tree new old (sym same) row, row_same tree old new same row)

pub rows_beside : (format : Format) (db : ℤ) (run : List KeyChanges) (old new : Trees) → puts_run_rows format db run old new → keeps_run_others format db run old new
rows_beside packed_leaves db run old new rows = rows
rows_beside plain_rows db run old new rows = record {
  postings = λ row apart. (
    λ h. elim (rows.postings.comes row h) [ inl was ↦ was.0 | inr own ↦ absurd (begins_so db run row own.0 own.1 (own_place_of_key db own.0.key.now own.0.changes.now row own.2) apart) ],
    λ h. rows.postings.stays row (λ it. begins_so db run row it.0 it.1 (place_of_key db it.0.key.now it.0.changes.now row it.2) apart) h,
  );
  blocks = λ row apart. same_beside db run blocks_tree old new rows.blocks row;
  dict = λ row apart. same_beside db run dict_tree old new rows.dict row;
}
rows_beside packed_blocks db run old new rows = record {
  postings = λ row apart. same_beside db run postings_tree old new rows.postings row;
  blocks = λ row apart. (
    λ h. elim (rows.blocks.comes row h) [ inl was ↦ was.0 | inr own ↦ absurd (begins_so db run row own.0 own.1 (own_block_of_key db own.0.key.now own.0.changes.now row own.2) apart) ],
    λ h. rows.blocks.stays row (λ it. begins_so db run row it.0 it.1 (block_of_key db it.0.key.now it.0.changes.now row it.2) apart) h,
  );
  dict = λ row apart. (
    λ h. elim (rows.dict.comes row h) [ inl was ↦ was.0 | inr own ↦ absurd (begins_so db run row own.0 own.1 (own_count_of_key db own.0.key.now own.0.changes.now row own.2) apart) ],
    λ h. rows.dict.stays row (λ it. begins_so db run row it.0 it.1 (count_of_key db it.0.key.now it.0.changes.now row it.2) apart) h,
  );
}

rows_alike : (db : ℤ) (run : List KeyChanges) (key : Key) (old new : Trees) → ¬ IsOfRun run key → KeepsBesideRun db run old new → AreAlike db key old new
rows_alike db run key old new none kept = record {
  postings = λ rest. let same = kept.postings (key_row db key ++ rest) (apart rest) in (same.1, same.0);
  blocks = λ rest. let same = kept.blocks (key_row db key ++ rest) (apart rest) in (same.1, same.0);
  dict = λ rest. let same = kept.dict (key_row db key ++ rest) (apart rest) in (same.1, same.0);
}
  where
    apart : (rest : Row) (one : KeyChanges) (r : Row) → Has run one → key_row db key ++ rest ≢ key_row db one.key.now ++ r
    apart rest one r here is = none (one, here, (told_apart db db one.key.now key rest r is).1)

-- the rows of a key that the run doesn't have stand alike before and after, or its units do
pub beside_alike : (format : Format) (db : ℤ) (run : List KeyChanges) (key : Key) (old new : Trees) → ¬ IsOfRun run key → keeps_run_others format db run old new → are_alike format db key old new
beside_alike plain_rows = rows_alike
beside_alike packed_blocks = rows_alike
beside_alike packed_leaves = λ db run key old new none kept n places. kept.reads db key n (λ it. none (it.1.0, it.1.1, sym it.1.2.0)) places

-- A run of keys that are changed together, as the first key changed before the others: tables can be told that stand between.
use Rattle.zeb_register.proofs.Cited.{◌≡◌, ◌≢◌, ◌⊎◌, ◌↔◌, ◌∙◌, ◌++◌, ◌==◌, ℕ, ℤ, pos, Bool, true, false, not, if◌then◌else◌, List, [], ◌∷◌, drop, filter, refl, sym, ap, ap₂, subst, inl, inr, eqb_tells, int_cmp_total, Has, all_from, all_has, has_either, has_filtered, has_kept, has_left, has_right, Value, Int, Blob, Text, Null, Real, Row, column, Trees, HasRow, Key, register_code, RecordChange, Format, packed_blocks, packed_leaves, plain_rows, postings_tree, blocks_tree, dict_tree, KeepsLists, IsDictIn, IsAmong, IsCountAmong, IsOfRun, IsOwnCount, KeysRise, PutsKeys, TurnsAny, TurnsKey, puts_run_rows, IsBlockAmong, IsOwnBlock, IsOwnPlace, IsPlaceAmong, KeepsBut, PutsAny, PutsUnits, KeyChanges}
use Rattle.zeb_register.specs.Formats.{KeepsRows}
use Rattle.zeb_register.proofs.AlikeRows.{alike_back, turns_from, turns_to}
use Rattle.zeb_register.proofs.ContentChanges.{integers_apart}
use Rattle.zeb_register.proofs.RisingLists.{told_by}
use Rattle.zeb_register.proofs.RunRows.{beside_alike, block_of_key, count_of_key, count_row, one_key, own_block_of_key, own_count_of_key, own_place_of_key, place_of_key, puts_key_rows, rows_alone, rows_beside}
use Rattle.zeb_register.proofs.RunTurns.{not_first, stands_once}

-- ---- whether a row is of a key

same_text : (s t : List ℕ) → (s ≡ t) ⊎ (s ≢ t)
same_text [] [] = inl refl
same_text [] (y ∷ ys) = inr (λ same. cc)
same_text (x ∷ xs) [] = inr (λ same. cc)
same_text (x ∷ xs) (y ∷ ys) = elim (eqb_tells x y) [
  | inr other ↦ inr (λ same. let e : x ≡ y = cc in other.1 e)
  | inl one ↦ elim (same_text xs ys) [ inl rest ↦ inl (ap₂ (λ (a : ℕ) (l : List ℕ). a ∷ l) one.1 rest) | inr other ↦ inr (λ same. other (ap (drop 1) same)) ]
]

is_int : (v : Value) (z : ℤ) → (v ≡ Int z) ⊎ (v ≢ Int z)
is_int (Int w) z = elim (told_by int_cmp_total integers_apart w z) [ inl same ↦ inl (ap Int same) | inr other ↦ inr (λ same. let e : w ≡ z = cc in other e) ]
is_int Null z = inr (λ same. cc)
is_int (Real r) z = inr (λ same. cc)
is_int (Text t) z = inr (λ same. cc)
is_int (Blob b) z = inr (λ same. cc)

is_text : (v : Value) (t : List ℕ) → (v ≡ Text t) ⊎ (v ≢ Text t)
is_text (Text s) t = elim (same_text s t) [ inl same ↦ inl (ap Text same) | inr other ↦ inr (λ same. let e : s ≡ t = cc in other e) ]
is_text Null t = inr (λ same. cc)
is_text (Int z) t = inr (λ same. cc)
is_text (Real r) t = inr (λ same. cc)
is_text (Blob b) t = inr (λ same. cc)

told_row : (db : ℤ) (key : Key) (row : Row) → IsDictIn db key row ⊎ ¬ IsDictIn db key row
told_row db key row = elim (is_int (column row 0) db) [
  | inr other ↦ inr (λ it. other it.0)
  | inl one ↦ elim (is_int (column row 1) (pos key.index)) [
    | inr other ↦ inr (λ it. other it.1)
    | inl two ↦ elim (is_int (column row 2) (pos (register_code key.register))) [
      | inr other ↦ inr (λ it. other it.2)
      | inl three ↦ elim (is_text (column row 3) key.term) [ inr other ↦ inr (λ it. other it.3) | inl four ↦ inl (one, two, three, four) ]
    ]
  ]
]

abbrev is_left : {A B : Type 0} → A ⊎ B → Bool
is_left (inl a) = true
is_left (inr b) = false

left_tells : {A B : Type 0} (s : A ⊎ B) → ((is_left s ≡ true) × A) ⊎ ((is_left s ≡ false) × B)
left_tells (inl a) = inl (refl, a)
left_tells (inr b) = inr (refl, b)

-- ---- tables that have the rows of one key from others

-- a row with its rowid
abbrev of_key : ℤ → Key → Row → Bool
of_key db key row = is_left (told_row db key (drop 1 row))

abbrev not_of_key : ℤ → Key → Row → Bool
not_of_key db key row = not (of_key db key row)

abbrev mixed : ℤ → Key → (old new : List Row) → List Row
mixed db key old new = filter (not_of_key db key) old ++ filter (of_key db key) new

abbrev IsMixed : ℤ → Key → ℕ → (old mid new : Trees) → Type 0
IsMixed db key tree old mid new = (row : Row) → HasRow mid tree row ↔ ((HasRow old tree row × ¬ IsDictIn db key row) ⊎ (HasRow new tree row × IsDictIn db key row))

module _ (db : ℤ) (key : Key) (tree : ℕ) (old mid new : Trees) (mix : mid tree ≡ mixed db key (old tree) (new tree)) where
  mixed_rows : IsMixed db key tree old mid new
  mixed_rows row = (
    λ there. elim (has_either (filter (not_of_key db key) (old tree)) (filter (of_key db key) (new tree)) (Int there.0 ∷ row) (subst (λ rows. Has rows (Int there.0 ∷ row)) mix there.1)) [
      | inl one ↦
          let it = has_filtered (not_of_key db key) (old tree) (Int there.0 ∷ row) one in
          elim (left_tells (told_row db key row)) [
            | inl own ↦ absurd (let e : not true ≡ true = subst (λ (b : Bool). not b ≡ true) own.0 it.1 in cc)
            | inr other ↦ inl ((there.0, it.0), other.1)
          ]
      | inr two ↦
          let it = has_filtered (of_key db key) (new tree) (Int there.0 ∷ row) two in
          elim (left_tells (told_row db key row)) [
            | inl own ↦ inr ((there.0, it.0), own.1)
            | inr other ↦ absurd (let e : false ≡ true = sym other.0 ∙ it.1 in cc)
          ]
    ],
    λ it. elim it [
      | inl was ↦ elim (left_tells (told_row db key row)) [
        | inl own ↦ absurd (was.1 own.1)
        | inr other ↦ (
          was.0.0,
          subst (λ rows. Has rows (Int was.0.0 ∷ row)) (sym mix) (has_left (filter (not_of_key db key) (old tree)) (filter (of_key db key) (new tree)) (Int was.0.0 ∷ row)
              (has_kept (not_of_key db key) (old tree) (Int was.0.0 ∷ row) was.0.1 (ap not other.0))),
        )
      ]
      | inr put ↦ elim (left_tells (told_row db key row)) [
        | inr other ↦ absurd (other.1 put.1)
        | inl own ↦ (
          put.0.0,
          subst (λ rows. Has rows (Int put.0.0 ∷ row)) (sym mix) (has_right (filter (not_of_key db key) (old tree)) (filter (of_key db key) (new tree)) (Int put.0.0 ∷ row)
              (has_kept (of_key db key) (new tree) (Int put.0.0 ∷ row) put.0.1 own.0)),
        )
      ]
    ],
  )

abbrev between : Format → ℤ → Key → (old new : Trees) → Trees
between plain_rows db key old new tree = if tree == postings_tree then mixed db key (old tree) (new tree) else old tree
between packed_blocks db key old new tree =
    if tree == blocks_tree then mixed db key (old tree) (new tree)
    else if tree == dict_tree then mixed db key (old tree) (new tree)
    else old tree
between packed_leaves db key old new tree = old tree

-- ---- rows before them, and behind

module _ (db : ℤ) (These Such : Key → List RecordChange → Row → Type 0) (these_of : (key : Key) (changes : List RecordChange) (row : Row) → These key changes row → IsDictIn db key row)
    (such_of : (key : Key) (changes : List RecordChange) (row : Row) → Such key changes row → IsDictIn db key row) (x : KeyChanges) (xs : List KeyChanges) (once : ¬ IsOfRun xs x.key.now) (tree : ℕ) (old new : Trees)
    (keeps : KeepsBut (IsAmong These (x ∷ xs)) (IsAmong Such (x ∷ xs)) tree old new) where
  -- a row of a later key is none of the first
  not_later : (one : KeyChanges) (row : Row) → Has xs one → IsDictIn db one.key.now row → ¬ IsDictIn db x.key.now row
  not_later one row here of own = once (one, here, one_key db one.key.now x.key.now row of own)

  module _ (mid : Trees) (mix : IsMixed db x.key.now tree old mid new) where
    front : KeepsBut (These x.key.now x.changes.now) (Such x.key.now x.changes.now) tree old mid
    front = record {
      stays = λ row out there. elim (told_row db x.key.now row) [
        | inr other ↦ (mix row).1 (inl (there, other))
        | inl own ↦ (mix row).1 (inr (
          keeps.stays row (λ it. elim it.1 [
            | inl same ↦ out (subst (λ (y : KeyChanges). These y.key.now y.changes.now row) same it.2)
            | inr later ↦ not_later it.0 row later (these_of it.0.key.now it.0.changes.now row it.2) own
          ]) there,
          own,
        ))
      ];
      comes = λ row there. elim ((mix row).0 there) [
        | inl was ↦ inl (was.0, λ it. was.1 (these_of x.key.now x.changes.now row it))
        | inr put ↦ elim (keeps.comes row put.0) [
          | inl was ↦ inl (was.0, λ it. was.1 (x, inl refl, it))
          | inr own ↦ elim own.1 [
            | inl same ↦ inr (subst (λ (y : KeyChanges). Such y.key.now y.changes.now row) same own.2)
            | inr later ↦ absurd (not_later own.0 row later (such_of own.0.key.now own.0.changes.now row own.2) put.1)
          ]
        ]
      ];
    }

    behind : KeepsBut (IsAmong These xs) (IsAmong Such xs) tree mid new
    behind = record {
      stays = λ row out there. elim ((mix row).0 there) [
        | inr put ↦ put.0
        | inl was ↦ keeps.stays row (λ it. elim it.1 [
          | inl same ↦ was.1 (these_of x.key.now x.changes.now row (subst (λ (y : KeyChanges). These y.key.now y.changes.now row) same it.2))
          | inr later ↦ out (it.0, later, it.2)
        ]) was.0
      ];
      comes = λ row there. elim (told_row db x.key.now row) [
        | inl own ↦ inl ((mix row).1 (inr (there, own)), λ it. not_later it.0 row it.1 (these_of it.0.key.now it.0.changes.now row it.2) own)
        | inr other ↦ elim (keeps.comes row there) [
          | inl was ↦ inl ((mix row).1 (inl (was.0, other)), λ it. was.1 (it.0, inr it.1, it.2))
          | inr own ↦ elim own.1 [
            | inl same ↦ absurd (other (such_of x.key.now x.changes.now row (subst (λ (y : KeyChanges). Such y.key.now y.changes.now row) same own.2)))
            | inr later ↦ inr (own.0, later, own.2)
          ]
        ]
      ];
    }

  -- where the first key has no change
  without : ((row : Row) → ¬ These x.key.now x.changes.now row) → ((row : Row) → ¬ Such x.key.now x.changes.now row) → KeepsBut (IsAmong These xs) (IsAmong Such xs) tree old new
  without none never = record {
    stays = λ row out there. keeps.stays row (λ it. elim it.1 [
      | inl same ↦ none row (subst (λ (y : KeyChanges). These y.key.now y.changes.now row) same it.2)
      | inr later ↦ out (it.0, later, it.2)
    ]) there;
    comes = λ row there. elim (keeps.comes row there) [
      | inl was ↦ inl (was.0, λ it. was.1 (it.0, inr it.1, it.2))
      | inr own ↦ elim own.1 [
        | inl same ↦ absurd (never row (subst (λ (y : KeyChanges). Such y.key.now y.changes.now row) same own.2))
        | inr later ↦ inr (own.0, later, own.2)
      ]
    ];
  }

module _ (db : ℤ) (x : KeyChanges) (xs : List KeyChanges) (rise : KeysRise (x ∷ xs)) (old new : Trees) where
  abbrev key : Key
  key = x.key.now

  abbrev mid : Format → Trees
  mid format = between format db key old new

  -- the rows of the first key, and then of the others
  rows_parted : (format : Format) → KeepsRows format → puts_run_rows format db (x ∷ xs) old new → puts_key_rows format db key x.changes.now old (mid format) × puts_run_rows format db xs (mid format) new
  rows_parted plain_rows keeps rows =
      let mix = mixed_rows db key postings_tree old (mid plain_rows) new refl in
      let once = stands_once x xs rise in
      let places = rows.postings in (
        record { postings = front db (IsPlaceAmong db) (IsOwnPlace db) (place_of_key db) (own_place_of_key db) x xs once postings_tree old new places (mid plain_rows) mix; blocks = refl; dict = refl },
        record { postings = behind db (IsPlaceAmong db) (IsOwnPlace db) (place_of_key db) (own_place_of_key db) x xs once postings_tree old new places (mid plain_rows) mix; blocks = rows.blocks; dict = rows.dict },
      )
  rows_parted packed_leaves keeps rows = absurd keeps
  rows_parted packed_blocks keeps rows =
      let mix = mixed_rows db key blocks_tree old (mid packed_blocks) new refl in
      let counts = mixed_rows db key dict_tree old (mid packed_blocks) new refl in
      let once = stands_once x xs rise in (
        record {
          blocks = front db (IsBlockAmong db) (IsOwnBlock db) (block_of_key db) (own_block_of_key db) x xs once blocks_tree old new rows.blocks (mid packed_blocks) mix;
          dict = front db (IsCountAmong db) (IsOwnCount db) (count_of_key db) (own_count_of_key db) x xs once dict_tree old new rows.dict (mid packed_blocks) counts;
          postings = refl;
        },
        record {
          blocks = behind db (IsBlockAmong db) (IsOwnBlock db) (block_of_key db) (own_block_of_key db) x xs once blocks_tree old new rows.blocks (mid packed_blocks) mix;
          dict = behind db (IsCountAmong db) (IsOwnCount db) (count_of_key db) (own_count_of_key db) x xs once dict_tree old new rows.dict (mid packed_blocks) counts;
          postings = rows.postings;
        },
      )

  lists_between : (format : Format) → KeepsLists old (mid format)
  lists_between plain_rows = (refl, refl, refl)
  lists_between packed_blocks = (refl, refl, refl)
  lists_between packed_leaves = (refl, refl, refl)

  lists_behind : (format : Format) → KeepsLists old new → KeepsLists (mid format) new
  lists_behind plain_rows lists = lists
  lists_behind packed_blocks lists = lists
  lists_behind packed_leaves lists = lists

  -- the key's turned units, with its rows, are changes that are put
  units_put : (format : Format) (change : RecordChange) (changes : List RecordChange) → TurnsKey format db key (change ∷ changes) old (mid format) → puts_key_rows format db key (change ∷ changes) old (mid format)
      → PutsUnits format db key (change ∷ changes) old (mid format)
  units_put plain_rows change changes turns rows =
      record { text = turns.text; stored = turns.stored; were = turns.were; are = turns.are; allowed = turns.allowed; put = turns.put; rows = rows; lists = lists_between plain_rows }
  units_put packed_leaves change changes turns rows =
      record { text = turns.text; stored = turns.stored; were = turns.were; are = turns.are; allowed = turns.allowed; put = turns.put; rows = rows; lists = lists_between packed_leaves }
  units_put packed_blocks change changes turns rows = record {
    text = turns.text;
    stored = turns.stored;
    were = turns.were;
    are = turns.are;
    allowed = turns.allowed;
    put = turns.put;
    rows = record {
      blocks = rows.blocks;
      dict = count_row old (mid packed_blocks) db key turns.are.records (change ∷ changes) (λ none. cc) rows.dict turns.counted;
      postings = rows.postings;
    };
    lists = lists_between packed_blocks;
  }

  -- a key without a change
  rows_without : (format : Format) → KeepsRows format → x.changes.now ≡ [] → puts_run_rows format db (x ∷ xs) old new → puts_run_rows format db xs old new
  rows_without plain_rows keeps none rows = record {
    postings = without db (IsPlaceAmong db) (IsOwnPlace db) (place_of_key db) (own_place_of_key db) x xs (stands_once x xs rise) postings_tree old new rows.postings
        (λ row it. subst (λ l. Has l it.1.0) none it.1.1) (λ row it. subst (λ l. Has l it.2.0) none it.2.1);
    blocks = rows.blocks;
    dict = rows.dict;
  }
  rows_without packed_leaves keeps none rows = absurd keeps
  rows_without packed_blocks keeps none rows = record {
    blocks = without db (IsBlockAmong db) (IsOwnBlock db) (block_of_key db) (own_block_of_key db) x xs (stands_once x xs rise) blocks_tree old new rows.blocks
        (λ row it. subst (λ l. Has l it.1.0) none it.1.1) (λ row it. subst (λ l. Has l it.2.0) none it.2.1);
    dict = without db (IsCountAmong db) (IsOwnCount db) (count_of_key db) (own_count_of_key db) x xs (stands_once x xs rise) dict_tree old new rows.dict (λ row it. it.0 none) (λ row it. it.1 none);
    postings = rows.postings;
  }

  -- the run parted behind its first key
  pub parted : (format : Format) → KeepsRows format → PutsKeys format db (x ∷ xs) old new → (m : Trees) × PutsAny format db key x.changes.now old m × PutsKeys format db xs m new
  parted format keeps puts = from x.changes.now refl
    where
      from : (changes : List RecordChange) → x.changes.now ≡ changes → (m : Trees) × PutsAny format db key x.changes.now old m × PutsKeys format db xs m new
      from [] none = (
        old,
        subst (λ l. PutsAny format db key l old old) (sym none) (λ tree. refl),
        record { each = puts.each.1; rows = rows_without format keeps none puts.rows; lists = puts.lists },
      )
      from (change ∷ changes) some =
          let rows = rows_parted format keeps puts.rows in
          let here = beside_alike format db xs key (mid format) new (stands_once x xs rise) (rows_beside format db xs (mid format) new rows.1) in
          let turned = turns_to format db key new (mid format) (alike_back format db key (mid format) new here) x.changes.now old puts.each.0 in
          let put = units_put format change changes (subst (λ l. TurnsAny format db key l old (mid format)) some turned) (subst (λ l. puts_key_rows format db key l old (mid format)) some rows.0) in (
            mid format,
            subst (λ l. PutsAny format db key l old (mid format)) (sym some) put,
            record {
              each = all_from (λ (y : KeyChanges). TurnsAny format db y.key.now y.changes.now (mid format) new) xs (λ y there.
                  turns_from format db y.key.now old (mid format) (beside_alike format db (x ∷ []) y.key.now old (mid format) (not_first x y xs rise there) (rows_beside format db (x ∷ []) old (mid format) (rows_alone format db x old (mid format) rows.0)))
                  y.changes.now new (all_has (λ (z : KeyChanges). TurnsAny format db z.key.now z.changes.now old new) xs y puts.each.1 there));
              rows = rows.1;
              lists = lists_behind format puts.lists;
            },
          )

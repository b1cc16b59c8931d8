-- A key's list is told by its units, in each format. What a call that lists them says of tables that hold a content.
use Rattle.zeb_register.proofs.Cited.{State, Trees, Has, ◌≡◌, ℕ, ℤ, List, subst, Result, Ok, Err, Vec, Global, Key, Place, Posting, RegFault, Content, IsStorable, Format, packed_blocks, packed_leaves, plain_rows, holds_in, HasKey, IsCount, posted, TellsHeld, places_in, IsListSound}
use Rattle.zeb_register.specs.Units.{HoldsUnits, ListsKey, ListsUnits, counts_as, has_malformed, is_malformed, is_miscounted, is_whole, reads_as}
use Rattle.zeb_register.proofs.BlockContents.{blocks_by_units, count_of_blocks, miscounted_none, one_key_count, units_by_blocks}
use Rattle.zeb_register.proofs.BlockUnits.{held_sound, held_units, malformed_unread, one_reading, spelled_sound}
use Rattle.zeb_register.proofs.ContentChanges.{posting_total}
use Rattle.zeb_register.proofs.FormatLemmas.{registers_rise}
use Rattle.zeb_register.proofs.LeafContents as leaves
use Rattle.zeb_register.proofs.KeyPlaces.{in_place, place_in, place_of}
use Rattle.zeb_register.proofs.PackedLemmas.{block_rows}
use Rattle.zeb_register.proofs.RisingLists.{same_list}
use Rattle.zeb_register.proofs.RowUnits.{count_of_rows, held_rows, held_shown, malformed_rows_unread, one_rows_count, one_rows_read, rows_by_units, shown_sound, units_by_rows, unshown_none}

-- ---- units

-- a unit has one reading
pub one_places : (format : Format) (trees : Trees) (db : ℤ) (key : Key) (sysno : ℕ) (one two : List Place) → reads_as format trees db key sysno one → reads_as format trees db key sysno two → one ≡ two
one_places plain_rows = one_rows_read
one_places packed_blocks = one_reading
one_places packed_leaves = leaves.one_unit

-- and none where it is malformed
pub unread : (format : Format) (trees : Trees) (db : ℤ) (key : Key) (sysno : ℕ) (places : List Place) → is_malformed format trees db key sysno → reads_as format trees db key sysno places → ⊥
unread plain_rows = malformed_rows_unread
unread packed_blocks = malformed_unread
unread packed_leaves = leaves.unit_unread

-- a key that is whole has no malformed row
pub whole_sound : (format : Format) (trees : Trees) (db : ℤ) (key : Key) → is_whole format trees db key → has_malformed format trees db key → ⊥
whole_sound plain_rows = shown_sound
whole_sound packed_blocks = spelled_sound
whole_sound packed_leaves = leaves.whole_sound

-- tables that hold a content say each unit of it
pub held_reads : (format : Format) (trees : Trees) (content : Content) → holds_in format trees content → (db : ℤ) (key : Key) (sysno : ℕ) → reads_as format trees db key sysno (places_in sysno (content db key))
held_reads plain_rows trees content holds = held_rows trees content holds
held_reads packed_blocks trees content holds = held_units trees content (block_rows trees content holds)
held_reads packed_leaves trees content holds = leaves.held_unit trees content holds

-- and each key is whole in them
pub held_whole : (format : Format) (trees : Trees) (content : Content) → holds_in format trees content → (db : ℤ) (key : Key) → is_whole format trees db key
held_whole plain_rows trees content holds = held_shown trees content holds
held_whole packed_blocks trees content holds = held_sound trees content (block_rows trees content holds)
held_whole packed_leaves trees content holds = leaves.held_whole trees content holds

-- a key has one count
pub one_number : (format : Format) (trees : Trees) (db : ℤ) (key : Key) (one two : ℕ) → counts_as format trees db key one → counts_as format trees db key two → one ≡ two
one_number plain_rows = one_rows_count
one_number packed_blocks = one_key_count
one_number packed_leaves = leaves.one_leaf_count

-- and none where it is miscounted
pub uncounted : (format : Format) (trees : Trees) (db : ℤ) (key : Key) (records : ℕ) → is_miscounted format trees db key → counts_as format trees db key records → ⊥
uncounted plain_rows = unshown_none
uncounted packed_blocks = miscounted_none
uncounted packed_leaves = leaves.leaf_uncounted

-- in tables that hold a content it is the content's
pub count_held : (format : Format) (trees : Trees) (content : Content) → holds_in format trees content → (db : ℤ) (key : Key) (records : ℕ) → counts_as format trees db key records → IsCount (HasKey (posted content db) key) records
count_held plain_rows = count_of_rows
count_held packed_blocks = count_of_blocks
count_held packed_leaves = λ trees content holds db key records counts. (leaves.held_count trees content holds db key records).0 counts

-- tables hold a content just where each unit and each count reads as it says, and no row stands beside
pub held_by_units : (format : Format) (trees : Trees) (content : Content) → IsStorable content → holds_in format trees content → HoldsUnits format trees content
held_by_units plain_rows = λ trees content storable. rows_by_units trees content
held_by_units packed_blocks = blocks_by_units
held_by_units packed_leaves = λ trees content storable holds. record {
  rising = holds.rising;
  units = leaves.held_unit trees content holds;
  counts = λ db key records count. (leaves.held_count trees content holds db key records).1 count;
  alone = holds.alone;
}

pub units_hold : (format : Format) (trees : Trees) (content : Content) → HoldsUnits format trees content → holds_in format trees content
units_hold plain_rows = units_by_rows
units_hold packed_blocks = units_by_blocks
units_hold packed_leaves = λ trees content holds. leaves.held_by_units trees content holds.rising holds.units holds.alone

-- ---- lists

module _ (format : Format) (trees : Trees) (db : ℤ) (key : Key) where
  abbrev Lists : List Posting → Type 0
  Lists = ListsUnits format trees db key

  lists_also : (one two : List Posting) → Lists one → Lists two → (p : Posting) → Has one p → Has two p
  lists_also one two left right p here =
      let same = one_places format trees db key p.sysno (places_in p.sysno one) (places_in p.sysno two) (left.units p.sysno) (right.units p.sysno) in
      in_place two p (subst (λ l. Has l (place_of p)) same (place_in one p here))

  -- the units of a key tell one list
  pub one_listing : (one two : List Posting) → Lists one → Lists two → one ≡ two
  one_listing one two left right = same_list posting_total one two left.rising right.rising (lists_also one two left right) (lists_also two one right left)

  -- where the tables hold a content it is the content's
  pub held_listing : (content : Content) → holds_in format trees content → Lists (content db key)
  held_listing content holds = record {
    rising = registers_rise format trees content holds db key;
    units = held_reads format trees content holds db key;
    whole = held_whole format trees content holds db key;
  }

pub whole_list : (format : Format) (trees : Trees) (db : ℤ) (key : Key) → is_whole format trees db key → IsListSound format trees db key
whole_list plain_rows trees db key whole = tt
whole_list packed_blocks trees db key whole = whole
whole_list packed_leaves trees db key whole = whole

-- ---- a call

module _ (format : Format) (db : ℤ) (key : Key) where
  pub list_told : (old new : State) (result : Result (Vec Posting Global) RegFault) → ListsKey format db key old new result → TellsHeld (holds_in format) old new result (λ content list. list.items ≡ content db key)
  list_told old new (Ok list) looks clean store = λ content holds.
      one_listing format old.now.trees db key list.items (content db key) (looks.finds clean store) (held_listing format old.now.trees db key content holds)
  list_told old new (Err fault) looks clean store = tt

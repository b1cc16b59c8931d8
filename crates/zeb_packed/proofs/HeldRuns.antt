-- Keys of a run that are changed one after the other, where the rows of some are held.
use Rattle.zeb_packed.proofs.Cited.{packed_blocks, Answers, IfDamaged, IsStore, Ok, Err, Result, State, ◌≡◌, ◌≢◌, ◌∙◌, ℤ, List, [], ◌∷◌, ◌⊎◌, map, refl, sym, subst, inl, inr, Has, has_either, has_left, has_right, Row, Trees, HasRow, blocks_tree, dict_tree, Key, RegFault, Damaged, all_from, all_has, CountsAs, IsRefusedAs, LacksBlock, PutsAny, PutsUnits, RecordChange, AreApart, AreBehind, AreLacking, BeginsKey, GainsAll, GainsRows, HoldsRun, SomeStands, TurnsKey, new_block_row, new_count_row, NewBlock, NewCount, NewRows, none_put, put_more, refused_first, refused_later, stands_once, IsRunRefusedAs, KeysRise, LacksLeave, PutsKeys, TurnsAny, KeyChanges}
use Rattle.zeb_packed.proofs.BegunKeys.{apart_joined}
use Rattle.zeb_packed.proofs.HeldKeys.{AreBeside, alike, lacks_before, lacks_then, puts_beside}
use Rattle.zeb_packed.proofs.HeldTables.{block_of, count_of, gained_more, rows_are_gained, with_rows}
use Rattle.zeb_packed.proofs.KeyPuts.{puts_any}
use Rattle.zeb_register.proofs.AlikeRows.{turns_from, alike_back}
use Rattle.zeb_register.proofs.BlockContents.{one_key_count}

-- The keys before this one are changed, or their rows held. What is left leads on as all keys do from the start.
pub record HoldsSoFar (db : ℤ) (xs left : List KeyChanges) (old now : Trees) (held : NewRows) : Type 0 where
  pub apart : AreApart held.blocks.items
  pub beside : (y : KeyChanges) → Has left y → AreBeside y.key.now held
  pub puts : (mid end : Trees) → GainsRows db held now mid → AreLacking db held.blocks.items now → PutsKeys packed_blocks db left mid end → PutsKeys packed_blocks db xs old end
  pub stands : SomeStands db held.blocks.items now → LacksLeave packed_blocks db xs old
  pub refused : (fault : RegFault) → IsRunRefusedAs packed_blocks db left now fault → IsRunRefusedAs packed_blocks db xs old fault

-- ---- no key yet

none_of : (held : NewRows) → held.blocks.items ≡ [] → (one : NewBlock) → ¬ Has held.blocks.items one
none_of held none one here = subst (λ (l : List NewBlock). Has l one) none here

none_counted : (held : NewRows) → held.counts.items ≡ [] → (one : NewCount) → ¬ Has held.counts.items one
none_counted held none one here = subst (λ (l : List NewCount). Has l one) none here

pub holds_none : (db : ℤ) (xs : List KeyChanges) (old : Trees) (held : NewRows) → held.blocks.items ≡ [] → held.counts.items ≡ [] → HoldsSoFar db xs xs old old held
holds_none db xs old held blocks counts = record {
  apart = subst AreApart (sym blocks) tt;
  beside = λ y here. beside y;
  puts = λ mid end gains lacking puts. record {
    each = all_from (λ (y : KeyChanges). TurnsAny packed_blocks db y.key.now y.changes.now old end) xs (λ y here.
        turns_from packed_blocks db y.key.now mid old (alike_back packed_blocks db y.key.now old mid (alike db y.key.now held (beside y) old mid gains)) y.changes.now end (all_has (λ (z : KeyChanges). TurnsAny packed_blocks db z.key.now z.changes.now mid end) xs y puts.each here));
    rows = record {
      blocks = record {
        stays = λ row out there. puts.rows.blocks.stays row out ((gains.blocks row).1 (inl there));
        comes = λ row there. elim (puts.rows.blocks.comes row there) [ inl was ↦ inl (block_was mid gains row was.0, was.1) | inr own ↦ inr own ];
      };
      dict = record {
        stays = λ row out there. puts.rows.dict.stays row out ((gains.dict row).1 (inl there));
        comes = λ row there. elim (puts.rows.dict.comes row there) [ inl was ↦ inl (count_was mid gains row was.0, was.1) | inr own ↦ inr own ];
      };
      postings = puts.rows.postings ∙ gains.postings;
    };
    lists = (puts.lists.0 ∙ gains.lists.0, puts.lists.1 ∙ gains.lists.1, puts.lists.2 ∙ gains.lists.2);
  };
  stands = λ some. absurd (none_of held blocks some.0 some.1);
  refused = λ fault told. told;
}
  where
    beside : (y : KeyChanges) → AreBeside y.key.now held
    beside y = record { blocks = λ one there. absurd (none_of held blocks one there); counts = λ one there. absurd (none_counted held counts one there) }

    block_was : (mid : Trees) → GainsRows db held old mid → (row : Row) → HasRow mid blocks_tree row → HasRow old blocks_tree row
    block_was mid gains row h = elim ((gains.blocks row).0 h) [ inl was ↦ was | inr put ↦ let it = block_of db held.blocks.items row put in absurd (none_of held blocks it.0 it.1) ]

    count_was : (mid : Trees) → GainsRows db held old mid → (row : Row) → HasRow mid dict_tree row → HasRow old dict_tree row
    count_was mid gains row h = elim ((gains.dict row).0 h) [ inl was ↦ was | inr put ↦ let it = count_of db held.counts.items row put in absurd (none_counted held counts it.0 it.1) ]

-- ---- one key more

none_any : (db : ℤ) (key : Key) (changes : List RecordChange) → changes ≡ [] → (trees : Trees) → PutsAny packed_blocks db key changes trees trees
none_any db key [] none trees = λ tree. refl
none_any db key (change ∷ changes) none trees = absurd (cc)

some_not : (change : RecordChange) (changes : List RecordChange) → {list : List RecordChange} → list ≡ change ∷ changes → list ≡ [] → ⊥
some_not change changes is none = let e : change ∷ changes ≡ [] = sym is ∙ none in cc

module _ (db : ℤ) (xs : List KeyChanges) (x : KeyChanges) (rest : List KeyChanges) (rise : KeysRise (x ∷ rest)) (old now : Trees) (held : NewRows) (so_far : HoldsSoFar db xs (x ∷ rest) old now held) where
  beside_rest : (y : KeyChanges) → Has rest y → AreBeside y.key.now held
  beside_rest y here = so_far.beside y (inr here)

  -- no change of it
  none_changed : x.changes.now ≡ [] → HoldsSoFar db xs rest old now held
  none_changed none = record {
    apart = so_far.apart;
    beside = beside_rest;
    puts = λ mid end gains lacking puts. so_far.puts mid end gains lacking (put_more packed_blocks db x rest rise mid mid (none_any db x.key.now x.changes.now none mid) end puts);
    stands = so_far.stands;
    refused = λ fault told. so_far.refused fault (refused_later packed_blocks db x rest rise now now (none_any db x.key.now x.changes.now none now) fault told);
  }

  module _ (some : x.changes.now ≢ []) where
    -- its rows are changed
    key_changed : (new : Trees) → PutsUnits packed_blocks db x.key.now x.changes.now now new → HoldsSoFar db xs rest old new held
    key_changed new puts =
        let own = so_far.beside x (inl refl) in record {
          apart = so_far.apart;
          beside = beside_rest;
          puts = λ mid end gains lacking later.
              let before = with_rows db held now in
              let first = puts_beside db x.key.now held own x.changes.now now new before mid puts (rows_are_gained db held now) gains in
              so_far.puts before end (rows_are_gained db held now) (λ one here. lacks_before db x.key.now held own x.changes.now now new puts one here (lacking one here))
              (put_more packed_blocks db x rest rise before mid (puts_any db x.key.now x.changes.now before mid some first) end later);
          stands = λ it. so_far.stands (it.0, it.1, λ lacks. it.2 (lacks_then db x.key.now held own x.changes.now now new puts it.0 it.1 lacks));
          refused = λ fault told. so_far.refused fault (refused_later packed_blocks db x rest rise now new (puts_any db x.key.now x.changes.now now new some puts) fault told);
        }

    -- its rows are held
    key_held : (made after : NewRows) → BeginsKey x.key.now x.changes.now made → CountsAs now db x.key.now 0 → AreBehind held made after → HoldsSoFar db xs rest old now after
    key_held made after begun counts behind = record {
      apart = subst AreApart (sym behind.blocks) (apart_joined held.blocks.items made.blocks.items so_far.apart begun.apart (λ one two here there same. own.blocks one here (sym same.0 ∙ (begun.own two there).0)));
      beside = λ y here. record {
        blocks = λ one there same. elim (block_either one there) [
          | inl before ↦ (beside_rest y here).blocks one before same
          | inr new ↦ stands_once x rest rise (y, here, sym same ∙ (begun.own one new).0)
        ];
        counts = λ one there same. elim (count_either one there) [
          | inl before ↦ (beside_rest y here).counts one before same
          | inr new ↦ stands_once x rest rise (y, here, sym same ∙ begun.counts one new)
        ];
      };
      puts = λ mid end gains lacking later.
          let between = with_rows db made now in
          let before = with_rows db held now in
          let alone = begun.puts db now between counts (λ one here. lacking one (block_later one here)) (rows_are_gained db made now) in
          let first = puts_beside db x.key.now held own x.changes.now now between before mid alone (rows_are_gained db held now) (gains_held mid gains) in
          so_far.puts before end (rows_are_gained db held now) (λ one here. lacking one (block_before one here)) (put_more packed_blocks db x rest rise before mid (puts_any db x.key.now x.changes.now before mid some first) end later);
      stands = λ it. elim (block_either it.0 it.1) [
        | inl before ↦ so_far.stands (it.0, before, it.2)
        | inr new ↦ so_far.refused Damaged (λ told. (
          x,
          inl refl,
          begun.stored,
          λ were are allows.
              let none : were.records ≡ 0 = one_key_count now db x.key.now were.records 0 allows.count.is counts in
              let lacks = allows.count.lacks none it.0.block (begun.own it.0 new).1 in
              it.2 (subst (λ (k : Key). LacksBlock db k it.0.block now) (sym (begun.own it.0 new).0) lacks),
        )) refl
      ];
      refused = λ fault told. so_far.refused fault (λ is. let it = told is in (it.0, inr it.1, it.2, it.3));
    }
      where
        own : AreBeside x.key.now held
        own = so_far.beside x (inl refl)

        block_either : (one : NewBlock) → Has after.blocks.items one → Has held.blocks.items one ⊎ Has made.blocks.items one
        block_either one there = has_either held.blocks.items made.blocks.items one (subst (λ (l : List NewBlock). Has l one) behind.blocks there)

        count_either : (one : NewCount) → Has after.counts.items one → Has held.counts.items one ⊎ Has made.counts.items one
        count_either one there = has_either held.counts.items made.counts.items one (subst (λ (l : List NewCount). Has l one) behind.counts there)

        block_before : (one : NewBlock) → Has held.blocks.items one → Has after.blocks.items one
        block_before one here = subst (λ (l : List NewBlock). Has l one) (sym behind.blocks) (has_left held.blocks.items made.blocks.items one here)

        block_later : (one : NewBlock) → Has made.blocks.items one → Has after.blocks.items one
        block_later one here = subst (λ (l : List NewBlock). Has l one) (sym behind.blocks) (has_right held.blocks.items made.blocks.items one here)

        gains_held : (mid : Trees) → GainsRows db after now mid → GainsRows db held (with_rows db made now) mid
        gains_held mid gains =
            let own_rows = rows_are_gained db made now in record {
              blocks = gained_more (new_block_row db) held.blocks.items made.blocks.items blocks_tree now (with_rows db made now) mid own_rows.blocks (subst (λ (l : List NewBlock). GainsAll (map (new_block_row db) l) blocks_tree now mid) behind.blocks gains.blocks);
              dict = gained_more (new_count_row db) held.counts.items made.counts.items dict_tree now (with_rows db made now) mid own_rows.dict (subst (λ (l : List NewCount). GainsAll (map (new_count_row db) l) dict_tree now mid) behind.counts gains.dict);
              postings = gains.postings;
              lists = gains.lists;
            }

  -- the key is turned
  turned_more : (changes : List RecordChange) → x.changes.now ≡ changes → (new : Trees) (after : NewRows) → TurnsKey db x.key.now changes now new held after → HoldsSoFar db xs rest old new after
  turned_more [] is new after turned = subst (HoldsSoFar db xs rest old new) (sym turned.1) (subst (λ (t : Trees). HoldsSoFar db xs rest old t held) (sym turned.0) (none_changed is))
  turned_more (change ∷ changes) is new after (inl puts) =
      subst (HoldsSoFar db xs rest old new) (sym puts.1) (key_changed (λ none. absurd (some_not change changes is none)) new (subst (λ l. PutsUnits packed_blocks db x.key.now l now new) (sym is) puts.0))
  turned_more (change ∷ changes) is new after (inr held') =
      subst (λ (t : Trees). HoldsSoFar db xs rest old t after) (sym held'.4) (key_held (λ none. absurd (some_not change changes is none)) held'.0 after (subst (λ l. BeginsKey x.key.now l held'.0) (sym is) held'.1) held'.2 held'.3)

  pub key_more : (new : Trees) (after : NewRows) → TurnsKey db x.key.now x.changes.now now new held after → HoldsSoFar db xs rest old new after
  key_more new after turned = turned_more x.changes.now refl new after turned

  pub key_refused : (fault : RegFault) → IsRefusedAs packed_blocks db x.key.now x.changes.now now fault → IsRunRefusedAs packed_blocks db xs old fault
  key_refused fault told = so_far.refused fault (refused_first packed_blocks db x rest now fault told)

-- ---- all keys

pub holds_all : (db : ℤ) (xs left : List KeyChanges) (old now : Trees) (held : NewRows) → left ≡ [] → HoldsSoFar db xs left old now held → HoldsRun db xs old now held
holds_all db xs left old now held none it = record {
  apart = it.apart;
  puts = λ new gains lacking. it.puts new new gains lacking (subst (λ l. PutsKeys packed_blocks db l new new) (sym none) (none_put packed_blocks db new));
  stands = it.stands;
}

-- ---- the held rows are put

abbrev pub RunAnswers : ℤ → List KeyChanges → Trees → State → Result (Unit {0}) RegFault → Type 0
RunAnswers db xs old new = Answers (IsRunRefusedAs packed_blocks db xs old) (λ done. IsStore new × PutsKeys packed_blocks db xs old new.now.trees)

pub run_answers : (db : ℤ) (xs : List KeyChanges) (old mid : Trees) (new : State) (held : NewRows) (result : Result (Unit {0}) RegFault) → HoldsRun db xs old mid held
    → Answers (IfDamaged (SomeStands db held.blocks.items mid)) (λ done. IsStore new × GainsRows db held mid new.now.trees × AreLacking db held.blocks.items mid) result → RunAnswers db xs old new result
run_answers db xs old mid new held (Ok done) holds put = (put.0, holds.puts new.now.trees put.1 put.2)
run_answers db xs old mid new held (Err fault) holds put = λ told. holds.stands (put told)

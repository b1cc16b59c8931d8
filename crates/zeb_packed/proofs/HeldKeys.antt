-- A key that is changed beside rows of other keys, which are held.
use Rattle.zeb_packed.proofs.Cited.{packed_blocks, ◌≢◌, ◌∙◌, ◌++◌, ℤ, List, [], ◌∷◌, map, refl, sym, inl, inr, Has, Row, Trees, Key, Int, Blob, pos, key_row, IsDictIn, IsBlockIn, LacksBlock, PutsUnits, RecordChange, GainsRows, new_block_row, new_count_row, NewBlock, NewCount, NewRows, row_same}
use Rattle.zeb_packed.proofs.HeldTables.{block_of, count_of, key_is}
use Rattle.zeb_register.proofs.AlikeRows.{AreAlike, allows_alike, reads_alike}
use Rattle.zeb_register.proofs.RunRows.{one_key, own_block_of_key}

-- no held row is of the key
pub record AreBeside (key : Key) (held : NewRows) : Type 0 where
  pub blocks : (one : NewBlock) → Has held.blocks.items one → one.key.now ≢ key
  pub counts : (one : NewCount) → Has held.counts.items one → one.key.now ≢ key

module _ (db : ℤ) (key : Key) (held : NewRows) (beside : AreBeside key held) where
  module _ (old new : Trees) (gains : GainsRows db held old new) where
    -- the rows of the key are the same
    pub alike : AreAlike db key old new
    alike = record {
      postings = λ rest. (row_same 7 old new gains.postings (key_row db key ++ rest), row_same 7 new old (sym gains.postings) (key_row db key ++ rest));
      blocks = λ rest. (
        λ h. (gains.blocks _).1 (inl h),
        λ h. elim ((gains.blocks (key_row db key ++ rest)).0 h) [
          | inl was ↦ was
          | inr put ↦ let it = block_of db held.blocks.items (key_row db key ++ rest) put in absurd (beside.blocks it.0 it.1 (sym (key_is db key it.0.key.now (key_row db key ++ rest) (Int (pos it.0.block) ∷ Blob it.0.bytes.items ∷ []) (refl, refl, refl, refl) it.2)))
        ],
      );
      dict = λ rest. (
        λ h. (gains.dict _).1 (inl h),
        λ h. elim ((gains.dict (key_row db key ++ rest)).0 h) [
          | inl was ↦ was
          | inr put ↦ let it = count_of db held.counts.items (key_row db key ++ rest) put in absurd (beside.counts it.0 it.1 (sym (key_is db key it.0.key.now (key_row db key ++ rest) (Int (pos it.0.records) ∷ []) (refl, refl, refl, refl) it.2)))
        ],
      );
    }

  module _ (changes : List RecordChange) (old new mid end : Trees) (puts : PutsUnits packed_blocks db key changes old new) (first : GainsRows db held old mid) (last : GainsRows db held new end) where
    not_block : (row : Row) → Has (map (new_block_row db) held.blocks.items) row → ¬ IsDictIn db key row
    not_block row put of = let it = block_of db held.blocks.items row put in beside.blocks it.0 it.1 (sym (key_is db key it.0.key.now row (Int (pos it.0.block) ∷ Blob it.0.bytes.items ∷ []) of it.2))

    not_count : (row : Row) → Has (map (new_count_row db) held.counts.items) row → ¬ IsDictIn db key row
    not_count row put of = let it = count_of db held.counts.items row put in beside.counts it.0 it.1 (sym (key_is db key it.0.key.now row (Int (pos it.0.records) ∷ []) of it.2))

    -- the key is changed in the same way beside them
    pub puts_beside : PutsUnits packed_blocks db key changes mid end
    puts_beside = record {
      text = puts.text;
      stored = puts.stored;
      were = puts.were;
      are = puts.are;
      allowed = allows_alike packed_blocks db key old mid (alike old mid first) changes puts.were puts.are puts.allowed;
      put = λ n it. reads_alike packed_blocks db key new end (alike new end last) n (puts.are.places n) (puts.put n it);
      rows = record {
        blocks = record {
          stays = λ row out there. (last.blocks row).1 (elim ((first.blocks row).0 there) [ inl was ↦ inl (puts.rows.blocks.stays row out was) | inr held' ↦ inr held' ]);
          comes = λ row there. elim ((last.blocks row).0 there) [
            | inl was ↦ elim (puts.rows.blocks.comes row was) [ inl kept ↦ inl ((first.blocks row).1 (inl kept.0), kept.1) | inr own ↦ inr own ]
            | inr held' ↦ inl ((first.blocks row).1 (inr held'), λ of. not_block row held' (of.2.0, of.2.1, of.2.2, of.2.3))
          ];
        };
        dict = λ row. (
          λ there. elim ((last.dict row).0 there) [
            | inl was ↦ elim ((puts.rows.dict row).0 was) [ inl kept ↦ inl ((first.dict row).1 (inl kept.0), kept.1) | inr own ↦ inr own ]
            | inr held' ↦ inl ((first.dict row).1 (inr held'), not_count row held')
          ],
          λ h. (last.dict row).1 (elim h [
            | inl kept ↦ elim ((first.dict row).0 kept.0) [ inl was ↦ inl ((puts.rows.dict row).1 (inl (was, kept.1))) | inr held' ↦ inr held' ]
            | inr own ↦ inl ((puts.rows.dict row).1 (inr own))
          ]),
        );
        postings = last.postings ∙ puts.rows.postings ∙ sym first.postings;
      };
      lists = (
        last.lists.0 ∙ puts.lists.0 ∙ sym first.lists.0,
        last.lists.1 ∙ puts.lists.1 ∙ sym first.lists.1,
        last.lists.2 ∙ puts.lists.2 ∙ sym first.lists.2,
      );
    }

  -- whether a held block has a row is as it was
  module _ (changes : List RecordChange) (old new : Trees) (puts : PutsUnits packed_blocks db key changes old new) (one : NewBlock) (among : Has held.blocks.items one) where
    apart : (row : Row) → IsBlockIn db one.key.now one.block row → ¬ IsDictIn db key row
    apart row in_it of = beside.blocks one among (sym (one_key db key one.key.now row of (in_it.0, in_it.1, in_it.2, in_it.3)))

    pub lacks_then : LacksBlock db one.key.now one.block old → LacksBlock db one.key.now one.block new
    lacks_then lacks row there in_it = elim (puts.rows.blocks.comes row there) [
      | inl was ↦ lacks row was.0 in_it
      | inr own ↦ apart row in_it (own_block_of_key db key changes row own)
    ]

    pub lacks_before : LacksBlock db one.key.now one.block new → LacksBlock db one.key.now one.block old
    lacks_before lacks row there in_it = lacks row (puts.rows.blocks.stays row (λ of. apart row in_it (of.2.0, of.2.1, of.2.2, of.2.3)) there) in_it

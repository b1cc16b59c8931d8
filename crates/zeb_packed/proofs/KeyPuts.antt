-- Rows of `blocks` and that of `dict`, written one after the other, as a change of the key's units.
use Rattle.zeb_packed.proofs.Cited.{IsUtf8, packed_blocks, ◌≡◌, ◌≢◌, ◌∙◌, ◌≤◌, ◌/◌, ◌==◌, ℕ, zero, suc, ℤ, not, List, [], ◌∷◌, refl, subst, inl, inr, arith, AllByRecursion, State, Trees, Posting, Key, RecordChange, Alters, IsDictIn, Changes, IsStore, blocks_tree, dict_tree, Known, AllowsBlocks, TurnsBlocks, IfTold, IsClearFrom, BlockReads, CountsAs, AllowsChanges, IsBlockAmong, IsOwnBlock, IsStorableChange, KeepsBut, KeyUnits, LacksNewBlocks, NumbersRise, PutsAny, PutsCount, PutsUnits, TurnsUnits}
use Rattle.zeb_packed.proofs.KeyCounts.{count_told}
use Rattle.zeb_packed.proofs.PackedWrites.{has_as, told_as}
use Rattle.zeb_register.proofs.BlockContents.{one_key_count}
use Rattle.zeb_packed.proofs.UnitRuns.{lacks_each, lacks_far, lacks_new}

-- rows that allow the changes of a key allow those of its blocks
pub blocks_allowed : (db : ℤ) (key : Key) (changes : List RecordChange) (known : Known) (trees : Trees) (were are : KeyUnits) → IsClearFrom known → CountsAs trees db key known.records → AllByRecursion IsStorableChange changes
    → AllowsChanges packed_blocks db key changes trees were are → AllowsBlocks db key changes (λ block. known.clear_from ≤ block) known.records trees
blocks_allowed db key changes known trees were are clear counts stored allows = record {
  were = were.places;
  are = are;
  found = allows.found;
  turns = subst (λ r. TurnsUnits packed_blocks changes (record { places = were.places; records = r }) are) same allows.turns;
  lacks = by known.records refl;
}
  where
    same : were.records ≡ known.records
    same = one_key_count trees db key were.records known.records allows.count.is counts

    by : (n : ℕ) → known.records ≡ n → LacksNewBlocks (λ block. known.clear_from ≤ block) db key changes trees
    by zero none = lacks_new db key (λ block. known.clear_from ≤ block) changes trees (allows.count.lacks (same ∙ none))
    by (suc n) some = lacks_far db key (λ block. known.clear_from ≤ block) known.clear_from changes trees (clear.some (omega (arith, some))) (λ block is. is) stored

-- ---- tables of which one is written

reads_same : (old new : Trees) (db : ℤ) (key : Key) (block : ℕ) (part : List Posting) → new blocks_tree ≡ old blocks_tree → BlockReads old db key block part → BlockReads new db key block part
reads_same old new db key block part same reads = record {
  spelled = λ row of. reads.spelled row ((has_as blocks_tree new old same _).0 of.0, of.1);
  there = λ some. let it = reads.there some in (it.0, ((has_as blocks_tree new old same _).1 it.1.0, it.1.1));
}

module _ (db : ℤ) (key : Key) (changes : List RecordChange) (known : Known) (after : ℕ) (s mid t : State) (counts : CountsAs s.now.trees db key known.records) (clear : IsClearFrom known)
    (text : IsUtf8 key.term) (stored : AllByRecursion IsStorableChange changes) (rise : NumbersRise changes) (one : Changes blocks_tree (λ tree. TurnsBlocks db key changes (λ block. known.clear_from ≤ block) known.records after) s mid) (two : Changes dict_tree (IfTold (not (known.records == 0)) (IsDictIn db key) (PutsCount db key after)) mid t) where
  blocks_same : t.now.trees blocks_tree ≡ mid.now.trees blocks_tree
  blocks_same = two.others.1.1.1.1.0 (λ e. absurd (omega (arith, e)))

  dict_same : mid.now.trees dict_tree ≡ s.now.trees dict_tree
  dict_same = one.others.1.1.1.1.1.0 (λ e. absurd (omega (arith, e)))

  counted : PutsCount db key after dict_tree s.now.trees t.now.trees
  counted row =
      let told = told_as (not (known.records == 0)) (IsDictIn db key) dict_tree s.now.trees mid.now.trees (has_as dict_tree mid.now.trees s.now.trees dict_same) (count_told s.now.trees db key known.records counts) in
      let put = two.rows told row in (
        λ h. elim (put.0 h) [ inl was ↦ inl ((has_as dict_tree mid.now.trees s.now.trees dict_same row).0 was.0, was.1) | inr own ↦ inr own ],
        λ h. put.1 (elim h [ inl was ↦ inl ((has_as dict_tree mid.now.trees s.now.trees dict_same row).1 was.0, was.1) | inr own ↦ inr own ]),
      )

  kept : KeepsBut (IsBlockAmong db key changes) (IsOwnBlock db key changes) blocks_tree s.now.trees t.now.trees
  kept = record {
    stays = λ row not_it there. (has_as blocks_tree t.now.trees mid.now.trees blocks_same row).1 (one.rows.rows.stays row not_it there);
    comes = λ row there. one.rows.rows.comes row ((has_as blocks_tree t.now.trees mid.now.trees blocks_same row).0 there);
  }

  pub units_put : PutsUnits packed_blocks db key changes s.now.trees t.now.trees
  units_put = record {
    text = text;
    stored = stored;
    were = record { places = one.rows.were; records = known.records };
    are = record { places = one.rows.are; records = after };
    allowed = record {
      count = record {
        is = counts;
        lacks = λ none block touch. lacks_each db key (λ b. known.clear_from ≤ b) changes s.now.trees rise one.rows.lacks block touch (omega (arith, clear.none none));
      };
      found = one.rows.found;
      turns = one.rows.turns;
    };
    put = λ n it. let reads = one.rows.put n it in (reads.0, reads_same mid.now.trees t.now.trees db key (n / 256) reads.0 blocks_same reads.1, reads.2);
    rows = record {
      blocks = kept;
      dict = counted;
      postings = two.others.1.1.1.0 (λ e. absurd (omega (arith, e))) ∙ one.others.1.1.1.0 (λ e. absurd (omega (arith, e)));
    };
    lists = (
      two.others.0 (λ e. absurd (omega (arith, e))) ∙ one.others.0 (λ e. absurd (omega (arith, e))),
      two.others.1.0 (λ e. absurd (omega (arith, e))) ∙ one.others.1.0 (λ e. absurd (omega (arith, e))),
      two.others.1.1.0 (λ e. absurd (omega (arith, e))) ∙ one.others.1.1.0 (λ e. absurd (omega (arith, e))),
    );
  }

pub key_answers : (db : ℤ) (key : Key) (changes : List RecordChange) (known : Known) (after : ℕ) (s mid t : State) → CountsAs s.now.trees db key known.records → IsClearFrom known → IsUtf8 key.term → AllByRecursion IsStorableChange changes → NumbersRise changes
    → Changes blocks_tree (λ tree. TurnsBlocks db key changes (λ block. known.clear_from ≤ block) known.records after) s mid → Alters dict_tree (IfTold (not (known.records == 0)) (IsDictIn db key) (PutsCount db key after)) mid t
    → IsStore t × PutsUnits packed_blocks db key changes s.now.trees t.now.trees
key_answers db key changes known after s mid t counts clear text stored rise one two =
    let put = two.rows one.layout in (put.layout, units_put db key changes known after s mid t counts clear text stored rise one put)

pub puts_any : (db : ℤ) (key : Key) (changes : List RecordChange) (old new : Trees) → changes ≢ [] → PutsUnits packed_blocks db key changes old new → PutsAny packed_blocks db key changes old new
puts_any db key [] old new some puts = absurd (some refl)
puts_any db key (change ∷ changes) old new some puts = puts

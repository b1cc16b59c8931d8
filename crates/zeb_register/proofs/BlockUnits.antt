-- What packed rows say of a key, unit by unit: each has one reading, a malformed one none. What tables hold says each unit.
use Rattle.zeb_register.proofs.Cited.{Row, column, Trees, Int, Blob, ◌≡◌, ◌∙◌, ◌/◌, ℕ, ℤ, pos, List, [], ◌∷◌, ◌++◌, map, refl, sym, ap, subst, Key, Place, Posting, Content, posting_cmp, HoldsBlockRows, SpellsPart, part_in, key_row, places_in, AreAllSpelled, BlockReads, HasMalformed, IsBlockMalformed, IsMalformedAt, IsOfKey, ReadsAs}
use Rattle.std.specs.List.Sorted.{IsStrictlySortedBy}
use Rattle.zeb_register.proofs.ContentLemmas.{some_posting, told_apart}
use Rattle.zeb_register.proofs.KeyPlaces.{own_part, place_of}
use Rattle.zeb_register.proofs.PackedLemmas.{block_spells, block_there, part_in_block, part_in_list}
use Rattle.zeb_register.proofs.PackedLists.{one_part}

-- ---- a unit has one reading

pub one_block_read : (trees : Trees) (db : ℤ) (key : Key) (block : ℕ) (one two : List Posting) → BlockReads trees db key block one → BlockReads trees db key block two → one ≡ two
one_block_read trees db key block [] [] left right = refl
one_block_read trees db key block (p ∷ one) two left right =
    let row = left.there (λ none. cc) in
    one_part row.0 (p ∷ one) two (left.spelled row.0 row.1) (right.spelled row.0 row.1)
one_block_read trees db key block [] (q ∷ two) left right =
    let row = right.there (λ none. cc) in
    one_part row.0 [] (q ∷ two) (left.spelled row.0 row.1) (right.spelled row.0 row.1)

pub one_reading : (trees : Trees) (db : ℤ) (key : Key) (sysno : ℕ) (one two : List Place) → ReadsAs trees db key sysno one → ReadsAs trees db key sysno two → one ≡ two
one_reading trees db key sysno one two left right =
    left.2 ∙ ap (places_in sysno) (one_block_read trees db key (sysno / 256) left.0 right.0 left.1 right.1) ∙ sym right.2

-- and none where it is malformed
pub malformed_unread : (trees : Trees) (db : ℤ) (key : Key) (sysno : ℕ) (places : List Place) → IsMalformedAt trees db key sysno → ReadsAs trees db key sysno places → ⊥
malformed_unread trees db key sysno places bad reads = bad.2 reads.0 (reads.1.spelled bad.0 bad.1)

pub malformed_block : (trees : Trees) (db : ℤ) (key : Key) (block : ℕ) (part : List Posting) → IsBlockMalformed trees db key block → BlockReads trees db key block part → ⊥
malformed_block trees db key block part bad reads = bad.2 part (reads.spelled bad.0 bad.1)

pub none_rises : IsStrictlySortedBy posting_cmp []
unfolding IsStrictlySortedBy
none_rises = tt

pub read_rises : (trees : Trees) (db : ℤ) (key : Key) (block : ℕ) (part : List Posting) → BlockReads trees db key block part → IsStrictlySortedBy posting_cmp part
read_rises trees db key block [] reads = none_rises
read_rises trees db key block (p ∷ part) reads = let row = reads.there (λ none. cc) in (reads.spelled row.0 row.1).4.lies.rising

-- ---- tables that hold a content

module _ (trees : Trees) (content : Content) (holds : HoldsBlockRows trees content) (db : ℤ) (key : Key) where
  abbrev list : List Posting
  list = content db key

  pub held_row : (row : Row) → IsOfKey trees db key row → (block : ℕ) × SpellsPart row (part_in block list) × (column row 0 ≡ Int (pos block))
  held_row row there =
      let found = (holds.blocks (key_row db key ++ row)).0 there in
      let is : row ≡ Int (pos found.2) ∷ Blob found.3 ∷ [] = (told_apart found.0 db found.1 key row (Int (pos found.2) ∷ Blob found.3 ∷ []) found.5).2 in
      let spells = block_spells trees content db key found.2 found.3 holds (subst (IsOfKey trees db key) is there) in
      let number : column row 0 ≡ Int (pos found.2) = ap (λ (r : Row). column r 0) is in
      (found.2, (found.2, found.3, number, ap (λ (r : Row). column r 1) is, spells), number)

  pub held_sound : AreAllSpelled trees (key_row db key)
  held_sound row there = let it = held_row row there in (part_in it.0 list, it.1)

  pub held_block : (block : ℕ) → BlockReads trees db key block (part_in block list)
  held_block block = record {
    spelled = λ row of.
        let it = held_row row of.0 in
        let numbers : Int (pos it.0) ≡ Int (pos block) = sym it.2 ∙ of.1 in
        let same : it.0 ≡ block = cc in
        subst (λ b. SpellsPart row (part_in b list)) same it.1;
    there = λ some.
        let p = some_posting (part_in block list) some in
        let row = block_there trees content db key p.0 holds (part_in_list block list p.0 p.1) in
        (_, (row, ap (λ (n : ℕ). Int (pos n)) (part_in_block block list p.0 p.1)));
  }

  -- each unit reads as the content says
  pub held_units : (sysno : ℕ) → ReadsAs trees db key sysno (places_in sysno list)
  held_units sysno = (part_in (sysno / 256) list, held_block (sysno / 256), ap (map place_of) (own_part sysno list))

-- ---- where each row spells postings none is malformed

pub spelled_sound : (trees : Trees) (db : ℤ) (key : Key) → AreAllSpelled trees (key_row db key) → HasMalformed trees db key → ⊥
spelled_sound trees db key all bad = let it = all bad.0 bad.1 in bad.2 it.0 it.1

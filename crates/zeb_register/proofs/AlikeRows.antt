-- Tables that have the same rows of one key, or leaves that say the same of it: its units read alike from both, and allow the same changes.
use Rattle.zeb_register.proofs.Cited.{◌↔◌, ◌++◌, ◌/◌, ℕ, ℤ, List, [], ◌∷◌, sym, subst, Row, Trees, HasRow, Posting, Key, Place, RecordChange, Format, packed_blocks, packed_leaves, plain_rows, key_row, postings_tree, blocks_tree, dict_tree, LeavesRead, BlockReads, CountsAs, RowsRead, TurnsAny, counts_on, AllowsChanges, KeyUnits, LacksBlock, is_counted}
use Rattle.zeb_register.proofs.Malformed.{key_begins}
use Rattle.zeb_register.specs.Units.{reads_as}

abbrev pub HasAlike : ℕ → ℤ → Key → Trees → Trees → Type 0
HasAlike tree db key one two = (rest : Row) → HasRow one tree (key_row db key ++ rest) ↔ HasRow two tree (key_row db key ++ rest)

-- the tables of the registers have the same rows of the key
pub record AreAlike (db : ℤ) (key : Key) (one two : Trees) : Type 0 where
  pub postings : HasAlike postings_tree db key one two
  pub blocks : HasAlike blocks_tree db key one two
  pub dict : HasAlike dict_tree db key one two

rows_back : (db : ℤ) (key : Key) (one two : Trees) → AreAlike db key one two → AreAlike db key two one
rows_back db key one two alike = record {
  postings = λ row. ((alike.postings row).1, (alike.postings row).0);
  blocks = λ row. ((alike.blocks row).1, (alike.blocks row).0);
  dict = λ row. ((alike.dict row).1, (alike.dict row).0);
}

-- ---- rows

module _ (db : ℤ) (key : Key) (one two : Trees) (alike : AreAlike db key one two) where
  rows_alike : (n : ℕ) (places : List Place) → RowsRead one db key n places → RowsRead two db key n places
  rows_alike n places reads = record {
    rising = reads.rising;
    shown = λ row of. reads.shown row ((alike.postings row).1 of.0, of.1);
    there = λ place here. let it = reads.there place here in (it.0, (alike.postings it.0).0 it.1, it.2);
  }

  block_alike : (block : ℕ) (part : List Posting) → BlockReads one db key block part → BlockReads two db key block part
  block_alike block part reads = record {
    spelled = λ row of. reads.spelled row ((alike.blocks row).1 of.0, of.1);
    there = λ some. let it = reads.there some in (it.0, ((alike.blocks it.0).0 it.1.0, it.1.1));
  }

  pub count_alike : (records : ℕ) → CountsAs one db key records → CountsAs two db key records
  count_alike records counts = record {
    said = λ row of. counts.said row ((alike.dict row).1 of);
    there = λ some. let it = counts.there some in (it.0, (alike.dict it.0).0 it.1);
  }

  lacks_alike : (block : ℕ) → LacksBlock db key block one → LacksBlock db key block two
  lacks_alike block lacks row there in_it =
      let it = key_begins db key row in_it.0 in_it.1 in_it.2 in_it.3 in
      lacks row (subst (HasRow one blocks_tree) (sym it.1) ((alike.blocks it.0).1 (subst (HasRow two blocks_tree) it.1 there))) in_it

-- ---- in each format

-- leaves say the same of each unit of the key
abbrev pub AreUnitsAlike : ℤ → Key → Trees → Trees → Type 0
AreUnitsAlike db key one two = (n : ℕ) (places : List Place) → LeavesRead one db key n places ↔ LeavesRead two db key n places

abbrev pub are_alike : Format → ℤ → Key → Trees → Trees → Type 0
are_alike plain_rows = AreAlike
are_alike packed_blocks = AreAlike
are_alike packed_leaves = AreUnitsAlike

pub alike_back : (format : Format) (db : ℤ) (key : Key) (one two : Trees) → are_alike format db key one two → are_alike format db key two one
alike_back plain_rows = rows_back
alike_back packed_blocks = rows_back
alike_back packed_leaves = λ db key one two alike n places. let same = alike n places in (same.1, same.0)

pub reads_alike : (format : Format) (db : ℤ) (key : Key) (one two : Trees) → are_alike format db key one two → (n : ℕ) (places : List Place) → reads_as format one db key n places → reads_as format two db key n places
reads_alike plain_rows db key one two alike n places reads = rows_alike db key one two alike n places reads
reads_alike packed_blocks db key one two alike n places reads = (reads.0, block_alike db key one two alike (n / 256) reads.0 reads.1, reads.2)
reads_alike packed_leaves db key one two alike n places reads = (alike n places).0 reads

counts_alike : (format : Format) (db : ℤ) (key : Key) (one two : Trees) → are_alike format db key one two → (records : ℕ) → counts_on format one db key records → counts_on format two db key records
counts_alike plain_rows db key one two alike records counts = tt
counts_alike packed_blocks db key one two alike records counts = count_alike db key one two alike records counts
counts_alike packed_leaves db key one two alike records counts = tt

counted_alike : (format : Format) (db : ℤ) (key : Key) (one two : Trees) → are_alike format db key one two → (changes : List RecordChange) (records : ℕ) → is_counted format db key changes one records → is_counted format db key changes two records
counted_alike plain_rows db key one two alike changes records counts = tt
counted_alike packed_blocks db key one two alike changes records counts =
    record { is = count_alike db key one two alike records counts.is; lacks = λ none block touch. lacks_alike db key one two alike block (counts.lacks none block touch) }
counted_alike packed_leaves db key one two alike changes records counts = tt

module _ (format : Format) (db : ℤ) (key : Key) (one two : Trees) (alike : are_alike format db key one two) where
  -- what is allowed on the one is allowed on the other
  pub allows_alike : (changes : List RecordChange) (were are : KeyUnits) → AllowsChanges format db key changes one were are → AllowsChanges format db key changes two were are
  allows_alike changes were are allows = record {
    count = counted_alike format db key one two alike changes were.records allows.count;
    found = λ n it. reads_alike format db key one two alike n (were.places n) (allows.found n it);
    turns = allows.turns;
  }

  -- the key is turned from the one as from the other, and to the one as to the other
  pub turns_from : (changes : List RecordChange) (new : Trees) → TurnsAny format db key changes one new → TurnsAny format db key changes two new
  turns_from [] new turns = tt
  turns_from (change ∷ changes) new turns = record {
    text = turns.text;
    stored = turns.stored;
    were = turns.were;
    are = turns.are;
    allowed = allows_alike (change ∷ changes) turns.were turns.are turns.allowed;
    put = turns.put;
    counted = turns.counted;
  }

  pub turns_to : (changes : List RecordChange) (old : Trees) → TurnsAny format db key changes old one → TurnsAny format db key changes old two
  turns_to [] old turns = tt
  turns_to (change ∷ changes) old turns = record {
    text = turns.text;
    stored = turns.stored;
    were = turns.were;
    are = turns.are;
    allowed = turns.allowed;
    put = λ n it. reads_alike format db key one two alike n (turns.are.places n) (turns.put n it);
    counted = counts_alike format db key one two alike turns.are.records turns.counted;
  }

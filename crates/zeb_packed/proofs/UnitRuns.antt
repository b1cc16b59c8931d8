-- Rows of a key's blocks, written run by run, as its units.
use Rattle.zeb_packed.proofs.Cited.{packed_blocks, ◌≡◌, ◌≢◌, ◌↔◌, ◌⊎◌, ◌∙◌, ◌/◌, ◌<◌, ◌≤◌, ◌^◌, ℕ, ℤ, pos, Result, List, [], ◌∷◌, ◌++◌, drop, refl, sym, ap, subst, inl, inr, arith, eqb_tells, AllByRecursion, Int, Blob, Row, column, Trees, Has, BlockSpells, LiesIn, spelled_from, start_of, Posting, Key, RegFault, Place, RecordChange, SpellsPart, block_row, key_row, blocks_tree, Alters, alters_so, inside_so, told_apart, Known, PutsBlock, AllowsBlock, AllowsBlocks, PutsRunOf, TurnsBlock, TurnsBlocks, units_of, BlockReads, IsOfBlock, ReadsAs, places_in, IsBlockAmong, IsBlockIn, IsOwnBlock, IsStorableChange, IsTouched, KeepsBut, KeyUnits, LacksBlock, LacksNewBlocks, NumbersRise, IsNonDecreasingBy-drop, TurnsUnits, one_reading, touched, turns_kept}
use Rattle.std.specs.Borrow.{MutBor}
use Rattle.sqlite.specs.Held.{Held, state}
use Rattle.sqlite_trees.specs.declared.store.Store.{Ghosts}
use Rattle.zeb_register.proofs.PackedKeyLaws.{keeps_reads}
use Rattle.zeb_packed.proofs.UnitTurns.{over, over_in, over_out, touched_either, touched_left, touched_right, turns_agree, turns_beside, turns_from, turns_over, turns_parted, turns_then}

-- ---- the row of one block

one_block : (m n : ℕ) → Int (pos m) ≡ Int (pos n) → m ≡ n
one_block m n same = cc

module _ (db : ℤ) (key : Key) (block : ℕ) (list : List Posting) (old new : Trees) (puts : PutsBlock db key block list blocks_tree old new) where
  own_row : (row : Row) (bytes : List ℕ) → key_row db key ++ row ≡ block_row db key block bytes → row ≡ Int (pos block) ∷ Blob bytes ∷ []
  own_row row bytes is = (told_apart db db key key row (Int (pos block) ∷ Blob bytes ∷ []) is).2

  -- a row of another block of the key stays
  pub row_beside : (n : ℕ) → n ≢ block → (row : Row) → IsOfBlock new db key n row ↔ IsOfBlock old db key n row
  row_beside n other row = (
    λ of. (
      elim ((puts (key_row db key ++ row)).0 of.0) [
        | inl was ↦ was.0
        | inr put ↦ absurd (other (one_block n block (sym of.1 ∙ ap (λ (r : Row). column r 0) (own_row row put.0 put.2))))
      ],
      of.1,
    ),
    λ of. ((puts (key_row db key ++ row)).1 (inl (of.0, λ in_it. other (one_block n block (sym of.1 ∙ in_it.4)))), of.1),
  )

  pub reads_then : (n : ℕ) (part : List Posting) → n ≢ block → BlockReads old db key n part → BlockReads new db key n part
  reads_then n part other reads = record {
    spelled = λ row of. reads.spelled row ((row_beside n other row).0 of);
    there = λ some. let it = reads.there some in (it.0, (row_beside n other it.0).1 it.1);
  }

  pub reads_before : (n : ℕ) (part : List Posting) → n ≢ block → BlockReads new db key n part → BlockReads old db key n part
  reads_before n part other reads = record {
    spelled = λ row of. reads.spelled row ((row_beside n other row).1 of);
    there = λ some. let it = reads.there some in (it.0, (row_beside n other it.0).0 it.1);
  }

  pub lacks_before : (n : ℕ) → n ≢ block → LacksBlock db key n new → LacksBlock db key n old
  lacks_before n other lacks row there in_it = lacks row ((puts row).1 (inl (there, λ it. other (one_block n block (sym in_it.4 ∙ it.4))))) in_it

  pub lacks_then : (n : ℕ) → n ≢ block → LacksBlock db key n old → LacksBlock db key n new
  lacks_then n other lacks row there in_it = elim ((puts row).0 there) [
    | inl was ↦ lacks row was.0 in_it
    | inr put ↦ other (one_block n block (sym in_it.4 ∙ ap (λ (r : Row). column r 4) put.2))
  ]

  -- the block reads as what was put
  pub reads_put : LiesIn block list → BlockReads new db key block list
  reads_put lies = record {
    spelled = λ row of. elim ((puts (key_row db key ++ row)).0 of.0) [
      | inl was ↦ absurd (was.1 (refl, refl, refl, refl, of.1))
      | inr put ↦ subst (λ (r : Row). SpellsPart r list) (sym (own_row row put.0 put.2)) (block, put.0, refl, refl, put.1)
    ];
    there = λ some.
        let bytes = spelled_from (start_of block) list in
        let spells : BlockSpells block list bytes = record { some = some; lies = lies; spelled = refl } in
        (Int (pos block) ∷ Blob bytes ∷ [], ((puts (block_row db key block bytes)).1 (inr (bytes, spells, refl)), refl));
  }

-- ---- rows that are lacking

pub lacks_fewer : (db : ℤ) (key : Key) (These Those : ℕ → Type 0) (changes : List RecordChange) (trees : Trees) → ((block : ℕ) → Those block → These block) → LacksNewBlocks These db key changes trees → LacksNewBlocks Those db key changes trees
lacks_fewer db key These Those [] trees fewer lacks = tt
lacks_fewer db key These Those (change ∷ changes) trees fewer lacks = (
  λ is. lacks.0 (fewer (change.sysno / 256) is),
  lacks_fewer db key (λ b. These b × (change.sysno / 256 < b)) (λ b. Those b × (change.sysno / 256 < b)) changes trees (λ b is. (fewer b is.0, is.1)) lacks.1,
)

pub lacks_so : (db : ℤ) (key : Key) (These : ℕ → Type 0) (changes : List RecordChange) (old new : Trees) → ((block : ℕ) → These block → LacksBlock db key block old → LacksBlock db key block new) → LacksNewBlocks These db key changes old
    → LacksNewBlocks These db key changes new
lacks_so db key These [] old new so lacks = tt
lacks_so db key These (change ∷ changes) old new so lacks = (
  λ is. so (change.sysno / 256) is (lacks.0 is),
  lacks_so db key (λ b. These b × (change.sysno / 256 < b)) changes old new (λ b is. so b is.0) lacks.1,
)

-- changes of the block, and then others
module _ (db : ℤ) (key : Key) (block : ℕ) (rest : List RecordChange) (trees : Trees) where
  abbrev Above : (ℕ → Type 0) → ℕ → Type 0
  Above These b = These b × (block < b)

  lacks_first : (These : ℕ → Type 0) (x : RecordChange) (run : List RecordChange) → x.sysno / 256 ≡ block → ((change : RecordChange) → Has run change → change.sysno / 256 ≡ block) → (These block → LacksBlock db key block trees)
      → LacksNewBlocks (Above These) db key rest trees → LacksNewBlocks These db key (x ∷ run ++ rest) trees
  lacks_first These x [] at inside here later = (
    λ is. subst (λ b. LacksBlock db key b trees) (sym at) (here (subst These at is)),
    lacks_fewer db key (Above These) (λ b. These b × (x.sysno / 256 < b)) rest trees (λ b is. (is.0, subst (λ m. m < b) at is.1)) later,
  )
  lacks_first These x (y ∷ run) at inside here later = (
    λ is. subst (λ b. LacksBlock db key b trees) (sym at) (here (subst These at is)),
    lacks_first (λ b. These b × (x.sysno / 256 < b)) y run (inside y (inl refl)) (λ c h. inside c (inr h)) (λ is. here is.0)
        (lacks_fewer db key (Above These) (Above (λ b. These b × (x.sysno / 256 < b))) rest trees (λ b is. (is.0.0, is.1)) later),
  )

  pub lacks_run : (These : ℕ → Type 0) (run : List RecordChange) → run ≢ [] → ((change : RecordChange) → Has run change → change.sysno / 256 ≡ block) → (These block → LacksBlock db key block trees)
      → LacksNewBlocks (Above These) db key rest trees → LacksNewBlocks These db key (run ++ rest) trees
  lacks_run These [] some inside here later = absurd (some refl)
  lacks_run These (x ∷ run) some inside here later = lacks_first These x run (inside x (inl refl)) (λ c h. inside c (inr h)) here later

  lacking_first : (These : ℕ → Type 0) (x : RecordChange) (run : List RecordChange) → x.sysno / 256 ≡ block → ((change : RecordChange) → Has run change → change.sysno / 256 ≡ block) → LacksNewBlocks These db key (x ∷ run ++ rest) trees
      → (These block → LacksBlock db key block trees) × LacksNewBlocks (Above These) db key rest trees
  lacking_first These x [] at inside lacks = (
    λ is. subst (λ b. LacksBlock db key b trees) at (lacks.0 (subst These (sym at) is)),
    lacks_fewer db key (λ b. These b × (x.sysno / 256 < b)) (Above These) rest trees (λ b is. (is.0, subst (λ m. m < b) (sym at) is.1)) lacks.1,
  )
  lacking_first These x (y ∷ run) at inside lacks =
      let later = lacking_first (λ b. These b × (x.sysno / 256 < b)) y run (inside y (inl refl)) (λ c h. inside c (inr h)) lacks.1 in (
        λ is. subst (λ b. LacksBlock db key b trees) at (lacks.0 (subst These (sym at) is)),
        lacks_fewer db key (Above (λ b. These b × (x.sysno / 256 < b))) (Above These) rest trees (λ b is. ((is.0, subst (λ m. m < b) (sym at) is.1), is.1)) later.1,
      )

  pub lacking_run : (These : ℕ → Type 0) (run : List RecordChange) → run ≢ [] → ((change : RecordChange) → Has run change → change.sysno / 256 ≡ block) → LacksNewBlocks These db key (run ++ rest) trees
      → (These block → LacksBlock db key block trees) × LacksNewBlocks (Above These) db key rest trees
  lacking_run These [] some inside lacks = absurd (some refl)
  lacking_run These (x ∷ run) some inside lacks = lacking_first These x run (inside x (inl refl)) (λ c h. inside c (inr h)) lacks

-- ---- changes by rising numbers of records

pub first_least : (x : RecordChange) (xs : List RecordChange) → NumbersRise (x ∷ xs) → (c : RecordChange) → Has xs c → x.sysno ≤ c.sysno
first_least x [] rise c here = absurd here
first_least x (y ∷ xs) rise c (inl same) = subst (λ (z : RecordChange). x.sysno ≤ z.sysno) (sym same) (rise 0 1 x (omega arith) (omega arith))
first_least x (y ∷ xs) rise c (inr later) =
    let next : x.sysno ≤ y.sysno = rise 0 1 x (omega arith) (omega arith) in
    omega (arith, next, first_least y xs (IsNonDecreasingBy-drop (λ (z : RecordChange). z.sysno) 1 (x ∷ y ∷ xs) rise) c later)

-- each block in which a change lies is above those of the changes before it, or one of them
pub lacks_each : (db : ℤ) (key : Key) (These : ℕ → Type 0) (changes : List RecordChange) (trees : Trees) → NumbersRise changes → LacksNewBlocks These db key changes trees
    → (block : ℕ) → IsTouched changes block → These block → LacksBlock db key block trees
lacks_each db key These [] trees rise lacks block touch is = absurd touch.1
lacks_each db key These (x ∷ xs) trees rise lacks block touch is = elim (eqb_tells (x.sysno / 256) block) [
  | inl same ↦ subst (λ b. LacksBlock db key b trees) same.1 (lacks.0 (subst These (sym same.1) is))
  | inr other ↦ elim touch.1 [
    | inl first ↦ absurd (other.1 (ap (λ (y : RecordChange). y.sysno / 256) (sym first) ∙ touch.2))
    | inr later ↦
        let least = first_least x xs rise touch.0 later in
        lacks_each db key (λ b. These b × (x.sysno / 256 < b)) xs trees (IsNonDecreasingBy-drop (λ (z : RecordChange). z.sysno) 1 (x ∷ xs) rise) lacks.1 block (touch.0, later, touch.2)
        (is, omega (arith, least, touch.2, other.1))
  ]
]

pub lacks_new : (db : ℤ) (key : Key) (These : ℕ → Type 0) (changes : List RecordChange) (trees : Trees) → ((block : ℕ) → IsTouched changes block → LacksBlock db key block trees) → LacksNewBlocks These db key changes trees
lacks_new db key These [] trees none = tt
lacks_new db key These (x ∷ xs) trees none = (
  λ is. none (x.sysno / 256) (x, inl refl, refl),
  lacks_new db key (λ b. These b × (x.sysno / 256 < b)) xs trees (λ b touch. none b (touch.0, inr touch.1, touch.2)),
)

-- where the key is known to have rows in any block, nothing is said
pub lacks_far : (db : ℤ) (key : Key) (These : ℕ → Type 0) (limit : ℕ) (changes : List RecordChange) (trees : Trees) → 2 ^ 56 ≤ limit → ((block : ℕ) → These block → limit ≤ block) → AllByRecursion IsStorableChange changes → LacksNewBlocks These db key changes trees
lacks_far db key These limit [] trees high from stored = tt
lacks_far db key These limit (change ∷ changes) trees high from stored = (
  λ is. absurd (omega (arith, high, from (change.sysno / 256) is, stored.0.sysno.1)),
  lacks_far db key (λ b. These b × (change.sysno / 256 < b)) limit changes trees high (λ b is. from b is.0) stored.1,
)

-- ---- run by run

pub none_turned : (db : ℤ) (key : Key) (These : ℕ → Type 0) (records : ℕ) (trees : Trees) → TurnsBlocks db key [] These records records trees trees
none_turned db key These records trees = record {
  were = λ n. [];
  are = λ n. [];
  found = λ n it. absurd it.1;
  put = λ n it. absurd it.1;
  turns = (λ n. refl, refl);
  lacks = tt;
  rows = record { stays = λ row not_it there. there; comes = λ row there. inl (there, λ it. absurd it.1.1) };
}

abbrev Units : (ℕ → List Place) → ℕ → KeyUnits
Units places records = record { places = places; records = records }

block_read : (trees : Trees) (db : ℤ) (key : Key) (block n : ℕ) (part : List Posting) → n / 256 ≡ block → BlockReads trees db key block part → ReadsAs trees db key n (places_in n part)
block_read trees db key block n part at reads = (part, subst (λ b. BlockReads trees db key b part) (sym at) reads, refl)

module _ (db : ℤ) (key : Key) (block : ℕ) (run rest : List RecordChange) (inside : (change : RecordChange) → Has run change → change.sysno / 256 ≡ block) (some : run ≢ []) (records mid_count : ℕ) (old mid : Trees) (turned : TurnsBlock db key block run records mid_count old mid) where
  abbrev own : KeyUnits
  own = units_of turned.part records

  abbrev next : KeyUnits
  next = units_of turned.next mid_count

  touches : (list : List RecordChange) → list ≢ [] → ((change : RecordChange) → Has list change → change.sysno / 256 ≡ block) → IsTouched list block
  touches [] some inside = absurd (some refl)
  touches (x ∷ list) some inside = (x, inl refl, inside x (inl refl))

  far_rest : (n : ℕ) → n / 256 ≢ block → IsTouched (run ++ rest) (n / 256) → IsTouched rest (n / 256)
  far_rest n far it = elim (touched_either run rest (n / 256) it) [ inl first ↦ absurd (far (sym first.2 ∙ inside first.0 first.1)) | inr later ↦ later ]

  read_next : (n : ℕ) → n / 256 ≡ block → ReadsAs mid db key n (places_in n turned.next)
  read_next n at = block_read mid db key block n turned.next at (reads_put db key block turned.next old mid turned.row turned.lies)

  module _ (These : ℕ → Type 0) (after : ℕ) (new : Trees) (later : TurnsBlocks db key rest (λ b. These b × (block < b)) mid_count after mid new) (lacks : These block → LacksBlock db key block old) where
    abbrev left : KeyUnits
    left = Units later.were mid_count

    abbrev were : KeyUnits
    were = over block own left

    found : (n : ℕ) → IsTouched (run ++ rest) (n / 256) → ReadsAs old db key n (were.places n)
    found n it = elim (eqb_tells (n / 256) block) [
      | inl near ↦ subst (ReadsAs old db key n) (sym (over_in block own left n near.1)) (block_read old db key block n turned.part near.1 turned.reads)
      | inr far ↦
          let reads = later.found n (far_rest n far.1 it) in
          subst (ReadsAs old db key n) (sym (over_out block own left n far.1)) (reads.0, reads_before db key block turned.next old mid turned.row (n / 256) reads.0 far.1 reads.1, reads.2)
    ]

    rows : KeepsBut (IsBlockAmong db key (run ++ rest)) (IsOwnBlock db key (run ++ rest)) blocks_tree old new
    rows = record {
      stays = λ row not_it there.
          later.rows.stays row (λ it. not_it (it.0, touched_right run rest it.0 it.1, it.2)) ((turned.row row).1 (inl (there, λ in_it. not_it (block, touched_left run rest block (touches run some inside), in_it))));
      comes = λ row there. elim (later.rows.comes row there) [
        | inl was ↦ elim ((turned.row row).0 was.0) [
          | inl first ↦ inl (
            first.0,
            λ it. elim (touched_either run rest it.0 it.1) [
              | inl at ↦ first.1 (subst (λ b. IsBlockIn db key b row) (sym at.2 ∙ inside at.0 at.1) it.2)
              | inr at ↦ was.1 (it.0, at, it.2)
            ],
          )
          | inr put ↦ inr (block, put.0, touched_left run rest block (touches run some inside), put.2)
        ]
        | inr put ↦ inr (put.0, put.1, touched_right run rest put.0 put.2, put.3)
      ];
    }

    lacking : LacksNewBlocks These db key (run ++ rest) old
    lacking =
        lacks_run db key block rest old These run some inside lacks
        (lacks_so db key (λ b. These b × (block < b)) rest mid old (λ b is none. lacks_before db key block turned.next old mid turned.row b (λ same. omega (arith, is.1, same)) none) later.lacks)

    first_run : TurnsUnits packed_blocks run were (over block next were)
    first_run = turns_over block run own next were inside (λ n at. over_in block own left n at) refl turned.turns

    both : IsTouched rest block ⊎ ¬ IsTouched rest block → TurnsBlocks db key (run ++ rest) These records after old new
    both (inl again) = record {
      were = were.places;
      are = later.are;
      found = found;
      put = λ n it. elim (eqb_tells (n / 256) block) [
        | inl near ↦ later.put n (subst (IsTouched rest) (sym near.1) again)
        | inr far ↦ later.put n (far_rest n far.1 it)
      ];
      turns = turns_then run rest were (over block next were) (Units later.are after) first_run (turns_from rest left (over block next were) (Units later.are after) (
        λ n. elim (eqb_tells (n / 256) block) [
          | inl near ↦ over_in block next were n near.1 ∙ one_reading mid db key n _ _ (read_next n near.1) (later.found n (subst (IsTouched rest) (sym near.1) again))
          | inr far ↦ over_out block next were n far.1 ∙ over_out block own left n far.1
        ],
        refl,
      ) later.turns);
      lacks = lacking;
      rows = rows;
    }
    both (inr none) =
        let end = Units later.are after in
        let beside = turns_beside block rest next left end (λ x h at. none (x, h, at)) later.turns in
        record {
          were = were.places;
          are = (over block next end).places;
          found = found;
          put = λ n it. elim (eqb_tells (n / 256) block) [
            | inl near ↦
                let reads = keeps_reads db key rest block mid new turned.next none later.rows (reads_put db key block turned.next old mid turned.row turned.lies) in
                subst (ReadsAs new db key n) (sym (over_in block next end n near.1)) (block_read new db key block n turned.next near.1 reads)
            | inr far ↦ subst (ReadsAs new db key n) (sym (over_out block next end n far.1)) (later.put n (far_rest n far.1 it))
          ];
          turns = turns_then run rest were (over block next were) (Units (over block next end).places after) first_run (turns_from rest (Units (over block next left).places mid_count) (over block next were) (Units (over block next end).places after) (
            λ n. elim (eqb_tells (n / 256) block) [
              | inl near ↦ over_in block next were n near.1 ∙ sym (over_in block next left n near.1)
              | inr far ↦ over_out block next were n far.1 ∙ over_out block own left n far.1 ∙ sym (over_out block next left n far.1)
            ],
            refl,
          ) beside);
          lacks = lacking;
          rows = rows;
        }

    pub runs_turned : TurnsBlocks db key (run ++ rest) These records after old new
    runs_turned = both (touched rest block)

  -- what allowed the run and the changes behind it, allows these
  pub allows_next : (These : ℕ → Type 0) → AllowsBlocks db key (run ++ rest) These records old → AllowsBlocks db key rest (λ b. These b × (block < b)) mid_count mid
  allows_next These allows = record {
    were = it.0.places;
    are = allows.are;
    found = λ n at. elim (eqb_tells (n / 256) block) [
      | inl near ↦ subst (ReadsAs mid db key n) (sym (agree.0 n near.1)) (read_next n near.1)
      | inr far ↦
          let reads = allows.found n (touched_right run rest (n / 256) at) in
          let kept = turns_kept packed_blocks run (Units allows.were records) it.0 it.1 n (λ c h same. far.1 (sym (ap (λ m. m / 256) same) ∙ inside c h)) in
          subst (ReadsAs mid db key n) (sym kept) (reads.0, reads_then db key block turned.next old mid turned.row (n / 256) reads.0 far.1 reads.1, reads.2)
    ];
    turns = turns_from rest it.0 (Units it.0.places mid_count) allows.are (λ n. refl, sym agree.1) it.2;
    lacks = lacks_so db key (λ b. These b × (block < b)) rest old mid (λ b is none. lacks_then db key block turned.next old mid turned.row b (λ same. omega (arith, is.1, same)) none) (lacking_run db key block rest old These run some inside allows.lacks).1;
  }
    where
      it : (b : KeyUnits) × TurnsUnits packed_blocks run (Units allows.were records) b × TurnsUnits packed_blocks rest b allows.are
      it = turns_parted run rest (Units allows.were records) allows.are allows.turns

      agree : ((n : ℕ) → n / 256 ≡ block → it.0.places n ≡ next.places n) × (it.0.records ≡ next.records)
      agree = turns_agree (λ n. n / 256 ≡ block) run own next (Units allows.were records) it.0 turned.turns it.1 (λ n at.
          one_reading old db key n _ _ (allows.found n (touched_left run rest (n / 256) (subst (IsTouched run) (sym at) (touches run some inside)))) (block_read old db key block n turned.part at turned.reads)) refl

-- and the run itself
pub allows_run : (db : ℤ) (key : Key) (block : ℕ) (run rest : List RecordChange) → ((change : RecordChange) → Has run change → change.sysno / 256 ≡ block) → run ≢ [] → (These : ℕ → Type 0) (records : ℕ) (trees : Trees)
    → AllowsBlocks db key (run ++ rest) These records trees → AllowsBlock db key block run records trees × (These block → LacksBlock db key block trees)
allows_run db key block [] rest inside some These records trees allows = absurd (some refl)
allows_run db key block (x ∷ run) rest inside some These records trees allows = (
  (
    reads.0,
    over block it.0 own,
    subst (λ b. BlockReads trees db key b reads.0) here reads.1,
    turns_over block (x ∷ run) (Units allows.were records) it.0 own inside (λ n at. one_reading trees db key n _ _ (block_read trees db key block n reads.0 at (subst (λ b. BlockReads trees db key b reads.0) here reads.1)) (allows.found n (x, inl refl, here ∙ sym at))) refl it.1,
  ),
  (lacking_run db key block rest trees These (x ∷ run) some inside allows.lacks).0,
)
  where
    here : x.sysno / 256 ≡ block
    here = inside x (inl refl)

    reads : ReadsAs trees db key x.sysno (allows.were x.sysno)
    reads = allows.found x.sysno (x, inl refl, refl)

    own : KeyUnits
    own = units_of reads.0 records

    it : (b : KeyUnits) × TurnsUnits packed_blocks (x ∷ run) (Units allows.were records) b × TurnsUnits packed_blocks rest b allows.are
    it = turns_parted (x ∷ run) rest (Units allows.were records) allows.are allows.turns

-- ---- what is known of fewer blocks

pub turns_fewer : (db : ℤ) (key : Key) (changes : List RecordChange) (These Those : ℕ → Type 0) (records after : ℕ) (old new : Trees) → ((block : ℕ) → Those block → These block) → TurnsBlocks db key changes These records after old new
    → TurnsBlocks db key changes Those records after old new
turns_fewer db key changes These Those records after old new fewer turned =
    record { were = turned.were; are = turned.are; found = turned.found; put = turned.put; turns = turned.turns; lacks = lacks_fewer db key These Those changes old fewer turned.lacks; rows = turned.rows }

pub allows_fewer : (db : ℤ) (key : Key) (changes : List RecordChange) (These Those : ℕ → Type 0) (records : ℕ) (trees : Trees) → ((block : ℕ) → Those block → These block) → AllowsBlocks db key changes These records trees
    → AllowsBlocks db key changes Those records trees
allows_fewer db key changes These Those records trees fewer allows =
    record { were = allows.were; are = allows.are; found = allows.found; turns = allows.turns; lacks = lacks_fewer db key These Those changes trees fewer allows.lacks }

pub run_so : {S : Type 0} {store : Ghosts S} {old new : MutBor (Held S)} {db : ℤ} {key : Key} {block : ℕ} {run : List RecordChange} {records : ℕ} {Clear Known : Type 0} {result : Result ℕ RegFault} → (Clear → Known) → (Known → Clear)
    → PutsRunOf store old new db key block run records Known result → PutsRunOf store old new db key block run records Clear result
run_so {S} {store} {old} {new} {db} {key} {block} {run} {records} {Clear} {Known} {result} known clear puts = record {
  same = puts.same;
  does = inside_so (state store old.now) (state store new.now) result (λ after. Alters blocks_tree (λ tree a b. TurnsBlock db key block run records after a b × (Known → LacksBlock db key block a))) (λ after. Alters blocks_tree (λ tree a b. TurnsBlock db key block run records after a b × (Clear → LacksBlock db key block a)))
      (λ after. alters_so blocks_tree (λ tree a b. TurnsBlock db key block run records after a b × (Known → LacksBlock db key block a)) (λ tree a b. TurnsBlock db key block run records after a b × (Clear → LacksBlock db key block a)) (state store old.now) (state store new.now)
      (λ it. (it.0, λ is. it.1 (known is)))) puts.does;
  honest = λ clean inside store is lacks. puts.honest clean inside store is (λ it. lacks (clear it));
  few = puts.few;
}

-- ---- all runs

-- what is left leads from here to any end as all changes do from the start
abbrev pub LeadsOn : ℤ → Key → List RecordChange → (done : ℕ) → (start now : Known) → ℕ → Trees → Trees → Type 0
LeadsOn db key changes done start now tree old mid =
    (end : Trees) (after : ℕ) → TurnsBlocks db key (drop done changes) (λ block. now.clear_from ≤ block) now.records after mid end
    → TurnsBlocks db key changes (λ block. start.clear_from ≤ block) start.records after old end

pub run_leads : (db : ℤ) (key : Key) (changes : List RecordChange) (done later block : ℕ) (run : List RecordChange) → ((change : RecordChange) → Has run change → change.sysno / 256 ≡ block) → run ≢ [] → drop done changes ≡ run ++ drop later changes
    → (start now next : Known) (records : ℕ) → next.records ≡ records → ((b : ℕ) → now.clear_from ≤ b → block < b → next.clear_from ≤ b) → (old mid last : Trees)
    → LeadsOn db key changes done start now blocks_tree old mid → TurnsBlock db key block run now.records records mid last × (now.clear_from ≤ block → LacksBlock db key block mid) → LeadsOn db key changes later start next blocks_tree old last
run_leads db key changes done later block run inside some left start now next records count most old mid last lead turned end after rest =
    let These : ℕ → Type 0 = λ b. now.clear_from ≤ b in
    let counted = subst (λ r. TurnsBlocks db key (drop later changes) (λ b. next.clear_from ≤ b) r after last end) count rest in
    let fewer = turns_fewer db key (drop later changes) (λ b. next.clear_from ≤ b) (λ b. These b × (block < b)) records after last end (λ b is. most b is.0 is.1) counted in
    let both = runs_turned db key block run (drop later changes) inside some now.records records mid last turned.0 These after end fewer turned.1 in
    lead end after (subst (λ l. TurnsBlocks db key l These now.records after mid end) (sym left) both)

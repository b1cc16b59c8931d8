-- Rows that are put, some after others.
use Rattle.zeb_packed.proofs.Cited.{◌≡◌, ◌≢◌, ◌∙◌, ◌++◌, ◌+◌, ◌-◌, ◌<◌, ◌≤◌, ℕ, ℤ, List, [], ◌∷◌, drop, length, map, take, get_or, refl, sym, ap, subst, inl, inr, arith, Has, has_either, has_left, has_right, map-append, take-append-drop, take_all, take_rest, Row, State, Trees, IsStore, Changes, blocks_tree, dict_tree, Gains, LacksBlock, length-drop, AreApart, AreLacking, GainsAll, GainsRows, SomeStands, new_block_row, new_count_row, NewBlock, NewRows}
use Rattle.zeb_packed.proofs.HeldTables.{block_is, block_of}
use Rattle.zeb_packed.proofs.PackedWrites.{has_as}
use Rattle.std.proofs.Math.Seq.{take-add}

-- ---- rows behind rows

pub gains_none : {X : Type 0} (row_of : X → Row) (tree : ℕ) (trees : Trees) → GainsAll (map row_of []) tree trees trees
gains_none {X} row_of tree trees row = (λ h. inl h, λ h. elim h [ inl was ↦ was | inr none ↦ absurd none ])

pub gains_then : {X : Type 0} (row_of : X → Row) (one two : List X) (tree : ℕ) (old mid new : Trees) → GainsAll (map row_of one) tree old mid → GainsAll (map row_of two) tree mid new → GainsAll (map row_of (one ++ two)) tree old new
gains_then {X} row_of one two tree old mid new first second row = (
  λ h. elim ((second row).0 h) [
    | inl was ↦ elim ((first row).0 was) [ inl before ↦ inl before | inr left ↦ inr (back (has_left (map row_of one) (map row_of two) row left)) ]
    | inr right ↦ inr (back (has_right (map row_of one) (map row_of two) row right))
  ],
  λ h. (second row).1 (elim h [
    | inl was ↦ inl ((first row).1 (inl was))
    | inr put ↦ elim (has_either (map row_of one) (map row_of two) row (subst (λ l. Has l row) (map-append row_of one two) put)) [ inl left ↦ inl ((first row).1 (inr left)) | inr right ↦ inr right ]
  ]),
)
  where
    back : Has (map row_of one ++ map row_of two) row → Has (map row_of (one ++ two)) row
    back there = subst (λ l. Has l row) (sym (map-append row_of one two)) there

pub gains_one : (row : Row) (tree : ℕ) (old new : Trees) → Gains row tree old new → GainsAll (row ∷ []) tree old new
gains_one row tree old new gains columns = (
  λ h. elim ((gains columns).0 h) [ inl was ↦ inl was | inr same ↦ inr (inl same) ],
  λ h. (gains columns).1 (elim h [ inl was ↦ inl was | inr put ↦ elim put [ inl same ↦ inr same | inr none ↦ absurd none ] ]),
)

-- ---- what is left of a list

pub some_left : {X : Type 0} (xs : List X) (done : ℕ) → done < length xs → take (length xs - done) (drop done xs) ≢ []
some_left xs done below none = let all = ap length (take_rest xs done) in let gone = ap length none in absurd (omega (arith, below, all, gone, length-drop done xs))

pub count_within : {X : Type 0} (xs : List X) (done count : ℕ) → done ≤ length xs → count ≤ length (take (length xs - done) (drop done xs)) → done + count ≤ length xs
count_within xs done count within few = let all = ap length (take_rest xs done) in omega (arith, within, few, all, length-drop done xs)

pub taken_more : {X : Type 0} (xs : List X) (done count : ℕ) → take (done + count) xs ≡ take done xs ++ take count (take (length xs - done) (drop done xs))
taken_more xs done count = take-add done count xs ∙ ap (λ l. take done xs ++ take count l) (sym (take_rest xs done))

-- ---- blocks

pub lacking_more : (db : ℤ) (one two : List NewBlock) (old mid : Trees) → GainsAll (map (new_block_row db) one) blocks_tree old mid → AreLacking db one old → AreLacking db two mid → AreLacking db (one ++ two) old
lacking_more db one two old mid gains first second x here = elim (has_either one two x here) [
  | inl left ↦ first x left
  | inr right ↦ λ row there in_it. second x right row ((gains row).1 (inl there)) in_it
]

apart_parted : (one two : List NewBlock) → AreApart (one ++ two) → (x y : NewBlock) → Has one x → Has two y → ¬ ((y.key.now ≡ x.key.now) × (y.block ≡ x.block))
apart_parted [] two apart x y left right = absurd left
apart_parted (z ∷ one) two apart x y (inl same) right = subst (λ (w : NewBlock). ¬ ((y.key.now ≡ w.key.now) × (y.block ≡ w.block))) (sym same) (apart.0 y (has_right one two y right))
apart_parted (z ∷ one) two apart x y (inr left) right = apart_parted one two apart.1 x y left right

-- a block behind those that were put, which has a row, had one before
pub stands_behind : (db : ℤ) (one two : List NewBlock) (old mid : Trees) → AreApart (one ++ two) → GainsAll (map (new_block_row db) one) blocks_tree old mid → SomeStands db two mid → SomeStands db (one ++ two) old
stands_behind db one two old mid apart gains some = (
  some.0,
  has_right one two some.0 some.1,
  λ lacks. some.2 (λ row there in_it. elim ((gains row).0 there) [
    | inl was ↦ lacks row was in_it
    | inr put ↦
        let it = block_of db one row put in
        let same = block_is db some.0.key.now it.0.key.now some.0.block it.0.block row it.0.bytes.items in_it it.2 in
        apart_parted one two apart it.0 some.0 it.1 some.1 same
  ]),
)

pub stands_all : (db : ℤ) (blocks : List NewBlock) (done : ℕ) (old mid : Trees) → AreApart blocks → GainsAll (map (new_block_row db) (take done blocks)) blocks_tree old mid → SomeStands db (take (length blocks - done) (drop done blocks)) mid → SomeStands db blocks old
stands_all db blocks done old mid apart gains some =
    let whole = take-append-drop done blocks in
    let behind = stands_behind db (take done blocks) (drop done blocks) old mid (subst AreApart (sym whole) apart) gains (subst (λ l. SomeStands db l mid) (take_rest blocks done) some) in
    subst (λ l. SomeStands db l old) whole behind

pub all_taken : {X : Type 0} (xs : List X) (done : ℕ) → length xs ≤ done → take done xs ≡ xs
all_taken xs done end = take_all done xs end

-- ---- the rows of both tables

-- rows of blocks, and then those of `dict`
pub both_put : (db : ℤ) (held : NewRows) (old mid new : State) → Changes blocks_tree (GainsAll (map (new_block_row db) held.blocks.items)) old mid → Changes dict_tree (GainsAll (map (new_count_row db) held.counts.items)) mid new → GainsRows db held old.now.trees new.now.trees
both_put db held old mid new one two = record {
  blocks = λ row. (
    λ h. (one.rows row).0 ((has_as blocks_tree new.now.trees mid.now.trees blocks_same row).0 h),
    λ h. (has_as blocks_tree new.now.trees mid.now.trees blocks_same row).1 ((one.rows row).1 h),
  );
  dict = λ row. (
    λ h. elim ((two.rows row).0 h) [ inl was ↦ inl ((has_as dict_tree mid.now.trees old.now.trees dict_same row).0 was) | inr put ↦ inr put ],
    λ h. (two.rows row).1 (elim h [ inl was ↦ inl ((has_as dict_tree mid.now.trees old.now.trees dict_same row).1 was) | inr put ↦ inr put ]),
  );
  postings = two.others.1.1.1.0 (λ e. absurd (omega (arith, e))) ∙ one.others.1.1.1.0 (λ e. absurd (omega (arith, e)));
  lists = (
    two.others.0 (λ e. absurd (omega (arith, e))) ∙ one.others.0 (λ e. absurd (omega (arith, e))),
    two.others.1.0 (λ e. absurd (omega (arith, e))) ∙ one.others.1.0 (λ e. absurd (omega (arith, e))),
    two.others.1.1.0 (λ e. absurd (omega (arith, e))) ∙ one.others.1.1.0 (λ e. absurd (omega (arith, e))),
  );
}
  where
    blocks_same : new.now.trees blocks_tree ≡ mid.now.trees blocks_tree
    blocks_same = two.others.1.1.1.1.0 (λ e. absurd (omega (arith, e)))

    dict_same : mid.now.trees dict_tree ≡ old.now.trees dict_tree
    dict_same = one.others.1.1.1.1.1.0 (λ e. absurd (omega (arith, e)))

pub held_answers : (db : ℤ) (held : NewRows) (old mid new : State) → Changes blocks_tree (GainsAll (map (new_block_row db) held.blocks.items)) old mid → AreLacking db held.blocks.items old.now.trees
    → Changes dict_tree (GainsAll (map (new_count_row db) held.counts.items)) mid new → IsStore new × GainsRows db held old.now.trees new.now.trees × AreLacking db held.blocks.items old.now.trees
held_answers db held old mid new one lacking two = (two.layout, both_put db held old mid new one two, lacking)

pub one_lacking : (db : ℤ) (one : NewBlock) (trees : Trees) → LacksBlock db one.key.now one.block trees → AreLacking db (one ∷ []) trees
one_lacking db one trees lacks x here = elim here [ inl is ↦ subst (λ (z : NewBlock). LacksBlock db z.key.now z.block trees) (sym is) lacks | inr none ↦ absurd none ]

-- ---- the first rows

pub stands_in_front : (db : ℤ) (blocks : List NewBlock) (n : ℕ) (trees : Trees) → SomeStands db (take n blocks) trees → SomeStands db blocks trees
stands_in_front db blocks n trees some = (some.0, subst (λ l. Has l some.0) (take-append-drop n blocks) (has_left (take n blocks) (drop n blocks) some.0 some.1), some.2)

pub stands_first : (db : ℤ) (blocks : List NewBlock) (one : NewBlock) (trees : Trees) → blocks ≢ [] → one ≡ get_or blocks 0 one → SomeStands db (one ∷ []) trees → SomeStands db blocks trees
stands_first db [] one trees some is stands = absurd (some refl)
stands_first db (x ∷ blocks) one trees some is stands = (stands.0, elim stands.1 [ inl same ↦ inl (same ∙ is) | inr none ↦ absurd none ], stands.2)

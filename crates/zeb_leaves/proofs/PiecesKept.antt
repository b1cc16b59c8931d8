-- What stays where the leaves of one register are changed for pieces: each other unit, each other count, and each row that is no leaf of it.
use Rattle.zeb_leaves.proofs.Cited.{Row, column, Int, ◌≡◌, ◌↔◌, ◌⊎◌, ◌∙◌, ◌*◌, ◌/◌, ◌++◌, ◌∷◌, ℕ, ℤ, pos, List, [], refl, sym, ap, subst, inl, inr, arith, all_has, Has, HasRow, Trees, Entry, IsLeafAlone, IsLeafOf, IsRest, Key, AreAloneIn, IsAnyLeaf, blocks_tree, key_in, register_code, register_front, BlockChange, IsPiece, TurnAllEntries, ArePiecesIn, told_spot, IsUnitAmong, KeyChanges}
use Rattle.zeb_register.proofs.ContentLemmas.{same_key}
use Rattle.zeb_register.proofs.SameLeaves.{alone_so}
use Rattle.zeb_register.specs.KeptUnits.{HasKeyUnit, HasUnit, KeepsUnits}
use Rattle.zeb_leaves.proofs.AlikeEntries.{Takes, lacks_taken, malformed_taken, part_taken, sum_taken, takes_so}
use Rattle.zeb_leaves.proofs.PieceChanges.{unit_free}
use Rattle.zeb_leaves.proofs.PiecesInTurn.{block_touched}
use Rattle.zeb_leaves.proofs.PutTables.{IsLeafBeneath, KeepsBesideLeaves}
use Rattle.zeb_leaves.proofs.TurnedLeaves.{TurnsLeaves}

-- the leaves of a register, by the columns before them
abbrev pub In : Row → Trees → Row → Type 0
In front trees leaf = IsRest blocks_tree front trees leaf × (block : ℕ) × (column leaf 1 ≡ Int (pos block))

-- ---- one register or another

abbrev IsSame : ℤ → Key → ℤ → Key → Type 0
IsSame db key d k = (d ≡ db) × (k.index ≡ key.index) × (k.register ≡ key.register)

pub front_so : (db : ℤ) (key : Key) (d : ℤ) (k : Key) → d ≡ db → k.index ≡ key.index → k.register ≡ key.register → register_front db key.index key.register ≡ register_front d k.index k.register
front_so db key d k base index register i = register_front (sym base i) (sym index i) (sym register i)

told_register : (db : ℤ) (key : Key) (d : ℤ) (k : Key) → IsSame db key d k ⊎ ¬ IsSame db key d k
told_register db key d k = elim (told_spot d db (key_in k.index k.register []) (key_in key.index key.register [])) [
  | inl it ↦ inl (it.0, ap (λ (l : Key). l.index) it.1, ap (λ (l : Key). l.register) it.1)
  | inr other ↦ inr (λ it. other (it.0, λ i. key_in (it.1 i) (it.2 i) []))
]

front_told : (db : ℤ) (key : Key) (d : ℤ) (k : Key) (x y : Row) → register_front d k.index k.register ++ x ≡ register_front db key.index key.register ++ y → IsSame db key d k
front_told db key d k x y is =
    let one : Int d ≡ Int db = ap (λ (r : Row). column r 0) is in
    let two : Int (pos k.index) ≡ Int (pos key.index) = ap (λ (r : Row). column r 1) is in
    let three : Int (pos (register_code k.register)) ≡ Int (pos (register_code key.register)) = ap (λ (r : Row). column r 2) is in
    let base : d ≡ db = cc in
    let index : k.index ≡ key.index = cc in
    let code : register_code k.register ≡ register_code key.register = cc in
    let same : key_in k.index k.register [] ≡ key_in key.index key.register [] = same_key (key_in k.index k.register []) (key_in key.index key.register []) index code refl in
    (base, index, ap (λ (l : Key). l.register) same)

module _ (a b : Trees) (db : ℤ) (key : Key) (beside : KeepsBesideLeaves db key a b) where
  -- another register has the same leaves
  rows_so : (d : ℤ) (k : Key) → ¬ IsSame db key d k → (leaf : Row) → IsLeafOf a d k leaf ↔ IsLeafOf b d k leaf
  rows_so d k other leaf = (
    λ h. (beside.stays (register_front d k.index k.register ++ leaf) not h.0, h.1, h.2),
    λ h. (elim (beside.comes (register_front d k.index k.register ++ leaf) h.0) [ inl was ↦ was | inr it ↦ absurd (not it) ], h.1, h.2),
  )
    where
      not : ¬ IsLeafBeneath db key (register_front d k.index k.register ++ leaf)
      not it = other (front_told db key d k leaf it.0 it.2)

  module _ (Own : List ℕ → ℕ → Type 0) (own news : List Entry) (pieces : List KeyChanges) (changes : List BlockChange) (are : ArePiecesIn key Own pieces) (turned : TurnAllEntries own pieces changes)
      (leaves : TurnsLeaves (IsLeafOf a db key) (IsLeafOf b db key) Own changes own news) where
    abbrev Changed : Key → ℕ → Type 0
    Changed = IsUnitAmong pieces

    -- the block of a unit that no piece touches has the same entry
    abbrev Alike : ℤ → Key → ℕ → Type 0
    Alike d k block = Takes (IsLeafOf a d k) (IsLeafOf b d k) k.term block × Takes (IsLeafOf b d k) (IsLeafOf a d k) k.term block

    alike : (d : ℤ) (k : Key) (n : ℕ) → ¬ HasUnit db Changed d k n → Alike d k (n / 256)
    alike d k n out = elim (told_register db key d k) [
      | inr other ↦ (
        takes_so (IsLeafOf a d k) (IsLeafOf b d k) (rows_so d k other) k.term (n / 256),
        takes_so (IsLeafOf b d k) (IsLeafOf a d k) (λ leaf. let so = rows_so d k other leaf in (so.1, so.0)) k.term (n / 256),
      )
      | inl same ↦
          let free = unit_free key Own own pieces changes are turned k n same.1 same.2 (λ it. out (same.0, it)) in
          subst (λ (f : Row). Takes (In f a) (In f b) k.term (n / 256) × Takes (In f b) (In f a) k.term (n / 256)) (front_so db key d k same.0 same.1 same.2) (leaves.on k.term (n / 256) free, leaves.back k.term (n / 256) free)
    ]

    number : (block : ℕ) → (256 * block) / 256 ≡ block
    number block = omega arith

    all_alike : (d : ℤ) (k : Key) → ¬ HasKeyUnit db Changed d k → (block : ℕ) → Alike d k block
    all_alike d k out block = subst (Alike d k) (number block) (alike d k (256 * block) (λ it. out (256 * block, it)))

    -- a row that comes is a leaf
    comes_shaped : (row : Row) → HasRow b blocks_tree row → HasRow a blocks_tree row ⊎ IsAnyLeaf row
    comes_shaped row there = elim (beside.comes row there) [
      | inl was ↦ inl was
      | inr it ↦
          let leaf : IsLeafOf b db key it.0 = (subst (HasRow b blocks_tree) it.2 there, it.1, it.3) in
          let shape = (beside.after db key).shaped it.0 leaf in
          inr (db, key_in key.index key.register shape.0, shape.1, shape.2, it.2 ∙ ap (λ (r : Row). register_front db key.index key.register ++ r) shape.3)
    ]

    -- the entries of a register are covered where they were
    kept_alone : (d : ℤ) (k : Key) → AreAloneIn a d k → AreAloneIn b d k
    kept_alone d k alone = elim (told_register db key d k) [
      | inl same ↦
          let Alone : Trees → Row → Type 0 = λ trees f. (leaf : Row) → In f trees leaf → IsLeafAlone (In f trees) leaf in
          let front = front_so db key d k same.0 same.1 same.2 in
          subst (Alone b) front (leaves.alone (subst (Alone a) (sym front) alone))
      | inr other ↦ (λ leaf there. alone_so (IsLeafOf a d k) (IsLeafOf b d k) (rows_so d k other) leaf (alone leaf ((rows_so d k other leaf).1 there)))
    ]

    -- some unit of the register is among them
    first_unit : (p : KeyChanges) × (n : ℕ) × Has pieces p × Changed p.key.now n
    first_unit = of pieces are.some (λ q here. here)
      where
        of : (list : List KeyChanges) → ¬ (list ≡ []) → ((q : KeyChanges) → Has list q → Has pieces q) → (p : KeyChanges) × (n : ℕ) × Has pieces p × Changed p.key.now n
        of [] some there = absurd (some refl)
        of (p ∷ list) some there =
            let touch = block_touched p (all_has IsPiece pieces p are.are.each (there p (inl refl))) in
            (p, touch.0.sysno, there p (inl refl), (p, there p (inl refl), (refl, (touch.0, touch.1, refl))))

    beneath : (row : Row) → IsLeafBeneath db key row → (k : Key) × (n : ℕ) × Changed k n × (leaf : Row) × (block : ℕ) × (row ≡ register_front db k.index k.register ++ leaf) × (column leaf 1 ≡ Int (pos block))
    beneath row it =
        let p = first_unit in
        let front = front_so db key db p.0.key.now refl (are.index p.0 p.2) (are.register p.0 p.2) in
        (p.0.key.now, p.1, p.3, it.0, it.1, it.2 ∙ ap (λ (f : Row). f ++ it.0) front, it.3)

    pub units_kept : KeepsUnits db Changed a b
    units_kept = record {
      reads = λ d k n out places.
          let like = alike d k n out in (
            λ r. (r.0, part_taken (IsLeafOf a d k) (IsLeafOf b d k) k.term (n / 256) like.0 r.0 r.1, r.2),
            λ r. (r.0, part_taken (IsLeafOf b d k) (IsLeafOf a d k) k.term (n / 256) like.1 r.0 r.1, r.2),
          );
      malformed = λ d k n out.
          let like = alike d k n out in (
            malformed_taken (IsLeafOf a d k) (IsLeafOf b d k) k.term (n / 256) like.0 (beside.before d k),
            malformed_taken (IsLeafOf b d k) (IsLeafOf a d k) k.term (n / 256) like.1 (beside.after d k),
          );
      counts = λ d k out records.
          let like = all_alike d k out in (
            sum_taken (IsLeafOf a d k) (IsLeafOf b d k) k.term (λ block. (like block).0) (beside.before d k) (beside.after d k) (λ block. (like block).1) records,
            sum_taken (IsLeafOf b d k) (IsLeafOf a d k) k.term (λ block. (like block).1) (beside.after d k) (beside.before d k) (λ block. (like block).0) records,
          );
      miscounted = λ d k out.
          let like = all_alike d k out in (
            lacks_taken (IsLeafOf a d k) (IsLeafOf b d k) k.term (λ block. (like block).0),
            lacks_taken (IsLeafOf b d k) (IsLeafOf a d k) k.term (λ block. (like block).1),
          );
      alone = kept_alone;
      shaped = comes_shaped;
      blocks = λ row out. (
        λ h. elim (beside.comes row h) [ inl was ↦ was | inr it ↦ absurd (out (beneath row it)) ],
        λ h. beside.stays row (λ it. out (beneath row it)) h,
      );
      postings = beside.postings;
      dict = beside.dict;
    }

-- Keys of a run that have no row of `dict`, as one look tells, and as keys before them are changed.
use Rattle.zeb_packed.proofs.Cited.{packed_blocks, ◌≡◌, ◌≢◌, ◌∙◌, ◌⊎◌, ◌++◌, Bool, ℕ, ℤ, pos, false, List, [], ◌∷◌, map, take, get_or, refl, sym, ap, ap₂, subst, inl, inr, arith, Less, Equal, Greater, is_lt, ordering_then, ordering_reverse, slice_cmp, nat_list_cmp_total, nat_cmp_total, tied_itself, value_cmp-Text, Has, all_has, mapped_has, AllByRecursion, Int, Text, Row, Trees, HasRow, IsListOf, IsRestFrom, dict_tree, key_row, register_front, register_code, Key, CountsAs, PutsUnits, RecordChange, value_cmp, key_total, AreToldNew, IsOfRegister, TurnsKey, NewRows, stands_once, KeysRise, run_key, KeyChanges}
use Rattle.std.specs.List.Sorted.{IsStrictlySortedBy}
use Rattle.std.specs.Ordering.{nat_cmp}
use Rattle.zeb_keys.specs.Order.{key_order}
use Rattle.zeb_packed.proofs.HeldTables.{key_is}

-- ---- one look

none_all : (all rows : List Row) → rows ≡ take 1 all → rows ≡ [] → all ≡ []
none_all [] rows cut none = refl
none_all (x ∷ all) rows cut none = let e : take 1 (x ∷ all) ≡ [] = sym cut ∙ none in absurd (cc)

-- a key of the register that isn't below the first has no lesser term
not_below : (first key : Key) → key.index ≡ first.index → register_code key.register ≡ register_code first.register → (key ≡ first) ⊎ (key_order first key ≡ Less) → is_lt (value_cmp (Text key.term) (Text first.term)) ≡ false
not_below first key index code (inl same) =
    ap is_lt (value_cmp-Text key.term first.term ∙ ap (λ (k : Key). slice_cmp nat_cmp k.term first.term) same ∙ tied_itself nat_list_cmp_total first.term)
not_below first key index code (inr less) =
    let back : key_order key first ≡ Greater = key_total.antisymm key first ∙ ap ordering_reverse less in
    let one : nat_cmp key.index first.index ≡ Equal = ap (λ (n : ℕ). nat_cmp n first.index) index ∙ tied_itself nat_cmp_total first.index in
    let two : nat_cmp (register_code key.register) (register_code first.register) ≡ Equal = ap (λ (n : ℕ). nat_cmp n (register_code first.register)) code ∙ tied_itself nat_cmp_total (register_code first.register) in
    let terms : slice_cmp nat_cmp key.term first.term ≡ Greater = sym (ap₂ (λ o p. ordering_then o (ordering_then p (slice_cmp nat_cmp key.term first.term))) one two) ∙ back in
    ap is_lt (value_cmp-Text key.term first.term ∙ terms)

later_above : (x : KeyChanges) (rest : List KeyChanges) → KeysRise (x ∷ rest) → (one : KeyChanges) → Has rest one → key_order x.key.now one.key.now ≡ Less
unfolding IsStrictlySortedBy
later_above x rest rise one here = all_has (λ k. key_order x.key.now k ≡ Less) (map run_key rest) one.key.now rise.0 (mapped_has run_key rest one here)

-- the keys of a run are new where they are of the register of the first, and no term is there from its own on
pub keys_new : (db : ℤ) (first : Key) (run : List KeyChanges) (x : KeyChanges) (trees : Trees) (all rows : List Row) → run ≢ [] → x ≡ get_or run 0 x → x.key.now ≡ first → KeysRise run
    → IsListOf (IsRestFrom dict_tree (register_front db first.index first.register) first.term trees) all → rows ≡ take 1 all → rows ≡ [] → AllByRecursion (IsOfRegister first) run
    → (one : KeyChanges) → Has run one → CountsAs trees db one.key.now 0
keys_new db first [] x trees all rows some is own rise list cut none of one here = absurd (some refl)
keys_new db first (y ∷ rest) x trees all rows some is own rise list cut none of one here =
    let key = one.key.now in
    let head : y.key.now ≡ first = ap (λ (z : KeyChanges). z.key.now) (sym is) ∙ own in
    let order : (key ≡ first) ⊎ (key_order first key ≡ Less) = elim here [
      | inl same ↦ inl (ap (λ (z : KeyChanges). z.key.now) same ∙ head)
      | inr later ↦ inr (subst (λ (k : Key). key_order k key ≡ Less) head (later_above y rest rise one later))
    ] in
    let register = all_has (IsOfRegister first) (y ∷ rest) one of here in
    record {
      said = λ row stands.
          let code = subst (λ (n : ℕ). HasRow trees dict_tree (Int db ∷ Int (pos key.index) ∷ Int (pos n) ∷ Text key.term ∷ row)) register.1 stands in
          let shown = subst (λ (n : ℕ). HasRow trees dict_tree (Int db ∷ Int (pos n) ∷ Int (pos (register_code first.register)) ∷ Text key.term ∷ row)) register.0 code in
          absurd (subst (λ (l : List Row). Has l (Text key.term ∷ row)) (none_all all rows cut none) ((list.each (Text key.term ∷ row)).1 (shown, not_below first key register.0 register.1 order)));
      there = λ some'. absurd (omega (arith, some'));
    }

-- ---- behind a key that is changed

counts_beside : (db : ℤ) (key other : Key) (changes : List RecordChange) (old new : Trees) → other ≢ key → PutsUnits packed_blocks db key changes old new → CountsAs old db other 0 → CountsAs new db other 0
counts_beside db key other changes old new differs puts none = record {
  said = λ row stands. elim ((puts.rows.dict (key_row db other ++ row)).0 stands) [
    | inl was ↦ none.said row was.0
    | inr own ↦ absurd (differs (key_is db other key (key_row db other ++ row) (Int (pos puts.are.records) ∷ []) (refl, refl, refl, refl) own.1))
  ];
  there = λ some. absurd (omega (arith, some));
}

module _ (are_new : Bool) (db : ℤ) (x : KeyChanges) (rest : List KeyChanges) (rise : KeysRise (x ∷ rest)) (old new : Trees) (before after : NewRows) (told : AreToldNew are_new db (x ∷ rest) old) where
  told_later : AreToldNew are_new db rest old
  told_later one here = told one (inr here)

  told_by : (changes : List RecordChange) → TurnsKey db x.key.now changes old new before after → AreToldNew are_new db rest new
  told_by [] turned = subst (AreToldNew are_new db rest) (sym turned.0) told_later
  told_by (change ∷ changes) (inl puts) = λ one here is. counts_beside db x.key.now one.key.now (change ∷ changes) old new (λ same. stands_once x rest rise (one, here, same)) puts.0 (told_later one here is)
  told_by (change ∷ changes) (inr held) = subst (AreToldNew are_new db rest) (sym held.4) told_later

  -- the keys behind it are still new
  pub told_more : TurnsKey db x.key.now x.changes.now old new before after → AreToldNew are_new db rest new
  told_more turned = told_by x.changes.now turned

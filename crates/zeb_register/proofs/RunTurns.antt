-- Keys of a run that are changed one after the other, told of the tables before all and after all.
use Rattle.zeb_register.proofs.Cited.{◌≡◌, ◌∙◌, ℕ, zero, suc, ℤ, List, [], ◌∷◌, drop, refl, sym, ap, subst, inl, inr, Result, Ok, Err, Has, all_from, all_has, mapped_has, tied_itself, map, Less, Equal, Row, Trees, postings_tree, blocks_tree, dict_tree, packed_blocks, packed_leaves, plain_rows, Key, key_order, key_total, RegFault, RecordChange, Format, KeepsLists, IsAmong, IsCountAmong, IsOfRun, IsOwnCount, IsRunRefusedAs, IsUnitAmong, KeysRise, PutsKeys, TurnsAny, run_key, puts_run_rows, IsBlockAmong, IsOwnBlock, IsOwnPlace, IsPlaceAmong, IsRefusedAs, KeepsBut, PutsAny, KeyChanges}
use Rattle.std.specs.List.Sorted.{IsStrictlySortedBy}
use Rattle.zeb_register.proofs.AlikeRows.{are_alike, allows_alike, alike_back, turns_from, turns_to}
use Rattle.zeb_register.proofs.KeptLeaves.{kept_itself}
use Rattle.zeb_register.proofs.RunRows.{beside_alike, rows_alone, rows_beside, rows_more, rows_put, turns_put}
use Rattle.zeb_register.proofs.UnitChangeLaws.{any_lists}
use Rattle.zeb_register.specs.Answers.{Answers}

none_kept : (These Such : Key → List RecordChange → Row → Type 0) (tree : ℕ) (trees : Trees) → KeepsBut (IsAmong These []) (IsAmong Such []) tree trees trees
none_kept These Such tree trees = record { stays = λ row out there. there; comes = λ row there. inl (there, λ it. it.1) }

-- ---- keys that rise

-- a key stands once
pub stands_once : (x : KeyChanges) (xs : List KeyChanges) → KeysRise (x ∷ xs) → ¬ IsOfRun xs x.key.now
unfolding IsStrictlySortedBy
stands_once x xs rise it =
    let below : key_order x.key.now it.0.key.now ≡ Less = all_has (λ k. key_order x.key.now k ≡ Less) (map run_key xs) it.0.key.now rise.0 (mapped_has run_key xs it.0 it.1) in
    let own : key_order x.key.now x.key.now ≡ Less = subst (λ k. key_order x.key.now k ≡ Less) it.2 below in
    let e : Less ≡ Equal = sym own ∙ tied_itself key_total x.key.now in
    absurd (cc)

pub not_first : (x y : KeyChanges) (xs : List KeyChanges) → KeysRise (x ∷ xs) → Has xs y → ¬ IsOfRun (x ∷ []) y.key.now
not_first x y xs rise here it = elim it.1 [
  | inl same ↦ stands_once x xs rise (y, here, sym it.2 ∙ ap (λ (z : KeyChanges). z.key.now) same)
  | inr none ↦ none
]

-- keys that are left rise
pub rise_left : (i : ℕ) (run : List KeyChanges) (x : KeyChanges) (xs : List KeyChanges) → drop i run ≡ x ∷ xs → KeysRise run → KeysRise (x ∷ xs)
unfolding IsStrictlySortedBy
rise_left i run x xs is rise = subst KeysRise is (left i run rise)
  where
    left : (n : ℕ) (keys : List KeyChanges) → KeysRise keys → KeysRise (drop n keys)
    left zero keys up = up
    left (suc n) [] up = tt
    left (suc n) (k ∷ keys) up = left n keys up.1

-- ---- one key before the others

module _ (format : Format) (db : ℤ) (x : KeyChanges) (xs : List KeyChanges) (rise : KeysRise (x ∷ xs)) (old mid : Trees) (first : PutsAny format db x.key.now x.changes.now old mid) where
  pub put_more : (new : Trees) → PutsKeys format db xs mid new → PutsKeys format db (x ∷ xs) old new
  put_more new rest = record {
    each = (
      turns_to format db x.key.now mid new (beside_alike format db xs x.key.now mid new (stands_once x xs rise) (rows_beside format db xs mid new rest.rows)) x.changes.now old (turns_put format db x.key.now x.changes.now old mid first),
      all_from (λ (y : KeyChanges). TurnsAny format db y.key.now y.changes.now old new) xs (λ y here.
          turns_from format db y.key.now mid old (alike_back format db y.key.now old mid (before y here)) y.changes.now new (all_has (λ (z : KeyChanges). TurnsAny format db z.key.now z.changes.now mid new) xs y rest.each here)),
    );
    rows = rows_more format db x xs old mid new (rows_put format db x.key.now x.changes.now old mid first) rest.rows;
    lists = (rest.lists.0 ∙ lists.0, rest.lists.1 ∙ lists.1, rest.lists.2 ∙ lists.2);
  }
    where
      lists : KeepsLists old mid
      lists = any_lists format db x.key.now x.changes.now old mid first

      before : (y : KeyChanges) → Has xs y → are_alike format db y.key.now old mid
      before y here = beside_alike format db (x ∷ []) y.key.now old mid (not_first x y xs rise here)
          (rows_beside format db (x ∷ []) old mid (rows_alone format db x old mid (rows_put format db x.key.now x.changes.now old mid first)))

  pub refused_later : (fault : RegFault) → IsRunRefusedAs format db xs mid fault → IsRunRefusedAs format db (x ∷ xs) old fault
  refused_later fault refused told =
      let it = refused told in
      let alike = beside_alike format db (x ∷ []) it.0.key.now old mid (not_first x it.0 xs rise it.1)
      (rows_beside format db (x ∷ []) old mid (rows_alone format db x old mid (rows_put format db x.key.now x.changes.now old mid first))) in
      (it.0, inr it.1, it.2, λ were are allows. it.3 were are (allows_alike format db it.0.key.now old mid alike it.0.changes.now were are allows))

pub refused_first : (format : Format) (db : ℤ) (x : KeyChanges) (xs : List KeyChanges) (trees : Trees) (fault : RegFault) → IsRefusedAs format db x.key.now x.changes.now trees fault → IsRunRefusedAs format db (x ∷ xs) trees fault
refused_first format db x xs trees fault refused told = let it = refused.1 told in (x, inl refl, it.0, it.1)

-- ---- all keys

-- tables that are as they were
pub none_put : (format : Format) (db : ℤ) (trees : Trees) → PutsKeys format db [] trees trees
none_put format db trees = record { each = tt; rows = rows format; lists = (refl, refl, refl) }
  where
    rows : (f : Format) → puts_run_rows f db [] trees trees
    rows plain_rows = record { postings = none_kept (IsPlaceAmong db) (IsOwnPlace db) postings_tree trees; blocks = refl; dict = refl }
    rows packed_blocks = record { blocks = none_kept (IsBlockAmong db) (IsOwnBlock db) blocks_tree trees; dict = none_kept (IsCountAmong db) (IsOwnCount db) dict_tree trees; postings = refl }
    rows packed_leaves = kept_itself db (IsUnitAmong []) trees

-- what a call answers for these keys
abbrev pub Answered : Format → ℤ → List KeyChanges → (old new : Trees) → Result (Unit {0}) RegFault → Type 0
Answered format db xs old new = Answers (IsRunRefusedAs format db xs old) (λ done. PutsKeys format db xs old new)

-- what is left leads from here to any end as all keys do from the start
abbrev pub LeadsOn : Format → ℤ → List KeyChanges → ℕ → (old mid : Trees) → Type 0
LeadsOn format db xs i old mid = (end : Trees) (result : Result (Unit {0}) RegFault) → Answered format db (drop i xs) mid end result → Answered format db xs old end result

pub one_more : (format : Format) (db : ℤ) (x : KeyChanges) (xs : List KeyChanges) → KeysRise (x ∷ xs) → (old mid new : Trees) (result : Result (Unit {0}) RegFault) → PutsAny format db x.key.now x.changes.now old mid
    → Answered format db xs mid new result → Answered format db (x ∷ xs) old new result
one_more format db x xs rise old mid new (Ok done) first rest = put_more format db x xs rise old mid first new rest
one_more format db x xs rise old mid new (Err fault) first rest = refused_later format db x xs rise old mid first fault rest

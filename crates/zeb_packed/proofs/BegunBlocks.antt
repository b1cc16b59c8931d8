-- Block by block: the rows that changes make of a key which has none.
use Rattle.zeb_packed.proofs.Cited.{◌≡◌, ◌≢◌, ◌∙◌, ◌/◌, ◌++◌, ◌<◌, ◌≤◌, ◌+◌, ◌-◌, ℕ, ℤ, suc, List, [], ◌∷◌, drop, drop-cons, get_or, length, take, take_rest, take-append-drop, map, refl, sym, ap, subst, inl, inr, arith, Has, has_either, has_left, has_right, Trees, all_has, AllByRecursion, IsInBlock, TurnsBlocks, no_change, run, run_first, run_long, blocks_tree, Key, AllowsBlock, AllowsBlocks, IsTouched, LacksBlock, RecordChange, NumbersRise, Known, append_cancel_left, AreApart, AreLacking, BeginsBlocks, GainsAll, SpellsNew, new_block_row, NewBlock}
use Rattle.zeb_packed.proofs.BegunKeys.{IsFrom, allows_still, apart_joined, block_turned, lacks_beside, next_from, run_from, turns_back}
use Rattle.zeb_packed.proofs.HeldTables.{blocks_gained, gained_last, with_blocks}
use Rattle.zeb_packed.proofs.UnitRuns.{LeadsOn, allows_fewer, allows_next, allows_run, none_turned, run_leads}
use Rattle.zeb_packed.proofs.UnitTurns.{run_left}

-- the rows so far, each of a block below this one
pub record AreBegun (key : Key) (changes : List RecordChange) (start known : Known) (done : ℕ) (blocks : List NewBlock) : Type 0 where
  pub next : IsFrom known.clear_from (drop done changes)
  pub apart : AreApart blocks
  pub own : (one : NewBlock) → Has blocks one → (one.key.now ≡ key) × IsTouched changes one.block × (one.block < known.clear_from)
  pub leads : (db : ℤ) (old now : Trees) → AreLacking db blocks old → GainsAll (map (new_block_row db) blocks) blocks_tree old now → LeadsOn db key changes done start known blocks_tree old now
  pub left : (db : ℤ) (old now : Trees) → GainsAll (map (new_block_row db) blocks) blocks_tree old now → AllowsBlocks db key changes (λ block. start.clear_from ≤ block) start.records old
      → AllowsBlocks db key (drop done changes) (λ block. known.clear_from ≤ block) known.records now

pub begun_none : (key : Key) (changes : List RecordChange) (start : Known) → IsFrom start.clear_from changes → AreBegun key changes start start 0 []
begun_none key changes start from = record {
  next = from;
  apart = tt;
  own = λ one none. absurd none;
  leads = λ db old now lacking gains end after turned. turns_back db key changes (λ block. start.clear_from ≤ block) start.records old now gains after end turned;
  left = λ db old now gains allows. allows_still db key changes (λ block. start.clear_from ≤ block) start.records old now gains allows;
}

module _ (key : Key) (changes : List RecordChange) (start known : Known) (done later block : ℕ) (run : List RecordChange) (blocks : List NewBlock) (so_far : AreBegun key changes start known done blocks)
    (inside : (change : RecordChange) → Has run change → change.sysno / 256 ≡ block) (some : run ≢ []) (parted : drop done changes ≡ run ++ drop later changes) where
  from : IsFrom known.clear_from (run ++ drop later changes)
  from = subst (IsFrom known.clear_from) parted so_far.next

  low : known.clear_from ≤ block
  low = run_from block known.clear_from run (drop later changes) some inside from

  not_block : (one : NewBlock) → Has blocks one → one.block ≢ block
  not_block one here same = absurd (omega (arith, (so_far.own one here).2, low, same))

  -- what can't be changed of the block is not allowed of all
  pub run_allowed : (db : ℤ) (old : Trees) → AllowsBlocks db key changes (λ b. start.clear_from ≤ b) start.records old
      → AllowsBlock db key block run known.records (with_blocks db blocks old) × LacksBlock db key block (with_blocks db blocks old)
  run_allowed db old allows =
      let now = with_blocks db blocks old in
      let here = subst (λ l. AllowsBlocks db key l (λ b. known.clear_from ≤ b) known.records now) parted (so_far.left db old now (blocks_gained db blocks old) allows) in
      let both = allows_run db key block run (drop later changes) inside some (λ b. known.clear_from ≤ b) known.records now here in
      (both.0, both.1 low)

  module _ (one : NewBlock) (records : ℕ) (own : one.key.now ≡ key) (number : one.block ≡ block) (new : SpellsNew block run known.records records one.bytes.items) (next : Known) (count : next.records ≡ records) (keeps : known.clear_from ≤ next.clear_from) (behind : block < next.clear_from)
      (most : (b : ℕ) → known.clear_from ≤ b → block < b → next.clear_from ≤ b) (rise : NumbersRise (run ++ drop later changes)) (whole : (y : RecordChange) (ys : List RecordChange) → drop later changes ≡ y ∷ ys → y.sysno / 256 ≢ block) (touched : IsTouched changes block) where
    abbrev more : List NewBlock
    more = blocks ++ one ∷ []

    pub begun_more : AreBegun key changes start next later more
    begun_more = record {
      next = next_from block known.clear_from run (drop later changes) some inside from next.clear_from rise whole most;
      apart = apart_joined blocks (one ∷ []) so_far.apart ((λ other none. absurd none), tt) (λ x y here there same. elim there [
        | inl is ↦ not_block x here (sym same.1 ∙ ap (λ (z : NewBlock). z.block) is ∙ number)
        | inr none ↦ absurd none
      ]);
      own = λ x here. elim (has_either blocks (one ∷ []) x here) [
        | inl before ↦ let it = so_far.own x before in (it.0, it.1, omega (arith, it.2, keeps))
        | inr last ↦ elim last [
          | inl is ↦ subst (λ (z : NewBlock). (z.key.now ≡ key) × IsTouched changes z.block × (z.block < next.clear_from)) (sym is) (own, subst (IsTouched changes) (sym number) touched, subst (λ b. b < next.clear_from) (sym number) behind)
          | inr none ↦ absurd none
        ]
      ];
      leads = λ db old now lacking gains.
          let mid = with_blocks db blocks old in
          let first = blocks_gained db blocks old in
          let mine : LacksBlock db key block old = subst (λ (k : Key). LacksBlock db k block old) own (subst (λ b. LacksBlock db one.key.now b old) number (lacking one (has_right blocks (one ∷ []) one (inl refl)))) in
          let lacks = lacks_beside db key block old mid blocks first not_block mine in
          let turned = block_turned db key block mid now one run known.records records own number new (gained_last (new_block_row db) blocks (one ∷ []) blocks_tree old mid now first gains) lacks in
          run_leads db key changes done later block run inside some parted start known next records count most old mid now
          (so_far.leads db old mid (λ x here. lacking x (has_left blocks (one ∷ []) x here)) first) (turned, λ clear. lacks);
      left = λ db old now gains allows.
          let mid = with_blocks db blocks old in
          let first = blocks_gained db blocks old in
          let both = run_allowed db old allows in
          let turned = block_turned db key block mid now one run known.records records own number new (gained_last (new_block_row db) blocks (one ∷ []) blocks_tree old mid now first gains) both.1 in
          let here = subst (λ l. AllowsBlocks db key l (λ b. known.clear_from ≤ b) known.records mid) parted (so_far.left db old mid first allows) in
          let rest = allows_next db key block run (drop later changes) inside some known.records records mid now turned (λ b. known.clear_from ≤ b) here in
          subst (λ r. AllowsBlocks db key (drop later changes) (λ b. next.clear_from ≤ b) r now) (sym count)
          (allows_fewer db key (drop later changes) (λ b. (known.clear_from ≤ b) × (block < b)) (λ b. next.clear_from ≤ b) records now (λ b is. (omega (arith, is, keeps), omega (arith, is, behind))) rest);
    }

-- all rows
pub begun_blocks : (key : Key) (changes : List RecordChange) (start known : Known) (done : ℕ) (blocks : List NewBlock) → drop done changes ≡ [] → AreBegun key changes start known done blocks → BeginsBlocks key changes start blocks known.records
begun_blocks key changes start known done blocks none it = record {
  apart = it.apart;
  own = λ one here. let own = it.own one here in (own.0, own.1);
  turns = λ db old new lacking gains. it.leads db old new lacking gains new known.records
      (subst (λ l. TurnsBlocks db key l (λ b. known.clear_from ≤ b) known.records known.records new new) (sym none) (none_turned db key (λ b. known.clear_from ≤ b) known.records new));
}

-- ---- a run of changes of one block, and those behind it

pub record IsFront (block done n : ℕ) (xs : List RecordChange) : Type 0 where
  pub inside : (change : RecordChange) → Has (run xs done n) change → change.sysno / 256 ≡ block
  pub some : run xs done n ≢ []
  pub left : drop done xs ≡ run xs done n ++ drop (done + length (run xs done n)) xs
  pub whole : (y : RecordChange) (ys : List RecordChange) → drop (done + length (run xs done n)) xs ≡ y ∷ ys → y.sysno / 256 ≢ block
  pub touched : IsTouched xs block

abbrev rest_of : List RecordChange → ℕ → List RecordChange
rest_of xs done = take (length xs - done) (drop done xs)

pub front_is : (xs : List RecordChange) (done n : ℕ) → done < length xs → let block = (get_or xs done no_change).sysno / 256 in n ≤ length (rest_of xs done) → AllByRecursion (IsInBlock block) (run xs done n)
    → ((first : RecordChange) (behind : List RecordChange) → rest_of xs done ≡ first ∷ behind → IsInBlock block first → 1 ≤ n) → ((next : RecordChange) (behind : List RecordChange) → drop n (rest_of xs done) ≡ next ∷ behind → ¬ IsInBlock block next) → IsFront block done n xs
front_is xs done n below within inside some whole = record {
  inside = λ x here. all_has (IsInBlock ((get_or xs done no_change).sysno / 256)) (run xs done n) x inside here;
  some = λ none. let one = some (get_or xs done no_change) (drop (suc done) xs) (run_first xs done n below) refl in absurd (omega (arith, one, run_long xs done n within, ap length none));
  left = left;
  whole = λ y ys is. whole y ys (append_cancel_left (run xs done n) (drop n (rest_of xs done)) (drop (done + length (run xs done n)) xs) (take-append-drop n (rest_of xs done) ∙ take_rest xs done ∙ left) ∙ is);
  touched = (
    get_or xs done no_change,
    subst (λ l. Has l (get_or xs done no_change)) (take-append-drop done xs) (has_right (take done xs) (drop done xs) (get_or xs done no_change) (subst (λ l. Has l (get_or xs done no_change)) (sym (drop-cons xs done no_change below)) (inl refl))),
    refl,
  );
}
  where
    left : drop done xs ≡ run xs done n ++ drop (done + length (run xs done n)) xs
    left = subst (λ r. drop done xs ≡ take n r ++ drop (done + length (take n r)) xs) (sym (take_rest xs done)) (run_left xs done n)

-- The first posting of those that are left, and the answers of a whole block.
use Rattle.zeb_blocks.proofs.Cited.{◌≡◌, ◌≢◌, ℕ, zero, suc, ◌-◌, ◌*◌, ◌/◌, ◌^◌, ◌<◌, List, [], ◌∷◌, ◌++◌, refl, sym, ◌∙◌, ap, subst, arith, Posting, BlockSpells, gaps_of, start_of, Follows, SpellsFrom, gaps_at, last_from, posting_after}
use Rattle.zeb_blocks.specs.Blocks.{bytes_of, spelled_from}
use Rattle.zeb_blocks.specs.Left.{behind, postings_at}
use Rattle.zeb_blocks.proofs.Steps.{NoPosting}
use Rattle.zeb_blocks.proofs.Lists.{behind-bytes, gaps_at-bytes, same_left, same_list}
use Rattle.zeb_blocks.proofs.Rising.{block_small, follow_start, last_inside, lies_from}

pub postings_at-none : (before : Posting) (bytes : List ℕ) (count : ℕ) → count ≡ 0 → postings_at count before bytes ≡ []
unfolding postings_at
postings_at-none before bytes zero none = refl
postings_at-none before bytes (suc more) none = absurd (omega arith)

postings_at-more : (before p : Posting) (bytes left : List ℕ) (more : ℕ) → Follows before p → bytes ≡ bytes_of (gaps_of before p) ++ left → postings_at (suc more) before bytes ≡ p ∷ postings_at more p left
unfolding postings_at
postings_at-more before p bytes left more next is =
    let first : posting_after before (gaps_at bytes) ≡ p = ap (λ (b : List ℕ). posting_after before (gaps_at b)) is ∙ gaps_at-bytes before p left next in
    let last : behind (behind (behind bytes)) ≡ left = ap (λ (b : List ℕ). behind (behind (behind b))) is ∙ behind-bytes before p left next in
    rw (first, last) refl

-- what is left once the first posting was taken
pub record IsTaken (before p : Posting) (count : ℕ) (bytes left : List ℕ) : Type 0 where
  pub is : postings_at count before bytes ≡ p ∷ postings_at (count - 1) p left
  pub spells : SpellsFrom p (postings_at (count - 1) p left) left

tail_spelled : (before p : Posting) (list : List Posting) (bytes left : List ℕ) → SpellsFrom before (p ∷ list) bytes → bytes ≡ bytes_of (gaps_of before p) ++ left → SpellsFrom p list left
unfolding spelled_from
tail_spelled before p list bytes left spells is = record {
  follow = spells.follow.1;
  spelled = same_left before p p left (spelled_from p list) spells.follow.0 spells.follow.0 (sym is ∙ spells.spelled);
}

pub taken : (before p : Posting) (count : ℕ) (bytes left : List ℕ) → SpellsFrom before (postings_at count before bytes) bytes → count ≢ 0 → Follows before p → bytes ≡ bytes_of (gaps_of before p) ++ left → IsTaken before p count bytes left
taken before p zero bytes left spells some next is = absurd (some refl)
taken before p (suc more) bytes left spells some next is =
    let list_is = postings_at-more before p bytes left more next is in
    let spells_left = tail_spelled before p (postings_at more p left) bytes left (subst (λ (list : List Posting). SpellsFrom before list bytes) list_is spells) is in
    let one : more ≡ suc more - 1 = omega arith in
    record {
      is = subst (λ (n : ℕ). postings_at (suc more) before bytes ≡ p ∷ postings_at n p left) one list_is;
      spells = subst (λ (n : ℕ). SpellsFrom p (postings_at n p left) left) one spells_left;
    }

-- a posting stands where some are left
pub not_damaged : (before : Posting) (count : ℕ) (bytes : List ℕ) → SpellsFrom before (postings_at count before bytes) bytes → count ≢ 0 → ¬ NoPosting before bytes
unfolding postings_at spelled_from
not_damaged before zero bytes spells some none = some refl
not_damaged before (suc more) bytes spells some none = none (posting_after before (gaps_at bytes)) _ spells.follow.0 spells.spelled

-- ---- a whole block

pub spells_start : (block : ℕ) (list : List Posting) (bytes : List ℕ) → BlockSpells block list bytes → SpellsFrom (start_of block) list bytes
spells_start block list bytes spells = record { follow = follow_start block list spells.lies; spelled = spells.spelled }

pub no_start : (block : ℕ) (bytes : List ℕ) → ¬ (256 * block < 2 ^ 64) → (list : List Posting) → ¬ BlockSpells block list bytes
no_start block bytes large list spells = let small = block_small block list spells.some spells.lies in large (omega arith)

pub no_list : (block : ℕ) (bytes : List ℕ) → ((list : List Posting) → ¬ SpellsFrom (start_of block) list bytes) → (list : List Posting) → ¬ BlockSpells block list bytes
no_list block bytes none list spells = none list (spells_start block list bytes spells)

pub empty_block : (block : ℕ) (bytes : List ℕ) → SpellsFrom (start_of block) [] bytes → (list : List Posting) → ¬ BlockSpells block list bytes
empty_block block bytes counted list spells = spells.some (sym (same_list (start_of block) bytes [] list counted (spells_start block list bytes spells)))

pub outside : (block : ℕ) (bytes : List ℕ) (found : List Posting) → SpellsFrom (start_of block) found bytes → (last_from (start_of block) found).sysno / 256 ≢ block → (list : List Posting) → ¬ BlockSpells block list bytes
outside block bytes found counted far list spells =
    let same = same_list (start_of block) bytes found list counted (spells_start block list bytes spells) in
    far (ap (λ (l : List Posting). (last_from (start_of block) l).sysno / 256) same ∙ last_inside block (start_of block) list spells.some spells.lies)

some_list : (before : Posting) (bytes : List ℕ) (count : ℕ) → count ≢ 0 → postings_at count before bytes ≢ []
unfolding postings_at
some_list before bytes zero some none = some refl
some_list before bytes (suc more) some none = cc

pub whole_block : (block : ℕ) (bytes : List ℕ) (count : ℕ) → SpellsFrom (start_of block) (postings_at count (start_of block) bytes) bytes → count ≢ 0
    → (last_from (start_of block) (postings_at count (start_of block) bytes)).sysno / 256 ≡ block → BlockSpells block (postings_at count (start_of block) bytes) bytes
whole_block block bytes count counted some inside = record {
  some = some_list (start_of block) bytes count some;
  lies = lies_from block (postings_at count (start_of block) bytes) counted.follow inside;
  spelled = counted.spelled;
}

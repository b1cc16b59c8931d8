-- Worked blocks: bytes that spell a list, and bytes that spell none.
use Rattle.zeb_blocks.proofs.Cited.{◌≡◌, ◌≢◌, ℕ, ◌+◌, ◌-◌, ◌/◌, ◌^◌, ◌<◌, ◌≤◌, List, [], ◌∷◌, ◌++◌, refl, sym, ◌∙◌, ap, Less, Equal, lit<, lit≤, arith, Posting, BlockSpells, IsNumbered, gaps_of, start_of, Follows, EachFollows, SpellsFrom, gaps_at, last_from, posting_after, at, ten_bytes}
use Rattle.zeb_blocks.specs.Numbers.{groups, uleb}
use Rattle.zeb_blocks.specs.Blocks.{bytes_of, spelled_from}
use Rattle.zeb_blocks.specs.Left.{behind, number_at}
use Rattle.zeb_blocks.proofs.Lists.{behind-bytes, gaps_at-bytes, no_more}
use Rattle.zeb_blocks.proofs.Rising.{lies_from}
use Rattle.zeb_blocks.proofs.Taking.{spells_start}

some_of : (p : Posting) (list : List Posting) → p ∷ list ≢ []
some_of p list none = cc

spells_by : (block : ℕ) (p : Posting) (list : List Posting) (bytes : List ℕ) → EachFollows (start_of block) (p ∷ list) → (last_from p list).sysno / 256 ≡ block → bytes ≡ spelled_from (start_of block) (p ∷ list) → BlockSpells block (p ∷ list) bytes
spells_by block p list bytes each inside is = record { some = some_of p list; lies = lies_from block (p ∷ list) each inside; spelled = is }

numbered_at : (sysno seq pos : ℕ) → 1 ≤ sysno → sysno < 2 ^ 64 → 1 ≤ seq → seq < 2 ^ 64 → 1 ≤ pos → pos < 2 ^ 64 → IsNumbered (at sysno seq pos)
numbered_at sysno seq pos a b c d e f = record { sysno = (a, b); seq = (c, d); pos = (e, f) }

one_two_two : IsNumbered (at 1 2 2)
one_two_two = numbered_at 1 2 2 (lit≤ tt) (lit< tt) (lit≤ tt) (lit< tt) (lit≤ tt) (lit< tt)

pub spelled_one : BlockSpells 0 (at 1 2 2 ∷ []) (1 ∷ 2 ∷ 2 ∷ [])
unfolding spelled_from bytes_of uleb groups
spelled_one = spells_by 0 (at 1 2 2) [] _ (record { above = refl; numbered = one_two_two }, tt) refl refl

pub spelled_next_unit : BlockSpells 0 (at 1 2 2 ∷ at 1 3 1 ∷ []) (1 ∷ 2 ∷ 2 ∷ 0 ∷ 1 ∷ 1 ∷ [])
unfolding spelled_from bytes_of uleb groups
spelled_next_unit = spells_by 0 (at 1 2 2) (at 1 3 1 ∷ []) _ (
  record { above = refl; numbered = one_two_two },
  (record { above = refl; numbered = numbered_at 1 3 1 (lit≤ tt) (lit< tt) (lit≤ tt) (lit< tt) (lit≤ tt) (lit< tt) }, tt),
) refl refl

pub spelled_next_place : BlockSpells 0 (at 1 2 2 ∷ at 1 2 5 ∷ []) (1 ∷ 2 ∷ 2 ∷ 0 ∷ 0 ∷ 3 ∷ [])
unfolding spelled_from bytes_of uleb groups
spelled_next_place = spells_by 0 (at 1 2 2) (at 1 2 5 ∷ []) _ (
  record { above = refl; numbered = one_two_two },
  (record { above = refl; numbered = numbered_at 1 2 5 (lit≤ tt) (lit< tt) (lit≤ tt) (lit< tt) (lit≤ tt) (lit< tt) }, tt),
) refl refl

pub spelled_next_record : BlockSpells 0 (at 1 2 2 ∷ at 255 1 1 ∷ []) (1 ∷ 2 ∷ 2 ∷ 0xfe ∷ 1 ∷ 1 ∷ 1 ∷ [])
unfolding spelled_from bytes_of uleb groups
spelled_next_record = spells_by 0 (at 1 2 2) (at 255 1 1 ∷ []) _ (
  record { above = refl; numbered = one_two_two },
  (record { above = refl; numbered = numbered_at 255 1 1 (lit≤ tt) (lit< tt) (lit≤ tt) (lit< tt) (lit≤ tt) (lit< tt) }, tt),
) refl refl

pub spelled_next_block : BlockSpells 1 (at 256 2 2 ∷ []) (0 ∷ 2 ∷ 2 ∷ [])
unfolding spelled_from bytes_of uleb groups
spelled_next_block = spells_by 1 (at 256 2 2) [] _ (record { above = refl; numbered = numbered_at 256 2 2 (lit≤ tt) (lit< tt) (lit≤ tt) (lit< tt) (lit≤ tt) (lit< tt) }, tt) refl refl

pub spelled_long : BlockSpells (2 ^ 56 - 1) (at (2 ^ 64 - 1) (2 ^ 63) (2 ^ 64 - 1) ∷ []) (0xff ∷ 1 ∷ (ten_bytes 0x80 1 ++ ten_bytes 0xff 1))
unfolding spelled_from bytes_of uleb groups
spelled_long = spells_by (2 ^ 56 - 1) (at (2 ^ 64 - 1) (2 ^ 63) (2 ^ 64 - 1)) [] _ (record { above = refl; numbered = numbered_at (2 ^ 64 - 1) (2 ^ 63) (2 ^ 64 - 1) (lit≤ tt) (lit< tt) (lit≤ tt) (lit< tt) (lit≤ tt) (lit< tt) }, tt) refl refl

-- ---- refused bytes

-- what bytes say of a list that they spell behind a posting: its first posting, and what stands behind that
record Begins (before p : Posting) (list : List Posting) (bytes left : List ℕ) : Type 0 where
  rest : List Posting
  is : list ≡ p ∷ rest
  follows : Follows before p
  spelled : bytes ≡ bytes_of (gaps_of before p) ++ left
  spells : SpellsFrom p rest left

begins : (before p : Posting) (list : List Posting) (bytes left : List ℕ) → posting_after before (gaps_at bytes) ≡ p → behind (behind (behind bytes)) ≡ left → SpellsFrom before list bytes → list ≢ [] → Begins before p list bytes left
unfolding spelled_from
begins before p [] bytes left first last spells some = absurd (some refl)
begins before p (q ∷ rest) bytes left first last spells some =
    let tail = spelled_from q rest in
    let same : q ≡ p = sym (gaps_at-bytes before q tail spells.follow.0) ∙ ap (λ (b : List ℕ). posting_after before (gaps_at b)) (sym spells.spelled) ∙ first in
    let same_left : tail ≡ left = sym (behind-bytes before q tail spells.follow.0) ∙ ap (λ (b : List ℕ). behind (behind (behind b))) (sym spells.spelled) ∙ last in
    rw (← same, ← same_left) record {
      rest = rest;
      is = refl;
      follows = spells.follow.0;
      spelled = spells.spelled;
      spells = record { follow = spells.follow.1; spelled = refl };
    }

pub no_empty : (list : List Posting) → ¬ BlockSpells 0 list []
no_empty list spells = let from = spells_start 0 list [] spells in spells.some (no_more (start_of 0) list from.follow from.spelled)

pub no_zero : (list : List Posting) → ¬ BlockSpells 0 list (0 ∷ 2 ∷ 2 ∷ [])
unfolding number_at behind
no_zero list spells =
    let b = begins (start_of 0) (at 0 2 2) list _ [] refl refl (spells_start 0 list _ spells) spells.some in
    let low : 1 ≤ 0 = b.follows.numbered.sysno.0 in
    omega arith

pub no_cut : (list : List Posting) → ¬ BlockSpells 0 list (1 ∷ 2 ∷ [])
unfolding number_at behind
no_cut list spells =
    let b = begins (start_of 0) (at 1 2 0) list _ [] refl refl (spells_start 0 list _ spells) spells.some in
    let low : 1 ≤ 0 = b.follows.numbered.pos.0 in
    omega arith

pub no_padded : (list : List Posting) → ¬ BlockSpells 0 list (1 ∷ 2 ∷ 0x82 ∷ 0 ∷ [])
unfolding number_at behind bytes_of uleb groups
no_padded list spells =
    let b = begins (start_of 0) (at 1 2 2) list _ [] refl refl (spells_start 0 list _ spells) spells.some in
    let same : ◌≡◌ {A = List ℕ} (1 ∷ 2 ∷ 0x82 ∷ 0 ∷ []) (1 ∷ 2 ∷ 2 ∷ []) = b.spelled in
    cc

pub no_level : (list : List Posting) → ¬ BlockSpells 0 list (1 ∷ 2 ∷ 2 ∷ 0 ∷ 0 ∷ 0 ∷ [])
unfolding number_at behind spelled_from
no_level list spells =
    let b = begins (start_of 0) (at 1 2 2) list _ (0 ∷ 0 ∷ 0 ∷ []) refl refl (spells_start 0 list _ spells) spells.some in
    let again = begins (at 1 2 2) (at 1 2 2) b.rest _ [] refl refl b.spells (λ none. let e = rw none at b.spells.spelled in cc) in
    let above : Equal ≡ Less = again.follows.above in
    cc

pub no_outside : (list : List Posting) → ¬ BlockSpells 0 list (0x80 ∷ 2 ∷ 1 ∷ 1 ∷ [])
unfolding number_at behind
no_outside list spells =
    let b = begins (start_of 0) (at 256 1 1) list _ [] refl refl (spells_start 0 list _ spells) spells.some in
    let inside = rw b.is at spells.lies.inside in
    let block : ◌≡◌ {A = ℕ} 1 0 = inside.0 in
    omega arith

pub no_large : (list : List Posting) → ¬ BlockSpells 0 list (1 ∷ (ten_bytes 0xff 2 ++ 1 ∷ []))
unfolding number_at behind
no_large list spells =
    let b = begins (start_of 0) (at 1 (2 ^ 64 + 2 ^ 63 - 1) 1) list _ [] refl refl (spells_start 0 list _ spells) spells.some in
    let high : 2 ^ 64 + 2 ^ 63 - 1 < 2 ^ 64 = b.follows.numbered.seq.1 in
    omega arith

pub no_long : (list : List Posting) → ¬ BlockSpells 0 list (1 ∷ (ten_bytes 0x80 0x81 ++ 1 ∷ 1 ∷ []))
unfolding number_at behind
no_long list spells =
    let b = begins (start_of 0) (at 1 (2 ^ 70 + 2 ^ 63) 1) list _ [] refl refl (spells_start 0 list _ spells) spells.some in
    let high : 2 ^ 70 + 2 ^ 63 < 2 ^ 64 = b.follows.numbered.seq.1 in
    omega arith

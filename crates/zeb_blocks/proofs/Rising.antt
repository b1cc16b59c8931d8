-- A list in which each posting follows the one before it rises, and one that lies in a block is such a list behind the block's start.
use Rattle.zeb_blocks.proofs.Cited.{◌≡◌, ◌≢◌, ℕ, ◌*◌, ◌/◌, ◌^◌, ◌<◌, ◌≤◌, List, [], ◌∷◌, refl, Less, arith, common_steps, AllByRecursion, Posting, posting_cmp, IsNumbered, LiesIn, start_of, EachFollows, last_from}
use Rattle.std.specs.List.Sorted.{IsStrictlySortedBy}

pub above_above : (p q r : Posting) → posting_cmp p q ≡ Less → posting_cmp q r ≡ Less → posting_cmp p r ≡ Less
above_above p q r one other = grind (arith, common_steps, one, other)

pub sysno_rises : (p q : Posting) → posting_cmp p q ≡ Less → p.sysno ≤ q.sysno
sysno_rises p q above = grind (arith, common_steps, above)

-- a posting of the block is above its start
pub above_start : (block : ℕ) (p : Posting) → p.sysno / 256 ≡ block → IsNumbered p → posting_cmp (start_of block) p ≡ Less
above_start block p inside numbered =
    let low : 256 * block ≤ p.sysno = omega arith in
    grind (arith, common_steps, low, numbered.seq.0, numbered.pos.0)

all_above : (before p : Posting) (list : List Posting) → posting_cmp before p ≡ Less → AllByRecursion (λ q. posting_cmp p q ≡ Less) list → AllByRecursion (λ q. posting_cmp before q ≡ Less) list
all_above before p [] above each = tt
all_above before p (q ∷ list) above each = (above_above before p q above each.0, all_above before p list above each.1)

each_above : (before : Posting) (list : List Posting) → EachFollows before list → AllByRecursion (λ q. posting_cmp before q ≡ Less) list
each_above before [] each = tt
each_above before (p ∷ list) each = (each.0.above, all_above before p list each.0.above (each_above p list each.1))

rises : (before : Posting) (list : List Posting) → EachFollows before list → IsStrictlySortedBy posting_cmp list
unfolding IsStrictlySortedBy
rises before [] each = tt
rises before (p ∷ list) each = (each_above p list each.1, rises p list each.1)

each_numbered : (before : Posting) (list : List Posting) → EachFollows before list → AllByRecursion IsNumbered list
each_numbered before [] each = tt
each_numbered before (p ∷ list) each = (each.0.numbered, each_numbered p list each.1)

last_above : (before : Posting) (list : List Posting) → EachFollows before list → before.sysno ≤ (last_from before list).sysno
last_above before [] each = omega arith
last_above before (p ∷ list) each = omega (arith, sysno_rises before p each.0.above, last_above p list each.1)

each_inside : (block : ℕ) (before : Posting) (list : List Posting) → EachFollows before list → 256 * block ≤ before.sysno → (last_from before list).sysno / 256 ≡ block → AllByRecursion (λ p. p.sysno / 256 ≡ block) list
each_inside block before [] each low high = tt
each_inside block before (p ∷ list) each low high =
    let up = sysno_rises before p each.0.above in
    let down = last_above p list each.1 in
    (omega arith, each_inside block p list each.1 (omega arith) high)

pub lies_from : (block : ℕ) (list : List Posting) → EachFollows (start_of block) list → (last_from (start_of block) list).sysno / 256 ≡ block → LiesIn block list
lies_from block list each last = record {
  rising = rises (start_of block) list each;
  numbered = each_numbered (start_of block) list each;
  inside = each_inside block (start_of block) list each (omega arith) last;
}

follow_from : (before : Posting) (list : List Posting) → AllByRecursion (λ q. posting_cmp before q ≡ Less) list → IsStrictlySortedBy posting_cmp list → AllByRecursion IsNumbered list → EachFollows before list
unfolding IsStrictlySortedBy
follow_from before [] above up numbered = tt
follow_from before (p ∷ list) above up numbered = (record { above = above.0; numbered = numbered.0 }, follow_from p list up.0 up.1 numbered.1)

all_above_start : (block : ℕ) (list : List Posting) → AllByRecursion (λ p. p.sysno / 256 ≡ block) list → AllByRecursion IsNumbered list → AllByRecursion (λ q. posting_cmp (start_of block) q ≡ Less) list
all_above_start block [] inside numbered = tt
all_above_start block (p ∷ list) inside numbered = (above_start block p inside.0 numbered.0, all_above_start block list inside.1 numbered.1)

pub follow_start : (block : ℕ) (list : List Posting) → LiesIn block list → EachFollows (start_of block) list
follow_start block list lies = follow_from (start_of block) list (all_above_start block list lies.inside lies.numbered) lies.rising lies.numbered

last_in : (block : ℕ) (p : Posting) (list : List Posting) → p.sysno / 256 ≡ block → AllByRecursion (λ q. q.sysno / 256 ≡ block) list → (last_from p list).sysno / 256 ≡ block
last_in block p [] here inside = here
last_in block p (q ∷ list) here inside = last_in block q list inside.0 inside.1

pub last_inside : (block : ℕ) (before : Posting) (list : List Posting) → list ≢ [] → LiesIn block list → (last_from before list).sysno / 256 ≡ block
last_inside block before [] some lies = absurd (some refl)
last_inside block before (p ∷ list) some lies = last_in block p list lies.inside.0 lies.inside.1

-- a block with a posting has a small number
pub block_small : (block : ℕ) (list : List Posting) → list ≢ [] → LiesIn block list → block < 2 ^ 56
block_small block [] some lies = absurd (some refl)
block_small block (p ∷ list) some lies = let here = lies.inside.0 in let fits = lies.numbered.0.sysno.1 in omega arith

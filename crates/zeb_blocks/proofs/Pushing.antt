-- One posting more at the end of a block that is being written.
use Rattle.zeb_blocks.proofs.Cited.{◌≡◌, ℕ, ◌+◌, ◌/◌, ◌^◌, ◌<◌, ◌≤◌, List, [], ◌∷◌, ◌++◌, length, refl, sym, ◌∙◌, ap, subst, Less, arith, append-nil, length-append, AllByRecursion, Posting, posting_cmp, IsNumbered, LiesIn, gaps_of, start_of, Follows, EachFollows, last_from, IsWritten}
use Rattle.std.specs.List.Sorted.{IsStrictlySortedBy}
use Rattle.zeb_blocks.specs.Blocks.{bytes_of, spelled_from}
use Rattle.zeb_blocks.specs.Left.{postings_at}
use Rattle.zeb_blocks.proofs.Counting.{one_spelled}
use Rattle.zeb_blocks.proofs.Lists.{each_follows-behind, last_from-append, length-postings_at, length-spelled, postings_at-spelled, spelled_from-append}
use Rattle.zeb_blocks.proofs.Rising.{follow_start}

-- a list without a posting
pub written_none : (block : ℕ) (bytes : List ℕ) → block < 2 ^ 56 → bytes ≡ [] → IsWritten block (postings_at 0 (start_of block) bytes) (start_of block) bytes
unfolding postings_at spelled_from IsStrictlySortedBy
written_none block bytes small none = record {
  small = small;
  lies = record { rising = tt; numbered = tt; inside = tt };
  spells = record { follow = tt; spelled = none };
  last = refl;
}

-- the number of postings is at most that of their bytes
pub written_count : (block count : ℕ) (last : Posting) (bytes : List ℕ) → IsWritten block (postings_at count (start_of block) bytes) last bytes → count ≤ length bytes
written_count block count last bytes written =
    let list = postings_at count (start_of block) bytes in
    let many = length-spelled (start_of block) list written.spells.follow in
    let e = ap length written.spells.spelled in
    omega (arith, many, length-postings_at count (start_of block) bytes)

pub pushed_follows : (block : ℕ) (list : List Posting) (last p : Posting) → last_from (start_of block) list ≡ last → LiesIn block (list ++ p ∷ []) → Follows last p
pushed_follows block list last p is lies =
    let behind = each_follows-behind (start_of block) list (p ∷ []) (follow_start block (list ++ p ∷ []) lies) in
    (subst (λ (q : Posting). EachFollows q (p ∷ [])) is behind).0

-- the bytes with those of one posting more
pub pushed_spelled : (block : ℕ) (list : List Posting) (last p : Posting) → last_from (start_of block) list ≡ last → spelled_from (start_of block) (list ++ p ∷ []) ≡ spelled_from (start_of block) list ++ bytes_of (gaps_of last p)
pushed_spelled block list last p is = spelled_from-append (start_of block) list (p ∷ []) ∙ rw (is, one_spelled last p) refl

pub pushed_list : (block count : ℕ) (last p : Posting) (bytes : List ℕ) → IsWritten block (postings_at count (start_of block) bytes) last bytes → LiesIn block (postings_at count (start_of block) bytes ++ p ∷ [])
    → postings_at (count + 1) (start_of block) (bytes ++ bytes_of (gaps_of last p)) ≡ postings_at count (start_of block) bytes ++ p ∷ []
pushed_list block count last p bytes written lies =
    let start = start_of block in
    let list = postings_at count start bytes in
    let many : length (list ++ p ∷ []) ≡ count + 1 = omega (arith, length-append list (p ∷ []), length-postings_at count start bytes) in
    let whole : spelled_from start (list ++ p ∷ []) ++ [] ≡ bytes ++ bytes_of (gaps_of last p) =
    append-nil (spelled_from start (list ++ p ∷ [])) ∙ pushed_spelled block list last p written.last ∙ ap (λ (front : List ℕ). front ++ bytes_of (gaps_of last p)) (sym written.spells.spelled) in
    let here = postings_at-spelled start (list ++ p ∷ []) [] (follow_start block (list ++ p ∷ []) lies) in
    subst (λ (n : ℕ). postings_at n start (bytes ++ bytes_of (gaps_of last p)) ≡ list ++ p ∷ []) many
    (subst (λ (b : List ℕ). postings_at (length (list ++ p ∷ [])) start b ≡ list ++ p ∷ []) whole here)

pub pushed_written : (block count : ℕ) (last p : Posting) (bytes out : List ℕ) → IsWritten block (postings_at count (start_of block) bytes) last bytes → LiesIn block (postings_at count (start_of block) bytes ++ p ∷ [])
    → out ≡ bytes ++ bytes_of (gaps_of last p) → IsWritten block (postings_at (count + 1) (start_of block) out) p out
pushed_written block count last p bytes out written lies is =
    let start = start_of block in
    let list = postings_at count start bytes in
    rw (is, pushed_list block count last p bytes written lies) record {
      small = written.small;
      lies = lies;
      spells = record {
        follow = follow_start block (list ++ p ∷ []) lies;
        spelled = ap (λ (front : List ℕ). front ++ bytes_of (gaps_of last p)) written.spells.spelled ∙ sym (pushed_spelled block list last p written.last);
      };
      last = last_from-append start list (p ∷ []);
    }

-- ---- the front of a list that lies in a block

all_front : (P : Posting → Type 0) (xs ys : List Posting) → AllByRecursion P (xs ++ ys) → AllByRecursion P xs
all_front P [] ys each = tt
all_front P (x ∷ xs) ys each = (each.0, all_front P xs ys each.1)

rising_front : (xs ys : List Posting) → IsStrictlySortedBy posting_cmp (xs ++ ys) → IsStrictlySortedBy posting_cmp xs
unfolding IsStrictlySortedBy
rising_front [] ys up = tt
rising_front (x ∷ xs) ys up = (all_front (λ y. posting_cmp x y ≡ Less) xs ys up.0, rising_front xs ys up.1)

pub lies_front : (block : ℕ) (xs ys : List Posting) → LiesIn block (xs ++ ys) → LiesIn block xs
lies_front block xs ys lies = record {
  rising = rising_front xs ys lies.rising;
  numbered = all_front IsNumbered xs ys lies.numbered;
  inside = all_front (λ p. p.sysno / 256 ≡ block) xs ys lies.inside;
}

-- Counting the postings of a block, one after the other.
use Rattle.zeb_blocks.proofs.Cited.{◌≡◌, ℕ, ◌+◌, ◌<◌, ◌≤◌, List, [], ◌∷◌, ◌++◌, length, refl, sym, ◌∙◌, ap, subst, arith, append_assoc, append-nil, length-append, Posting, gaps_of, Follows, EachFollows, SpellsFrom, last_from}
use Rattle.zeb_blocks.specs.Blocks.{bytes_of, spelled_from}
use Rattle.zeb_blocks.specs.Left.{postings_at}
use Rattle.zeb_blocks.proofs.Steps.{NoPosting}
use Rattle.zeb_blocks.proofs.Lists.{each_follows-append, each_follows-behind, last_from-append, length-bytes, postings_at-spelled, spelled_from-append, told_apart}

-- so many postings stand before what is left, and this is the last of them
pub record IsReadUpTo (start : Posting) (bytes : List ℕ) (count : ℕ) (last : Posting) (left : List ℕ) : Type 0 where
  pub list : List Posting
  pub follow : EachFollows start list
  pub spelled : bytes ≡ spelled_from start list ++ left
  pub counted : length list ≡ count
  pub end : last_from start list ≡ last
  pub room : count + length left ≤ length bytes

unfoldable pub counted_none : (start : Posting) (bytes : List ℕ) → IsReadUpTo start bytes 0 start bytes
unfolding spelled_from
counted_none start bytes = record { list = []; follow = tt; spelled = refl; counted = refl; end = refl; room = omega arith }

pub one_spelled : (before p : Posting) → spelled_from before (p ∷ []) ≡ bytes_of (gaps_of before p)
unfolding spelled_from
one_spelled before p = append-nil (bytes_of (gaps_of before p))

unfoldable pub counted_more : (start : Posting) (bytes : List ℕ) (count : ℕ) (last p : Posting) (left behind : List ℕ) → IsReadUpTo start bytes count last left → Follows last p → left ≡ bytes_of (gaps_of last p) ++ behind
    → IsReadUpTo start bytes (count + 1) p behind
counted_more start bytes count last p left behind so_far next is =
    let one : EachFollows (last_from start so_far.list) (p ∷ []) = subst (λ (q : Posting). EachFollows q (p ∷ [])) (sym so_far.end) (next, tt) in
    record {
      list = so_far.list ++ p ∷ [];
      follow = each_follows-append start so_far.list (p ∷ []) so_far.follow one;
      spelled = so_far.spelled ∙ rw (spelled_from-append start so_far.list (p ∷ []), so_far.end, one_spelled last p, append_assoc (spelled_from start so_far.list) (bytes_of (gaps_of last p)) behind, is) refl;
      counted = length-append so_far.list (p ∷ []) ∙ omega (arith, so_far.counted);
      end = last_from-append start so_far.list (p ∷ []);
      room = let shorter = length-bytes last p behind next in let e = ap length is in omega (arith, so_far.room);
    }

-- where nothing is left, the bytes spell the list
pub counted_all : (start : Posting) (bytes : List ℕ) (count : ℕ) (last : Posting) (left : List ℕ) → IsReadUpTo start bytes count last left → length left ≡ 0
    → SpellsFrom start (postings_at count start bytes) bytes × (last_from start (postings_at count start bytes) ≡ last)
counted_all start bytes count last (byte ∷ left) all none = absurd (omega arith)
counted_all start bytes count last [] all none =
    let here = postings_at-spelled start all.list [] all.follow in
    let list_is : postings_at count start bytes ≡ all.list = rw (← all.counted, all.spelled) here in
    rw list_is (record { follow = all.follow; spelled = all.spelled ∙ append-nil (spelled_from start all.list) }, all.end)

refused : (last : Posting) (left : List ℕ) (more : List Posting) → 0 < length left → NoPosting last left → EachFollows last more → left ≡ spelled_from last more → ⊥
unfolding spelled_from
refused last left [] some none behind is = let e = ap length is in omega arith
refused last left (p ∷ more) some none behind is = none p (spelled_from p more) behind.0 is

-- where something is left that begins with no posting, they spell no list
pub counted_damaged : (start : Posting) (bytes : List ℕ) (count : ℕ) (last : Posting) (left : List ℕ) → IsReadUpTo start bytes count last left → 0 < length left → NoPosting last left → (list : List Posting) → ¬ SpellsFrom start list bytes
counted_damaged start bytes count last left so_far some none list spells =
    let (more, is, left_is) = told_apart start so_far.list list left so_far.follow spells.follow (sym so_far.spelled ∙ spells.spelled) in
    let behind : EachFollows last more = subst (λ (q : Posting). EachFollows q more) so_far.end (each_follows-behind start so_far.list more (subst (EachFollows start) is spells.follow)) in
    refused last left more some none behind (left_is ∙ ap (λ (q : Posting). spelled_from q more) so_far.end)

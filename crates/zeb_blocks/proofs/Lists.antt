-- Lists behind a posting, and their bytes.
use Rattle.zeb_blocks.proofs.Cited.{◌≡◌, ◌≢◌, ℕ, zero, suc, ◌+◌, ◌≤◌, List, [], ◌∷◌, ◌++◌, length, refl, sym, ◌∙◌, ap, subst, arith, append_assoc, append-nil, length-append, Posting, gaps_of, Follows, EachFollows, SpellsFrom, gaps_at, last_from, posting_after}
use Rattle.zeb_blocks.specs.Numbers.{uleb}
use Rattle.zeb_blocks.specs.Blocks.{bytes_of, spelled_from}
use Rattle.zeb_blocks.specs.Left.{behind, postings_at}
use Rattle.zeb_blocks.proofs.Bytes.{begins_none}
use Rattle.zeb_blocks.proofs.Front.{number_at-uleb, behind-uleb}
use Rattle.zeb_blocks.proofs.Steps.{gaps_small, posting_after-gaps, bytes_of-append}

-- the posting at the front of its bytes
pub gaps_at-bytes : (before p : Posting) (rest : List ℕ) → Follows before p → posting_after before (gaps_at (bytes_of (gaps_of before p) ++ rest)) ≡ p
gaps_at-bytes before p rest next =
    let gaps = gaps_of before p in
    let small = gaps_small before p next in
    rw (
      bytes_of-append gaps rest,
      behind-uleb gaps.sysno (uleb gaps.seq ++ (uleb gaps.pos ++ rest)) small.sysno,
      behind-uleb gaps.seq (uleb gaps.pos ++ rest) small.seq,
      number_at-uleb gaps.sysno (uleb gaps.seq ++ (uleb gaps.pos ++ rest)) small.sysno,
      number_at-uleb gaps.seq (uleb gaps.pos ++ rest) small.seq,
      number_at-uleb gaps.pos rest small.pos,
    )
    (posting_after-gaps before p next)

pub behind-bytes : (before p : Posting) (rest : List ℕ) → Follows before p → behind (behind (behind (bytes_of (gaps_of before p) ++ rest))) ≡ rest
behind-bytes before p rest next =
    let gaps = gaps_of before p in
    let small = gaps_small before p next in
    rw (bytes_of-append gaps rest, behind-uleb gaps.sysno (uleb gaps.seq ++ (uleb gaps.pos ++ rest)) small.sysno, behind-uleb gaps.seq (uleb gaps.pos ++ rest) small.seq) (behind-uleb gaps.pos rest small.pos)

-- bytes begin with one posting behind another at most
pub same_posting : (before p q : Posting) (left right : List ℕ) → Follows before p → Follows before q → bytes_of (gaps_of before p) ++ left ≡ bytes_of (gaps_of before q) ++ right → p ≡ q
same_posting before p q left right next next' same =
    sym (gaps_at-bytes before p left next) ∙ ap (λ (bytes : List ℕ). posting_after before (gaps_at bytes)) same ∙ gaps_at-bytes before q right next'

pub same_left : (before p q : Posting) (left right : List ℕ) → Follows before p → Follows before q → bytes_of (gaps_of before p) ++ left ≡ bytes_of (gaps_of before q) ++ right → left ≡ right
same_left before p q left right next next' same =
    sym (behind-bytes before p left next) ∙ ap (λ (bytes : List ℕ). behind (behind (behind bytes))) same ∙ behind-bytes before q right next'

pub some_bytes : (before p : Posting) (rest : List ℕ) → Follows before p → [] ≢ bytes_of (gaps_of before p) ++ rest
some_bytes before p rest next same =
    let gaps = gaps_of before p in
    begins_none gaps.sysno (uleb gaps.seq ++ (uleb gaps.pos ++ rest)) (gaps_small before p next).sysno (same ∙ bytes_of-append gaps rest)

pub length-postings_at : (count : ℕ) (before : Posting) (bytes : List ℕ) → length (postings_at count before bytes) ≡ count
unfolding postings_at
length-postings_at zero before bytes = refl
length-postings_at (suc more) before bytes = ap suc (length-postings_at more _ _)

pub postings_at-spelled : (before : Posting) (list : List Posting) (rest : List ℕ) → EachFollows before list → postings_at (length list) before (spelled_from before list ++ rest) ≡ list
unfolding postings_at spelled_from
postings_at-spelled before [] rest each = refl
postings_at-spelled before (p ∷ list) rest each =
    let tail = spelled_from p list ++ rest in
    rw (append_assoc (bytes_of (gaps_of before p)) (spelled_from p list) rest, gaps_at-bytes before p tail each.0, behind-bytes before p tail each.0, postings_at-spelled p list rest each.1) refl

pub spelled_from-append : (before : Posting) (xs ys : List Posting) → spelled_from before (xs ++ ys) ≡ spelled_from before xs ++ spelled_from (last_from before xs) ys
unfolding spelled_from
spelled_from-append before [] ys = refl
spelled_from-append before (x ∷ xs) ys = ap (λ (bytes : List ℕ). bytes_of (gaps_of before x) ++ bytes) (spelled_from-append x xs ys) ∙ sym (append_assoc (bytes_of (gaps_of before x)) (spelled_from x xs) (spelled_from (last_from x xs) ys))

pub last_from-append : (before : Posting) (xs ys : List Posting) → last_from before (xs ++ ys) ≡ last_from (last_from before xs) ys
last_from-append before [] ys = refl
last_from-append before (x ∷ xs) ys = last_from-append x xs ys

pub each_follows-append : (before : Posting) (xs ys : List Posting) → EachFollows before xs → EachFollows (last_from before xs) ys → EachFollows before (xs ++ ys)
each_follows-append before [] ys each more = more
each_follows-append before (x ∷ xs) ys each more = (each.0, each_follows-append x xs ys each.1 more)

pub each_follows-front : (before : Posting) (xs ys : List Posting) → EachFollows before (xs ++ ys) → EachFollows before xs
each_follows-front before [] ys each = tt
each_follows-front before (x ∷ xs) ys each = (each.0, each_follows-front x xs ys each.1)

pub each_follows-behind : (before : Posting) (xs ys : List Posting) → EachFollows before (xs ++ ys) → EachFollows (last_from before xs) ys
each_follows-behind before [] ys each = each
each_follows-behind before (x ∷ xs) ys each = each_follows-behind x xs ys each.1

-- each posting has a byte at least
some_length : (front rest : List ℕ) (n : ℕ) → [] ≢ front → n ≤ length rest → n + 1 ≤ length (front ++ rest)
some_length [] rest n some le = absurd (some refl)
some_length (byte ∷ front) rest n some le = omega (arith, length-append front rest)

pub length-bytes : (before p : Posting) (rest : List ℕ) → Follows before p → length rest + 1 ≤ length (bytes_of (gaps_of before p) ++ rest)
length-bytes before p rest next = some_length (bytes_of (gaps_of before p)) rest (length rest) (λ none. some_bytes before p [] next (ap (λ (bytes : List ℕ). bytes ++ []) none)) (omega arith)

pub length-spelled : (before : Posting) (list : List Posting) → EachFollows before list → length list ≤ length (spelled_from before list)
unfolding spelled_from
length-spelled before [] each = omega arith
length-spelled before (p ∷ list) each = omega (arith, length-spelled p list each.1, length-bytes before p (spelled_from p list) each.0)

-- the bytes of a list that begin with those of another are those of it and of what stands behind it
pub told_apart : (before : Posting) (list other : List Posting) (rest : List ℕ) → EachFollows before list → EachFollows before other → spelled_from before list ++ rest ≡ spelled_from before other
    → (more : List Posting) × (other ≡ list ++ more) × (rest ≡ spelled_from (last_from before list) more)
unfolding spelled_from
told_apart before [] other rest each each' same = (other, refl, same)
told_apart before (p ∷ list) [] rest each each' same = absurd (some_bytes before p (spelled_from p list ++ rest) each.0 (sym same ∙ append_assoc (bytes_of (gaps_of before p)) (spelled_from p list) rest))
told_apart before (p ∷ list) (q ∷ other) rest each each' same =
    let at = sym (append_assoc (bytes_of (gaps_of before p)) (spelled_from p list) rest) ∙ same in
    let first = same_posting before p q _ _ each.0 each'.0 at in
    let left : spelled_from p list ++ rest ≡ spelled_from q other = same_left before p q _ _ each.0 each'.0 at in
    let here : EachFollows p other = subst (λ (r : Posting). EachFollows r other) (sym first) each'.1 in
    let left' : spelled_from p list ++ rest ≡ spelled_from p other = subst (λ (r : Posting). spelled_from p list ++ rest ≡ spelled_from r other) (sym first) left in
    let (more, is, behind_is) = told_apart p list other rest each.1 here left' in
    (more, (λ i. sym first i ∷ is i), behind_is)

pub no_more : (before : Posting) (list : List Posting) → EachFollows before list → [] ≡ spelled_from before list → list ≡ []
unfolding spelled_from
no_more before [] each none = refl
no_more before (p ∷ list) each none = absurd (some_bytes before p (spelled_from p list) each.0 none)

-- bytes behind a posting are those of one list at most
pub same_list : (before : Posting) (bytes : List ℕ) (list other : List Posting) → SpellsFrom before list bytes → SpellsFrom before other bytes → list ≡ other
same_list before bytes list other one two =
    let (more, is, none) = told_apart before list other [] one.follow two.follow (append-nil (spelled_from before list) ∙ sym one.spelled ∙ two.spelled) in
    let behind = each_follows-behind before list more (subst (EachFollows before) is two.follow) in
    sym (is ∙ ap (λ (rest : List Posting). list ++ rest) (no_more (last_from before list) more behind none) ∙ append-nil list)

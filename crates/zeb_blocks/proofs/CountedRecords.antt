-- How many records postings are of, one posting more.
use Rattle.zeb_blocks.proofs.Cited.{◌≡◌, ℕ, ◌+◌, ◌<◌, ◌≤◌, List, [], ◌∷◌, ◌++◌, length, refl, sym, ap, take, arith, common_steps, Posting, last_from}
use Rattle.std.proofs.Common.{get_or}
use Rattle.std.proofs.lemmas.List.{take_more}
use Rattle.zeb_blocks.proofs.Lists.{last_from-append}
use Rattle.zeb_blocks.specs.PrivateRecords.{records_after}
use Rattle.zeb_blocks.specs.Records.{record_count}

some_records : (p : Posting) (list : List Posting) → 0 < record_count (p ∷ list)
unfolding record_count
some_records p [] = omega arith
some_records p (q ∷ list) = grind (arith, common_steps, some_records q list)

pub few_records : (list : List Posting) → record_count list ≤ length list
unfolding record_count
few_records [] = omega arith
few_records (p ∷ []) = omega arith
few_records (p ∷ q ∷ list) = grind (arith, common_steps, few_records (q ∷ list))

pub one_more : (start p : Posting) (list : List Posting) → record_count (list ++ p ∷ []) ≡ records_after (record_count list) (last_from start list).sysno p.sysno
unfolding record_count
one_more start p [] = refl
one_more start p (q ∷ []) = grind (arith, common_steps)
one_more start p (q ∷ r ∷ list) = grind (arith, common_steps, one_more q p (r ∷ list), some_records r list)

-- what postings are counted behind, where there is none before them
abbrev pub nothing : Posting
nothing = record { sysno = 0; seq = 0; pos = 0 }

-- the postings are of so many records, the last of them of the record with this number
pub record AreCounted (list : List Posting) (records newest : ℕ) : Type 0 where
  pub of : records ≡ record_count list
  pub last : newest ≡ (last_from nothing list).sysno

pub counted_none : AreCounted [] 0 0
unfolding record_count
counted_none = record { of = refl; last = refl }

pub counted_more : (list : List Posting) (i records newest : ℕ) → i < length list → AreCounted (take i list) records newest
    → AreCounted (take (i + 1) list) (records_after records newest (get_or list i nothing).sysno) (get_or list i nothing).sysno
counted_more list i records newest within so_far =
    let p = get_or list i nothing in
    rw (take_more list i nothing within, so_far.of, so_far.last) (record {
      of = sym (one_more nothing p (take i list));
      last = ap (λ (q : Posting). q.sysno) (sym (last_from-append nothing (take i list) (p ∷ [])));
    })

-- The entries of a term's blocks, and their sum.
use Rattle.zeb_leaves.proofs.Cited.{Row, Has, all_has, ◌≡◌, ◌↔◌, ◌≤◌, ℕ, List, subst, inl, inr, arith, sum_by, Entry, entry_cmp, HasEntriesAt, IsEntryOf, ShowsEntries, SumsRecords, leaf_key, IsEntry}
use Rattle.std.specs.List.Sorted.{IsStrictlySortedBy}

-- an entry that a row shows is one
pub shown_entry : (row : Row) (entries : List Entry) → ShowsEntries row entries → (e : Entry) → Has entries e → IsEntry e
shown_entry row entries shows e here = elim shows.2 [ inl is ↦ all_has IsEntry entries e is.each here | inr none ↦ absurd (subst (λ (l : List Entry). Has l e) none.1 here) ]

-- ---- of some blocks of a term: each reads, and these are their entries

pub record HasOwn (Leaves : Row → Type 0) (term : List ℕ) (In : ℕ → Type 0) (own : List Entry) : Type 0 where
  pub whole : (block : ℕ) → In block → (entries : List Entry) × HasEntriesAt Leaves (leaf_key term block) entries
  pub rising : IsStrictlySortedBy entry_cmp own
  pub each : (e : Entry) → Has own e ↔ (In e.block × IsEntryOf Leaves term e)

module _ (Leaves : Row → Type 0) (term : List ℕ) where
  -- the sum over them
  pub own_summed : (own : List Entry) (records : ℕ) → HasOwn Leaves term (λ b. 0 ≤ b) own → records ≡ sum_by (λ (e : Entry). e.records) own → SumsRecords Leaves term records
  own_summed own records has sum = record {
    whole = λ block. has.whole block (omega arith);
    own = own;
    rising = has.rising;
    each = λ e. (λ h. ((has.each e).0 h).1, λ is. (has.each e).1 (omega arith, is));
    sum = sum;
  }

-- Leaves that are counted as read and as written, and how many pieces a run has.
use Rattle.zeb_leaves.proofs.Cited.{all_from, all_has, has_left, has_right, ◌≢◌, ◌+◌, ◌≤◌, ◌++◌, ◌∷◌, ℕ, List, Result, Ok, Err, [], length, length-append, ap, refl, subst, inl, inr, arith, AllByRecursion, Trees, Bool, OnOk, WritesLeaves, coming, IsPiece, PartsRun, all_changes, CountsLeaves, changes_in, Rises, WorksOnLeaves, RegFault, KeyChanges, RecordChange}
use Rattle.zeb_register.specs.declared.registers.Work.{Work}

-- what is written for one leaf, which was read or not, is what one change counts
pub front_counted : (is_there : Bool) (read written : ℕ) (old new : Trees) (was is : Work) → read ≤ 1 → WritesLeaves is_there written old new → CountsLeaves read written was is → WorksOnLeaves 1 old new was is
front_counted is_there read written old new was is few writes counts = record {
  reads_terms = counts.reads_terms;
  writes_terms = counts.writes_terms;
  reads_leaves = (read, few, counts.reads_leaves);
  more = coming is_there + writes.0;
  comes = writes.2;
  writes_leaves = (written, omega (arith, writes.1), counts.writes_leaves);
  unwritten = λ none. elim counts.writes_leaves [ inl same ↦ absurd (omega (arith, same, none, writes.1)) | inr most ↦ inl (omega (arith, most.1, none)) ];
}

-- what is counted as read is few, whatever it is
pub turn_counted : (read : ℕ) (result : Result ℕ RegFault) (old new : Trees) (was is : Work) → OnOk result (Rises read was.block_read is.block_read × WorksOnLeaves 1 old new was is) → OnOk result (WorksOnLeaves 1 old new was is)
turn_counted read (Ok count) old new was is both = both.1
turn_counted read (Err fault) old new was is both = tt

-- ---- each piece has a change

some_long : (changes : List RecordChange) → changes ≢ [] → 1 ≤ length changes
some_long [] some = absurd (some refl)
some_long (change ∷ changes) some = omega arith

few_pieces : (pieces : List KeyChanges) → AllByRecursion IsPiece pieces → length pieces ≤ length (all_changes pieces)
few_pieces [] each = omega arith
few_pieces (p ∷ ps) each = omega (arith, few_pieces ps each.1, length-append p.changes.now (all_changes ps), some_long p.changes.now each.0.some)

pub pieces_few : (run pieces : List KeyChanges) → PartsRun run pieces → AllByRecursion IsPiece pieces → length pieces ≤ changes_in run
pieces_few [] pieces parts each = omega (arith, ap length parts)
pieces_few (one ∷ run) pieces parts each =
    let own = parts.0 in
    let rest = parts.1 in
    let all = subst (AllByRecursion IsPiece) parts.2 each in
    let first = few_pieces own (all_from IsPiece own (λ p h. all_has IsPiece (own ++ rest) p all (has_left own rest p h))) in
    let more = pieces_few run rest parts.4 (all_from IsPiece rest (λ p h. all_has IsPiece (own ++ rest) p all (has_right own rest p h))) in
    omega (arith, ap length parts.2, length-append own rest, first, ap length parts.3.changes, more)

-- Lemmas on the checks of a record, in their order.
use Rattle.zeb_marc.proofs.Cited.{◌≡◌, ℕ, ◌<◌, ◌≤◌, Bool, true, false, cond, leb, Some, None, List, [], ◌∷◌, length, sym, ap, ◌∙◌, arith, le-leb, lt-leb, MarcFault, Truncated, LengthRange, Check, check, first_failing, record_length, announced_checks, slice_checks, layout_checks, leader_checks, directory_checks, fields_in, data_area, directory_of, IsRecord}
use Rattle.zeb_marc.specs.Records.{first_fault, fields_of}
use Rattle.zeb_marc.proofs.Entries.{first_failing-append_pass, first_failing-append_fail}

-- one check alone
one_passes : (b : Bool) (fault : MarcFault) → b ≡ true → first_failing (check b fault ∷ []) ≡ None
one_passes b fault e = ap (λ (p : Bool). cond p None (Some fault)) e

pub one_fails : (b : Bool) (fault : MarcFault) (checks : List Check) → b ≡ false → first_failing (check b fault ∷ checks) ≡ Some fault
one_fails b fault checks e = ap (λ (p : Bool). cond p (first_failing checks) (Some fault)) e

then_others : (b : Bool) (fault : MarcFault) (checks : List Check) → b ≡ true → first_failing (check b fault ∷ checks) ≡ first_failing checks
then_others b fault checks e = ap (λ (p : Bool). cond p (first_failing checks) (Some fault)) e

-- ---- a slice

pub slice_fails : (text : List ℕ) (fault : MarcFault) → first_failing (announced_checks text) ≡ Some fault → first_failing (slice_checks text) ≡ Some fault
slice_fails text fault e = first_failing-append_fail (announced_checks text) (check (leb (record_length text) (length text)) Truncated ∷ []) fault e

pub slice_cut : (text : List ℕ) → first_failing (announced_checks text) ≡ None → length text < record_length text → first_failing (slice_checks text) ≡ Some Truncated
slice_cut text e lt = first_failing-append_pass (announced_checks text) (check (leb (record_length text) (length text)) Truncated ∷ []) e ∙ one_fails (leb (record_length text) (length text)) Truncated [] (lt-leb (record_length text) (length text) lt)

pub slice_passes : (text : List ℕ) → first_failing (announced_checks text) ≡ None → record_length text ≤ length text → first_failing (slice_checks text) ≡ None
slice_passes text e le = first_failing-append_pass (announced_checks text) (check (leb (record_length text) (length text)) Truncated ∷ []) e ∙ one_passes (leb (record_length text) (length text)) Truncated (le-leb _ _ le)

-- ---- the leader

abbrev behind_slice : List ℕ → List Check
behind_slice text = check (leb (length text) (record_length text)) LengthRange ∷ layout_checks text

leader_fails : (text : List ℕ) (fault : MarcFault) → first_failing (slice_checks text) ≡ Some fault → first_failing (leader_checks text) ≡ Some fault
leader_fails text fault e = first_failing-append_fail (slice_checks text) (behind_slice text) fault e

leader_is : (text : List ℕ) → first_failing (slice_checks text) ≡ None → length text ≤ record_length text → first_failing (leader_checks text) ≡ first_failing (layout_checks text)
leader_is text e le = first_failing-append_pass (slice_checks text) (behind_slice text) e ∙ then_others (leb (length text) (record_length text)) LengthRange (layout_checks text) (le-leb _ _ le)

-- ---- the record

record_fails : (text : List ℕ) (fault : MarcFault) → first_failing (leader_checks text) ≡ Some fault → first_fault text ≡ Some fault
unfolding first_fault
record_fails text fault e = first_failing-append_fail (leader_checks text) (directory_checks (data_area text) (directory_of text)) fault e

pub first_fault-announced : (text : List ℕ) (fault : MarcFault) → first_failing (announced_checks text) ≡ Some fault → first_fault text ≡ Some fault
first_fault-announced text fault e = record_fails text fault (leader_fails text fault (slice_fails text fault e))

pub first_fault-cut : (text : List ℕ) → first_failing (announced_checks text) ≡ None → length text < record_length text → first_fault text ≡ Some Truncated
first_fault-cut text e lt = record_fails text Truncated (leader_fails text Truncated (slice_cut text e lt))

pub first_fault-long : (text : List ℕ) → first_failing (announced_checks text) ≡ None → record_length text < length text → first_fault text ≡ Some LengthRange
first_fault-long text e lt =
    record_fails text LengthRange (first_failing-append_pass (slice_checks text) (behind_slice text) (slice_passes text e (omega arith)) ∙ one_fails (leb (length text) (record_length text)) LengthRange (layout_checks text) (lt-leb (length text) (record_length text) lt))

pub first_fault-layout : (text : List ℕ) (fault : MarcFault) → first_failing (announced_checks text) ≡ None → record_length text ≡ length text → first_failing (layout_checks text) ≡ Some fault → first_fault text ≡ Some fault
first_fault-layout text fault e same f = record_fails text fault (leader_is text (slice_passes text e (omega arith)) (omega arith) ∙ f)

-- where the leader passes, the directory decides
pub first_fault-directory : (text : List ℕ) → first_failing (announced_checks text) ≡ None → record_length text ≡ length text → first_failing (layout_checks text) ≡ None → first_fault text ≡ first_failing (directory_checks (data_area text) (directory_of text))
unfolding first_fault
first_fault-directory text e same f = first_failing-append_pass (leader_checks text) (directory_checks (data_area text) (directory_of text)) (leader_is text (slice_passes text e (omega arith)) (omega arith) ∙ f)

-- the same for a directory and a data area that were cut out
pub first_fault-cut_out : (text area directory : List ℕ) → area ≡ data_area text → directory ≡ directory_of text → first_failing (announced_checks text) ≡ None → record_length text ≡ length text → first_failing (layout_checks text) ≡ None
    → first_fault text ≡ first_failing (directory_checks area directory)
first_fault-cut_out text area directory same_area same_directory e same f =
    first_fault-directory text e same f ∙ ap (λ (d : List ℕ). first_failing (directory_checks (data_area text) d)) (sym same_directory) ∙ ap (λ (a : List ℕ). first_failing (directory_checks a directory)) (sym same_area)

pub IsRecord-from_parts : (text area directory : List ℕ) → area ≡ data_area text → directory ≡ directory_of text → first_fault text ≡ None → IsRecord text (fields_in area directory)
unfolding fields_of
IsRecord-from_parts text area directory same_area same_directory sound =
    record { sound = sound; fields_are = ap (λ (d : List ℕ). fields_in area d) same_directory ∙ ap (λ (a : List ℕ). fields_in a (directory_of text)) same_area }

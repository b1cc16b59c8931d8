-- The faults of a text that is no record, and the numbers of a record's units.
use Rattle.zeb_marc.proofs.Cited.{◌≡◌, ℕ, zero, suc, ◌+◌, cond, true, false, Some, List, [], ◌∷◌, ◌++◌, ap, sym, subst, ◌∙◌, arith, slice_get, AllByRecursion, flat_map, MarcFault, Check, first_failing, leader_checks, Entry, FieldText, entries_of, entry_checks, directory_checks, directory_of, data_area, IsRecordFault, Content, UnitText, contents_of, numbered_from}
use Rattle.zeb_marc.specs.Records.{first_fault}
use Rattle.zeb_marc.specs.Contents.{units_of}
use Rattle.zeb_marc.proofs.PartLaws.{all-append}

-- ---- faults

abbrev HasRecordFault : Check → Type 0
HasRecordFault c = IsRecordFault c.fault

first_is_one : (checks : List Check) (fault : MarcFault) → AllByRecursion HasRecordFault checks → first_failing checks ≡ Some fault → IsRecordFault fault
first_is_one [] fault all e = absurd cc
first_is_one (c ∷ checks) fault all e =
    elim c.passes as (λ b. cond b (first_failing checks) (Some c.fault) ≡ Some fault → IsRecordFault fault) [
      | true ↦ λ e'. first_is_one checks fault all.1 e'
      | false ↦ λ e'. let same : c.fault ≡ fault = cc in subst IsRecordFault same all.0
    ] e

entries_have_them : (area : List ℕ) (entries : List Entry) → AllByRecursion HasRecordFault (flat_map (entry_checks area) entries)
entries_have_them area [] = tt
entries_have_them area (entry ∷ entries) = all-append HasRecordFault (entry_checks area entry) (flat_map (entry_checks area) entries) (tt, (tt, (tt, (tt, tt)))) (entries_have_them area entries)

pub record_faults : (text : List ℕ) (fault : MarcFault) → first_fault text ≡ Some fault → IsRecordFault fault
unfolding first_fault
record_faults text fault e =
    let leader : AllByRecursion HasRecordFault (leader_checks text) = (tt, (tt, (tt, (tt, (tt, (tt, (tt, (tt, (tt, tt))))))))) in
    let directory = directory_checks (data_area text) (directory_of text) in
    first_is_one (leader_checks text ++ directory) fault (all-append HasRecordFault (leader_checks text) directory leader (entries_have_them (data_area text) (entries_of (directory_of text)))) e

-- ---- numbers

numbered_at : (contents : List Content) (n k : ℕ) (unit : UnitText) → slice_get (numbered_from n contents) k ≡ Some unit → unit.seq ≡ n + k
numbered_at [] n k unit e = absurd cc
numbered_at (c ∷ contents) n zero unit e =
    let first : UnitText = record { seq = n; tag = c.tag; code = c.code; text = c.text } in
    let same : first ≡ unit = cc in
    sym (ap (λ (u : UnitText). u.seq) same) ∙ (let none : n ≡ n + 0 = omega arith in none)
numbered_at (c ∷ contents) n (suc k) unit e = omega (arith, numbered_at contents (suc n) k unit e)

pub numbered : (fields : List FieldText) (k : ℕ) (unit : UnitText) → slice_get (units_of fields) k ≡ Some unit → unit.seq ≡ k + 1
unfolding units_of
numbered fields k unit e = omega (arith, numbered_at (flat_map contents_of fields) 1 k unit e)

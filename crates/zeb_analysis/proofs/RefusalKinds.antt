-- Which refusals there are.
use Rattle.zeb_analysis.proofs.Cited.{◌≡◌, ◌≢◌, ◌⊎◌, ℕ, ◌+◌, zero, suc, true, false, cond, leb, ◌==◌, length, List, [], ◌∷◌, ◌++◌, Option, Some, None, Result, Ok, Err, inl, inr, refl, sym, ap, subst, slice_get, AllByRecursion, option_and_then, utf8_lossy, Directive, identifier_pattern, MarcFault, ReadFault, UnitText, Check, first_failing, slice_checks, first_fault, IsRecordFault, IsNoSlice, IsSplit, IsTooLong, split_of, record_faults, IsSplit-split_of, IdentFault, checked, first_fitting, held_in, identifier_of, is_bad, without_spaces, AnalysisFault, Marc, Ident, TooManyRecords, Standing, refused_content, refused_name, refused_record, standing_from, standing_in_all, units_in, IsRefusal, place_at}
use Rattle.zeb_extract.specs.declared.naming.IdentFault.TheVariants as ident
use Rattle.zeb_analysis.specs.Analysing.{refusal_at, standing_in}

-- ---- faults of bytes

-- no reader failed
abbrev IsOfBytes : MarcFault → Type 0
IsOfBytes fault = fault ≢ ReadFault

of_record : (fault : MarcFault) → IsRecordFault fault → IsOfBytes fault
of_record fault is e = subst IsRecordFault e is

first_is_one : (checks : List Check) (fault : MarcFault) → AllByRecursion (λ (c : Check). IsOfBytes c.fault) checks → first_failing checks ≡ Some fault → IsOfBytes fault
first_is_one [] fault all e = absurd (cc)
first_is_one (c ∷ checks) fault all e =
    elim c.passes as (λ b. cond b (first_failing checks) (Some c.fault) ≡ Some fault → IsOfBytes fault) [
      | true ↦ λ e'. first_is_one checks fault all.1 e'
      | false ↦ λ e'. let same : c.fault ≡ fault = cc in subst IsOfBytes same all.0
    ] e

behind : (run rest : List ℕ) (fault : MarcFault) → IsTooLong run fault ⊎ IsNoSlice run rest fault → IsOfBytes fault
behind run rest fault (inl long) = subst IsOfBytes (sym long.is) (λ e. cc)
behind run rest fault (inr none) = first_is_one (slice_checks rest) fault (λ e. cc, (λ e. cc, (λ e. cc, (λ e. cc, tt)))) none.is

-- what stands behind the last slice of a file
fault_behind : (file : List ℕ) (slices : List (List ℕ)) (fault : MarcFault) → IsSplit file slices (Some fault) → IsOfBytes fault
fault_behind file [] fault is = behind is.0 is.1 fault is.3
fault_behind file (slice ∷ slices) fault is = fault_behind is.1 slices fault is.5

-- ---- faults of identifiers

checked_name : (bytes : List ℕ) → checked bytes ≢ Err ident.Memory
checked_name bytes e =
    elim (length bytes == 0) as (λ b. cond b (Err ident.NoIdentifier) (cond (is_bad bytes) (Err ident.BadIdentifier) (Ok bytes)) ≡ Err ident.Memory → ⊥) [
      | true ↦ λ e'. cc
      | false ↦ λ e'. elim (is_bad bytes) as (λ b. cond b (Err ident.BadIdentifier) (Ok bytes) ≡ Err ident.Memory → ⊥) [ true ↦ λ e''. cc | false ↦ λ e''. cc ] e'
    ] e

held_name : (unit : Option UnitText) → held_in unit ≢ Err ident.Memory
held_name None e = cc
held_name (Some unit) e = checked_name (without_spaces (utf8_lossy unit.text)) e

no_memory : (profile : List Directive) (units : List UnitText) → identifier_of profile units ≢ Err ident.Memory
no_memory profile units e = held_name (option_and_then (λ pattern. first_fitting pattern units) (identifier_pattern profile)) e

-- ---- refusals

-- a fault that stands there is of bytes
abbrev IsSoundPlace : Standing → Type 0
IsSoundPlace standing = (fault : MarcFault) → standing.content ≡ Err fault → IsOfBytes fault

name_refusal : (file nth : ℕ) (r : Result (List ℕ) IdentFault) (fault : AnalysisFault) → r ≢ Err ident.Memory → refused_name file nth r ≡ Some fault → IsRefusal fault
name_refusal file nth (Ok ident) fault other e = absurd (cc)
name_refusal file nth (Err found) fault other e = let same : Ident (place_at file nth) found ≡ fault = cc in subst IsRefusal same (λ is. other (ap Err is))

record_refusal : (profile : List Directive) (file nth : ℕ) (bytes : List ℕ) (o : Option MarcFault) (fault : AnalysisFault) → first_fault bytes ≡ o → refused_record profile file nth bytes o ≡ Some fault → IsRefusal fault
record_refusal profile file nth bytes (Some found) fault is e =
    let same : Marc (place_at file nth) found ≡ fault = cc in subst IsRefusal same (of_record found (record_faults bytes found is))
record_refusal profile file nth bytes None fault is e = name_refusal file nth (identifier_of profile (units_in bytes)) fault (no_memory profile (units_in bytes)) e

content_refusal : (profile : List Directive) (limit before file nth : ℕ) (content : Result (List ℕ) MarcFault) (fault : AnalysisFault)
    → ((found : MarcFault) → content ≡ Err found → IsOfBytes found) → refused_content profile limit before file nth content ≡ Some fault → IsRefusal fault
content_refusal profile limit before file nth (Err found) fault sound e = let same : Marc (place_at file nth) found ≡ fault = cc in subst IsRefusal same (sound found refl)
content_refusal profile limit before file nth (Ok bytes) fault sound e =
    elim (leb limit before) as (λ b. cond b (Some TooManyRecords) (refused_record profile file nth bytes (first_fault bytes)) ≡ Some fault → IsRefusal fault) [
      | true ↦ λ e'. let same : TooManyRecords ≡ fault = cc in subst IsRefusal same tt
      | false ↦ λ e'. record_refusal profile file nth bytes (first_fault bytes) fault refl e'
    ] e

place_refusal : (profile : List Directive) (limit before : ℕ) (standing : Standing) (fault : AnalysisFault) → IsSoundPlace standing → refusal_at profile limit before standing ≡ Some fault → IsRefusal fault
unfolding refusal_at
place_refusal profile limit before standing fault sound e = content_refusal profile limit before standing.file standing.nth standing.content fault sound e

sound_from : (file nth : ℕ) (slices : List (List ℕ)) (last : Option MarcFault) → ((fault : MarcFault) → last ≡ Some fault → IsOfBytes fault) → AllByRecursion IsSoundPlace (standing_from file nth slices last)
sound_from file nth [] None sound = tt
sound_from file nth [] (Some fault) sound = (λ found e. let same : fault ≡ found = cc in sound found (ap Some same), tt)
sound_from file nth (slice ∷ slices) last sound = (λ found e. absurd (cc), sound_from file (nth + 1) slices last sound)

sound_in : (file : ℕ) (text : List ℕ) → AllByRecursion IsSoundPlace (standing_in file text)
unfolding standing_in
sound_in file text =
    sound_from file 1 (split_of text).slices (split_of text).fault
    (λ fault is. fault_behind text (split_of text).slices fault (subst (IsSplit text (split_of text).slices) is (IsSplit-split_of text)))

all_of_both : {A : Type 0} (P : A → Type 0) (xs ys : List A) → AllByRecursion P xs → AllByRecursion P ys → AllByRecursion P (xs ++ ys)
all_of_both P [] ys one two = two
all_of_both P (x ∷ xs) ys one two = (one.0, all_of_both P xs ys one.1 two)

sound_in_all : (file : ℕ) (texts : List (List ℕ)) → AllByRecursion IsSoundPlace (standing_in_all file texts)
sound_in_all file [] = tt
sound_in_all file (text ∷ texts) = all_of_both IsSoundPlace (standing_in file text) (standing_in_all (file + 1) texts) (sound_in file text) (sound_in_all (file + 1) texts)

all_at : {A : Type 0} (P : A → Type 0) (xs : List A) (k : ℕ) (x : A) → AllByRecursion P xs → slice_get xs k ≡ Some x → P x
all_at P [] k x all e = absurd (cc)
all_at P (y ∷ ys) zero x all e = let same : y ≡ x = cc in subst P same all.0
all_at P (y ∷ ys) (suc k) x all e = all_at P ys k x all.1 e

pub refusal_at_place : (profile : List Directive) (limit : ℕ) (texts : List (List ℕ)) (k : ℕ) (standing : Standing) (fault : AnalysisFault)
    → slice_get (standing_in_all 1 texts) k ≡ Some standing → refusal_at profile limit k standing ≡ Some fault → IsRefusal fault
refusal_at_place profile limit texts k standing fault there refused =
    place_refusal profile limit k standing fault (all_at IsSoundPlace (standing_in_all 1 texts) k standing (sound_in_all 1 texts) there) refused

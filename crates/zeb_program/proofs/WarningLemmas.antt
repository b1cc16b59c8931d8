-- Records that don't say that they are in Unicode: what is left of a file.
use Rattle.zeb_program.proofs.Cited.{◌≡◌, ◌∙◌, ◌+◌, ℕ, ◌<◌, true, false, List, [], ◌∷◌, ◌++◌, Vec, length, length-map, map, refl, ap, subst, sym, arith, Option, None, Some, Result, Ok, Err, IfOk, is_some, Global, length-append, AnalysedLines, Gives, Next, at_end, a_slice, a_fault, next_of, split_of, Directive, ReadsWhole, IsServedFor, MayWarn, WarnsOf, unmarked_by, warned_in, warning_of, records_in, Fault, Place, String, string_bytes, option_map, IsOkAnd, Tells, AreTold, paths_of, WarnsBelow, Failure, Told, Served, Task}
use Rattle.zeb_analysis.specs.Analysing.{Analysed, AreAnalysesOf, Standing, analysed, standing_from, standing_in, standing_in_all}
use Rattle.zeb_analysis.specs.Lines.{AreLines}
use Rattle.zeb_marc.specs.declared.faults.MarcFault.{MarcFault}
use Rattle.zeb_marc.proofs.SplitLaws.{NextIs, SoundSlice-from_checks, next_view, split_of-next}
use Rattle.zeb_program.specs.declared.tasks.Served.TheVariants.{Replied, Shown}
use Rattle.zeb_program.specs.declared.tasks.Task.TheVariants.{Analyse}

-- ---- what was read tells what stood next

pub told_record : (next : Next) (found : Option ℕ) (kept left : List ℕ) → is_some found ≡ true → Gives next (Ok found) kept (Some left) → next ≡ a_slice kept left
told_record (a_slice slice rest) found kept left some h = let one = h.1 in let two = h.2 in cc
told_record _ found kept left some h = let no = h.0 in absurd (cc)

pub record_there : (text slice rest : List ℕ) → next_of text ≡ a_slice slice rest → (split_of text).slices ≡ slice ∷ (split_of rest).slices
record_there text slice rest is = rw (split_of-next text, is) refl

pub record_is_long : (text slice rest : List ℕ) → next_of text ≡ a_slice slice rest → length rest < length text
record_is_long text slice rest is =
    let view = subst (NextIs text) is (next_view text) in
    let sound = SoundSlice-from_checks slice view.3.no_fault in
    omega (arith, ap length view.1, length-append view.0 (slice ++ rest), length-append slice rest, sound.least, view.3.whole)

pub none_at_end : (text : List ℕ) (next : Next) (found : Option ℕ) (kept : List ℕ) (left : Option (List ℕ)) → next_of text ≡ next → is_some found ≡ false → Gives next (Ok found) kept left
    → (split_of text).slices ≡ []
none_at_end text at_end found kept left is none h = rw (split_of-next text, is) refl
none_at_end text _ found kept left is none h = let no = h.0 in absurd (cc)

pub none_at_fault : (text : List ℕ) (next : Next) (why : MarcFault) (kept : List ℕ) (left : Option (List ℕ)) → next_of text ≡ next → Gives next (Err why) kept left → (split_of text).slices ≡ []
none_at_fault text (a_fault fault) why kept left is h = rw (split_of-next text, is) refl
none_at_fault text _ why kept left is h = let no = h.0 in absurd (cc)

-- ---- how many records are analysed

-- those of a file, and of what stands behind it
file_counted : (profile : List Directive) (file nth : ℕ) (slices : List (List ℕ)) (last : Option MarcFault) (others : List Standing) (behind : ℕ) (analyses : List Analysed)
    → ((these : List Analysed) → AreAnalysesOf profile others these → length these ≡ behind)
    → AreAnalysesOf profile (standing_from file nth slices last ++ others) analyses → length analyses ≡ length slices + behind
file_counted profile file nth [] None others behind analyses rest are = omega (arith, rest analyses are)
file_counted profile file nth [] (Some fault) others behind [] rest are = absurd are
file_counted profile file nth [] (Some fault) others behind (analysis ∷ analyses) rest are = let no = are.0.stands in absurd (cc no)
file_counted profile file nth (slice ∷ slices) last others behind [] rest are = absurd are
file_counted profile file nth (slice ∷ slices) last others behind (analysis ∷ analyses) rest are =
    omega (arith, file_counted profile file (nth + 1) slices last others behind analyses rest are.1)

-- those of all files, of which the first has this number
all_counted : (profile : List Directive) (file : ℕ) (texts : List (List ℕ)) (analyses : List Analysed) → AreAnalysesOf profile (standing_in_all file texts) analyses → length analyses ≡ records_in texts
unfolding standing_in
all_counted profile file [] [] are = refl
all_counted profile file [] (analysis ∷ analyses) are = absurd are
all_counted profile file (text ∷ texts) analyses are =
    file_counted profile file 1 (split_of text).slices (split_of text).fault (standing_in_all (file + 1) texts) (records_in texts) analyses (all_counted profile (file + 1) texts) are

-- lines are those of all records
pub lines_counted : (names : List (List ℕ)) (profile : List Directive) (limit : ℕ) (texts : List (List ℕ)) (lines : AnalysedLines) → AreLines names profile limit texts lines → lines.records ≡ records_in texts
lines_counted names profile limit texts lines are = are.counted ∙ sym (length-map are.analyses analysed) ∙ all_counted profile 1 texts (map analysed are.analyses) are.said.1

-- ---- what a task warns of

pub warned : (task : Task) (places : List Place) (records : ℕ) → ReadsWhole task → MayWarn task (warning_of places records)
warned task [] records reads = tt
warned task (first ∷ others) records reads = (reads, (length (first ∷ others), records, first, refl))

-- the line is that of the records which were read
pub shown_warned : (served : Result Served Fault) (lines : AnalysedLines) (unmarked : Vec Place Global) (told : Option (List ℕ)) (places : List Place) (records : ℕ) → served ≡ Ok (Shown lines unmarked)
    → places ≡ unmarked.items → records ≡ lines.records → told ≡ warning_of places records → IsOkAnd served (λ it. told ≡ warned_in it)
shown_warned served lines unmarked told places records is same count said =
    subst (λ it. IsOkAnd it (λ one. told ≡ warned_in one)) (sym is) (said ∙ ap (λ these. warning_of these records) same ∙ ap (warning_of unmarked.items) count)

pub warns_of : (tells : List ℕ → Option (List ℕ)) (at : Tells) (task : Task) (served : Result Served Fault) (result : Result Told Failure) → IfOk result (λ told. MayWarn task (option_map string_bytes told.warning))
    → IfOk result (λ told. IsOkAnd served (λ one. option_map string_bytes told.warning ≡ warned_in one))
    → ((files : List (List ℕ)) → AreTold tells (paths_of task) files → IfOk served (λ one. warned_in one ≡ warning_of (unmarked_by task files) (records_in files)))
    → (ReadsWhole task → IfOk served (λ one. WarnsBelow at (paths_of task) (warned_in one)))
    → IfOk result (λ told. WarnsOf tells at task (option_map string_bytes told.warning))
warns_of tells at task served (Err failure) may is unmarked below = tt
warns_of tells at task (Err fault) (Ok told) may is unmarked below = absurd is
warns_of tells at task (Ok one) (Ok told) may is unmarked below =
    record { line = may; places = λ files known. is ∙ unmarked files known; below = λ reads. subst (WarnsBelow at (paths_of task)) (sym is) (below reads) }

-- an analysis by paths as a slice warns as one by those of the task
pub below_task : (at : Tells) (task : Task) (paths : Vec (String Global) Global) (named : List (String Global)) (r : Result Served Fault) → task ≡ Analyse paths → named ≡ paths.items
    → IfOk r (λ served. WarnsBelow at (map string_bytes named) (warned_in served)) → IfOk r (λ served. WarnsBelow at (paths_of task) (warned_in served))
below_task at task paths named r is same h =
    subst (λ t. IfOk r (λ served. WarnsBelow at (paths_of t) (warned_in served))) (sym is) (subst (λ items. IfOk r (λ served. WarnsBelow at (map string_bytes items) (warned_in served))) same h)

-- an analysis may be answered by lines
pub served_whole : (task : Task) (r : Result Served Fault) → ReadsWhole task → IfOk r (IsServedFor task)
served_whole task (Ok (Replied reply)) reads = tt
served_whole task (Ok (Shown lines unmarked)) reads = reads
served_whole task (Err why) reads = tt

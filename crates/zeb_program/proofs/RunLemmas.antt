-- A batch is one run, and known to be where its files are told.
use Rattle.zeb_program.proofs.Cited.{◌≡◌, ◌<◌, ◌+◌, ◌^◌, inl, inr, ℕ, List, [], ◌∷◌, ◌++◌, length, map, ap, arith, refl, subst, sym, Vec, IsSome, Option, Some, None, Result, string_bytes, Conditions, Refusal, Answer, answer_of, TellsOrFails, Run, Step, TakesFiles, Command, Change, Reply, Holdings, name_bytes, AnswersAsTold, AnswersLine, AnswersLines, ChangesBy, IsAnswerTo, answer_status, answer_text, no_lines, more, first_line, after_first_line, AreFilesTold, Says, Line, Remark, Order, Path, Mark, Bad, PathChange, Status, Answered, greater}
use Rattle.zeb_program.specs.BatchRuns.{AreFilesShort, BatchIsOneRun, IsOneRun, TellsLines, ToldIsKnown, MakesChange, NamesCommand, NamesFile, none, remark, mark, bad, command}
use Rattle.zeb_program.proofs.PathLemmas.{told_first, told_or_untold, told_rest}

-- ---- a change by the bytes of a file, as a command

-- a `Vec` that holds these
abbrev holding : {X Y H : Type 0} → Vec X H → (ys : List Y) → length ys < 2 ^ 63 → Vec Y H
holding other ys small =
    record { ptr = other.ptr; len = length ys; cap = length ys; alloc = other.alloc; items = ys; ok = (refl, omega arith); small = small }

abbrev change_by : (change : PathChange) (file : List ℕ) → length file < 2 ^ 63 → Command
change_by change file small =
    let bytes = change.path.bytes in
    Change change.kind change.database (holding bytes (holding bytes file small ∷ []) (omega arith))

-- that command answers what the change does
takes_change : (c : Conditions) (change : PathChange) (file : List ℕ) (command : Command) → MakesChange change file command
    → (before : Holdings) (answer : Answer) (later : Holdings) → TellsOrFails (Step c command) before answer later
    → TellsOrFails (TakesFiles c change.kind (name_bytes change.database) (file ∷ [])) before answer later
takes_change c change file (Change kind database files) makes before answer later h =
    let named = subst (λ k. TellsOrFails (TakesFiles c k (name_bytes database) (map (λ given. given.items) files.items)) before answer later) makes.0 h in
    let based = subst (λ n. TellsOrFails (TakesFiles c change.kind n (map (λ given. given.items) files.items)) before answer later) makes.1 named in
    subst (λ t. TellsOrFails (TakesFiles c change.kind (name_bytes change.database) t) before answer later) makes.2 based
takes_change c change file _ makes before answer later h = absurd makes

-- ---- what is known of what the register holds

-- from where nothing is known nothing gets known
unknown_lines : (told : List ℕ → Option (List ℕ)) (c : Conditions) (n : ℕ) (text : List ℕ) (from : Option Holdings) (bytes : List ℕ) (status : Status) (rest : List ℕ) (to : Option Holdings)
    → AnswersLines told c n text from bytes status rest to → from ≡ None → to ≡ None
unknown_lines told c n text from bytes status rest to no_lines is = is
unknown_lines told c n text from bytes status rest to (more {here = here} {there = there} {status = top} {greatest = greatest} {next = next} some answer later) is =
    unknown_lines told c (n + 1) (after_first_line text) next there greatest rest to later (subst (λ held. AnswersAsTold told c (n + 1) (first_line text) held here top next) is answer)

-- where each file is told, all stays known
known_lines : (told : List ℕ → Option (List ℕ)) (c : Conditions) (n : ℕ) (text : List ℕ) (from : Option Holdings) (bytes : List ℕ) (status : Status) (rest : List ℕ) (to : Option Holdings)
    → AreFilesTold told text → AnswersLines told c n text from bytes status rest to → IsSome from → IsSome to
known_lines told c n text from bytes status rest to known no_lines is = is
known_lines told c n text None bytes status rest to known (more some answer later) is = absurd cc
known_lines told c n text (Some before) bytes status rest to known (more {next = None} some answer later) is = absurd (told_or_untold told (first_line text) (told_first told text known) answer)
known_lines told c n text (Some before) bytes status rest to known (more {there = there} {greatest = greatest} {next = Some held} some answer later) is =
    known_lines told c (n + 1) (after_first_line text) (Some held) there greatest rest to (told_rest told text known) later refl

pub told_is_known : ToldIsKnown
told_is_known told c n text before bytes status last known answers = known_lines told c n text (Some before) bytes status [] last known answers refl

-- ---- from the answers of lines to a run

module _ (told : List ℕ → Option (List ℕ)) (c : Conditions) (short : AreFilesShort told) where
  -- a line is answered by a command of the run
  run_command : (n : ℕ) (text : List ℕ) (order : Command) (answer : Result Reply Refusal) (before next last : Holdings) (here there : List ℕ) (status greatest : Status)
      → 0 < length text → NamesCommand told (first_line text) order → here ≡ answer_text answer → status ≡ answer_status answer
      → TellsOrFails (Step c order) before (answer_of answer) next → IsOneRun told c (n + 1) (after_first_line text) next there greatest last
      → IsOneRun told c n text before (here ++ there) (greater status greatest) last
  run_command n text order answer before next last here there status greatest some names is has step rest =
      let written : TellsLines told n text (order ∷ rest.0) (answer ∷ rest.1) (answer_text answer ++ there) (greater (answer_status answer) greatest) =
      command order answer some names rest.2 in
      (order ∷ rest.0, answer ∷ rest.1, rw (is, has) written, (next, step, rest.3))

  -- a line adds nothing to the run
  run_passed : (n : ℕ) (text : List ℕ) (before next last : Holdings) (bytes there : List ℕ) (status greatest : Status)
      → ((commands : List Command) (answers : List (Result Reply Refusal)) → TellsLines told (n + 1) (after_first_line text) commands answers there greatest
      → TellsLines told n text commands answers bytes status)
      → next ≡ before → IsOneRun told c (n + 1) (after_first_line text) next there greatest last → IsOneRun told c n text before bytes status last
  run_passed n text before next last bytes there status greatest passes same rest =
      (rest.0, rest.1, passes rest.0 rest.1 rest.2, subst (λ held. Run c held rest.0 (map answer_of rest.1) last) same rest.3)

  run_file : (n : ℕ) (text : List ℕ) (change : PathChange) (file : List ℕ) (answer : Result Reply Refusal) (before next last : Holdings) (here there : List ℕ) (status greatest : Status)
      → 0 < length text → NamesFile told (first_line text) change file → here ≡ answer_text answer → status ≡ answer_status answer
      → ChangesBy c change.kind (name_bytes change.database) (file ∷ []) before answer next → IsOneRun told c (n + 1) (after_first_line text) next there greatest last
      → IsOneRun told c n text before (here ++ there) (greater status greatest) last
  run_file n text change file answer before next last here there status greatest some names is has step rest =
      let order = change_by change file (short (string_bytes change.path) file names.1) in
      run_command n text order answer before next last here there status greatest some (inr (change, file, names, (refl, refl, refl))) is has step rest

  run_line : (n : ℕ) (text : List ℕ) (line : Line) (before next last : Holdings) (here there : List ℕ) (status greatest : Status) → 0 < length text → Says (first_line text) line
      → IsAnswerTo told c (n + 1) line before here status next → IsOneRun told c (n + 1) (after_first_line text) next there greatest last
      → IsOneRun told c n text before (here ++ there) (greater status greatest) last
  run_line n text Remark before next last here there status greatest some says answer rest =
      let same : greatest ≡ greater status greatest = ap (λ (s : Status). greater s greatest) (sym answer.1) in
      run_passed n text before next last (here ++ there) there (greater status greatest) greatest
      (λ commands answers w. subst (λ s. TellsLines told n text commands answers (here ++ there) s) same (rw answer.0 (remark some says w))) answer.2 rest
  run_line n text (Order order) before next last here there status greatest some says answer rest =
      let step = subst (λ held. TellsOrFails (Step c order) before (answer_of answer.0) held) (sym answer.3.2) answer.3.1 in
      run_command n text order answer.0 before next last here there status greatest some (inl says) answer.1 answer.2 step rest
  run_line n text (Path change) before next last here there status greatest some says answer rest =
      run_file n text change answer.0 answer.2.0 before next last here there status greatest some (says, answer.1) answer.2.1 answer.2.2 answer.2.3 rest
  run_line n text (Mark marked) before next last here there status greatest some says answer rest =
      let same : greatest ≡ greater status greatest = ap (λ (s : Status). greater s greatest) (sym answer.1) in
      run_passed n text before next last (here ++ there) there (greater status greatest) greatest
      (λ commands answers w. subst (λ s. TellsLines told n text commands answers (here ++ there) s) same (rw answer.0 (mark marked some says w))) answer.2 rest
  run_line n text Bad before next last here there status greatest some says answer rest =
      run_passed n text before next last (here ++ there) there (greater status greatest) greatest
      (λ commands answers w. rw (answer.0, answer.1) (bad some says w)) answer.2 rest

  run_lines : (n : ℕ) (text : List ℕ) (from : Option Holdings) (bytes : List ℕ) (status : Status) (rest : List ℕ) (to : Option Holdings) → AnswersLines told c n text from bytes status rest to
      → (before last : Holdings) → from ≡ Some before → to ≡ Some last → rest ≡ [] → IsOneRun told c n text before bytes status last
  run_lines n text from bytes status rest to no_lines before last is_first is_last ended =
      let same : last ≡ before = cc in
      ([], [], subst (λ t. TellsLines told n t [] [] [] Answered) (sym ended) none, same)
  run_lines n text from bytes status rest to (more {there = there} {greatest = greatest} {next = None} some answer later) before last is_first is_last ended =
      let lost : to ≡ None = unknown_lines told c (n + 1) (after_first_line text) None there greatest rest to later refl in
      absurd cc
  run_lines n text from bytes status rest to (more {here = here} {there = there} {status = top} {greatest = greatest} {next = Some held} some answer later) before last is_first is_last ended =
      let line = subst (λ held_before. AnswersAsTold told c (n + 1) (first_line text) held_before here top (Some held)) is_first answer in
      run_line n text line.0 before held last here there top greatest some line.1 line.2
      (run_lines (n + 1) (after_first_line text) (Some held) there greatest rest to later held last refl is_last ended)

-- ---- from a run to the answers of lines

module _ (told : List ℕ → Option (List ℕ)) (c : Conditions) where
  answers_command : (number : ℕ) (line : List ℕ) (order : Command) (answer : Result Reply Refusal) (before next : Holdings) → NamesCommand told line order
      → TellsOrFails (Step c order) before (answer_of answer) next → AnswersLine told c number line before (answer_text answer) (answer_status answer) next
  answers_command number line order answer before next (inl says) step = (Order order, says, (answer, refl, refl, (next, step, refl)))
  answers_command number line order answer before next (inr (change, file, names, makes)) step =
      (Path change, names.0, (file, names.1, (answer, refl, refl, takes_change c change file order makes before (answer_of answer) next step)))

  answers_lines : (n : ℕ) (text : List ℕ) (commands : List Command) (answers : List (Result Reply Refusal)) (before : Holdings) (bytes : List ℕ) (status : Status) (last : Holdings)
      → TellsLines told n text commands answers bytes status → Run c before commands (map answer_of answers) last → AnswersLines told c n text (Some before) bytes status [] (Some last)
  answers_lines n text commands answers before bytes status last none run = subst (λ held. AnswersLines told c n [] (Some before) [] Answered [] (Some held)) (sym run) no_lines
  answers_lines n text commands answers before bytes status last (remark some says w) run =
      more {next = Some before} some (Remark, says, (refl, refl, refl)) (answers_lines (n + 1) (after_first_line text) commands answers before bytes status last w run)
  answers_lines n text commands answers before bytes status last (mark {bytes = there} marked some says w) run =
      more {next = Some before} some (Mark marked, says, (refl, refl, refl)) (answers_lines (n + 1) (after_first_line text) commands answers before there status last w run)
  answers_lines n text commands answers before bytes status last (bad {bytes = there} {status = greatest} some says w) run =
      more {next = Some before} some (Bad, says, (refl, refl, refl)) (answers_lines (n + 1) (after_first_line text) commands answers before there greatest last w run)
  answers_lines n text commands answers before bytes status last (command {commands = orders} {answers = others} {bytes = there} {status = greatest} order answer some names w) run =
      more {next = Some run.0} some (answers_command (n + 1) (first_line text) order answer before run.0 names run.1)
      (answers_lines (n + 1) (after_first_line text) orders others run.0 there greatest last w run.2)

pub batch_is_one_run : BatchIsOneRun
batch_is_one_run told c n text before bytes status last short = (
  λ answers. run_lines told c short n text (Some before) bytes status [] (Some last) answers before last refl refl refl,
  λ run. answers_lines told c n text run.0 run.1 before bytes status last run.2 run.3,
)

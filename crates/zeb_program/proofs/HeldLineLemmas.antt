-- What a register holds behind lines, by what is said of them on any tables.
use Rattle.zeb_program.proofs.Cited.{◌≡◌, ◌+◌, inl, ℕ, List, [], ◌∷◌, ap, refl, Option, Some, None, Result, Ok, Err, IfSome, string_bytes, Held, state, State, Ghosts, Conditions, Format, Holdings, Reply, Fault, Line, Remark, Order, Path, Mark, Bad, PathChange, Says, AnswersAsTold, AnswersLines, ChangesBy, EachLine, GivesAnswer, LineOver, PathOver, SaysOver, no_lines, more, first_line, after_first_line, name_bytes, Status, Tells}
use Rattle.zeb_program.specs.declared.faults.Fault.TheVariants as fault
use Rattle.zeb_program.specs.OverTables.{IsTold}
use Rattle.zeb_image.specs.Image.{Keeps}
use Rattle.zeb_engine.proofs.ServesLemmas.{keeps_still}

-- P is so of what is known of what a register holds then, which the tables keep
abbrev pub HeldThen : State → (Option Holdings → Type 0) → Type 0
HeldThen new P = (later : Option Holdings) × IfSome later (Keeps new) × P later

module _ (at : Tells) (format : Format) (c : Conditions) (number : ℕ) (text : List ℕ) (old new : State) (before : Holdings) (keeps : Keeps old before) (bytes : List ℕ) (status : Status) where
  -- a change by a path of which the file's bytes are told
  file_held : (change : PathChange) (file : List ℕ) (result : Result Reply Fault) → Says text (Path change) → at.bytes (string_bytes change.path) ≡ Some file → IsTold result bytes status
      → GivesAnswer (λ answer. (later : Holdings) × ChangesBy c change.kind (name_bytes change.database) (file ∷ []) before answer later × Keeps new later) result
      → HeldThen new (AnswersAsTold at.bytes c number text (Some before) bytes status)
  file_held change file (Ok reply) says is told served = (Some served.0, served.2, (Path change, says, (file, is, (Ok reply, told.0, told.1, served.1))))
  file_held change file (Err (fault.Refused refusal)) says is told served = (Some served.0, served.2, (Path change, says, (file, is, (Err refusal, told.0, told.1, served.1))))
  file_held change file (Err fault.Memory) says is told served = absurd told
  file_held change file _ says is told served = absurd served

  path_held : (change : PathChange) (found : Option (List ℕ)) → Says text (Path change) → at.bytes (string_bytes change.path) ≡ found → PathOver at format c change old bytes status new
      → HeldThen new (AnswersAsTold at.bytes c number text (Some before) bytes status)
  path_held change None says is over = (None, tt, (change, says, is))
  path_held change (Some file) says is over = file_held change file over.0 says is over.1 (over.3.leaves.serves (file ∷ []) (inl (ap (λ told. told ∷ []) is)) before keeps)

  said_held : (line : Line) → Says text line → SaysOver at format c number line old bytes status new → HeldThen new (AnswersAsTold at.bytes c number text (Some before) bytes status)
  said_held Remark says over = (Some before, keeps_still before old new over.2.0 keeps, (Remark, says, (over.0, over.1, refl)))
  said_held (Order command) says over =
      let served = over.3.0 before keeps in
      (Some served.0, served.2, (Order command, says, (over.0, over.1, over.2, (served.0, served.1, refl))))
  said_held (Path change) says over = path_held change (at.bytes (string_bytes change.path)) says refl over
  said_held (Mark marked) says over = (Some before, keeps_still before old new over.2.0 keeps, (Mark marked, says, (over.0, over.1, refl)))
  said_held Bad says over = (Some before, keeps_still before old new over.2.0 keeps, (Bad, says, (over.0, over.1, refl)))

module _ {S : Type 0} (g : Ghosts S) (at : Tells) (format : Format) (c : Conditions) where
  line_held : (number : ℕ) (text : List ℕ) (old new : Held S) (bytes : List ℕ) (status : Status) (before : Option Holdings) → LineOver g at format c number text old bytes status new
      → IfSome before (Keeps (state g old)) → HeldThen (state g new) (AnswersAsTold at.bytes c number text before bytes status)
  line_held number text old new bytes status None over keeps = (None, tt, refl)
  line_held number text old new bytes status (Some before) over keeps = said_held at format c number text (state g old) (state g new) before keeps bytes status over.0 over.1 over.2

  -- lines from tables that keep what a register holds are answered as far as it is known, and lead to tables that keep what it holds then
  pub lines_held : (n : ℕ) (text rest : List ℕ) (old new : Held S) (bytes : List ℕ) (status : Status) (before : Option Holdings) → EachLine (LineOver g at format c) n text old bytes status rest new
      → IfSome before (Keeps (state g old)) → HeldThen (state g new) (AnswersLines at.bytes c n text before bytes status rest)
  lines_held n text rest old new bytes status before no_lines keeps = (before, keeps, no_lines)
  lines_held n text rest old new bytes status before (more {here = here} {there = there} {status = top} {greatest = greatest} {next = next} some answer each) keeps =
      let one = line_held (n + 1) (first_line text) old next here top before answer keeps in
      let all = lines_held (n + 1) (after_first_line text) rest next new there greatest one.0 each one.1 in
      (all.0, all.1, more some one.2 all.2)

-- What a batch writes, and its status (this program's own): the answers of its lines, one after the other, and the greatest status among
-- them.
-- Line after line the commands are a run from what the register held before it. `told` gives the bytes of the file at a path, where they
-- are known.
use Rattle.std.specs.Prelude.{◌≡◌, ◌<◌, ◌+◌, ℕ, Option, Some, None, Result, Ok, Err, List, [], ◌∷◌, ◌++◌, length, codes, string_bytes}
use Rattle.std.specs.Fmt.{decimal}
use Rattle.zeb_engine.specs.declared.commands.Command.{Command}
use Rattle.zeb_engine.specs.declared.replies.Reply.{Reply}
use Rattle.zeb_change.specs.declared.refusals.Refusal.{Refusal}
use Rattle.zeb_change.specs.declared.settings.Kind.{Kind}
use Rattle.zeb_engine.specs.Answers.{answer_of}
use Rattle.zeb_change.specs.Conditions.{Conditions}
use Rattle.zeb_image.specs.Holdings.{Holdings}
use Rattle.zeb_image.specs.NameOf.{name_bytes}
use Rattle.zeb_engine.specs.Replies.{reply_text}
use Rattle.zeb_engine.specs.Refusals.{refusal_text}
use Rattle.zeb_engine.specs.Steps.{TellsOrFails, Run, TakesFiles}
use Rattle.zeb_program.specs.declared.lines.Line.{Line}
use Rattle.zeb_program.specs.declared.lines.Line.TheVariants.{Remark, Command as Order, Path, Mark, Bad}
use Rattle.zeb_program.specs.declared.path_changes.PathChange.{PathChange}
use Rattle.zeb_program.specs.Lines.{first_line, after_first_line}
use Rattle.zeb_program.specs.Says.{Says}
use Rattle.zeb_program.specs.Statuses.{greater, refusal_status}
use Rattle.zeb_program.specs.declared.statuses.Status.{Status}
use Rattle.zeb_program.specs.declared.statuses.Status.TheVariants.{Answered, Misused}

-- a reply, or a refusal on a line of its own
abbrev pub answer_text : Result Reply Refusal → List ℕ
answer_text (Ok reply) = reply_text reply
answer_text (Err refusal) = refusal_text refusal ++ 10 ∷ []

abbrev pub answer_status : Result Reply Refusal → Status
answer_status (Ok reply) = Answered
answer_status (Err refusal) = refusal_status refusal

-- what is written for a command, its status, and what the register holds then: the answer is that of a run of this command
abbrev pub IsAnswer : Conditions → Command → Holdings → List ℕ → Status → Holdings → Type 0
IsAnswer c command before bytes status later =
    (answer : Result Reply Refusal) × (bytes ≡ answer_text answer) × (status ≡ answer_status answer) × Run c before (command ∷ []) (answer_of answer ∷ []) later

-- an answer to a change by files of these bytes, and what the register holds then
abbrev pub ChangesBy : Conditions → Kind → List ℕ → List (List ℕ) → Holdings → Result Reply Refusal → Holdings → Type 0
ChangesBy c kind name files before answer later = TellsOrFails (TakesFiles c kind name files) before (answer_of answer) later

-- what is written for a change by the path of a file of these bytes, its status, and what the register holds then
abbrev pub IsFileAnswer : Conditions → PathChange → List ℕ → Holdings → List ℕ → Status → Holdings → Type 0
IsFileAnswer c change file before bytes status later =
    (answer : Result Reply Refusal) × (bytes ≡ answer_text answer) × (status ≡ answer_status answer)
    × ChangesBy c change.kind (name_bytes change.database) (file ∷ []) before answer later

abbrev pub bad_line : ℕ → List ℕ
bad_line number = codes "zebraidx: bad line " ++ decimal number ++ 10 ∷ []

-- a mark is its text on a line of its own
abbrev pub mark_line : List ℕ → List ℕ
mark_line text = text ++ 10 ∷ []

-- what is written for a line that says this, its status, and what the register holds then
abbrev pub IsAnswerTo : (List ℕ → Option (List ℕ)) → Conditions → ℕ → Line → Holdings → List ℕ → Status → Holdings → Type 0
IsAnswerTo told c number Remark before bytes status later = (bytes ≡ []) × (status ≡ Answered) × (later ≡ before)
IsAnswerTo told c number (Order command) before bytes status later = IsAnswer c command before bytes status later
IsAnswerTo told c number (Path change) before bytes status later =
    (file : List ℕ) × (told (string_bytes change.path) ≡ Some file) × IsFileAnswer c change file before bytes status later
IsAnswerTo told c number (Mark text) before bytes status later = (bytes ≡ mark_line (string_bytes text)) × (status ≡ Answered) × (later ≡ before)
IsAnswerTo told c number Bad before bytes status later = (bytes ≡ bad_line number) × (status ≡ Misused) × (later ≡ before)

-- what is written for a line, by its text and its number, its status, and what the register holds then; of a change by
-- a path only where the bytes of its file are told
abbrev pub AnswersLine : (List ℕ → Option (List ℕ)) → Conditions → ℕ → List ℕ → Holdings → List ℕ → Status → Holdings → Type 0
AnswersLine told c number text before bytes status later = (line : Line) × Says text line × IsAnswerTo told c number line before bytes status later

-- the line names a change by a path, and the bytes of the file there aren't told
abbrev pub IsLineUntold : (List ℕ → Option (List ℕ)) → List ℕ → Type 0
IsLineUntold told text = (change : PathChange) × Says text (Path change) × (told (string_bytes change.path) ≡ None)

-- The answer to a line from and to what is known of what the register holds. Such a line ends that: of it and of the lines behind it nothing
-- is said.
abbrev pub AnswersAsTold : (List ℕ → Option (List ℕ)) → Conditions → ℕ → List ℕ → Option Holdings → List ℕ → Status → Option Holdings → Type 0
AnswersAsTold told c number text (Some before) bytes status (Some later) = AnswersLine told c number text before bytes status later
AnswersAsTold told c number text (Some before) bytes status None = IsLineUntold told text
AnswersAsTold told c number text None bytes status later = later ≡ None

-- The first lines of a text, which n lines of the input stand before, are answered as far as the rest, which is not answered. `Answers` says
-- of the number and the text of each line what is written for it and its status, and leads from what is there before it to what is there
-- then, which the next line finds.
pub data EachLine {X : Type 0} (Answers : ℕ → List ℕ → X → List ℕ → Status → X → Type 0) : ℕ → List ℕ → X → List ℕ → Status → List ℕ → X → Type 0 where
  none : {n : ℕ} {text : List ℕ} {held : X} → EachLine Answers n text held [] Answered text held
  more : {n : ℕ} {text here there rest : List ℕ} {status greatest : Status} {before next last : X} → 0 < length text
      → Answers (n + 1) (first_line text) before here status next → EachLine Answers (n + 1) (after_first_line text) next there greatest rest last
      → EachLine Answers n text before (here ++ there) (greater status greatest) rest last

-- the lines of a text are answered so from what a register holds, as far as it is known
abbrev pub AnswersLines : (List ℕ → Option (List ℕ)) → Conditions → ℕ → List ℕ → Option Holdings → List ℕ → Status → List ℕ → Option Holdings → Type 0
AnswersLines told c = EachLine (AnswersAsTold told c)

-- every line of the text is answered
abbrev pub AnswersBatch : (List ℕ → Option (List ℕ)) → Conditions → ℕ → List ℕ → Option Holdings → List ℕ → Status → Option Holdings → Type 0
AnswersBatch told c n text before bytes status last = AnswersLines told c n text before bytes status [] last

-- the lines before one of the text are answered, and that line and those after it are not
abbrev pub AnswersPart : (List ℕ → Option (List ℕ)) → Conditions → ℕ → List ℕ → Option Holdings → List ℕ → Type 0
AnswersPart told c n text before bytes = (status : Status) × (rest : List ℕ) × (last : Option Holdings) × (0 < length rest) × AnswersLines told c n text before bytes status rest last

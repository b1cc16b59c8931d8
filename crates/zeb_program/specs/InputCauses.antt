-- Why an input can't be read on, and what is gone of the line where it can't (this program's own).
use Rattle.std.specs.Prelude.{◌≡◌, ◌<◌, ◌+◌, ℕ, Bool, true, false, List, Option, Some, IfSome, codes, length}
use Rattle.std.specs.List.{position_or_len}
use Rattle.std.specs.Str.{IsUtf8}
use Rattle.zeb_program.specs.Inputs.{TakesAtMost}
use Rattle.zeb_program.specs.Lines.{is_lf}
use Rattle.zeb_program.specs.declared.input.TextCause.{TextCause}
use Rattle.zeb_program.specs.declared.input.TextCause.TheVariants.{TooLong, NoText, FailedRead as Failed}
use Rattle.zeb_program.specs.declared.line_input.InputCause.{InputCause}
use Rattle.zeb_program.specs.declared.line_input.InputCause.TheVariants.{LongLine, FailedRead}
use Rattle.zeb_program.specs.declared.line_input.LineFault.{LineFault}
use Rattle.zeb_program.specs.declared.line_input.LineFault.TheVariants.{Unreadable, Memory}

-- the words for why an input can't be read on
abbrev pub input_cause_text : InputCause → List ℕ
input_cause_text LongLine = codes "a line is too long"
input_cause_text FailedRead = codes "a read failed"

abbrev pub text_cause_text : TextCause → List ℕ
text_cause_text TooLong = codes "too long"
text_cause_text NoText = codes "no UTF-8"
text_cause_text Failed = codes "a read failed"

-- An input can't be read whole for this reason, where it has these bytes, if it tells them, and a read of it failed or didn't.
abbrev pub IsTextCause : Option (List ℕ) → Bool → TextCause → Type 0
IsTextCause given failed TooLong = (failed ≡ false) × IfSome given (λ bytes. 16777216 < length bytes)
IsTextCause given failed NoText = (failed ≡ false) × IfSome given (λ bytes. ¬ IsUtf8 bytes)
IsTextCause given failed Failed = failed ≡ true

-- whether it is that a read failed
abbrev pub is_failed_read : InputCause → Bool
is_failed_read LongLine = false
is_failed_read FailedRead = true

-- The first line of what is left of an input isn't read for this reason, where a line may have so many bytes before its LF; and then this is
-- left. Of no other line a byte is gone.
abbrev pub EndsInLine : ℕ → LineFault → List ℕ → Option (List ℕ) → Type 0
-- the line has more bytes
EndsInLine most (Unreadable LongLine) left later = (most < position_or_len is_lf left) × TakesAtMost (most + 1) (Some left) later
-- the line wasn't read to its end
EndsInLine most (Unreadable FailedRead) left later = TakesAtMost most (Some left) later × TakesAtMost (position_or_len is_lf left) (Some left) later
-- at most the line is gone
EndsInLine most Memory left later = TakesAtMost (most + 1) (Some left) later × TakesAtMost (position_or_len is_lf left + 1) (Some left) later

-- What is written for lines, without the tables that they are answered on.
use Rattle.zeb_program.proofs.Cited.{◌+◌, ℕ, List, State, Held, Ghosts, over_files, Conditions, Format, EachLine, no_lines, more, after_first_line, LineOver, SaysOver, Line, Remark, Order, Path, Mark, Bad, Status, state, Tells, LinesWritten, SaysWritten, packed_blocks}
use Rattle.zeb_program.specs.BatchRuns.{OverIsWritten}

-- what is written for a line
written_line : (at : Tells) (format : Format) (c : Conditions) (number : ℕ) (line : Line) (old : State) (bytes : List ℕ) (status : Status) (new : State) → SaysOver at format c number line old bytes status new → SaysWritten at number line bytes status
written_line at format c number Remark old bytes status new over = (over.0, over.1)
written_line at format c number (Order command) old bytes status new over = (over.0, over.1, over.2)
written_line at format c number (Path change) old bytes status new over = (over.0, over.1, over.2)
written_line at format c number (Mark text) old bytes status new over = (over.0, over.1)
written_line at format c number Bad old bytes status new over = (over.0, over.1)

lines_written : {S : Type 0} (g : Ghosts S) (at : Tells) (format : Format) (c : Conditions) (n : ℕ) (text : List ℕ) (old : Held S) (bytes : List ℕ) (status : Status) (rest : List ℕ) (new : Held S)
    → EachLine (LineOver g at format c) n text old bytes status rest new → LinesWritten at n text bytes status rest
lines_written g at format c n text old bytes status rest new no_lines = no_lines
lines_written g at format c n text old bytes status rest new (more {here = here} {there = there} {status = top} {greatest = greatest} {next = next} some answer later) =
    more {next = tt} some (answer.0, answer.1, written_line at format c (n + 1) answer.0 (state g old) here top (state g next) answer.2)
    (lines_written g at format c (n + 1) (after_first_line text) next there greatest rest new later)

pub over_is_written : OverIsWritten
over_is_written at c n text first last bytes status rest = lines_written over_files at packed_blocks c n text first bytes status rest last

-- What is told of how the store of a register was closed (this program's own).
use Rattle.std.specs.Prelude.{ℕ, List, [], if◌then◌else◌}
use Rattle.zeb_paths.specs.declared.causes.Closed.{Closed}
use Rattle.zeb_program.specs.FaultLines.{left_lines, unclosed_lines}

-- nothing, where all stands in its one file; else that the file needs its log, and why the store failed, where that is known
abbrev pub closing_lines : Closed → List ℕ
closing_lines closed = if closed.is_whole then [] else unclosed_lines closed.cause

-- the same behind a failure
abbrev pub leaving_lines : Closed → List ℕ
leaving_lines closed = if closed.is_whole then [] else left_lines closed.cause

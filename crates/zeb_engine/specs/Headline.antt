-- The headline, on a disk that is clean at the end: after any list of commands the kept records are those that the accepted commands
-- leave, each replacement keeping its number. Every accepted find and scan is what reading all kept records from nothing gives, and so is a
-- stat but for the last number, which it tells too. A command may be refused for want of memory or as a failed store, and a refused one
-- changes nothing of what is held. If the connection is open at the end, the registers hold exactly the kept records' postings.
use Rattle.std.specs.Prelude.{List, map, Result}
use Rattle.sqlite.specs.State.{State, HasCleanDisk}
use Rattle.zeb_engine.specs.declared.commands.Command.{Command}
use Rattle.zeb_change.specs.declared.refusals.Refusal.{Refusal}
use Rattle.zeb_engine.specs.declared.replies.Reply.{Reply}
use Rattle.zeb_engine.specs.Answers.{answer_of}
use Rattle.zeb_change.specs.Conditions.{Conditions}
use Rattle.zeb_engine.specs.Works.{Runs}

-- on a disk that is clean at the end, from tables that are an image: the answers are those of a run, in which any command may fail and
-- change nothing, and the tables are then the image of what the run leaves, if the connection is open
abbrev pub Headline : Conditions → List Command → List (Result Reply Refusal) → State → State → Type 0
Headline c commands results old new = HasCleanDisk new → Runs c commands (map answer_of results) old new

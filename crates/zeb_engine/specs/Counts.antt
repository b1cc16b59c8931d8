-- What a command counts as read and as written: one case a command.
use Rattle.std.specs.Prelude.{◌≡◌, ℕ, List, map, OnOk, Result, string_bytes}
use Rattle.sqlite.specs.State.{HasCleanDisk, State}
use Rattle.zeb_register.specs.declared.registers.Work.{Work}
use Rattle.zeb_register.specs.Content.{Posting}
use Rattle.zeb_register.specs.Formats.{Format}
use Rattle.zeb_register.specs.Tallies.{CountsNothing}
use Rattle.zeb_change.specs.declared.refusals.Refusal.{Refusal}
use Rattle.zeb_change.specs.Conditions.{Conditions}
use Rattle.zeb_image.specs.NameOf.{name_bytes}
use Rattle.zeb_engine.specs.declared.commands.Command.{Command}
use Rattle.zeb_engine.specs.declared.commands.Command.TheVariants.{Init, Check, Reindex, Upgrade, Create, Drop, Stat, Dump, Change, Find, Scan, Analyse}
use Rattle.zeb_engine.specs.declared.replies.Reply.{Reply}
use Rattle.zeb_engine.specs.Costs.{CostsAlone, no_work}
use Rattle.zeb_engine.specs.Finding.{FindReads}
use Rattle.zeb_engine.specs.Scanning.{ScanReads}

-- On a disk that is clean at the end: from an image an accepted change has counted the work for the keys that its records change, and
-- no other. Over a content an accepted scan, whose start is at one of the places asked for, has counted as read at most the terms that
-- it was asked for and one more, and nothing else. An accepted find over a content has counted nothing as written, and as read no more
-- rows than the lists have that its query asks for; of terms no more than the searched registers have, once for each pattern with a
-- star and for each term of the query that asks for entries which it doesn't name. Of a stat nothing is said. Each other command has
-- counted nothing, whatever it answers and on whatever disk.
abbrev pub Counted : Format → (row_work : ℕ) → (block_rows : List Posting → ℕ) → Conditions → Command → (old new : State) → Result Reply Refusal → Work → Type 0
Counted format row_work block_rows c Init old new answer work = work ≡ no_work
Counted format row_work block_rows c (Create name) old new answer work = work ≡ no_work
Counted format row_work block_rows c (Drop name) old new answer work = work ≡ no_work
Counted format row_work block_rows c (Change kind name files) old new answer work =
    HasCleanDisk new → CostsAlone format row_work c kind (name_bytes name) (map (λ file. file.items) files.items) old new answer work
Counted format row_work block_rows c (Find name query first count) old new answer work =
    HasCleanDisk new → OnOk answer (FindReads format row_work block_rows c.profile (name_bytes name) (string_bytes query) old no_work work)
Counted format row_work block_rows c Check old new answer work = work ≡ no_work
Counted format row_work block_rows c Reindex old new answer work = work ≡ no_work
Counted format row_work block_rows c Upgrade old new answer work = work ≡ no_work
Counted format row_work block_rows c (Stat name) old new answer work = Unit {0}
Counted format row_work block_rows c (Dump name) old new answer work = work ≡ no_work
Counted format row_work block_rows c (Scan name query number position) old new answer work =
    HasCleanDisk new → OnOk answer (ScanReads format row_work number position old no_work work)
Counted format row_work block_rows c (Analyse files) old new answer work = work ≡ no_work

-- no row that the command reads or writes counts: in leaves those count that a change reads and writes, and no others
abbrev pub IsUncounted : Format → (row_work : ℕ) → Command → Type 0
IsUncounted format row_work Init = row_work ≡ 0
IsUncounted format row_work (Create name) = row_work ≡ 0
IsUncounted format row_work (Drop name) = row_work ≡ 0
IsUncounted format row_work (Change kind name files) = CountsNothing format row_work
IsUncounted format row_work (Find name query first count) = row_work ≡ 0
IsUncounted format row_work Check = row_work ≡ 0
IsUncounted format row_work Reindex = row_work ≡ 0
IsUncounted format row_work Upgrade = row_work ≡ 0
IsUncounted format row_work (Stat name) = row_work ≡ 0
IsUncounted format row_work (Dump name) = row_work ≡ 0
IsUncounted format row_work (Scan name query number position) = row_work ≡ 0
IsUncounted format row_work (Analyse files) = row_work ≡ 0

-- what is said of a command's counts: what it has counted (`Counted`), and that it has counted nothing where no row of it counts
-- (`IsUncounted`)
pub record CommandCounts (format : Format) (row_work : ℕ) (block_rows : List Posting → ℕ) (c : Conditions) (command : Command) (old new : State)
    (answer : Result Reply Refusal) (work : Work) : Type 0 where
  pub counted : Counted format row_work block_rows c command old new answer work
  -- where no row counts that it reads or writes, it has counted nothing, whatever it answers
  pub none : IsUncounted format row_work command → work ≡ no_work

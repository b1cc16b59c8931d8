-- What a crash leaves on the disk, as an open finds it.
use Rattle.std.specs.Prelude.{◌≡◌, ◌≢◌, ◌⊎◌, List, [], ◌∷◌, map, IfOk, IsOkAnd, Result, Ok, Err, Vec}
use Rattle.std.specs.declared.alloc.Global.{Global}
use Rattle.std.specs.List.{AllByRecursion}
use Rattle.sqlite.specs.Tree.{Trees}
use Rattle.sqlite.specs.Effect.{IsDatabase}
use Rattle.sqlite.specs.State.{HasCleanDisk, State, Survives}
use Rattle.zeb_profile.specs.declared.directives.Directive.{Directive}
use Rattle.zeb_profile.specs.Canonical.{canonical_text}
use Rattle.zeb_register.specs.Formats.{Format, version_of}
use Rattle.zeb_register.specs.Sql.{IsKeyed}
use Rattle.zeb_register.specs.Store.{IsStore}
use Rattle.zeb_register.specs.Tables.{no_schema, store_schema}
use Rattle.zeb_engine.specs.declared.commands.Command.{Command}
use Rattle.zeb_engine.specs.declared.commands.Command.TheVariants.{Init, Create, Drop, Change, Find, Scan, Check, Reindex, Upgrade, Stat, Dump, Analyse}
use Rattle.zeb_engine.specs.declared.replies.Reply.{Reply}
use Rattle.zeb_change.specs.declared.refusals.Refusal.{Refusal}
use Rattle.zeb_change.specs.declared.refusals.Refusal.TheVariants.{Store}
use Rattle.zeb_engine.specs.Answers.{Answer, answer_of, refused, reply_answer}
use Rattle.zeb_change.specs.Refused.{Why, store_failed}
use Rattle.zeb_change.specs.Base.{Base}
use Rattle.zeb_change.specs.Conditions.{Conditions}
use Rattle.zeb_image.specs.Holdings.{Holdings, nothing_yet, under}
use Rattle.zeb_image.specs.Image.{IsImage, Keeps}
use Rattle.zeb_engine.specs.Reindexing.{CanBeRemade, IsRemade}
use Rattle.zeb_engine.specs.Steps.{TellsOrFails, Step}
use Rattle.zeb_engine.specs.Transactions.{AsksStore}

-- ---- what a disk stands for

-- the trees list the tables of the store and obey them, and no rowid stands twice
pub record IsStoreDisk (db : Trees) : Type 0 where
  pub sound : IsDatabase (record { schema = store_schema; trees = db })
  pub keyed : AllByRecursion (λ t. IsKeyed (db t.tree)) store_schema.tables

-- the trees list no table
abbrev pub IsBareDisk : Trees → Type 0
IsBareDisk db = IsDatabase (record { schema = no_schema; trees = db })

-- what an open of the disk finds is the store of these holdings; a disk without a table stands for a register that holds nothing yet
abbrev pub Stands : Trees → Holdings → Type 0
Stands db held = (IsStoreDisk db × IsImage db held) ⊎ (IsBareDisk db × (held ≡ nothing_yet))

-- a connection that is taken over shows these holdings: the store of them, or no table where nothing is held yet
abbrev pub Bears : State → Holdings → Type 0
Bears s held = Keeps s held ⊎ ((s.now.schema ≡ no_schema) × (held ≡ nothing_yet))

-- a crash now leaves the store of these holdings alone
abbrev pub Leaves : State → Holdings → Type 0
Leaves s held = (db : Trees) → s.may_leave db → Stands db held

-- where a crash left the holdings that a connection shows, and those alone, it leaves them alone still
abbrev pub KeepsDisk : State → State → Type 0
KeepsDisk old new = (before : Holdings) → Bears old before → Leaves old before → Leaves new before

-- ---- what may be committed

-- the answer is no refusal
abbrev pub Accepts : Answer → Type 0
Accepts answer = (why : Why) → answer ≢ refused why

-- what is held after an accepted answer of a command
abbrev pub CommitsBy : (Told : Holdings → Answer → Holdings → Type 0) → State → Trees → Type 0
CommitsBy Told old db = (before : Holdings) → Keeps old before → (answer : Answer) × (later : Holdings) × Told before answer later × Accepts answer × Stands db later

-- from an image, what a command may commit: what an accepted step of it leaves
abbrev pub CommitsCommand : Conditions → Command → State → Trees → Type 0
CommitsCommand c command = CommitsBy (Step c command)

-- what a reindex may commit on any tables of a store, whatever the registers held: the lists as they were, with registers of them under
-- its profile (`IsRemade`); it stands for the databases of the lists where they can be held under that profile and no text has a fourth
-- name
abbrev pub CommitsReindex : Format → List Directive → State → Trees → Type 0
CommitsReindex format profile old db = IsStore old →
    IsRemade format profile old.now.trees db
    × ((bases : List Base) → CanBeRemade profile old.now.trees bases → Stands db (under (version_of format) (canonical_text profile) bases))

-- what a command may commit: from an image what an accepted step of it leaves; a reindex, on any tables of a store, also just registers
-- of the lists, whatever the registers held; and a command that only asks, or an analysis, nothing, whatever the tables hold
abbrev pub MayCommit : Format → Conditions → Command → State → Trees → Type 0
MayCommit format c Init old = CommitsCommand c Init old
MayCommit format c (Create name) old = CommitsCommand c (Create name) old
MayCommit format c (Drop name) old = CommitsCommand c (Drop name) old
MayCommit format c (Change kind name files) old = CommitsCommand c (Change kind name files) old
MayCommit format c Reindex old = λ db. CommitsCommand c Reindex old db × CommitsReindex format c.profile old db
MayCommit format c Upgrade old = CommitsCommand c Upgrade old
MayCommit format c (Find name query first count) old = λ db. ⊥
MayCommit format c (Scan name query number position) old = λ db. ⊥
MayCommit format c Check old = λ db. ⊥
MayCommit format c (Stat name) old = λ db. ⊥
MayCommit format c (Dump name) old = λ db. ⊥
MayCommit format c (Analyse files) old = λ db. ⊥

-- what is held after an accepted step of a command: it was answered so, or its store failed
abbrev pub IsCarriedOut : Conditions → Command → Holdings → Answer → Trees → Type 0
IsCarriedOut c command before answer db =
    (told : Answer) × (later : Holdings) × Step c command before told later × Accepts told × Stands db later × ((answer ≡ told) ⊎ (answer ≡ refused store_failed))

-- one of these commands was carried out, on what a run by the answers that were given leaves before it
abbrev pub LeavesOne : Conditions → Holdings → List Command → List Answer → Trees → Type 0
LeavesOne c before [] answers db = ⊥
LeavesOne c before (command ∷ commands) [] db = ⊥
LeavesOne c before (command ∷ commands) (answer ∷ answers) db =
    IsCarriedOut c command before answer db
    ⊎ ((later : Holdings) × TellsOrFails (Step c command) before answer later × LeavesOne c later commands answers db)

-- from an image, what a list of commands may commit: what an accepted step of one of them leaves, on what those before it left, where
-- this was its answer or its store failed
abbrev pub CommitsOne : Conditions → List Command → List Answer → State → Trees → Type 0
CommitsOne c commands answers old db = (before : Holdings) → Keeps old before → LeavesOne c before commands answers db

-- a store that is taken over: the holdings that are there already
abbrev pub CommitsAdopted : State → Trees → Type 0
CommitsAdopted old db = (before : Holdings) → Bears old before → Stands db before

-- ---- after a command

-- A crash after a command leaves what was there before it, or what is held after it: only that once it is accepted, and only what
-- was there once it is refused, but for a failed store: a commit that failed may have reached the disk.
abbrev pub Endures : (Told : Holdings → Answer → Holdings → Type 0) → State → State → Result Reply Refusal → Type 0
Endures Told old new (Ok reply) =
    (before : Holdings) → Keeps old before → Leaves old before → (later : Holdings) × Told before (reply_answer reply) later × Leaves new later
Endures Told old new (Err Store) =
    (before : Holdings) → Keeps old before → Leaves old before → (db : Trees) → new.may_leave db
    → Stands db before ⊎ ((answer : Answer) × (later : Holdings) × Told before answer later × Stands db later)
Endures Told old new (Err refusal) = (before : Holdings) → Leaves old before → Leaves new before

-- what a command may commit, and so what a crash leaves where the disk is clean at the end
pub record CommandLasts (format : Format) (c : Conditions) (command : Command) (old new : State) (answer : Result Reply Refusal) : Type 0 where
  -- nothing else is committed
  pub survives : Survives old new (MayCommit format c command old)
  -- so a crash leaves what the command left, or what was there before it
  pub crash : HasCleanDisk new → Endures (Step c command) old new answer

-- ---- after a list of commands

abbrev pub IsRefused : Answer → Type 0
IsRefused answer = (why : Why) × (answer ≡ refused why)

-- each of these commands that asks the store was refused
abbrev pub AreRefused : List Command → List Answer → Type 0
AreRefused [] [] = Unit {0}
AreRefused (command ∷ commands) (answer ∷ answers) = (AsksStore command → IsRefused answer) × AreRefused commands answers
AreRefused [] (answer ∷ answers) = ⊥
AreRefused (command ∷ commands) [] = ⊥

-- A run by the answers that were given, but that one command whose store failed may have been carried out: all later ones that ask
-- the store are refused then, and none changes anything.
abbrev pub RunLeft : Conditions → Holdings → List Command → List Answer → Holdings → Type 0
RunLeft c before [] [] last = last ≡ before
RunLeft c before (command ∷ commands) (answer ∷ answers) last =
    ((later : Holdings) × TellsOrFails (Step c command) before answer later × RunLeft c later commands answers last)
    ⊎ ((answer ≡ refused store_failed) × AreRefused commands answers × ((told : Answer) × Step c command before told last))
RunLeft c before [] (answer ∷ answers) last = ⊥
RunLeft c before (command ∷ commands) [] last = ⊥

-- where the tables were an image and a crash before left only that: a crash after a list of commands leaves what a run by the given
-- answers leaves, and an open connection shows the same; but one command whose store failed may have been carried out, and then all
-- later ones that ask the store are refused
abbrev pub EnduresRun : Conditions → List Command → List Answer → State → State → Type 0
EnduresRun c commands answers old new =
    (before : Holdings) → Keeps old before → Leaves old before → (db : Trees) → new.may_leave db
    → (last : Holdings) × RunLeft c before commands answers last × Stands db last × Keeps new last

-- what a list of commands may commit, and so what a crash leaves where the disk is clean at the end
pub record RunLasts (c : Conditions) (commands : List Command) (old new : State) (result : Result (Vec (Result Reply Refusal) Global) Refusal) : Type 0 where
  -- nothing is committed but what one of the commands leaves, on what those before it left
  pub survives : Survives old new (λ db. IsOkAnd result (λ answers. CommitsOne c commands (map answer_of answers.items) old db))
  -- so a crash leaves what the run left, but that a command whose store failed may have been carried out
  pub crash : HasCleanDisk new → IfOk result (λ answers. EnduresRun c commands (map answer_of answers.items) old new)

-- ---- after a store is taken over, or isn't

-- what taking a store over may commit, and so what a crash leaves where the disk is clean at the end
pub record AdoptLasts (old new : State) : Type 0 where
  -- nothing is committed but the store of the holdings that were there
  pub survives : Survives old new (CommitsAdopted old)
  pub crash : HasCleanDisk new → KeepsDisk old new

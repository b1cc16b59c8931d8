-- What each command answers, and what the register holds then. A refusal gives back what it held. The order of refusals is
-- that of the cases: the register, the query's text, the database, the query's meaning, and then record after record.
use Rattle.std.specs.Prelude.{◌≡◌, ◌⊎◌, ℕ, List, [], ◌∷◌, map, Option, Some, None, Result, Ok, Err, length, string_bytes, if◌then◌else◌}
use Rattle.std.specs.List.{flat_map}
use Rattle.std.specs.Str.{bytes_eq}
use Rattle.zeb_profile.specs.declared.directives.Directive.{Directive}
use Rattle.zeb_profile.specs.Canonical.{canonical_text}
use Rattle.zeb_query.specs.Places.{IsFaulty, IsReadable}
use Rattle.zeb_marc.specs.Splits.{Split}
use Rattle.zeb_engine.specs.declared.commands.Command.{Command}
use Rattle.zeb_engine.specs.declared.commands.Command.TheVariants.{Init, Check, Reindex, Upgrade, Create, Drop, Stat, Dump, Change, Find, Scan, Analyse}
use Rattle.zeb_change.specs.declared.settings.Kind.{Kind}
use Rattle.zeb_change.specs.declared.settings.Kind.TheVariants.{Update, Delete, Adelete}
use Rattle.zeb_image.specs.NameOf.{name_bytes}
use Rattle.zeb_engine.specs.Answers.{Answer, done, changed, dumped, refused, IsFailure, no_database}
use Rattle.zeb_change.specs.Refused.{Why, not_initialised, old_format, profile_changed, diagnostic, exists, rule_changed}
use Rattle.zeb_image.specs.Holdings.{Holdings, nothing_yet, under, new_base, base_named, with_base, without_base}
use Rattle.zeb_change.specs.Base.{Base}
use Rattle.zeb_change.specs.Conditions.{Conditions}
use Rattle.zeb_change.specs.Folding.{Progress, at_first, files_folded, splits_of}
use Rattle.zeb_engine.specs.Counting.{IsCounted}
use Rattle.zeb_engine.specs.Finding.{IsAnswered, has_name}
use Rattle.zeb_change.specs.Occurs.{occurs}
use Rattle.zeb_engine.specs.Scanning.{IsScanned}
use Rattle.zeb_engine.specs.Analysed.{IsAnalysed}
use Rattle.zeb_engine.specs.Rules.{same_rule}
use Rattle.zeb_engine.specs.Versions.{is_taken}

-- an answer, and what is held then
abbrev pub Outcome : Type 0
Outcome = Answer × Holdings

-- the databases of a register of this version and under this profile; other registers are refused
unfoldable pub ready : Conditions → Holdings → Result (List Base) Why
ready c nothing_yet = Err not_initialised
ready c (under version text bases) =
    if bytes_eq version c.version then (if bytes_eq text (canonical_text c.profile) then Ok bases else Err profile_changed) else Err old_format

-- what is held under these conditions, with these databases
abbrev pub holding : Conditions → List Base → Holdings
holding c bases = under c.version (canonical_text c.profile) bases

-- ---- commands that change what is held, each in two steps: whether the register is ready, and then the databases

-- what becomes of the databases: an answer and the databases then, or a refusal
abbrev pub Turn : Type 0
Turn = List Base → Result (Answer × List Base) Why

abbrev pub ends : Conditions → Holdings → Result (Answer × List Base) Why → Outcome
ends c before (Ok turned) = (turned.0, holding c turned.1)
ends c before (Err why) = (refused why, before)

abbrev pub turned_from : Conditions → Turn → Holdings → Result (List Base) Why → Outcome
turned_from c turn before (Ok bases) = ends c before (turn bases)
turned_from c turn before (Err why) = (refused why, before)

-- what a command answers on the databases of a register that is ready, and what is held then; a register that isn't ready is refused,
-- and any refusal leaves what was held
unfoldable pub turned : Conditions → Turn → Holdings → Outcome
turned c turn before = turned_from c turn before (ready c before)

-- an init is done, and leaves a register without a database, under the session's version and profile, whatever was held
unfoldable pub initialised : Conditions → Holdings → Outcome
initialised c before = (done, holding c [])

abbrev pub created_in : List ℕ → List Base → Option Base → Result (Answer × List Base) Why
created_in name bases (Some base) = Err exists
created_in name bases None = Ok (done, with_base (new_base name) bases)

-- a create makes one database more, without a record, or is refused where the name isn't free
unfoldable pub created : List ℕ → Turn
created name bases = created_in name bases (base_named name bases)

abbrev pub dropped_in : List ℕ → List Base → Option Base → Result (Answer × List Base) Why
dropped_in name bases None = Err (no_database name)
dropped_in name bases (Some base) = Ok (done, without_base name bases)

-- a drop leaves one database fewer, or is refused where none has the name
unfoldable pub dropped : List ℕ → Turn
dropped name bases = dropped_in name bases (base_named name bases)

-- a change begins with the database, which an update makes where it is absent
abbrev pub start_of : Kind → List ℕ → Option Base → Result Base Why
start_of kind name (Some base) = Ok base
start_of Update name None = Ok (new_base name)
start_of Delete name None = Err (no_database name)
start_of Adelete name None = Err (no_database name)

abbrev pub change_ends : List Base → Result Progress Why → Result (Answer × List Base) Why
change_ends bases (Err why) = Err why
change_ends bases (Ok p) = Ok (changed p.inserted p.updated p.deleted, with_base p.base bases)

abbrev pub change_from : Conditions → Kind → List Split → List Base → Result Base Why → Result (Answer × List Base) Why
change_from c kind files bases (Err why) = Err why
change_from c kind files bases (Ok base) = change_ends bases (files_folded c kind 1 files (at_first base))

-- a change takes the database of its name, which an update makes where it is absent and for want of which a delete or an adelete is
-- refused, folds in the files, and tells how many records came in, took an elder's place and took one away; the first refused record
-- refuses the whole
unfoldable pub changed_by_files : Conditions → Kind → List ℕ → List Split → Turn
changed_by_files c kind name files bases = change_from c kind files bases (start_of kind name (base_named name bases))

-- ---- the commands that ask a database by a query

-- what a find answers of a database, by the bytes of its records
abbrev pub FindAnswers : List Directive → List ℕ → ℕ → ℕ → Base → Answer → Type 0
FindAnswers profile query first count base = IsAnswered (occurs profile base.records) (has_name base.records) profile query first count

-- what a scan answers of a database, by the bytes of its records
abbrev pub ScanAnswers : List Directive → List ℕ → ℕ → ℕ → Base → Answer → Type 0
ScanAnswers profile query number position base = IsScanned (occurs profile base.records) profile query number position

-- what a stat answers of a database: the number of its records, its last number, and how much each register has
abbrev pub StatAnswers : List Directive → Base → Answer → Type 0
StatAnswers profile base = IsCounted (occurs profile base.records) profile (length base.records) base.last

-- `Says` is the answer of a database that is there; a name that no database has is refused
abbrev pub AskedIn : (Says : Base → Answer → Type 0) → List ℕ → Option Base → Answer → Type 0
AskedIn Says name None answer = answer ≡ refused (no_database name)
AskedIn Says name (Some base) answer = Says base answer

-- a text that is read is asked of the database of this name; another is refused by its fault
abbrev pub AskedAmong : (Says : Base → Answer → Type 0) → (name query : List ℕ) → List Base → Answer → Type 0
AskedAmong Says name query bases answer =
    (IsReadable query × AskedIn Says name (base_named name bases) answer)
    ⊎ ((number : ℕ) × (place : ℕ) × IsFaulty query number place × (answer ≡ refused (diagnostic number place [])))

-- a register that isn't ready refuses the command; else a text without a fault is asked of the database of the name, and another is
-- refused by its fault
abbrev pub AskedFrom : (Says : Base → Answer → Type 0) → (name query : List ℕ) → Result (List Base) Why → Answer → Type 0
AskedFrom Says name query (Err why) answer = answer ≡ refused why
AskedFrom Says name query (Ok bases) answer = AskedAmong Says name query bases answer

-- a find is refused by the first of these: the register, the query's text, the database, the query's meaning, a first past the last
-- hit; else it is answered by the bytes of the kept records
abbrev pub FoundFrom : Conditions → List ℕ → List ℕ → ℕ → ℕ → Result (List Base) Why → Answer → Type 0
FoundFrom c name query first count = AskedFrom (FindAnswers c.profile query first count) name query

-- a scan is refused by the first of these: the register, the query's text, the database, the query's meaning; else it is answered by
-- the bytes of the kept records
abbrev pub ScannedFrom : Conditions → List ℕ → List ℕ → ℕ → ℕ → Result (List Base) Why → Answer → Type 0
ScannedFrom c name query number position = AskedFrom (ScanAnswers c.profile query number position) name query

-- ---- the command that counts

abbrev pub CountedIn : Conditions → List ℕ → Option Base → Answer → Type 0
CountedIn c name = AskedIn (StatAnswers c.profile) name

-- a stat is refused by the register or for want of the database; else it is answered by the bytes of the kept records
abbrev pub CountedFrom : Conditions → List ℕ → Result (List Base) Why → Answer → Type 0
CountedFrom c name (Err why) answer = answer ≡ refused why
CountedFrom c name (Ok bases) answer = CountedIn c name (base_named name bases) answer

-- ---- the command that dumps

-- the records' bytes, joined in the order of their numbers
abbrev pub dumped_in : List ℕ → Option Base → Answer
dumped_in name None = refused (no_database name)
dumped_in name (Some base) = dumped (flat_map (λ kept. kept.bytes) base.records)

abbrev pub dumped_from : List ℕ → Result (List Base) Why → Answer
dumped_from name (Err why) = refused why
dumped_from name (Ok bases) = dumped_in name (base_named name bases)

-- a dump is refused by the register or for want of the database, and else answers the kept bytes in the order of their numbers; what
-- was held stays
abbrev pub dumped_by : Conditions → List ℕ → Holdings → Outcome
dumped_by c name before = (dumped_from name (ready c before), before)

-- ---- the command that checks: what is held is sound, so only a register that isn't ready is refused

abbrev pub checked_from : Result (List Base) Why → Answer
checked_from (Err why) = refused why
checked_from (Ok bases) = done

-- a check of what is held: refused where the register isn't ready, and else done; what was held stays
abbrev pub checked : Conditions → Holdings → Outcome
checked c before = (checked_from (ready c before), before)

-- ---- the commands that make the registers anew: the databases stay, and are then held under the session's version and its profile

-- it is done, and the databases stay as they are
abbrev pub all_stay : Turn
all_stay bases = Ok (done, bases)

-- the databases of a register of this version whose profile has the session's rule for identifiers; other registers are refused
unfoldable pub ruled : Conditions → Holdings → Result (List Base) Why
ruled c nothing_yet = Err not_initialised
ruled c (under version text bases) =
    if bytes_eq version c.version then (if same_rule text (canonical_text c.profile) then Ok bases else Err rule_changed) else Err old_format

-- a reindex: the databases stay, held under the session's profile, or the register is refused (`ruled`) and stays as it was
unfoldable pub reindexed : Conditions → Holdings → Outcome
reindexed c before = turned_from c all_stay before (ruled c before)

-- the databases of a register of this version or of an earlier one, under this profile; other registers are refused
unfoldable pub upgradable : Conditions → Holdings → Result (List Base) Why
upgradable c nothing_yet = Err not_initialised
upgradable c (under version text bases) =
    if is_taken version c.version then (if bytes_eq text (canonical_text c.profile) then Ok bases else Err profile_changed) else Err old_format

-- an upgrade: the databases stay, held under the session's version, or the register is refused (`upgradable`) and stays as it was
unfoldable pub upgraded : Conditions → Holdings → Outcome
upgraded c before = turned_from c all_stay before (upgradable c before)

-- ---- one command

-- an outcome that is computed
abbrev pub Ends : Outcome → Answer → Holdings → Type 0
Ends told answer later = (answer ≡ told.0) × (later ≡ told.1)

-- an answer that is described, and leaves what was held
abbrev pub OnlyAnswers : (Says : Answer → Type 0) → Holdings → Answer → Holdings → Type 0
OnlyAnswers Says before answer later = Says answer × (later ≡ before)

-- a change of a database by files of these bytes
abbrev pub TakesFiles : Conditions → Kind → List ℕ → List (List ℕ) → Holdings → Answer → Holdings → Type 0
TakesFiles c kind name texts before = Ends (turned c (changed_by_files c kind name (splits_of texts)) before)

-- what a command may answer on what is held, with its refusals in their order, and what is held then: after a refusal what was held
abbrev pub Step : Conditions → Command → Holdings → Answer → Holdings → Type 0
Step c Init before = Ends (initialised c before)
Step c (Create name) before = Ends (turned c (created (name_bytes name)) before)
Step c (Drop name) before = Ends (turned c (dropped (name_bytes name)) before)
Step c (Change kind name files) before = TakesFiles c kind (name_bytes name) (map (λ file. file.items) files.items) before
Step c (Find name query first count) before = OnlyAnswers (FoundFrom c (name_bytes name) (string_bytes query) first count (ready c before)) before
Step c Check before = Ends (checked c before)
Step c Reindex before = Ends (reindexed c before)
Step c Upgrade before = Ends (upgraded c before)
Step c (Stat name) before = OnlyAnswers (CountedFrom c (name_bytes name) (ready c before)) before
Step c (Dump name) before = Ends (dumped_by c (name_bytes name) before)
Step c (Scan name query number position) before = OnlyAnswers (ScannedFrom c (name_bytes name) (string_bytes query) number position (ready c before)) before
Step c (Analyse files) before = OnlyAnswers (IsAnalysed c.profile c.limits.records (map (λ file. file.items) files.items)) before

-- ---- a list of commands

-- `Told` is what a command may answer on what is held, and what is held then: it is that, or the store or the memory failed and nothing
-- changes
abbrev pub TellsOrFails : (Told : Holdings → Answer → Holdings → Type 0) → Holdings → Answer → Holdings → Type 0
TellsOrFails Told before answer later = Told before answer later ⊎ (IsFailure answer × (later ≡ before))

-- one answer for each command, on what the one before it left
abbrev pub Run : Conditions → Holdings → List Command → List Answer → Holdings → Type 0
Run c before [] [] last = last ≡ before
Run c before (command ∷ commands) (answer ∷ answers) last = (later : Holdings) × TellsOrFails (Step c command) before answer later × Run c later commands answers last
Run c before [] (answer ∷ answers) last = ⊥
Run c before (command ∷ commands) [] last = ⊥

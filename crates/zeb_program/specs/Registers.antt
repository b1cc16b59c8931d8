-- On which register words have a command carried out: that in the store at the profile's path, or one in memory (this program's own).
use Rattle.std.specs.Prelude.{◌≡◌, ◌⊎◌, ℕ, Bool, IsTrue, codes, true, List, Option, None, Some, Result, Err}
use Rattle.sqlite.specs.Held.{Held, state}
use Rattle.sqlite.specs.State.{HasCleanDisk, State}
use Rattle.sqlite.specs.Store.{Ghosts}
use Rattle.sqlite_trees.specs.View.{IsQuiet}
use Rattle.zeb_change.specs.declared.refusals.Refusal.{Refusal}
use Rattle.zeb_engine.specs.Adopting.{HasOtherTables}
use Rattle.zeb_engine.specs.Causes.{OnlyLooks}
use Rattle.zeb_engine.specs.Crashes.{AdoptLasts, Bears}
use Rattle.zeb_engine.specs.Taking.{GivesBack}
use Rattle.zeb_engine.specs.Transactions.{IsDurable}
use Rattle.zeb_image.specs.Holdings.{Holdings}
use Rattle.zeb_image.specs.Image.{Keeps}
use Rattle.zeb_paths.specs.Closing.{HasReason}
use Rattle.zeb_paths.specs.Walks.{Tells, telling_of}
use Rattle.zeb_paths.specs.declared.causes.Closed.{Closed}
use Rattle.zeb_paths.specs.declared.causes.PathCause.{PathCause}
use Rattle.zeb_paths.specs.declared.causes.StoreCause.{StoreCause}
use Rattle.zeb_paths.specs.declared.causes.StoreCause.TheVariants as store_cause
use Rattle.zeb_paths.specs.declared.paths.Asked.{Asked}
use Rattle.zeb_paths.specs.declared.paths.Paths as paths
use Rattle.zeb_paths.specs.Opened.{IsWellOpened}
use Rattle.zeb_profile.specs.declared.directives.Directive.{Directive}
use Rattle.zeb_profile.specs.Indexes.{store_path}
use Rattle.sqlite.specs.Tree.{Trees}
use Rattle.zeb_engine.specs.Readiness.{KeepsText}
use Rattle.zeb_register.specs.Formats.{Format, packed_blocks, packed_leaves, plain_rows, version_of}
use Rattle.zeb_register.specs.Store.{AreReadableTexts, IsStore}
use Rattle.zeb_register.specs.Tables.{store_schema}
use Rattle.zeb_words.specs.declared.words.LayoutChoice.{LayoutChoice}
use Rattle.zeb_words.specs.declared.words.LayoutChoice.TheVariants.{Leaves, Unsaid}
use Rattle.zeb_program.specs.FaultAnswers.{IsOpeningFailure, unopened_refusal}

-- What is known of the paths that a program is given: the bytes of files, what a walk over them sees behind a command, what may be told of why one isn't
-- read, by which connections the store at a path may be opened, where it may not be, where none may stand and where one may, which stores may be
-- let go that have met this, how one may be left at its path that was closed, and that none was opened: the paths are as they were.
pub record Places (S : Type 0) : Type 1 where
  pub store : Ghosts S
  pub tells : List ℕ → Option (List ℕ)
  pub sees : Tells
  pub explains : List ℕ → Asked → Option PathCause → Type 0
  pub opens : List ℕ → Held S → Type 0
  pub refuses : List ℕ → Option StoreCause → Type 0
  pub lacks : List ℕ → Type 0
  pub has : List ℕ → Type 0
  pub lets_go : Option StoreCause → S → Type 0
  pub leaves : Closed → S → Type 0
  pub untouched : Type 0

-- the same of paths that were these and are those, by what paths tell
abbrev pub places_of : {P R S : Type 0} → Ghosts S → paths.Ghosts P R S → (old new : P) → Places S
places_of store g old new = record {
  store = store;
  tells = g.tells old;
  sees = telling_of g new;
  explains = g.explains new;
  opens = g.opens old new;
  refuses = g.refuses old new;
  lacks = g.lacks old;
  has = g.has old;
  lets_go = g.lets_go new;
  leaves = g.leaves new;
  untouched = new ≡ old;
}

-- the store at the path that the profile names may be opened by this connection
abbrev pub OpensStore : {S : Type 0} → Places S → List Directive → Held S → Type 0
OpensStore at profile opened = (path : List ℕ) × (store_path profile ≡ Some path) × at.opens path opened

-- P is so of that path
abbrev pub AtStore : List Directive → (List ℕ → Type 0) → Type 0
AtStore profile P = (path : List ℕ) × (store_path profile ≡ Some path) × P path

-- no store may stand there
abbrev pub LacksStore : {S : Type 0} → Places S → List Directive → Type 0
LacksStore at profile = AtStore profile at.lacks

-- one may stand there
abbrev pub HasStore : {S : Type 0} → Places S → List Directive → Type 0
HasStore at profile = AtStore profile at.has

-- it was opened well, and has the tables of a register
abbrev pub IsOpenedRegister : State → Type 0
IsOpenedRegister s = IsWellOpened s × (s.now.schema ≡ store_schema)

-- The store of a connection is let go, which tells what it has met: an open finds then only what a crash before that would have left.
abbrev pub IsLetGo : {S : Type 0} → Ghosts S → (Option StoreCause → S → Type 0) → Option StoreCause → Held S → Type 0
IsLetGo {S} g lets_go met back = (left : S) × lets_go met left × IsQuiet g.view g.faults g.recovers g.is_shielded back.store left

-- A store isn't taken over for this failure: nothing of it has changed.
abbrev pub IsGivenBack : {S : Type 0} → Ghosts S → Held S → Held S → Refusal → Type 0
IsGivenBack g opened back why = IsOpeningFailure why × (HasCleanDisk (state g back) → GivesBack (state g opened) (state g back) why)

-- the tables keep the version of leaves, which can be read there
abbrev pub KeepsLeaves : Trees → Type 0
KeepsLeaves trees = KeepsText trees (codes "version") (version_of packed_leaves) × AreReadableTexts trees (codes "version")

-- A register is used in this format: in leaves where they are asked for, or where its tables keep their version; else in packed blocks.
abbrev pub UsedAs : LayoutChoice → State → Format → Type 0
UsedAs Leaves s format = format ≡ packed_leaves
UsedAs Unsaid s packed_leaves = IsTrue s.is_open → IsStore s → KeepsLeaves s.now.trees
UsedAs Unsaid s packed_blocks = IsTrue s.is_open → IsStore s → ¬ KeepsLeaves s.now.trees
UsedAs Unsaid s plain_rows = ⊥

-- a store is taken over: each register that it bore is kept, the tables of a register, whatever their rows, are those
-- of a store while it is open (`IsStore`), and a crash leaves what it left before, or the store of the register that
-- was there
pub record IsTakenOver {S : Type 0} (g : Ghosts S) (opened taken : Held S) : Type 0 where
  -- each register that it bore is kept
  pub keeps : (before : Holdings) → Bears (state g opened) before → Keeps (state g taken) before
  -- the tables of a register are in order, whatever rows they have; so what is said of a command on any tables is said of it
  pub store : IsOpenedRegister (state g opened) → IsTrue (state g taken).is_open → IsStore (state g taken)
  -- a crash leaves what it left before, or the store of the register that was there
  pub lasts : AdoptLasts (state g opened) (state g taken)

-- the store of this connection is closed so: it is left as the paths say, an open finds only what a crash before the
-- close leaves, and, where the connection was open, just what it showed; and where it isn't closed whole there is a
-- reason (`HasReason`)
pub record ClosesStore {S : Type 0} (g : Ghosts S) (leaves : Closed → S → Type 0) (last : Held S) (closed : Closed) : Type 0 where
  -- it is left as the paths say
  pub left : S
  pub stands : leaves closed left
  -- whether the close has failed or not, an open finds only what a crash before it leaves
  pub quiet : IsQuiet g.view g.faults g.recovers g.is_shielded last.store left
  -- and, where the connection was open, that is just what it showed
  pub durable : IsDurable (state g last)
  -- and where it isn't closed whole, something has kept it from that
  pub reason : HasReason g.view g.faults last.store left closed

-- this is told of why a store isn't taken over that was opened: that it has other tables than a register's; else what it has met, where that is known
abbrev pub IsForeignOr : State → Option StoreCause → Option StoreCause → Type 0
IsForeignOr s met cause = (HasOtherTables s → cause ≡ Some store_cause.Foreign) × (¬ HasOtherTables s → cause ≡ met)

abbrev failed_look : Refusal → Result Bool Refusal
failed_look why = Err why

-- nothing is done but a look, which fails so, and where the store fails it has a cause
abbrev pub FailsLook : State → State → Refusal → Type 0
FailsLook old new why = OnlyLooks old new (failed_look why)

-- all stands in the one file, and this is known of why the store may have failed
abbrev pub whole_but : Option StoreCause → Closed
whole_but met = record { is_whole = true; cause = met }

-- Why there is no register in the store at the profile's path, and how its store was closed, with what is known of the cause: it can't be opened; or it is
-- opened, isn't taken over, and is let go; or it is taken over, and closed, since a look at its version fails: nothing is done to it, and where the store
-- fails it has a cause.
pub data FailsOpening {S : Type 0} (at : Places S) (profile : List Directive) : Refusal → Closed → Type 0 where
  shut : {met : Option StoreCause} → (path : List ℕ) → store_path profile ≡ Some path → at.refuses path met → FailsOpening at profile (unopened_refusal met) (whole_but met)
  given_back : {why : Refusal} → {cause : Option StoreCause} → (opened : Held S) → (back : Held S) → (met : Option StoreCause) → OpensStore at profile opened
      → IsForeignOr (state at.store opened) met cause → IsGivenBack at.store opened back why → IsLetGo at.store at.lets_go met back → FailsOpening at profile why (whole_but cause)
  untold : {why : Refusal} → (closed : Closed) → (opened taken last : Held S) → OpensStore at profile opened → IsOpeningFailure why
      → (HasCleanDisk (state at.store last) → IsTakenOver at.store opened taken × FailsLook (state at.store taken) (state at.store last) why)
      → ClosesStore at.store at.leaves last closed → FailsOpening at profile why closed

-- The store at the profile's path is opened by this connection and taken over, and used in this format, at the end it is as the last one, and just
-- that one is closed. P is so from the one that was taken over to the last, if the disk has given back what was written.
pub record FromStore {S : Type 0} (at : Places S) (choice : LayoutChoice) (format : Format) (profile : List Directive) (closed : Closed) (P : Held S → Held S → Type 0) : Type 0 where
  pub opened : Held S
  pub taken : Held S
  pub last : Held S
  pub opens : OpensStore at profile opened
  pub takes : HasCleanDisk (state at.store last) → IsTakenOver at.store opened taken
  pub used : HasCleanDisk (state at.store last) → UsedAs choice (state at.store taken) format
  pub does : HasCleanDisk (state at.store last) → P taken last
  pub ends : ClosesStore at.store at.leaves last closed

-- where no store is opened none fails
abbrev pub nothing_met : Closed
nothing_met = record { is_whole = true; cause = None }

-- P is so of the store of the register that is begun with, where one may stand there or one is to be made; or, where none stands there and none is to
-- be made, Q is of one in memory that holds nothing yet, and is in packed blocks
pub data OnRegister {S : Type 0} (at : Places S) (choice : LayoutChoice) (format : Format) (profile : List Directive) (closed : Closed) (Makes : Type 0) (P : Held S → Held S → Type 0) (Q : Type 0) : Type 0 where
  kept : HasStore at profile ⊎ Makes → FromStore at choice format profile closed P → OnRegister at choice format profile closed Makes P Q
  none : format ≡ packed_blocks → LacksStore at profile → ¬ Makes → at.untouched → closed ≡ nothing_met → Q → OnRegister at choice format profile closed Makes P Q

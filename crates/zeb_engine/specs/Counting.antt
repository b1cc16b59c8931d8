-- What a stat answers of a set of occurrences: how many records a database has, the last number that it gave, and how many terms and
-- occurrences there are in each register of each index. Read with the bytes of all kept records, no register is looked into.
use Rattle.sqlite.specs.State.{State}
use Rattle.sqlite.specs.Tree.{Trees}
use Rattle.sqlite_rules.specs.Lists.{Has}
use Rattle.std.specs.Prelude.{◌≡◌, ℕ, zero, suc, List, [], ◌∷◌, ◌++◌, length, slice_get, unwrap_or, if◌then◌else◌, ℤ, pos, Result}
use Rattle.zeb_change.specs.Conditions.{Conditions}
use Rattle.zeb_change.specs.declared.refusals.Refusal.{Refusal}
use Rattle.zeb_engine.specs.Answers.{Answer, Extent, counted}
use Rattle.zeb_engine.specs.Asking.{IsSaidOrMissed, OfDatabase, Alone, Said}
use Rattle.zeb_engine.specs.Causes.{OnlyLooks}
use Rattle.zeb_engine.specs.Hidden.{UnlessHidden, HidesOf}
use Rattle.zeb_engine.specs.Readiness.{GoesByTexts}
use Rattle.zeb_engine.specs.declared.replies.Reply.{Reply}
use Rattle.zeb_keys.specs.declared.keys.Occurrence.{Occurrence}
use Rattle.zeb_keys.specs.declared.registers.Register.{Register}
use Rattle.zeb_keys.specs.declared.registers.Register.TheVariants.{Word, Phrase, Number}
use Rattle.zeb_profile.specs.Indexes.{has_pair, index_names}
use Rattle.zeb_profile.specs.declared.directives.Directive.{Directive}
use Rattle.zeb_register.specs.Content.{posted}
use Rattle.zeb_register.specs.Formats.{Format}
use Rattle.zeb_register.specs.Kept.{IsRecordCount}
use Rattle.zeb_register.specs.Occurring.{AreTotals}
use Rattle.zeb_register.specs.Terms.{HidesSums, SumsUp}

-- ---- the registers of a profile

-- an index by its number, and one of its registers
abbrev pub Target : Type 0
Target = ℕ × Register

-- the register alone where some line has it as a target, and else none
abbrev pub target_in : List Directive → ℕ → Register → List Target
target_in profile index register = if has_pair profile (index, register) then (index, register) ∷ [] else []

abbrev pub targets_of_index : List Directive → ℕ → List Target
targets_of_index profile index = target_in profile index Word ++ (target_in profile index Phrase ++ target_in profile index Number)

-- the registers of the indexes below a number that some line has as a target
abbrev pub targets_below : List Directive → ℕ → List Target
targets_below profile zero = []
targets_below profile (suc index) = targets_below profile index ++ targets_of_index profile index

-- the registers that some line has as a target, by the number of the index and then words, phrases and numbers
abbrev pub target_list : List Directive → List Target
target_list profile = targets_below profile (length (index_names profile))

-- the name of an index that there is
abbrev pub name_of_index : List Directive → ℕ → List ℕ
name_of_index profile index = unwrap_or (slice_get (index_names profile) index) []

-- ---- all registers

-- each of the one list and the one that stands there in the other are P, and the lists are equally long
abbrev pub Paired : {X Y : Type 0} → (P : X → Y → Type 0) → List X → List Y → Type 0
Paired P [] [] = Unit {0}
Paired P [] (y ∷ ys) = ⊥
Paired P (x ∷ xs) [] = ⊥
Paired P (x ∷ xs) (y ∷ ys) = P x y × Paired P xs ys

module _ (profile : List Directive) where
  -- the extent stands under the name of its index and has its register
  pub record IsUnder (target : Target) (extent : Extent) : Type 0 where
    pub name : extent.name ≡ name_of_index profile target.0
    pub register : extent.register ≡ target.1

  -- the answer has this number of records, this last number, and in their order an extent for each register that the profile names, as
  -- `IsSized` tells it
  abbrev pub IsCountedBy : (IsSized : Target → Extent → Type 0) → (records last : ℕ) → Answer → Type 0
  IsCountedBy IsSized records last answer = (extents : List Extent) × Paired IsSized (target_list profile) extents × (answer ≡ counted records last extents)

module _ (O : ℕ → Occurrence → Type 0) (profile : List Directive) where
  -- how much is there, under the name of the index; a number is the greatest of 64 bits where it would be above that
  pub record IsExtent (target : Target) (extent : Extent) : Type 0 where
    pub under : IsUnder profile target extent
    pub totals : AreTotals O target.0 target.1 (record { terms = extent.terms; occurrences = extent.occurrences })

  -- a stat over a set of occurrences answers this number of records, this last number, and the totals of each register that the profile
  -- names, capped where they are above the greatest number of 64 bits
  abbrev pub IsCounted : (records last : ℕ) → Answer → Type 0
  IsCounted = IsCountedBy profile IsExtent

-- ---- a command on any tables of a store

-- what a stat answers by the postings: how many records the table of records has of the database, its last number, which is 0 or more,
-- and the totals of each register that the profile names
abbrev pub StatSays : List Directive → Said
StatSays profile trees content db last answer =
    (kept : ℕ) × (given : ℕ) × IsRecordCount trees db kept × (last ≡ pos given) × IsCounted (posted content db) profile kept given answer

-- the extent stands under the name of its index, and is what the counts and units of its register sum up to
pub record IsSummedUp (format : Format) (profile : List Directive) (trees : Trees) (db : ℤ) (target : Target) (extent : Extent) : Type 0 where
  pub under : IsUnder profile target extent
  pub sums : SumsUp format trees db target.0 target.1 (record { terms = extent.terms; occurrences = extent.occurrences })

-- the database's records are counted, and its last number is told, with the sums of each register that the profile names
abbrev pub StatTells : Format → List Directive → Trees → OfDatabase
StatTells format profile trees db last answer =
    (kept : ℕ) × (given : ℕ) × IsRecordCount trees db kept × (last ≡ pos given) × IsCountedBy profile (IsSummedUp format profile trees db) kept given answer

-- on any tables a stat is refused for want of the database, or answered by the number of its records, its last number and the sums of
-- each register that the profile names
abbrev pub StatOver : Format → List Directive → (name : List ℕ) → Trees → Answer → Type 0
StatOver format profile name trees = IsSaidOrMissed (StatTells format profile trees) name trees

-- the sums of one of these registers can't be shown
abbrev pub HidesRegister : Format → List Target → Trees → (db : ℤ) → Type 0
HidesRegister format targets trees db =
    (target : Target) × Has targets target × HidesSums format trees db target.0 target.1

-- so it is of one of the registers that the profile names
abbrev pub HidesRegisters : Format → List Directive → (name : List ℕ) → Trees → Type 0
HidesRegisters format profile name trees = HidesOf (HidesRegister format (target_list profile) trees) name trees

-- what a stat does on any tables of a store: it changes nothing, goes by the texts of the store, is answered by the postings where the
-- tables hold a content, and of a ready register tells damage only where its last number or one of its sums can't be shown
pub record StatDoes (format : Format) (c : Conditions) (name : List ℕ) (old new : State) (answer : Result Reply Refusal) : Type 0 where
  pub looks : OnlyLooks old new answer
  pub ready : GoesByTexts c.version c.profile old answer
  pub alone : Alone format (StatSays c.profile) name old answer
  -- it is refused as damage only where the row of the name can't be read, or the sums of one of the registers of its profile can't be shown
  pub told : UnlessHidden c.version c.profile (StatOver format c.profile name) (HidesRegisters format c.profile name) old answer

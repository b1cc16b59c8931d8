-- A change on any tables of a store: what it finds kept under the identifiers of its records, why it is refused, and what it leaves.
use Rattle.sqlite.specs.State.{State}
use Rattle.sqlite.specs.Tree.{Trees}
use Rattle.sqlite.specs.declared.types.Value.TheVariants.{Int}
use Rattle.sqlite_rules.specs.Lists.{Has}
use Rattle.std.specs.List.{flat_map}
use Rattle.std.specs.Prelude.{◌≡◌, ◌⊎◌, ◌≢◌, ◌∷◌, ◌≤◌, [], IfErr, List, None, OnOk, Result, length, pos, ℕ, ℤ}
use Rattle.zeb_change.specs.Conditions.{Conditions}
use Rattle.zeb_change.specs.Elders.{FirstFindsWhole, IsWhole, KeepsAside, KeepsWhole}
use Rattle.zeb_change.specs.Folding.{splits_of}
use Rattle.zeb_change.specs.Reasons.{IsNamed, IsRefusedAt, NamesAny}
use Rattle.zeb_change.specs.Refused.{IsFailing, why_of}
use Rattle.zeb_change.specs.declared.refusals.Refusal.{Refusal}
use Rattle.zeb_change.specs.declared.refusals.Refusal.TheVariants.{Damaged}
use Rattle.zeb_change.specs.declared.settings.Kind.{Kind}
use Rattle.zeb_change.specs.declared.settings.Kind.TheVariants.{Update}
use Rattle.zeb_change.specs.declared.settings.Limits.{Limits}
use Rattle.zeb_engine.specs.Answers.{no_database}
use Rattle.zeb_engine.specs.Readiness.{GoesByTexts, IsReadyFor}
use Rattle.zeb_engine.specs.declared.replies.Reply.{Reply}
use Rattle.zeb_marc.specs.Splits.{Split}
use Rattle.zeb_profile.specs.declared.directives.Directive.{Directive}
use Rattle.zeb_register.specs.Catalog.{IsDatabaseOf, PutsDatabase}
use Rattle.zeb_register.specs.Formats.{Format, version_of}
use Rattle.zeb_register.specs.Sound.{KeepsRowsBeside, keeps_malformed}
use Rattle.zeb_register.specs.Store.{HasDatabase, HasRecord, IsStore, databases_tree, meta_tree}

-- Of the database that has the name: what it keeps under the identifier of the first record of all these files is whole, or the change is
-- refused as damage, or because the store or the memory failed.
abbrev pub ElderOver : {T : Type 0} → List Directive → (name : List ℕ) → (texts : List (List ℕ)) → Trees → Result T Refusal → Type 0
ElderOver profile name texts trees result =
    (id last : ℤ) → HasDatabase trees id name last → FirstFindsWhole profile trees id (splits_of texts) result

-- the files have no more records than a command may have
abbrev pub AreFewRecords : Limits → (texts : List (List ℕ)) → Type 0
AreFewRecords limits texts = length (flat_map (λ (split : Split). split.slices) (splits_of texts)) ≤ limits.records

-- what a database keeps under the identifier of any record of these files, under whatever number, is whole
abbrev pub EachFindsWhole : List Directive → (texts : List (List ℕ)) → Trees → ℤ → Type 0
EachFindsWhole profile texts trees id = (split : Split) → Has (splits_of texts) split → (slice : List ℕ) → Has split.slices slice
    → (ident : List ℕ) → IsNamed profile slice ident → KeepsWhole profile trees id ident

-- Where the change is accepted: the files have no more records than a command may have; and of the database that has the name, the last
-- number is one of 0 or more, and what it keeps under the identifier of any record of these files is whole.
abbrev pub EldersOver : {T : Type 0} → List Directive → Limits → (name : List ℕ) → (texts : List (List ℕ)) → Trees → Result T Refusal → Type 0
EldersOver profile limits name texts trees result = OnOk result (AreFewRecords limits texts
    × ((id last : ℤ) → HasDatabase trees id name last → (given : ℕ) × (last ≡ pos given) × EachFindsWhole profile texts trees id))

-- the database of the name has this id and this last number; or no database has the name, the change is an update, which makes one, and
-- this last number is 0
abbrev pub IsOrBecomes : Kind → Trees → (name : List ℕ) → (id : ℤ) → (last : ℕ) → Type 0
IsOrBecomes kind trees name id last =
    HasDatabase trees id name (pos last) ⊎ ((kind ≡ Update) × IsDatabaseOf trees name None × (last ≡ 0))

-- A delete is refused for want of the database; or the change is refused at some place of its files for a reason that stands there, or that
-- the limits give, and what was kept under the identifiers of all records before it was whole.
abbrev pub HasReason : List Directive → Kind → Limits → (name : List ℕ) → (texts : List (List ℕ)) → Trees → Refusal → Type 0
HasReason profile kind limits name texts trees refusal =
    ((kind ≢ Update) × IsDatabaseOf trees name None × (why_of refusal ≡ no_database name))
    ⊎ ((id : ℤ) × (last : ℕ) × IsOrBecomes kind trees name id last × IsRefusedAt profile kind limits last 0 trees id (splits_of texts) refusal)

-- refused, but for damage and a failure, it has such a reason
abbrev pub ReasonsOver : {T : Type 0} → List Directive → Kind → Limits → (name : List ℕ) → (texts : List (List ℕ)) → Trees → Result T Refusal
    → Type 0
ReasonsOver profile kind limits name texts trees result =
    IfErr result (λ refusal. HasReason profile kind limits name texts trees refusal ⊎ ((refusal ≡ Damaged) ⊎ IsFailing (why_of refusal)))

-- what is said of a change on the tables of a store that keep the session's version and profile: of its first record's elder
-- (`ElderOver`); of how many records it has, the last number and all its elders, where it is accepted (`EldersOver`); and of why it is
-- refused (`ReasonsOver`)
abbrev pub ChangesReady : {T : Type 0} → (version : List ℕ) → List Directive → Kind → Limits → (name : List ℕ) → (texts : List (List ℕ)) → State
    → Result T Refusal → Type 0
ChangesReady version profile kind limits name texts s result =
    IsStore s → IsReadyFor version profile s.now.trees
    → ElderOver profile name texts s.now.trees result × EldersOver profile limits name texts s.now.trees result
    × ReasonsOver profile kind limits name texts s.now.trees result

-- each record under this id, with a number of 0 or more, has one that a database with this last number can have given: from 1 to the last
abbrev pub HasNumbersTo : (last : ℕ) → Trees → ℤ → Type 0
HasNumbersTo last trees id = (n : ℕ) (ident bytes : List ℕ) → HasRecord trees id (pos n) ident bytes → (1 ≤ n) × (n ≤ last)

-- each record that the database kept, under whatever number, was whole or is kept after just as it was
abbrev pub LosesWhole : List Directive → ℤ → (old new : Trees) → Type 0
LosesWhole profile id old new = (sysno : ℤ) (ident bytes : List ℕ) → HasRecord old id sysno ident bytes
    → IsWhole profile sysno ident bytes ⊎ HasRecord new id sysno ident bytes

-- What an accepted change leaves. The tables are a store's still. The change is one of the database that has the name, or of one that an
-- update has made for it, whose records had numbers that it can have given; no other row of the databases is changed, and its last number
-- doesn't fall. No record of it is lost but whole ones, and nothing is changed under another id. Each text is as it was. Under the layout that
-- has this version, what is malformed in the registers is so still: each such row, or in leaves, where a row is of many keys, each such unit.
pub record LeavesRows (version : List ℕ) (profile : List Directive) (kind : Kind) (name : List ℕ) (old : Trees) (new : State) : Type 0 where
  pub store : IsStore new
  pub id : ℤ
  pub last : ℕ
  pub after : ℕ
  pub was : IsOrBecomes kind old name id last
  pub numbers : HasNumbersTo last old id
  pub rises : last ≤ after
  pub databases : PutsDatabase id name (pos after) databases_tree old new.now.trees
  pub loses : LosesWhole profile id old new.now.trees
  pub aside : KeepsAside id old new.now.trees
  pub beside : KeepsRowsBeside (Int id ∷ []) old new.now.trees
  pub texts : new.now.trees meta_tree ≡ old meta_tree
  pub malformed : (format : Format) → version ≡ version_of format → keeps_malformed format old new.now.trees

-- all this, of an accepted change on the tables of a store
abbrev pub LeavesWhole : {T : Type 0} → (version : List ℕ) → List Directive → Kind → (name : List ℕ) → (old new : State) → Result T Refusal → Type 0
LeavesWhole version profile kind name old new result = IsStore old → OnOk result (LeavesRows version profile kind name old.now.trees new)

-- Of the database that has the name: each record that it kept, under whatever number, is kept after just as it was, or a record of these
-- files has its identifier.
abbrev pub LosesNamedOver : List Directive → (name : List ℕ) → (texts : List (List ℕ)) → (old new : Trees) → Type 0
LosesNamedOver profile name texts old new = (id last : ℤ) → HasDatabase old id name last
    → (sysno : ℤ) (ident bytes : List ℕ) → HasRecord old id sysno ident bytes
    → HasRecord new id sysno ident bytes ⊎ NamesAny profile (flat_map (λ (split : Split). split.slices) (splits_of texts)) ident

-- this too, of an accepted change on the tables of a store
abbrev pub LosesNamed : {T : Type 0} → List Directive → (name : List ℕ) → (texts : List (List ℕ)) → (old new : State) → Result T Refusal → Type 0
LosesNamed profile name texts old new result = IsStore old → OnOk result (LosesNamedOver profile name texts old.now.trees new.now.trees)

-- what a change by files does on any tables of a store: which texts of the store refuse it, which elders it finds whole, why else it is
-- refused, and what it leaves and loses once it is accepted
pub record ChangeDoes (c : Conditions) (kind : Kind) (name : List ℕ) (texts : List (List ℕ)) (old new : State) (answer : Result Reply Refusal) : Type 0 where
  pub ready : GoesByTexts c.version c.profile old answer
  -- It finds what is kept under its first record's identifier whole, or is refused as damage or by a failure. Accepted, it has found so what is
  -- kept under each record's, of no more records than it may have. Any other refusal has a reason that its files and the limits give.
  pub told : ChangesReady c.version c.profile kind c.limits name texts old answer
  -- Accepted, it loses none of its database's records but whole ones, and the last number doesn't fall. The records that were kept had numbers
  -- that the database can have given. Each text is as it was, and so are all rows under other ids, and what is malformed in the registers.
  pub leaves : LeavesWhole c.version c.profile kind name old new answer
  -- and it loses records only under identifiers that records of its files have
  pub loses : LosesNamed c.profile name texts old new answer

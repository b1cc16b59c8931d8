-- A reindex on any tables of a store: by which texts it is refused before it begins, what it goes by, and what it leaves.
use Rattle.sqlite.specs.State.{State}
use Rattle.sqlite.specs.Tree.{Trees}
use Rattle.std.specs.Option.{option_map}
use Rattle.std.specs.Prelude.{◌≡◌, ◌⊎◌, Err, IsErrAnd, List, Ok, OnOk, Result, Some, codes, ℕ}
use Rattle.zeb_change.specs.Base.{Base}
use Rattle.zeb_change.specs.Conditions.{Conditions}
use Rattle.zeb_change.specs.declared.refusals.Refusal.{Refusal}
use Rattle.zeb_change.specs.declared.refusals.Refusal.TheVariants.{Damaged, IdentifierRuleChanged, Memory, NotInitialised, OldFormat, Store}
use Rattle.zeb_engine.specs.Answers.{IsFailure, answer_of}
use Rattle.zeb_engine.specs.Readiness.{KeepsText, HidesText}
use Rattle.zeb_engine.specs.declared.replies.Reply.{Reply}
use Rattle.zeb_engine.specs.declared.replies.Reply.TheVariants.{Done}
use Rattle.zeb_image.specs.Holdings.{under}
use Rattle.zeb_image.specs.Image.{AreBases, AreListsOf, IsImageOf, Keeps}
use Rattle.zeb_image.specs.Rebuilding.{AreReadableLists, AreSound}
use Rattle.zeb_profile.specs.Canonical.{canonical_text, pattern_text}
use Rattle.zeb_profile.specs.Indexes.{identifier_pattern}
use Rattle.zeb_profile.specs.declared.directives.Directive.{Directive}
use Rattle.zeb_register.specs.Formats.{Format, version_of}
use Rattle.zeb_register.specs.Sql.{Replaces}
use Rattle.zeb_register.specs.Store.{AreReadableTexts, IsEntryOf, IsStore, databases_tree, entry, meta_tree, records_tree}

abbrev pub KeepsRule : List Directive → Trees → Type 0
KeepsRule profile trees =
    (pattern : List ℕ) × (option_map pattern_text (identifier_pattern profile) ≡ Some pattern) × KeepsText trees (codes "identifier") pattern

-- the store keeps this version and this profile's rule for identifiers, and the rule that it keeps can be read
pub record IsReadyToReindex (version : List ℕ) (profile : List Directive) (trees : Trees) : Type 0 where
  pub has_version : KeepsText trees (codes "version") version
  pub has_rule : KeepsRule profile trees
  pub readable : AreReadableTexts trees (codes "identifier")

-- Over which texts a reindex is refused so before it begins. Each case leaves no other, but a failure of the store or of memory.
abbrev pub RefusesReindex : List ℕ → List Directive → Trees → Refusal → Type 0
RefusesReindex version profile trees NotInitialised = (text : List ℕ) → ¬ KeepsText trees (codes "version") text
RefusesReindex version profile trees OldFormat =
    ((text : List ℕ) × KeepsText trees (codes "version") text) × (¬ KeepsText trees (codes "version") version)
    × AreReadableTexts trees (codes "version")
RefusesReindex version profile trees IdentifierRuleChanged =
    KeepsText trees (codes "version") version × (¬ KeepsRule profile trees) × AreReadableTexts trees (codes "identifier")
RefusesReindex version profile trees Damaged = HidesText version (codes "identifier") trees
RefusesReindex version profile trees Store = Unit {0}
RefusesReindex version profile trees Memory = Unit {0}
RefusesReindex version profile trees other = ⊥

-- The kept records of listed databases can be indexed under the profile, as far as what is told: accepted, each is one and has its
-- identifier; refused for damage, one isn't, or a row of the lists can't be read; and there is no other answer, but a failure.
abbrev pub TellsSound : List Directive → Trees → Result Reply Refusal → Type 0
TellsSound profile trees result =
    (AreSound profile trees × (result ≡ Ok Done))
    ⊎ ((¬ (AreReadableLists trees × AreSound profile trees) × (result ≡ Err Damaged)) ⊎ IsFailure (answer_of result))

-- of a reindex, on the tables of a store: their texts refuse it, or it goes by the kept records, whatever the registers hold
abbrev pub ReindexesTables : List ℕ → List Directive → State → Result Reply Refusal → Type 0
ReindexesTables version profile s result = IsStore s →
    IsErrAnd result (RefusesReindex version profile s.now.trees)
    ⊎ (IsReadyToReindex version profile s.now.trees × TellsSound profile s.now.trees result)

-- What a reindex makes of the tables of a store, whatever the registers held: the rows of databases and of records stay, and each text but
-- the profile's, in whose place the session's is. Where the lists are those of databases that can be held under this profile, the tables
-- are then their image under it.
pub record IsRemade (format : Format) (profile : List Directive) (old new : Trees) : Type 0 where
  pub databases : new databases_tree ≡ old databases_tree
  pub records : new records_tree ≡ old records_tree
  pub texts : Replaces (IsEntryOf (codes "profile")) (entry (codes "profile") (canonical_text profile)) meta_tree old new
  pub image : (bases : List Base) → AreListsOf old bases → AreBases profile bases → IsImageOf format profile new bases

-- the lists are those of databases that can be held under the profile, and there is no text of a fourth name
pub record CanBeRemade (profile : List Directive) (trees : Trees) (bases : List Base) : Type 0 where
  pub lists : AreListsOf trees bases
  pub are : AreBases profile bases
  pub named : (name text : List ℕ) → KeepsText trees name text → (name ≡ codes "version") ⊎ ((name ≡ codes "profile") ⊎ (name ≡ codes "identifier"))

-- of an accepted reindex, on the tables of a store, whatever the registers held
abbrev pub ReindexLeaves : Format → List Directive → State → State → Type 0
ReindexLeaves format profile old new = IsStore old →
    IsStore new × IsRemade format profile old.now.trees new.now.trees
    × ((bases : List Base) → CanBeRemade profile old.now.trees bases → Keeps new (under (version_of format) (canonical_text profile) bases))

-- what a reindex does on any tables of a store, whatever the registers hold: it goes by the texts and by the kept records, and once it
-- is accepted leaves the lists and each text but the profile's, with registers of these lists
pub record ReindexDoes (format : Format) (c : Conditions) (old new : State) (answer : Result Reply Refusal) : Type 0 where
  -- it goes by the texts and by the kept records, whatever the registers hold
  pub told : ReindexesTables c.version c.profile old answer
  -- accepted, it leaves the lists and each text but the profile's, and registers of these lists
  pub leaves : OnOk answer (ReindexLeaves format c.profile old new)

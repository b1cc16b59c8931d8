-- An upgrade on any tables of a store: it takes this version and the earlier ones.
use Rattle.sqlite.specs.State.{State}
use Rattle.sqlite.specs.Tree.{Trees}
use Rattle.std.specs.Prelude.{◌≡◌, ◌⊎◌, IsErrAnd, IsTrue, List, Ok, OnOk, Result, codes, ℕ}
use Rattle.zeb_change.specs.Conditions.{Conditions}
use Rattle.zeb_change.specs.declared.refusals.Refusal.{Refusal}
use Rattle.zeb_change.specs.declared.refusals.Refusal.TheVariants.{Damaged, Memory, NotInitialised, OldFormat, ProfileChanged, Store}
use Rattle.zeb_engine.specs.Answers.{IsFailure, answer_of}
use Rattle.zeb_engine.specs.Checking.{TellsImage}
use Rattle.zeb_engine.specs.Readiness.{IsReadyFor, KeepsText}
use Rattle.zeb_engine.specs.Versions.{is_earlier, is_taken}
use Rattle.zeb_engine.specs.declared.replies.Reply.{Reply}
use Rattle.zeb_engine.specs.declared.replies.Reply.TheVariants.{Done}
use Rattle.zeb_profile.specs.Canonical.{canonical_text}
use Rattle.zeb_profile.specs.declared.directives.Directive.{Directive}
use Rattle.zeb_register.specs.Calls.{ChangesNothing}
use Rattle.zeb_register.specs.Store.{AreReadableTexts, IsStore}

-- the store keeps this version or an earlier one
abbrev pub KeepsUpgradable : List ℕ → Trees → Type 0
KeepsUpgradable version trees = (kept : List ℕ) × IsTrue (is_taken kept version) × KeepsText trees (codes "version") kept

-- over which texts an upgrade is refused so before it begins, in the same way
abbrev pub RefusesUpgrade : List ℕ → List Directive → Trees → Refusal → Type 0
RefusesUpgrade version profile trees NotInitialised = (text : List ℕ) → ¬ KeepsText trees (codes "version") text
RefusesUpgrade version profile trees OldFormat =
    ((text : List ℕ) × KeepsText trees (codes "version") text) × (¬ KeepsUpgradable version trees) × AreReadableTexts trees (codes "version")
RefusesUpgrade version profile trees ProfileChanged =
    KeepsUpgradable version trees × (¬ KeepsText trees (codes "profile") (canonical_text profile)) × AreReadableTexts trees (codes "profile")
RefusesUpgrade version profile trees Damaged =
    (¬ AreReadableTexts trees (codes "version")) ⊎ (KeepsUpgradable version trees × ¬ AreReadableTexts trees (codes "profile"))
RefusesUpgrade version profile trees Store = Unit {0}
RefusesUpgrade version profile trees Memory = Unit {0}
RefusesUpgrade version profile trees other = ⊥

-- Of an upgrade, on the tables of a store: their texts refuse it, or they keep the session's version, and nothing is to do, or they keep
-- an earlier one, and it goes by all tables.
abbrev pub UpgradesTables : List ℕ → List Directive → State → Result Reply Refusal → Type 0
UpgradesTables version profile s result = IsStore s →
    IsErrAnd result (RefusesUpgrade version profile s.now.trees)
    ⊎ ((IsReadyFor version profile s.now.trees × (result ≡ Ok Done))
    ⊎ ((earlier : List ℕ) × IsTrue (is_earlier earlier version) × IsReadyFor earlier profile s.now.trees × TellsImage s.now.trees result))

-- Of an upgrade, on the tables of a store that keep the session's version and profile already, whatever else they hold: it is accepted, or
-- the store or the memory fails, and nothing changes.
abbrev pub StaysUpgraded : List ℕ → List Directive → State → State → Result Reply Refusal → Type 0
StaysUpgraded version profile old new result = IsStore old → IsReadyFor version profile old.now.trees →
    ChangesNothing old new × ((result ≡ Ok Done) ⊎ IsFailure (answer_of result))

-- of an accepted upgrade: the tables of a store are a store's still
abbrev pub UpgradeLeaves : State → State → Type 0
UpgradeLeaves old new = IsStore old → IsStore new

-- what an upgrade does on any tables of a store: it goes by the texts, and of an earlier version tells whether the tables are an image;
-- of the session's version it changes nothing; and once it is accepted the tables are a store's still
pub record UpgradeDoes (c : Conditions) (old new : State) (answer : Result Reply Refusal) : Type 0 where
  -- it goes by the texts, and of an earlier version tells of all tables whether they are an image
  pub told : UpgradesTables c.version c.profile old answer
  -- a register of the session's version has nothing to upgrade, whatever its other tables hold
  pub stays : StaysUpgraded c.version c.profile old new answer
  -- accepted, it leaves the tables of a store
  pub leaves : OnOk answer (UpgradeLeaves old new)

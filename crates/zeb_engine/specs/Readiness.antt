-- Whether a register is ready for a session, by the texts that the store keeps of it, whatever its other tables hold.
use Rattle.std.specs.Prelude.{◌⊎◌, ◌↔◌, ℕ, Bool, List, MatchResult, Result, IsTrue, codes}
use Rattle.sqlite.specs.Tree.{Trees}
use Rattle.sqlite.specs.State.{State}
use Rattle.zeb_profile.specs.declared.directives.Directive.{Directive}
use Rattle.zeb_profile.specs.Canonical.{canonical_text}
use Rattle.zeb_register.specs.Sql.{HasRow}
use Rattle.zeb_register.specs.Store.{AreReadableTexts, IsStore, entry, meta_tree}
use Rattle.zeb_change.specs.declared.refusals.Refusal.{Refusal}
use Rattle.zeb_change.specs.declared.refusals.Refusal.TheVariants.{NotInitialised, OldFormat, ProfileChanged, Damaged, ReadFault, Store, Memory}

-- this text is kept under this name
abbrev pub KeepsText : Trees → List ℕ → List ℕ → Type 0
KeepsText trees name text = HasRow trees meta_tree (entry name text)

-- whether this text is kept under this name, where what is kept can be read
abbrev pub TellsText : List ℕ → List ℕ → Trees → Bool → Type 0
TellsText name text trees it = (IsTrue it ↔ KeepsText trees name text) × AreReadableTexts trees name

-- over which tables a text of this name isn't told
abbrev pub RefusesText : List ℕ → Trees → Refusal → Type 0
RefusesText name trees Damaged = ¬ AreReadableTexts trees name
RefusesText name trees Store = Unit {0}
RefusesText name trees Memory = Unit {0}
RefusesText name trees other = ⊥

-- the register has this version, and was initialised under this profile
pub record IsReadyFor (version : List ℕ) (profile : List Directive) (trees : Trees) : Type 0 where
  pub has_version : KeepsText trees (codes "version") version
  pub has_profile : KeepsText trees (codes "profile") (canonical_text profile)

-- One of two texts can't be read: that of the version, or, where this version is kept, the one of this name.
abbrev pub HidesText : List ℕ → List ℕ → Trees → Type 0
HidesText version name trees =
    (¬ AreReadableTexts trees (codes "version")) ⊎ (KeepsText trees (codes "version") version × ¬ AreReadableTexts trees name)

-- Over which texts a command is refused so: no version is kept; one is, and not this one; this one is, and not this profile; one of these
-- texts can't be read, or they are those of a register that is ready, and damage is found behind them. Each of these leaves no other. A
-- failure of the store, of memory or of a reader tells nothing of the texts; with any other refusal the register is ready.
abbrev pub IsRefusedOver : List ℕ → List Directive → Trees → Refusal → Type 0
IsRefusedOver version profile trees NotInitialised = (text : List ℕ) → ¬ KeepsText trees (codes "version") text
IsRefusedOver version profile trees OldFormat =
    ((text : List ℕ) × KeepsText trees (codes "version") text) × (¬ KeepsText trees (codes "version") version)
    × AreReadableTexts trees (codes "version")
IsRefusedOver version profile trees ProfileChanged =
    KeepsText trees (codes "version") version × (¬ KeepsText trees (codes "profile") (canonical_text profile))
    × AreReadableTexts trees (codes "profile")
IsRefusedOver version profile trees Damaged = HidesText version (codes "profile") trees ⊎ IsReadyFor version profile trees
IsRefusedOver version profile trees (ReadFault file) = Unit {0}
IsRefusedOver version profile trees Store = Unit {0}
IsRefusedOver version profile trees Memory = Unit {0}
IsRefusedOver version profile trees other = IsReadyFor version profile trees

-- on any tables of a store: where a command is accepted, the store keeps this version and the canonical text of this profile; where it
-- is refused, the store's texts are such that it may be refused so (`IsRefusedOver`)
abbrev pub GoesByTexts : {T : Type 0} → List ℕ → List Directive → State → Result T Refusal → Type 0
GoesByTexts version profile s result =
    IsStore s → MatchResult result (λ _. IsReadyFor version profile s.now.trees) (IsRefusedOver version profile s.now.trees)

-- on the tables of a store: a call tells whether they keep this version, and what they keep as one can be read; or it is refused as
-- damage, and that can't be read; or the store or the memory failed
abbrev pub TellsVersion : List ℕ → State → Result Bool Refusal → Type 0
TellsVersion version s result =
    IsStore s → MatchResult result (TellsText (codes "version") version s.now.trees) (RefusesText (codes "version") s.now.trees)

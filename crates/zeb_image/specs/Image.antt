-- The tables as the image of what a register holds. It is said of tables that obey the store's schema: they have the rows that follow from
-- it, and no others, whatever their rowids.
use Rattle.std.specs.Prelude.{◌≡◌, ◌≢◌, ◌↔◌, ◌⊎◌, ℕ, ℤ, pos, List, codes, Some, IsTrue, IsUtf8}
use Rattle.std.specs.List.{Contains}
use Rattle.std.specs.Option.{option_map}
use Rattle.std.specs.Ordering.{nat_cmp}
use Rattle.std.specs.Cmp.Lexicographic.{slice_cmp}
use Rattle.std.specs.List.Sorted.{IsStrictlySortedBy}
use Rattle.sqlite.specs.Tree.{Trees}
use Rattle.sqlite.specs.State.{State}
use Rattle.zeb_profile.specs.declared.directives.Directive.{Directive}
use Rattle.zeb_profile.specs.Indexes.{identifier_pattern}
use Rattle.zeb_profile.specs.Canonical.{canonical_text, pattern_text}
use Rattle.zeb_profile.specs.Laws.{IsProfile}
use Rattle.zeb_register.specs.Sql.{HasRow}
use Rattle.zeb_register.specs.Store.{IsStore, HasDatabase, LacksLists, LacksRegisters, entry, meta_tree}
use Rattle.zeb_image.specs.Names.{IsDatabaseName}
use Rattle.zeb_change.specs.Stored.{IsBase, AreKept, ArePosted}
use Rattle.zeb_image.specs.Holdings.{Holdings, nothing_yet, under}
use Rattle.zeb_change.specs.Base.{Base, Kept}
use Rattle.zeb_register.specs.Content.{Content}
use Rattle.zeb_register.specs.Formats.{Format, holds_in, version_of}

-- ---- what can be held

-- databases that can be held under this profile: their names rise and are names of databases, and each has records that can be held
-- (`IsBase`)
pub record AreBases (profile : List Directive) (bases : List Base) : Type 0 where
  pub rising : IsStrictlySortedBy (λ (a b : Base). slice_cmp nat_cmp a.name b.name) bases
  pub each : (base : Base) → Contains bases base → IsBase profile base
  pub named : (base : Base) → Contains bases base → IsDatabaseName base.name

-- ---- the tables of the lists

-- the texts of the store: three, each of UTF-8
pub record HasTexts (trees : Trees) (version text pattern : List ℕ) : Type 0 where
  pub readable : IsUtf8 version × IsUtf8 text × IsUtf8 pattern
  pub each : (name value : List ℕ) → HasRow trees meta_tree (entry name value)
      ↔ (((name ≡ codes "version") × (value ≡ version)) ⊎ (((name ≡ codes "profile") × (value ≡ text)) ⊎ ((name ≡ codes "identifier") × (value ≡ pattern))))

-- the rows of databases under some ids
abbrev pub AreListed : Trees → List Base → (List ℕ → ℤ) → Type 0
AreListed trees bases id_of = (id : ℤ) (name : List ℕ) (last : ℤ) → HasDatabase trees id name last
    ↔ ((base : Base) × Contains bases base × (id ≡ id_of base.name) × (name ≡ base.name) × (last ≡ pos base.last))

-- under some ids, a different one for each name: the rows of the databases and of their records, and no others, whatever the registers hold
pub record AreListsOf (trees : Trees) (bases : List Base) : Type 0 where
  pub id_of : List ℕ → ℤ
  pub records_of : ℤ → List Kept
  pub distinct : (a b : Base) → Contains bases a → Contains bases b → id_of a.name ≡ id_of b.name → a.name ≡ b.name
  pub listed : AreListed trees bases id_of
  pub of_base : (base : Base) → Contains bases base → records_of (id_of base.name) ≡ base.records
  pub of_none : (id : ℤ) → ((base : Base) → Contains bases base → id ≢ id_of base.name) → (kept : Kept) → ¬ Contains (records_of id) kept
  pub kept : AreKept trees records_of

-- ---- all tables

-- all tables but the texts: they have the databases, their records and just the postings of these in a format and
-- under a profile, and no others
pub record IsImageOf (format : Format) (profile : List Directive) (trees : Trees) (bases : List Base) : Type 0 where
  pub lists : AreListsOf trees bases
  pub content : Content
  pub held : holds_in format trees content
  pub posted : ArePosted profile lists.records_of content

-- the tables of a register of this version and under this profile. The version is that of a format, so a register of
-- an unknown version is no image
pub record IsImageUnder (profile : List Directive) (trees : Trees) (version text : List ℕ) (bases : List Base) : Type 0 where
  pub sound : ∥ IsProfile profile ∥₁
  pub text_is : text ≡ canonical_text profile
  pub pattern : List ℕ
  pub pattern_is : option_map pattern_text (identifier_pattern profile) ≡ Some pattern
  pub texts : HasTexts trees version text pattern
  pub are : AreBases profile bases
  pub format : Format
  pub version_is : version ≡ version_of format
  pub image : IsImageOf format profile trees bases

-- tables that obey the store's schema stand for what is held: they have the rows that follow from its version, its profile's text and
-- its databases with their records, and no others, whatever their rowids; where nothing is held yet they have no row
abbrev pub IsImage : Trees → Holdings → Type 0
IsImage trees nothing_yet = LacksLists trees × LacksRegisters trees
IsImage trees (under version text bases) = (profile : List Directive) × IsImageUnder profile trees version text bases

-- An open connection shows the image of this, and that is also what was committed. Of a shut one this is so of every holding.
abbrev pub Keeps : State → Holdings → Type 0
Keeps s held = IsTrue s.is_open → (IsStore s × IsImage s.now.trees held) × (s.committed ≡ s.now)

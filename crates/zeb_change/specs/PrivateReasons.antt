-- What only the contracts of private functions speak of; no public clause reaches it.
-- Why a part of a change is refused, and under which identifiers it loses records, whatever rows the tables of the store have.
use Rattle.std.specs.Prelude.{◌≡◌, ◌⊎◌, ◌+◌, ◌≤◌, ℕ, ℤ, List, [], ◌∷◌, length, None}
use Rattle.sqlite.specs.Tree.{Trees}
use Rattle.zeb_profile.specs.declared.directives.Directive.{Directive}
use Rattle.zeb_register.specs.Store.{HasRecord}
use Rattle.zeb_change.specs.declared.refusals.Refusal.{Refusal}
use Rattle.zeb_change.specs.declared.refusals.Refusal.TheVariants.{Damaged, DatabaseFull}
use Rattle.zeb_change.specs.declared.settings.Kind.{Kind}
use Rattle.zeb_change.specs.declared.settings.Limits.{Limits}
use Rattle.zeb_change.specs.Elders.{AreWholeBefore, IsUpTo}
use Rattle.zeb_change.specs.Reasons.{AreNamed, HasReasonAt, NamesAny}
use Rattle.zeb_change.specs.Refused.{IsFailing, why_of}

-- damage, or a failure of the store or of the memory
abbrev pub IsDamageOrFailure : Refusal → Type 0
IsDamageOrFailure refusal = (refusal ≡ Damaged) ⊎ IsFailing (why_of refusal)

-- the same, or the greatest system number was given
abbrev pub IsFullOrFails : Limits → (last : ℕ) → Refusal → Type 0
IsFullOrFails limits last refusal = ((refusal ≡ DatabaseFull) × (limits.numbers ≤ last)) ⊎ IsDamageOrFailure refusal

-- one record is refused for a reason of its own, as damage or by a failure
abbrev pub IsRecordRefused : List Directive → Kind → Limits → (last taken : ℕ) → Trees → ℤ → (file nth : ℕ) → List ℕ → Refusal → Type 0
IsRecordRefused profile kind limits last taken trees db file nth bytes refusal =
    HasReasonAt profile kind limits last taken trees db file nth [] (bytes ∷ []) None refusal ⊎ IsDamageOrFailure refusal

-- each record that the database kept, with a number up to the last one, is kept still, or one of these has its identifier
abbrev pub LosesJustNamed : List Directive → (last : ℕ) → ℤ → List (List ℕ) → (old new : Trees) → Type 0
LosesJustNamed profile last db slices old new = (sysno : ℤ) (ident bytes : List ℕ) → HasRecord old db sysno ident bytes → IsUpTo last sysno
    → HasRecord new db sysno ident bytes ⊎ NamesAny profile slices ident

-- These records were taken: each is sound and has an identifier, is counted and gives at most one number; no record is lost but under
-- their identifiers, and what was kept under these was whole.
pub record TakesNamed (profile : List Directive) (db : ℤ) (slices : List (List ℕ)) (last taken : ℕ) (old : Trees) (after counted : ℕ) (new : Trees) : Type 0 where
  pub few : after ≤ last + length slices
  pub all : counted ≡ taken + length slices
  pub sound : AreNamed profile slices
  pub named : LosesJustNamed profile last db slices old new
  pub whole : AreWholeBefore profile last old db slices

-- What the commands come to that make the registers anew, by what is held.
use Rattle.zeb_engine.proofs.Cited.{◌≡◌, ◌≢◌, ◌∙◌, ℕ, Bool, true, false, List, Result, Ok, Err, IsTrue, refl, ap, subst, inl, inr, ◌&&◌, ◌||◌, get_or, arith, bytes_eq, or_cases, and_parts, bytes_eq-Decides, canonical_text, Format, packed_blocks, packed_leaves, plain_rows, version_of, Base, Conditions, Why, not_initialised, old_format, profile_changed, rule_changed, Holdings, nothing_yet, under, bytes_other, Answer, done, refused, same_rule, Ends, Outcome, all_stay, holding, turned_from}
use Rattle.zeb_engine.specs.Steps.{reindexed, ruled, upgradable, upgraded}
use Rattle.zeb_engine.specs.Versions.{is_earlier, is_taken}

-- ---- which versions an upgrade takes

pub own_taken : (own : List ℕ) → IsTrue (is_taken own own)
unfolding is_taken
own_taken own = rw ((bytes_eq-Decides own own).1 refl) refl

pub earlier_taken : (version own : List ℕ) → IsTrue (is_earlier version own) → IsTrue (is_taken version own)
unfolding is_taken
earlier_taken version own is = from (bytes_eq version own)
  where
    from : (b : Bool) → (b || is_earlier version own) ≡ true
    from true = refl
    from false = is

-- none is earlier than itself
pub none_before_itself : (version : List ℕ) → ¬ IsTrue (is_earlier version version)
unfolding is_earlier
none_before_itself version is = elim (or_cases _ _ is) [
  | inl first ↦
      let parts = and_parts _ _ first in
      let later : IsTrue (bytes_eq (version_of plain_rows) (version_of packed_blocks) || bytes_eq (version_of plain_rows) (version_of packed_leaves)) =
      subst (λ v. IsTrue (bytes_eq v (version_of packed_blocks) || bytes_eq v (version_of packed_leaves))) ((bytes_eq-Decides version (version_of plain_rows)).0 parts.0) parts.1 in absurd cc
  | inr second ↦
      let parts = and_parts _ _ second in
      let later : IsTrue (bytes_eq (version_of packed_blocks) (version_of packed_leaves)) =
      subst (λ v. IsTrue (bytes_eq v (version_of packed_leaves))) ((bytes_eq-Decides version (version_of packed_blocks)).0 parts.0) parts.1 in absurd cc
]

-- the first is earlier than each other, the second than each other but the first
pub first_before : (format : Format) → version_of plain_rows ≢ version_of format → IsTrue (is_earlier (version_of plain_rows) (version_of format))
unfolding is_earlier
first_before plain_rows other = absurd (other refl)
first_before packed_blocks other = refl
first_before packed_leaves other = refl

pub second_before : (format : Format) → version_of packed_blocks ≢ version_of format → version_of format ≢ version_of plain_rows → IsTrue (is_earlier (version_of packed_blocks) (version_of format))
unfolding is_earlier
second_before plain_rows other second = absurd (second refl)
second_before packed_blocks other second = absurd (other refl)
second_before packed_leaves other second = refl

-- what is neither the own version nor the first, and the second only beside the first, isn't taken
pub none_taken : (format : Format) (version : List ℕ) → version ≢ version_of format → version ≢ version_of plain_rows → (version ≡ version_of packed_blocks → version_of format ≡ version_of plain_rows)
    → is_taken version (version_of format) ≡ false
unfolding is_taken is_earlier
none_taken format version other first second = rw (bytes_other version (version_of format) other, bytes_other version (version_of plain_rows) first) (from format other second)
  where
    never : (b : Bool) → (b && false) ≡ false
    never true = refl
    never false = refl

    from : (f : Format) → version ≢ version_of f → (version ≡ version_of packed_blocks → version_of f ≡ version_of plain_rows) → (bytes_eq version (version_of packed_blocks) && bytes_eq (version_of f) (version_of packed_leaves)) ≡ false
    from plain_rows other second = never (bytes_eq version (version_of packed_blocks))
    from packed_blocks other second = rw (bytes_other version (version_of packed_blocks) other) refl
    from packed_leaves other second = rw (bytes_other version (version_of packed_blocks) (λ is. let e : 51 ≡ 49 = ap (λ (l : List ℕ). get_or l 0 0) (second is) in absurd (omega (arith, e)))) refl

module _ (c : Conditions) where
  -- ---- a reindex

  pub ruled_none : ruled c nothing_yet ≡ Err not_initialised
  unfolding ruled
  ruled_none = refl

  module _ (version text : List ℕ) (bases : List Base) where
    pub ruled_old : version ≢ c.version → ruled c (under version text bases) ≡ Err old_format
    unfolding ruled
    ruled_old other = rw (bytes_other version c.version other) refl

    pub ruled_changed : version ≡ c.version → same_rule text (canonical_text c.profile) ≡ false → ruled c (under version text bases) ≡ Err rule_changed
    unfolding ruled
    ruled_changed is other = rw ((bytes_eq-Decides version c.version).1 is, other) refl

    pub ruled_good : version ≡ c.version → same_rule text (canonical_text c.profile) ≡ true → ruled c (under version text bases) ≡ Ok bases
    unfolding ruled
    ruled_good is same = rw ((bytes_eq-Decides version c.version).1 is, same) refl

    -- ---- an upgrade

    pub upgradable_old : is_taken version c.version ≡ false → upgradable c (under version text bases) ≡ Err old_format
    unfolding upgradable
    upgradable_old other = rw other refl

    pub upgradable_changed : IsTrue (is_taken version c.version) → text ≢ canonical_text c.profile → upgradable c (under version text bases) ≡ Err profile_changed
    unfolding upgradable
    upgradable_changed is other = rw (is, bytes_other text (canonical_text c.profile) other) refl

    pub upgradable_good : IsTrue (is_taken version c.version) → text ≡ canonical_text c.profile → upgradable c (under version text bases) ≡ Ok bases
    unfolding upgradable
    upgradable_good is same = rw (is, (bytes_eq-Decides text (canonical_text c.profile)).1 same) refl

  pub upgradable_none : upgradable c nothing_yet ≡ Err not_initialised
  unfolding upgradable
  upgradable_none = refl

  -- ---- what is held then

  module _ (before : Holdings) where
    pub reindex_done : (bases : List Base) → ruled c before ≡ Ok bases → reindexed c before ≡ (done, holding c bases)
    unfolding reindexed
    reindex_done bases is = ap (turned_from c all_stay before) is

    pub reindex_refused : (why : Why) → ruled c before ≡ Err why → reindexed c before ≡ (refused why, before)
    unfolding reindexed
    reindex_refused why is = ap (turned_from c all_stay before) is

    pub upgrade_done : (bases : List Base) → upgradable c before ≡ Ok bases → upgraded c before ≡ (done, holding c bases)
    unfolding upgraded
    upgrade_done bases is = ap (turned_from c all_stay before) is

    pub upgrade_refused : (why : Why) → upgradable c before ≡ Err why → upgraded c before ≡ (refused why, before)
    unfolding upgraded
    upgrade_refused why is = ap (turned_from c all_stay before) is

  -- ---- what was held before

  pub record WasRuled (before : Holdings) (bases : List Base) : Type 0 where
    pub text : List ℕ
    pub is : before ≡ under c.version text bases
    pub rule : same_rule text (canonical_text c.profile) ≡ true

  pub ruled_is : (before : Holdings) (bases : List Base) → ruled c before ≡ Ok bases → WasRuled before bases
  unfolding ruled
  ruled_is nothing_yet bases is = absurd cc
  ruled_is (under version text found) bases is = told (bytes_eq version c.version) (same_rule text (canonical_text c.profile)) refl refl
    where
      told : (r s : Bool) → bytes_eq version c.version ≡ r → same_rule text (canonical_text c.profile) ≡ s → WasRuled (under version text found) bases
      told true true one two =
          let same : ◌≡◌ {A = Result (List Base) Why} (Ok found) (Ok bases) = rw (one, two) at is in
          let bases_are : found ≡ bases = cc in
          record { text = text; is = λ i. under ((bytes_eq-Decides version c.version).0 one i) text (bases_are i); rule = two }
      told true false one two = let e : ◌≡◌ {A = Result (List Base) Why} (Err rule_changed) (Ok bases) = rw (one, two) at is in absurd cc
      told false s one two = let e : ◌≡◌ {A = Result (List Base) Why} (Err old_format) (Ok bases) = rw one at is in absurd cc

  pub record WasUpgradable (before : Holdings) (bases : List Base) : Type 0 where
    pub version : List ℕ
    pub is : before ≡ under version (canonical_text c.profile) bases
    pub taken : IsTrue (is_taken version c.version)

  pub upgradable_is : (before : Holdings) (bases : List Base) → upgradable c before ≡ Ok bases → WasUpgradable before bases
  unfolding upgradable
  upgradable_is nothing_yet bases is = absurd cc
  upgradable_is (under version text found) bases is = told (is_taken version c.version) (bytes_eq text (canonical_text c.profile)) refl refl
    where
      told : (r s : Bool) → is_taken version c.version ≡ r → bytes_eq text (canonical_text c.profile) ≡ s → WasUpgradable (under version text found) bases
      told true true one two =
          let same : ◌≡◌ {A = Result (List Base) Why} (Ok found) (Ok bases) = rw (one, two) at is in
          let bases_are : found ≡ bases = cc in
          record { version = version; is = λ i. under version ((bytes_eq-Decides text (canonical_text c.profile)).0 two i) (bases_are i); taken = one }
      told true false one two = let e : ◌≡◌ {A = Result (List Base) Why} (Err profile_changed) (Ok bases) = rw (one, two) at is in absurd cc
      told false s one two = let e : ◌≡◌ {A = Result (List Base) Why} (Err old_format) (Ok bases) = rw one at is in absurd cc

  -- ---- accepted

  done_from : (before : Holdings) (said : Result (List Base) Why) → done ≡ (turned_from c all_stay before said).0 → (bases : List Base) × (said ≡ Ok bases)
  done_from before (Ok bases) is = (bases, refl)
  done_from before (Err why) is = absurd cc

  reindexed_from : (before : Holdings) → done ≡ (reindexed c before).0 → (bases : List Base) × (ruled c before ≡ Ok bases)
  unfolding reindexed
  reindexed_from before is = done_from before (ruled c before) is

  upgraded_from : (before : Holdings) → done ≡ (upgraded c before).0 → (bases : List Base) × (upgradable c before ≡ Ok bases)
  unfolding upgraded
  upgraded_from before is = done_from before (upgradable c before) is

  pub reindex_stays : (before later : Holdings) → Ends (reindexed c before) done later → (text : List ℕ) × (bases : List Base) × (before ≡ under c.version text bases) × (later ≡ holding c bases)
  reindex_stays before later step =
      let from = reindexed_from before step.0 in
      let was = ruled_is before from.0 from.1 in
      (was.text, from.0, was.is, step.1 ∙ ap (λ (o : Outcome). o.1) (reindex_done before from.0 from.1))

  pub upgrade_stays : (before later : Holdings) → Ends (upgraded c before) done later → (version : List ℕ) × (bases : List Base) × (before ≡ under version (canonical_text c.profile) bases) × (later ≡ holding c bases)
  upgrade_stays before later step =
      let from = upgraded_from before step.0 in
      let was = upgradable_is before from.0 from.1 in
      (was.version, from.0, was.is, step.1 ∙ ap (λ (o : Outcome). o.1) (upgrade_done before from.0 from.1))

  pub upgrade_again : (bases : List Base) (answer : Answer) (later : Holdings) → Ends (upgraded c (holding c bases)) answer later → (answer ≡ done) × (later ≡ holding c bases)
  upgrade_again bases answer later step =
      let told = upgrade_done (holding c bases) bases (upgradable_good c.version (canonical_text c.profile) bases (own_taken c.version) refl) in
      (step.0 ∙ ap (λ (o : Outcome). o.0) told, step.1 ∙ ap (λ (o : Outcome). o.1) told)

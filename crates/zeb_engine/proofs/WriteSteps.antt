-- What each command that writes leaves in the tables is the image of its outcome, and what refuses it is a failure, or the outcome's refusal.
use Rattle.zeb_engine.proofs.Cited.{◌≡◌, ◌⊎◌, ◌∙◌, ℕ, pos, ap, List, Some, None, Ok, Err, refl, sym, subst, subst₂, inl, inr, arith, State, Database, canonical_text, one_format, registers_stay, Content, IsWithout, HasDatabase, AreCountedDatabases, IsDatabaseOf, KeepsRegisters, Refusal, Done, refused, IsFailure, IsFailing, Why, why_of, Conditions, Holdings, Base, base_named, new_base, without_base, IsDatabaseName, IsImage, Format, holds_in, version_of, AreOf, LeavesNoDatabase, CreatesDatabase, MakesRow, MissesDatabase, TakesRows, with_base, ready, initialised, turned, created, dropped}
use Rattle.zeb_register.specs.declared.catalog.Database as catalog
use Rattle.zeb_engine.proofs.Beginning.{texts_still}
use Rattle.zeb_engine.proofs.ChangeNumbers.{shown_store, showing}
use Rattle.zeb_engine.proofs.Creating.{with_new_base, created_image}
use Rattle.zeb_engine.proofs.Dropping.{without_bases, dropped_image}
use Rattle.zeb_engine.proofs.ListedDatabases.{counted, none_named, row_named}
use Rattle.zeb_engine.proofs.ReadyImages.{image_some, image_with_bases}
use Rattle.zeb_engine.proofs.TurnedOutcomes.{Leads, step_init, step_created, step_dropped, step_exists, step_unknown}

-- `init`, whose tables are the image of no database whatever they held
pub init_leads : (format : Format) (c : Conditions) (pattern : List ℕ) → AreOf (version_of format) c.profile pattern c → (s : State) (new : Database) → LeavesNoDatabase format c.profile pattern new
    → (before : Holdings) → Leads (showing s new) Done (initialised c before)
init_leads format c pattern of s new begins before = subst (Leads (showing s new) Done) (sym (step_init c before)) (refl, shown_store s new begins.store, begins.image c of)

-- ---- a create and a drop, on a register that is ready

module _ (c : Conditions) (s : State) (name : List ℕ) (before : Holdings) (image : IsImage s.now.trees before) (bases : List Base) (is : ready c before ≡ Ok bases) where
  unnamed : IsDatabaseOf s.now.trees name None → base_named name bases ≡ None
  unnamed none = let it = (image_some c s.now.trees before bases is image).1.image.lists in none_named s.now.trees bases it.id_of it.listed name none

  named : (found : catalog.Database) → IsDatabaseOf s.now.trees name (Some found)
      → (base : Base) × (base_named name bases ≡ Some base) × HasDatabase s.now.trees found.id.0 base.name (pos base.last)
  named found row =
      let at = image_some c s.now.trees before bases is image in
      let lists = at.1.image.lists in
      let base = row_named s.now.trees bases lists.id_of lists.listed at.0 at.1.are found.id.0 name found.last row in
      (base.0, base.1, subst₂ (λ (n : List ℕ) (l : ℕ). HasDatabase s.now.trees found.id.0 n (pos l)) base.3 base.4 row)

  all_counted : ¬ AreCountedDatabases s.now.trees name → ⊥
  all_counted hidden = let lists = (image_some c s.now.trees before bases is image).1.image.lists in hidden (counted s.now.trees bases lists.id_of lists.listed name)

  pub create_leads : IsDatabaseName name → (new : Database) → IsDatabaseOf s.now.trees name None → MakesRow name s.now new → Leads (showing s new) Done (turned c (created name) before)
  create_leads is_name new none made =
      let at = image_some c s.now.trees before bases is image in
      let it = at.1 in
      let others = made.1.others in
      let texts = texts_still s.now.trees new.trees _ _ it.pattern (others.0 (λ e. absurd (omega (arith, e)))) it.texts in
      let records : new.trees 4 ≡ s.now.trees 4 = others.1.1.0 (λ e. absurd (omega (arith, e))) in
      let registers : KeepsRegisters s.now.trees new.trees =
      (others.1.1.1.0 (λ e. absurd (omega (arith, e))), others.1.1.1.1.0 (λ e. absurd (omega (arith, e))), others.1.1.1.1.1.0 (λ e. absurd (omega (arith, e)))) in
      let next = created_image it.format (registers_stay it.format) at.0 s.now.trees new.trees name bases it.image it.are (unnamed none) made.0 made.1.rows records registers in
      subst (Leads (showing s new) Done) (sym (step_created c before name bases is (unnamed none)))
      (refl, shown_store s new made.1.store, (at.0, image_with_bases at.0 s.now.trees new.trees c.version (canonical_text c.profile) bases it texts (with_base (new_base name) bases) (with_new_base at.0 name is_name bases it.are) next))

  pub create_refuses : (new : Database) (refusal : Refusal) → CreatesDatabase name s.now new (Err refusal)
      → IsFailure (refused (why_of refusal)) ⊎ (turned c (created name) before ≡ (refused (why_of refusal), before))
  create_refuses new refusal (inl failed) = inl failed
  create_refuses new refusal (inr (inl there)) =
      let base = named there.1.0 there.1.1 in inr (step_exists c before name bases is base.0 base.1 ∙ ap (λ (r : Refusal). (refused (why_of r), before)) (sym there.0))
  create_refuses new refusal (inr (inr damaged)) = absurd (all_counted damaged.1)

  pub drop_leads : (format : Format) → c.version ≡ version_of format → (found : catalog.Database) → IsDatabaseOf s.now.trees name (Some found) → (new : Database) → TakesRows format found.id.0 s.now new
      → Leads (showing s new) Done (turned c (dropped name) before)
  drop_leads format version found row new taken =
      let at = image_some c s.now.trees before bases is image in
      let it = at.1 in
      let base = named found row in
      let same : it.format ≡ format = one_format it.format format (sym it.version_is ∙ version) in
      let texts = texts_still s.now.trees new.trees _ _ it.pattern taken.texts it.texts in
      let left = dropped_image it.format at.0 s.now.trees new.trees name bases base.0 it.image it.are base.1 found.id.0 base.2 taken.databases taken.records
      (subst (λ (f : Format). (a b : Content) → holds_in f s.now.trees a → IsWithout found.id.0 a b → holds_in f new.trees b) (sym same) taken.contents) in
      subst (Leads (showing s new) Done) (sym (step_dropped c before name bases is base.0 base.1))
      (refl, shown_store s new taken.store, (at.0, image_with_bases at.0 s.now.trees new.trees c.version (canonical_text c.profile) bases it texts (without_base name bases) (without_bases at.0 name bases it.are) left))

  pub drop_refuses : (refusal : Refusal) → IsFailing (why_of refusal) ⊎ MissesDatabase s.now.trees name refusal
      → IsFailure (refused (why_of refusal)) ⊎ (turned c (dropped name) before ≡ (refused (why_of refusal), before))
  drop_refuses refusal (inl failed) = inl failed
  drop_refuses refusal (inr (inl none)) = inr (step_unknown c before name bases is (unnamed none.0) ∙ ap (λ (w : Why). (refused w, before)) (sym none.1))
  drop_refuses refusal (inr (inr damaged)) = absurd (all_counted damaged.1)

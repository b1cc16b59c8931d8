-- What a reindex and an upgrade make of the rows of a store, and what that comes to from an image.
use Rattle.zeb_engine.proofs.Cited.{◌≡◌, ◌∙◌, ℕ, List, ◌∷◌, codes, Result, Ok, Err, OnOk, IsTrue, IsUtf8, Global, refl, sym, ap, subst, inl, inr, arith, option_map, Int, Row, Bor, Trees, Database, HasCleanDisk, State, Has, Directive, canonical_text, pattern_text, RegFault, Format, version_of, Replaces, Alters, GoesOn, Inside, IsEntryOf, IsStore, KeepsLists, KeepsRegisters, entry, meta_tree, Base, Conditions, AreSessions, Refusal, Reply, Holdings, AreBases, AreListsOf, HasTexts, IsImage, IsImageOf, Done, IsRemade, IsUnsound, RemakesRows, TellsSound, WriteDoes, IsStoreDisk, CommitsRows, reindexed, ruled, upgradable, upgraded}
use Rattle.sqlite.specs.declared.error.Error.{Error}
use Rattle.zeb_engine.specs.declared.writes.Write.TheVariants as write
use Rattle.zeb_image.proofs.RebuiltImages.{lists_readable, lists_sound}
use Rattle.zeb_engine.proofs.ChangeNumbers.{shown_store, showing}
use Rattle.zeb_engine.proofs.CommitCrashes.{store_disk}
use Rattle.zeb_engine.proofs.RenewedImages.{WasImage, image_rows, profile_put, renewed_image, ruled_image, upgradable_image, version_put, was_bases}
use Rattle.zeb_engine.proofs.RenewalSteps.{reindex_done, upgrade_done}
use Rattle.zeb_engine.proofs.TurnedOutcomes.{Leads}

-- ---- the rows

-- a row is put in the place of those of a table that was as before
replaces_first : (P : Row → Type 0) (row : Row) (tree : ℕ) (old mid new : Trees) → mid tree ≡ old tree → Replaces P row tree mid new → Replaces P row tree old new
replaces_first P row tree old mid new same replaces columns = (
  λ there. elim ((replaces columns).0 there) [
    | inl was ↦ inl ((was.0.0, subst (λ rows. Has rows (Int was.0.0 ∷ columns)) same was.0.1), was.1)
    | inr is ↦ inr is
  ],
  λ is. (replaces columns).1 (elim is [ inl was ↦ inl ((was.0.0, subst (λ rows. Has rows (Int was.0.0 ∷ columns)) (sym same) was.0.1), was.1) | inr put ↦ inr put ]),
)

-- the registers are made anew by the profile, and a text is put then
pub remakes : (format : Format) (profile : List Directive) (name text put : List ℕ) (old mid new : State) → text ≡ put → HasCleanDisk new → IsTrue old.in_transaction → IsStore old
    → Inside {A = Unit {0}} {E = RegFault} old mid (Ok tt) (λ _. GoesOn)
    → (HasCleanDisk mid → IsTrue old.in_transaction → IsStore old → IsStore mid × KeepsLists old.now.trees mid.now.trees
    × ((bases : List Base) → AreListsOf old.now.trees bases → AreBases profile bases → IsImageOf format profile mid.now.trees bases))
    → Inside {A = Unit {0}} {E = Error} mid new (Ok tt) (λ _. Alters meta_tree (Replaces (IsEntryOf name) (entry name text))) → RemakesRows format profile name put old.now new.now
remakes format profile name text put old mid new same clean inside store rebuilds built puts =
    let cleaner : HasCleanDisk mid = omega (arith, puts.crash.clean) in
    let made = built cleaner inside store in
    let alters = subst (λ t. Alters meta_tree (Replaces (IsEntryOf name) (entry name t)) mid new) same (puts.ok clean (rebuilds.ok cleaner inside).mode) in
    let rows = alters.rows made.0 in
    let names : new.now.trees 2 ≡ mid.now.trees 2 = rows.others.1.0 (λ e. absurd (omega (arith, e))) in
    let records : new.now.trees 4 ≡ mid.now.trees 4 = rows.others.1.1.0 (λ e. absurd (omega (arith, e))) in
    let registers : KeepsRegisters mid.now.trees new.now.trees =
    (rows.others.1.1.1.0 (λ e. absurd (omega (arith, e))), rows.others.1.1.1.1.0 (λ e. absurd (omega (arith, e))), rows.others.1.1.1.1.1.0 (λ e. absurd (omega (arith, e)))) in
    record {
      store = record { is = rows.layout.is; sound = rows.layout.sound; keyed = rows.layout.keyed };
      databases = names ∙ made.1.1;
      records = records ∙ made.1.2;
      texts = replaces_first (IsEntryOf name) (entry name put) meta_tree old.now.trees mid.now.trees new.now.trees made.1.0 rows.rows;
      image = λ bases lists are. image_rows format profile mid.now.trees new.now.trees bases names records registers (made.2 bases lists are);
    }

-- ---- what is said of any tables

as_remade : (format : Format) (profile : List Directive) (old new : Database) → RemakesRows format profile (codes "profile") (canonical_text profile) old new → IsRemade format profile old.trees new.trees
as_remade format profile old new remade = record { databases = remade.databases; records = remade.records; texts = remade.texts; image = remade.image }

module _ (format : Format) (alloc : Global) (profile : Bor (List Directive)) (s new : State) where
  abbrev Reindexes : Result Reply Refusal → Type 0
  Reindexes = WriteDoes format (write.Reindex alloc profile) s.now new.now

  pub reindex_told : (result : Result Reply Refusal) → Reindexes result → TellsSound profile.now s.now.trees result
  reindex_told (Ok told) does = inl (does.1.0, ap Ok does.0)
  reindex_told (Err refusal) (inl failed) = inr (inr failed)
  reindex_told (Err refusal) (inr damaged) = inr (inl (damaged.1, ap Err damaged.0))

  pub reindex_leaves : (result : Result Reply Refusal) → (IsStore s → Reindexes result) → OnOk result (IsStore s → IsStore new × IsRemade format profile.now s.now.trees new.now.trees)
  reindex_leaves (Ok told) does = λ store. let left = (does store).1.1 in (shown_store new new.now left.store, as_remade format profile.now s.now new.now left)
  reindex_leaves (Err refusal) does = tt

-- what is committed of it
pub reindex_commits : (format : Format) (alloc : Global) (profile : Bor (List Directive)) (s : State) (db : Trees) → CommitsRows (WriteDoes format (write.Reindex alloc profile)) s db
    → IsStore s → IsStoreDisk db × IsRemade format profile.now s.now.trees db
reindex_commits format alloc profile s db made store =
    let left = made store in
    subst (λ (t : Trees). IsStoreDisk t × IsRemade format profile.now s.now.trees t) (sym left.2)
    (store_disk (showing s left.1) (shown_store s left.1 left.3.1.1.store), as_remade format profile.now s.now left.1 left.3.1.1)

-- ---- from an image

module _ (format : Format) (c : Conditions) (session : AreSessions format c) (s : State) (before : Holdings) (image : IsImage s.now.trees before) (bases : List Base) where
  -- what is held is sound and can be read
  sound_was : WasImage c s.now.trees bases → IsUnsound c.profile s.now.trees → ⊥
  sound_was was unsound =
      let are = was_bases c s.now.trees bases was in
      unsound (lists_readable c.profile s.now.trees bases was.it.image.lists are, lists_sound c.profile s.now.trees bases was.it.image.lists are)

  module _ (is : ruled c before ≡ Ok bases) where
    pub reindex_sound : IsUnsound c.profile s.now.trees → ⊥
    reindex_sound = sound_was (ruled_image format c session s.now.trees before bases image is).0

    pub reindex_leads : IsUtf8 (canonical_text c.profile) → (new : Database) → RemakesRows format c.profile (codes "profile") (canonical_text c.profile) s.now new → Leads (showing s new) Done (reindexed c before)
    reindex_leads readable new remade =
        let put = canonical_text c.profile in
        let at = ruled_image format c session s.now.trees before bases image is in
        let was = at.0 in
        let are = was_bases c s.now.trees bases was in
        let own = subst (λ v. HasTexts new.trees v put was.it.pattern) at.1 (profile_put s.now.trees new.trees was.version was.text was.it.pattern was.it.texts put readable remade.texts) in
        let left = renewed_image format c session new.trees bases was.it.pattern (ap (option_map pattern_text) (sym was.rule) ∙ was.it.pattern_is) own are (remade.image bases was.it.image.lists are) in
        subst (Leads (showing s new) Done) (sym (reindex_done c before bases is)) (refl, shown_store s new remade.store, left)

  module _ (is : upgradable c before ≡ Ok bases) where
    pub upgrade_sound : IsUnsound c.profile s.now.trees → ⊥
    upgrade_sound = sound_was (upgradable_image format c session s.now.trees before bases image is).0

    pub upgrade_leads : IsUtf8 (version_of format) → (new : Database) → RemakesRows format c.profile (codes "version") (version_of format) s.now new → Leads (showing s new) Done (upgraded c before)
    upgrade_leads readable new remade =
        let at = upgradable_image format c session s.now.trees before bases image is in
        let was = at.0 in
        let are = was_bases c s.now.trees bases was in
        let texts = version_put s.now.trees new.trees was.version was.text was.it.pattern was.it.texts (version_of format) readable remade.texts in
        let said = subst (λ v. HasTexts new.trees v was.text was.it.pattern) (sym session.version_is) texts in
        let own = subst (λ t. HasTexts new.trees c.version t was.it.pattern) at.1 said in
        let left = renewed_image format c session new.trees bases was.it.pattern (ap (option_map pattern_text) (sym was.rule) ∙ was.it.pattern_is) own are (remade.image bases was.it.image.lists are) in
        subst (Leads (showing s new) Done) (sym (upgrade_done c before bases is)) (refl, shown_store s new remade.store, left)

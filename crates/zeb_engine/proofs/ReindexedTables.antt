-- What a reindex leaves over any tables of a store, and what of that is committed.
use Rattle.zeb_engine.proofs.Cited.{◌≡◌, ◌∙◌, List, codes, Result, Ok, Err, OnOk, IsTrue, IsUtf8, inl, inr, ap, ap₂, arith, sym, subst, subst₂, refl, Text, Database, State, Trees, Directive, canonical_text, IsProfile, Format, version_of, IsStore, entry, store_same, one_text, Base, under, HasTexts, IsImage, CanBeRemade, IsRemade, ReindexLeaves, CommitsReindex, IsStoreDisk, HoldsRemade, IsReadyToReindex, KeepsText}
use Rattle.zeb_engine.proofs.RenewedImages.{apart}
use Rattle.zeb_engine.proofs.Beginning.{entry_inside}

-- ---- the register of the databases whose lists are there

module _ (format : Format) (profile : List Directive) (readable : IsUtf8 (version_of format) × IsUtf8 (canonical_text profile)) (s : State) (store : IsStore s)
    (ready : IsReadyToReindex (version_of format) profile s.now.trees) (new : Trees) (remade : IsRemade format profile s.now.trees new) (bases : List Base)
    (can : CanBeRemade profile s.now.trees bases) where
  texts_then : HasTexts new (version_of format) (canonical_text profile) ready.has_rule.0
  texts_then = record {
    readable = (readable.0, readable.1, ready.readable ready.has_rule.0 ready.has_rule.2);
    each = λ name value. (
      λ there. elim ((remade.texts (entry name value)).0 there) [
        | inl was ↦ elim (can.named name value was.0) [
          | inl is ↦ inl (is, one_text s store (codes "version") value (version_of format) (subst (λ n. KeepsText s.now.trees n value) is was.0) ready.has_version)
          | inr other ↦ elim other [
            | inl is ↦ absurd (was.1 (ap Text is))
            | inr is ↦ inr (inr (is, one_text s store (codes "identifier") value ready.has_rule.0 (subst (λ n. KeepsText s.now.trees n value) is was.0) ready.has_rule.2))
          ]
        ]
        | inr is ↦ inr (inl (entry_inside name (codes "profile") value (canonical_text profile) is))
      ],
      λ is. elim is [
        | inl it ↦ (remade.texts (entry name value)).1 (inl (subst₂ (KeepsText s.now.trees) (sym it.0) (sym it.1) ready.has_version, λ same. apart (codes "version") (codes "profile") (λ e. absurd (omega (arith, e))) (ap Text (sym it.0) ∙ same)))
        | inr other ↦ elim other [
          | inl it ↦ (remade.texts (entry name value)).1 (inr (ap₂ entry it.0 it.1))
          | inr it ↦ (remade.texts (entry name value)).1 (inl (subst₂ (KeepsText s.now.trees) (sym it.0) (sym it.1) ready.has_rule.2, λ same. apart (codes "identifier") (codes "profile") (λ e. absurd (omega (arith, e))) (ap Text (sym it.0) ∙ same)))
        ]
      ],
    );
  }

  pub remade_holds : ∥ IsProfile profile ∥₁ → IsImage new (under (version_of format) (canonical_text profile) bases)
  remade_holds sound = (
    profile,
    record {
      sound = sound;
      text_is = refl;
      pattern = ready.has_rule.0;
      pattern_is = ready.has_rule.1;
      texts = texts_then;
      are = can.are;
      format = format;
      version_is = refl;
      image = remade.image bases can.lists can.are;
    },
  )

-- ---- after a look at the texts

module _ (format : Format) (profile : List Directive) (readable : IsUtf8 (version_of format) × IsUtf8 (canonical_text profile)) (sound : ∥ IsProfile profile ∥₁) (old mid : State) (still : mid.now ≡ old.now)
    (ready : IsStore old → IsReadyToReindex (version_of format) profile old.now.trees) where
  pub remade_after : {A E : Type 0} (result : Result A E) (new : State) → OnOk result (IsStore mid → IsStore new × IsRemade format profile mid.now.trees new.now.trees) → OnOk result (HoldsRemade format profile old new)
  remade_after (Ok x) new did = λ store.
      let left = did (store_same old mid still store) in
      let remade = subst (λ (d : Database). IsRemade format profile d.trees new.now.trees) still left.1 in
      (left.0, remade, λ bases can. remade_holds format profile readable old store (ready store) new.now.trees remade bases can sound)
  remade_after (Err e) new did = tt

  pub commits_after_look : (db : Trees) → (IsStore mid → IsStoreDisk db × IsRemade format profile mid.now.trees db) → CommitsReindex format profile old db
  commits_after_look db made store =
      let left = made (store_same old mid still store) in
      let remade = subst (λ (d : Database). IsRemade format profile d.trees db) still left.1 in
      (remade, λ bases can. inl (left.0, remade_holds format profile readable old store (ready store) db remade bases can sound))

-- ---- after the command

pub leaves_settled : {A E : Type 0} (format : Format) (profile : List Directive) (result : Result A E) (old new : State) → (IsTrue new.is_open → new.committed ≡ new.now) → OnOk result (HoldsRemade format profile old new)
    → OnOk result (ReindexLeaves format profile old new)
leaves_settled format profile (Ok x) old new settled did = λ store.
    let left = did store in (left.0, left.1, λ bases can is_open. ((left.0, left.2 bases can), settled is_open))
leaves_settled format profile (Err e) old new settled did = tt

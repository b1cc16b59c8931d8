-- What a look at the texts of a store tells, and what is said of them after a command.
use Rattle.zeb_engine.proofs.Cited.{◌≡◌, ◌≢◌, ℕ, List, Option, Some, None, Result, Ok, Err, String, string_bytes, refl, subst, inl, inr, Global, Trees, State, Directive, RegFault, IsStore, IsValueOf, one_text, Refusal, register_refusal, NeverUnready, NoReadFault, why_of, IsFailure, refused, IsUnready, GoesByTexts, IsReadyFor, IsRefusedOver, KeepsText}
use Rattle.zeb_register.specs.declared.RegFault.TheVariants as register
use Rattle.zeb_change.specs.declared.refusals.Refusal.TheVariants as refusal

-- ---- one text

pub text_found : (trees : Trees) (name : List ℕ) (o : Option (String Global)) (found : String Global) → o ≡ Some found → IsValueOf trees name o → KeepsText trees name (string_bytes found)
text_found trees name o found is value = subst (IsValueOf trees name) is value

pub text_missing : (trees : Trees) (name : List ℕ) (o : Option (String Global)) → o ≡ None → IsValueOf trees name o → (text : List ℕ) → ¬ KeepsText trees name text
text_missing trees name o is value = subst (IsValueOf trees name) is value

-- a name has one text, so no other is kept under it
pub other_text : (s : State) → IsStore s → (name found other : List ℕ) → KeepsText s.now.trees name found → found ≢ other → ¬ KeepsText s.now.trees name other
other_text s store name found other kept differs there = differs (one_text s store name found other kept there)

module _ (version : List ℕ) (profile : List Directive) where
  -- a register that is ready is refused by a failure alone
  pub unready_fails : (trees : Trees) → IsReadyFor version profile trees → (it : Refusal) → IsUnready it → IsRefusedOver version profile trees it
      → ◌≢◌ {A = Result (Unit {0}) Refusal} (Err it) (Err refusal.Damaged) → IsFailure (refused (why_of it))
  unready_fails trees texts refusal.NotInitialised few is whole = absurd (is version texts.has_version)
  unready_fails trees texts refusal.OldFormat few is whole = absurd (is.1 texts.has_version)
  unready_fails trees texts refusal.ProfileChanged few is whole = absurd (is.1 texts.has_profile)
  unready_fails trees texts refusal.Damaged few is whole = absurd (whole refl)
  unready_fails trees texts refusal.Store few is whole = inl refl
  unready_fails trees texts refusal.Memory few is whole = inr refl
  unready_fails trees texts _ few is whole = absurd few

  -- ---- after a look at the register

  other_texts : {T : Type 0} (trees : Trees) (it : Refusal) → IsReadyFor version profile trees → NeverUnready {T = T} (Err it) → IsRefusedOver version profile trees it
  other_texts trees refusal.NotInitialised is never = absurd (never.0 refl)
  other_texts trees refusal.OldFormat is never = absurd (never.1 refl)
  other_texts trees refusal.ProfileChanged is never = absurd (never.2 refl)
  other_texts trees refusal.Damaged is never = inr is
  other_texts trees (refusal.ReadFault file) is never = tt
  other_texts trees refusal.Store is never = tt
  other_texts trees refusal.Memory is never = tt
  other_texts trees _ is never = is

  -- the work of a command on a register that is ready
  pub ready_then : {T X : Type 0} (s : State) (x : X) → GoesByTexts version profile s (Ok x) → (result : Result T Refusal) → NeverUnready result → GoesByTexts version profile s result
  ready_then s x is (Ok reply) never = is
  ready_then s x is (Err it) never = λ store. other_texts s.now.trees it (is store) never

-- a fault of the tables is no such refusal
pub fault_never : {T : Type 0} (fault : RegFault) → NeverUnready {T = T} (Err (register_refusal fault))
fault_never register.Damaged = (λ is. cc, λ is. cc, λ is. cc)
fault_never _ = (λ is. cc, λ is. cc, λ is. cc)

-- nor that of a reader
pub fault_reads : {T : Type 0} (fault : RegFault) → NoReadFault {T = T} (Err (register_refusal fault))
fault_reads register.Damaged file is = cc
fault_reads _ file is = cc

-- A word of targets is read as those of its parts, or has the fault of its first faulty part.
use Rattle.zeb_profile.proofs.Cited.{◌≡◌, ℕ, Bool, true, false, cond, List, [], ◌∷◌, ◌++◌, Result, Ok, Err, refl, ap, subst, sym, ◌∙◌, map, append_assoc, inl, inr, list_any, slice_split, append-nil, ◌>>=◌, is_comma, same_target, target_of, targets_after}
use Rattle.zeb_profile.specs.declared.directives.Target.{Target}
use Rattle.zeb_profile.specs.declared.faults.ProfileFaultKind.{ProfileFaultKind}
use Rattle.zeb_profile.specs.declared.faults.ProfileFaultKind.TheVariants.{DuplicateTarget}
use Rattle.std.proofs.Common.{◌⊎◌}
use Rattle.zeb_lower_laws.specs.ProfileLaws.{AreTargets, IsFaultyPart, IsFirstFaultyPart, TargetsAreRead, read_soundly}
use Rattle.zeb_lower_laws.proofs.FirstFault.{cons_parts, step_err}
use Rattle.zeb_profile.proofs.TargetsBack.{step_ok, unless_ok}

-- ---- targets that are apart
-- none of these is among those before it, of which the first are `left`
abbrev Apart : List Target → List Target → Type 0
Apart left [] = Unit {0}
Apart left (n ∷ new) = (list_any (same_target n) left ≡ false) × Apart (left ++ n ∷ []) new

apart_splits : (left new : List Target) → Apart left new → (before : List Target) (target : Target) (after : List Target)
    → new ≡ before ++ target ∷ after → list_any (same_target target) (left ++ before) ≡ false
apart_splits left [] h [] target after e = absurd (cc)
apart_splits left [] h (b ∷ before) target after e = absurd (cc)
apart_splits left (n ∷ new) h [] target after e =
    let same : n ≡ target = cc in
    ap (λ (front : List Target). list_any (same_target target) front) (append-nil left) ∙ subst (λ (t : Target). list_any (same_target t) left ≡ false) same h.0
apart_splits left (n ∷ new) h (b ∷ before) target after e =
    let same : n ≡ b = cc in
    let rest : new ≡ before ++ target ∷ after = cc in
    let joined : left ++ b ∷ before ≡ (left ++ n ∷ []) ++ before =
    ap (λ (t : Target). left ++ t ∷ before) (sym same) ∙ sym (append_assoc left (n ∷ []) before) in
    ap (λ (front : List Target). list_any (same_target target) front) joined ∙ apart_splits (left ++ n ∷ []) new h.1 before target after rest

abbrev Splits : List Target → Type 0
Splits all = (before : List Target) (target : Target) (after : List Target) → all ≡ before ++ target ∷ after → list_any (same_target target) before ≡ false

apart_from : (left new : List Target) → Splits (left ++ new) → Apart left new
apart_from left [] h = tt
apart_from left (n ∷ new) h =
    (h left n new refl, apart_from (left ++ n ∷ []) new (subst (λ (all : List Target). Splits all) (sym (append_assoc left (n ∷ []) new)) h))

-- ---- parts that were read
abbrev Read : List (List ℕ) → List Target → Type 0
Read parts targets = map target_of parts ≡ map read_soundly targets

abbrev next : List Target → List (List ℕ) → Target → Result (List Target) ProfileFaultKind
next left parts target = cond (list_any (same_target target) left) (Err DuplicateTarget) (targets_after (left ++ target ∷ []) parts)

read_more : (part : List ℕ) (target : Target) (parts : List (List ℕ)) (targets : List Target) → target_of part ≡ Ok target → Read parts targets → Read (part ∷ parts) (target ∷ targets)
read_more part target parts targets one h =
    ap (λ (answer : Result Target ProfileFaultKind). answer ∷ map target_of parts) one ∙ ap (λ (rest : List (Result Target ProfileFaultKind)). Ok target ∷ rest) h

-- sound parts in front are read as their targets
read_front : (left : List Target) (parts rest : List (List ℕ)) (new : List Target) → Read parts new → Apart left new
    → targets_after left (parts ++ rest) ≡ targets_after (left ++ new) rest
read_front left [] rest [] read h = ap (λ all. targets_after all rest) (sym (append-nil left))
read_front left [] rest (n ∷ new) read h = absurd (cc)
read_front left (part ∷ parts) rest [] read h = absurd (cc)
read_front left (part ∷ parts) rest (n ∷ new) read h =
    let both = cons_parts (target_of part) (read_soundly n) (map target_of parts) (map read_soundly new) read in
    ap (λ answer. answer >>= next left (parts ++ rest)) both.0
    ∙ ap (λ b. cond b (Err DuplicateTarget) (targets_after (left ++ n ∷ []) (parts ++ rest))) h.0
    ∙ read_front (left ++ n ∷ []) parts rest new both.1 h.1
    ∙ ap (λ all. targets_after all rest) (append_assoc left (n ∷ []) new)

-- the parts behind some targets, up to their end
record ReadWhole (left : List Target) (parts : List (List ℕ)) (targets : List Target) : Type 0 where
  new : List Target
  joined : targets ≡ left ++ new
  read : Read parts new
  apart : Apart left new

read_whole : (left : List Target) (parts : List (List ℕ)) (targets : List Target) → targets_after left parts ≡ Ok targets → ReadWhole left parts targets
read_whole left [] targets h =
    let same : left ≡ targets = cc in
    record { new = []; joined = sym same ∙ sym (append-nil left); read = refl; apart = tt }
read_whole left (part ∷ parts) targets h =
    let step = step_ok (target_of part) (next left parts) targets h in
    let fresh = unless_ok (list_any (same_target step.0) left) DuplicateTarget (targets_after (left ++ step.0 ∷ []) parts) targets step.2 in
    let rest : ReadWhole (left ++ step.0 ∷ []) parts targets = read_whole (left ++ step.0 ∷ []) parts targets fresh.1 in
    record {
      new = step.0 ∷ rest.new;
      joined = rest.joined ∙ append_assoc left (step.0 ∷ []) rest.new;
      read = read_more part step.0 parts rest.new step.1 rest.read;
      apart = (fresh.0, rest.apart);
    }

-- or up to the first faulty one
record ReadTo (left : List Target) (parts : List (List ℕ)) (kind : ProfileFaultKind) : Type 0 where
  before : List (List ℕ)
  part : List ℕ
  after : List (List ℕ)
  whole : parts ≡ before ++ part ∷ after
  new : List Target
  read : Read before new
  apart : Apart left new
  faulty : IsFaultyPart (left ++ new) part kind

here : (left : List Target) (part : List ℕ) (parts : List (List ℕ)) (kind : ProfileFaultKind) → IsFaultyPart left part kind → ReadTo left (part ∷ parts) kind
here left part parts kind faulty = record {
  before = [];
  part = part;
  after = parts;
  whole = refl;
  new = [];
  read = refl;
  apart = tt;
  faulty = subst (λ (front : List Target). IsFaultyPart front part kind) (sym (append-nil left)) faulty;
}

read_to : (left : List Target) (parts : List (List ℕ)) (kind : ProfileFaultKind) → targets_after left parts ≡ Err kind → ReadTo left parts kind
read_to left [] kind h = absurd (cc)
read_to left (part ∷ parts) kind h =
    elim (step_err (target_of part) (next left parts) kind h) [
      | inl e ↦ here left part parts kind (record { fault = inl e })
      | inr step ↦ at (λ target e. read_to (left ++ target ∷ []) parts kind e) step.0 step.1 (list_any (same_target step.0) left) refl step.2
    ]
  where
    at : ((target : Target) → targets_after (left ++ target ∷ []) parts ≡ Err kind → ReadTo (left ++ target ∷ []) parts kind)
        → (target : Target) → target_of part ≡ Ok target → (b : Bool) → list_any (same_target target) left ≡ b
        → cond b (Err DuplicateTarget) (targets_after (left ++ target ∷ []) parts) ≡ Err kind → ReadTo left (part ∷ parts) kind
    at others target read true among e = let same : DuplicateTarget ≡ kind = cc in here left part parts kind (record { fault = inr (target, read, among, same) })
    at others target read false fresh e =
        let rest : ReadTo (left ++ target ∷ []) parts kind = others target e in
        record {
          before = part ∷ rest.before;
          part = rest.part;
          after = rest.after;
          whole = ap (λ (more : List (List ℕ)). part ∷ more) rest.whole;
          new = target ∷ rest.new;
          read = read_more part target rest.before rest.new read rest.read;
          apart = (fresh, rest.apart);
          faulty = subst (λ (front : List Target). IsFaultyPart front rest.part kind) (append_assoc left (target ∷ []) rest.new) rest.faulty;
        }

-- ---- whole words
sound_front : (parts rest : List (List ℕ)) (targets : List Target) → AreTargets parts targets → targets_after [] (parts ++ rest) ≡ targets_after targets rest
sound_front parts rest targets sound = read_front [] parts rest targets sound.read (apart_from [] targets sound.apart)

are_targets : (parts : List (List ℕ)) (targets : List Target) → targets_after [] parts ≡ Ok targets → AreTargets parts targets
are_targets parts targets h =
    let whole : ReadWhole [] parts targets = read_whole [] parts targets h in
    subst (λ (all : List Target). AreTargets parts all) (sym whole.joined) (record { read = whole.read; apart = apart_splits [] whole.new whole.apart })

first_faulty : (parts : List (List ℕ)) (kind : ProfileFaultKind) → targets_after [] parts ≡ Err kind → IsFirstFaultyPart parts kind
first_faulty parts kind h =
    let read : ReadTo [] parts kind = read_to [] parts kind h in
    record {
      before = read.before;
      part = read.part;
      after = read.after;
      whole = read.whole;
      earlier = read.new;
      sound = record { read = read.read; apart = apart_splits [] read.new read.apart };
      faulty = read.faulty;
    }

faulty_refused : (parts : List (List ℕ)) (kind : ProfileFaultKind) → IsFirstFaultyPart parts kind → targets_after [] parts ≡ Err kind
faulty_refused parts kind is =
    ap (λ (all : List (List ℕ)). targets_after [] all) is.whole
    ∙ sound_front is.before (is.part ∷ is.after) is.earlier is.sound
    ∙ at is.faulty.fault
  where
    at : (target_of is.part ≡ Err kind) ⊎ ((target : Target) × (target_of is.part ≡ Ok target) × (list_any (same_target target) is.earlier ≡ true) × (DuplicateTarget ≡ kind))
        → targets_after is.earlier (is.part ∷ is.after) ≡ Err kind
    at (inl e) = ap (λ answer. answer >>= next is.earlier is.after) e
    at (inr again) =
        ap (λ answer. answer >>= next is.earlier is.after) again.1
        ∙ ap (λ b. cond b (Err DuplicateTarget) (targets_after (is.earlier ++ again.0 ∷ []) is.after)) again.2
        ∙ ap Err again.3

pub targets_are_read : (word : List ℕ) → TargetsAreRead word
targets_are_read word =
    let parts = slice_split is_comma word in
    record {
      read = λ targets. (are_targets parts targets, λ are. ap (λ (all : List (List ℕ)). targets_after [] all) (sym (append-nil parts)) ∙ sound_front parts [] targets are);
      refused = λ kind. (first_faulty parts kind, faulty_refused parts kind);
    }

-- One entry at a place, and its bytes.
use Rattle.zeb_leaf.proofs.Cited.{◌≡◌, ◌≢◌, ℕ, ◌+◌, ◌^◌, ◌<◌, ◌≤◌, List, [], ◌++◌, length, take, drop, refl, sym, ◌∙◌, ap, subst, arith, length-append, length-drop, length-take-le, take-append-drop, drop-append_seam, Entry, IsEntry, shared_of, Place, Follows, behind_entry, Walk, Steps, IsStuck, Parts, AreSmall, Fit, entry_told, IsUtf8, nat_eq}
use Rattle.std.proofs.lemmas.List.Sums.{common_prefix_len-le}
use Rattle.zeb_leaf.specs.Leaves.{entry_bytes}
use Rattle.zeb_leaf.specs.PrivateTold.{parts_bytes}
use Rattle.zeb_leaf.proofs.Parts.{NoParts, same_parts, some_parts}
use Rattle.zeb_leaf.proofs.Rising.{Above, above_told, rises_behind, shared_told, take_shared}

-- the parts in which an entry is told behind a term
abbrev pub parts_of : List ℕ → Entry → Parts
parts_of before e = record {
  shared = shared_of before e.term;
  suffix = drop (shared_of before e.term) e.term;
  block = e.block;
  records = e.records;
  bytes = e.bytes;
}

pub bytes_by_parts : (before : List ℕ) (e : Entry) → entry_bytes before e ≡ parts_bytes (parts_of before e)
unfolding entry_bytes parts_bytes
bytes_by_parts before e = refl

pub shared-le : (before term : List ℕ) → (shared_of before term ≤ length before) × (shared_of before term ≤ length term)
shared-le before term = common_prefix_len-le nat_eq before term

pub parts_small : (before : List ℕ) (e : Entry) → IsEntry e → AreSmall (parts_of before e)
parts_small before e sound =
    let within = (shared-le before e.term).1 in
    record {
      shared = omega (arith, sound.term);
      suffix = omega (arith, sound.term, length-drop (shared_of before e.term) e.term);
      block = omega (arith, sound.block);
      records = omega (arith, sound.records.1);
      bytes = sound.bytes;
    }

-- an entry is told by its parts
pub told_parts : (before : List ℕ) (e : Entry) → entry_told before (parts_of before e) ≡ e
told_parts before e =
    let whole : take (shared_of before e.term) before ++ drop (shared_of before e.term) e.term ≡ e.term =
    ap (λ (front : List ℕ). front ++ drop (shared_of before e.term) e.term) (take_shared before e.term) ∙ take-append-drop (shared_of before e.term) e.term in
    ap (λ (term : List ℕ). record e { term = term }) whole

pub same_entry : (before : List ℕ) (e f : Entry) (left right : List ℕ) → IsEntry e → IsEntry f → entry_bytes before e ++ left ≡ entry_bytes before f ++ right → (e ≡ f) × (left ≡ right)
same_entry before e f left right sound sound' same =
    let at = ap (λ (b : List ℕ). b ++ left) (sym (bytes_by_parts before e)) ∙ same ∙ ap (λ (b : List ℕ). b ++ right) (bytes_by_parts before f) in
    let (parts, rest) = same_parts (parts_of before e) (parts_of before f) left right (parts_small before e sound) (parts_small before f sound') at in
    (sym (told_parts before e) ∙ ap (entry_told before) parts ∙ told_parts before f, rest)

pub some_bytes : (before : List ℕ) (e : Entry) (rest : List ℕ) → IsEntry e → [] ≢ entry_bytes before e ++ rest
some_bytes before e rest sound same = some_parts (parts_of before e) rest (parts_small before e sound) (same ∙ ap (λ (b : List ℕ). b ++ rest) (bytes_by_parts before e))

-- the parts of an entry that may come at the place fit there
pub follows_fit : (place : Place) (e : Entry) → Follows place e → Fit place (parts_of place.term e)
follows_fit place e follows =
    let within = shared-le place.term e.term in
    record {
      shared = within.0;
      rises = rises_behind place.term e.term place.least e.block follows.above;
      sound = record {
        term = omega (arith, within.1, follows.sound.term, length-drop (shared_of place.term e.term) e.term);
        block = follows.sound.block;
        records = follows.sound.records;
      };
    }

-- parts that fit tell an entry that may come there, if its term is text, and are its parts
pub record Told (place : Place) (p : Parts) : Type 0 where
  pub follows : Follows place (entry_told place.term p)
  pub parts : parts_of place.term (entry_told place.term p) ≡ p

pub fit_told : (place : Place) (p : Parts) → AreSmall p → Fit place p → IsUtf8 (take p.shared place.term ++ p.suffix) → Told place p
fit_told place p small fit text =
    let front = take p.shared place.term in
    let xs = drop p.shared place.term in
    let long : length front ≡ p.shared = length-take-le p.shared place.term fit.shared in
    let whole : front ++ xs ≡ place.term = take-append-drop p.shared place.term in
    let above = subst (λ (b : List ℕ). Above b place.least (front ++ p.suffix) p.block) whole (above_told front xs p.suffix place.least p.block fit.rises) in
    let shared = subst (λ (b : List ℕ). shared_of b (front ++ p.suffix) ≡ length front) whole (shared_told front xs p.suffix place.least p.block fit.rises) in
    let suffix : drop (shared_of place.term (front ++ p.suffix)) (front ++ p.suffix) ≡ p.suffix = ap (λ (n : ℕ). drop n (front ++ p.suffix)) shared ∙ drop-append_seam front p.suffix in
    let term : length (front ++ p.suffix) < 2 ^ 64 = omega (arith, length-append front p.suffix, long, fit.sound.term) in
    record {
      follows = record { above = above; sound = record { text = text; term = term; block = fit.sound.block; records = fit.sound.records; bytes = small.bytes } };
      parts = λ i. record { shared = (shared ∙ long) i; suffix = suffix i; block = p.block; records = p.records; bytes = p.bytes };
    }

-- ---- what a walk meets

-- the bytes of an entry that stands there are its parts
step_parts : (walk : Walk) (e : Entry) (new : Walk) → Steps walk e new → walk.left ≡ parts_bytes (parts_of walk.place.term e) ++ new.left
step_parts walk e new step = step.spelled ∙ ap (λ (b : List ℕ). b ++ new.left) (bytes_by_parts walk.place.term e)

pub stuck_unread : (walk : Walk) → ¬ (walk.left ≡ []) → NoParts walk.left → IsStuck walk
stuck_unread walk some none = record {
  some = some;
  none = λ e new step. none (parts_of walk.place.term e) new.left (parts_small walk.place.term e step.follows.sound) (step_parts walk e new step);
}

-- where parts stand at the front, an entry that stands there has these parts
module _ (walk : Walk) (p : Parts) (left : List ℕ) (some : ¬ (walk.left ≡ [])) (small : AreSmall p) (is : walk.left ≡ parts_bytes p ++ left) where
  met : (e : Entry) (new : Walk) → Steps walk e new → parts_of walk.place.term e ≡ p
  met e new step = (same_parts (parts_of walk.place.term e) p new.left left (parts_small walk.place.term e step.follows.sound) small (sym (step_parts walk e new step) ∙ is)).0

  pub stuck_unfit : ¬ Fit walk.place p → IsStuck walk
  stuck_unfit unfit = record { some = some; none = λ e new step. unfit (subst (Fit walk.place) (met e new step) (follows_fit walk.place e step.follows)) }

  pub stuck_no_text : ¬ IsUtf8 (take p.shared walk.place.term ++ p.suffix) → IsStuck walk
  stuck_no_text none = record {
    some = some;
    none = λ e new step.
        let told : e ≡ entry_told walk.place.term p = sym (told_parts walk.place.term e) ∙ ap (entry_told walk.place.term) (met e new step) in
        none (subst (λ (f : Entry). IsUtf8 f.term) told step.follows.sound.text);
  }

pub step_read : (walk : Walk) (p : Parts) (left : List ℕ) → AreSmall p → walk.left ≡ parts_bytes p ++ left → Fit walk.place p → IsUtf8 (take p.shared walk.place.term ++ p.suffix) → Steps walk (entry_told walk.place.term p) (record { place = behind_entry (entry_told walk.place.term p); left = left })
step_read walk p left small is fit text =
    let told = fit_told walk.place p small fit text in
    let e = entry_told walk.place.term p in
    record {
      follows = told.follows;
      spelled = is ∙ ap (λ (q : Parts). parts_bytes q ++ left) (sym told.parts) ∙ ap (λ (b : List ℕ). b ++ left) (sym (bytes_by_parts walk.place.term e));
      place = refl;
    }

-- the step that leads on with its term set
pub step_set : (walk self : Walk) (p : Parts) (left term : List ℕ) → walk ≡ self → term ≡ take p.shared walk.place.term ++ p.suffix → AreSmall p → walk.left ≡ parts_bytes p ++ left → Fit walk.place p → IsUtf8 term
    → Steps self (record { term = term; block = p.block; records = p.records; bytes = p.bytes }) (record { place = record { term = term; least = p.block + 1 }; left = left })
step_set walk self p left term self_is term_is small is fit text =
    let here = step_read walk p left small is fit (subst IsUtf8 term_is text) in
    let moved = subst (λ (t : List ℕ). Steps walk (record { term = t; block = p.block; records = p.records; bytes = p.bytes }) (record { place = record { term = t; least = p.block + 1 }; left = left })) (sym term_is) here in
    subst (λ (w : Walk). Steps w (record { term = term; block = p.block; records = p.records; bytes = p.bytes }) (record { place = record { term = term; least = p.block + 1 }; left = left })) self_is moved

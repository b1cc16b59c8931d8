-- A set that holds just the keys of a list.
use Rattle.zeb_profile.proofs.Cited.{◌≡◌, ℕ, List, [], ◌∷◌, ◌++◌, map, true, false, Bool, cond, ◌||◌, ◌&&◌, not, String, refl, sym, ◌∙◌, inl, inr, BTreeSet, Updates, UpdatesBy, contains, contains_text, slice_cmp, list_any, nat_cmp, bytes_eq, string_cmp, cases_Bool, false_from_ne_true, map-append, list_any-append, btree_set_updates_text, bytes_eq-Decides, Target, Register, Word, Phrase, Number, register_text, name_key, target_key, same_name, same_register, same_target}
use Rattle.std.specs.String.{string_bytes}

pub bytes_eq-sym : (a b : List ℕ) → bytes_eq a b ≡ bytes_eq b a
bytes_eq-sym a b =
    elim (cases_Bool (bytes_eq a b)) [
      | inl e ↦ e ∙ sym ((bytes_eq-Decides b a).1 (sym ((bytes_eq-Decides a b).0 e)))
      | inr e ↦ e ∙ sym (false_from_ne_true (bytes_eq b a) (λ h. absurd (cc (e, (bytes_eq-Decides a b).1 (sym ((bytes_eq-Decides b a).0 h))))))
    ]

pub or_false : (b : Bool) → (b || false) ≡ b
or_false true = refl
or_false false = refl

pub or_as_cond : (a b : Bool) → cond b true a ≡ (a || b)
or_as_cond true true = refl
or_as_cond true false = refl
or_as_cond false true = refl
or_as_cond false false = refl

-- an insertion that adds nothing found the key, and one that adds it didn't
pub insert_refused : (added found among : Bool) → added ≡ not found → added ≡ false → found ≡ among → among ≡ true
insert_refused added true among a n e = sym e
insert_refused added false among a n e = absurd (cc)

pub insert_took : (added found among : Bool) → added ≡ not found → added ≡ true → found ≡ among → among ≡ false
insert_took added false among a n e = sym e
insert_took added true among a n e = absurd (cc)

module _ {Y : Type 0} where
  -- the set has just the keys of the list
  abbrev pub HoldsKeys : BTreeSet (String Y) → List (List ℕ) → Type 0
  HoldsKeys set keys = (key : List ℕ) → contains_text set key ≡ list_any (bytes_eq key) keys

  -- with one key more the set has the keys of the list with that key behind
  pub holds_keys-push : (old new : BTreeSet (String Y)) (keys : List (List ℕ)) (key : List ℕ) → HoldsKeys old keys
      → UpdatesBy string_cmp (λ k. slice_cmp nat_cmp key (string_bytes k)) old new true → HoldsKeys new (keys ++ key ∷ [])
  holds_keys-push old new keys key holds updates = λ other.
      let now : contains_text new other ≡ cond (bytes_eq key other) true (contains_text old other) = btree_set_updates_text key old new true updates other in
      now ∙ rw (bytes_eq-sym key other, holds other, list_any-append (bytes_eq other) keys (key ∷ []), or_false (bytes_eq other key)) (or_as_cond (list_any (bytes_eq other) keys) (bytes_eq other key))

-- ---- targets by their keys
and_true : (b : Bool) → b ≡ (b && true)
and_true true = refl
and_true false = refl

and_false : (b : Bool) → false ≡ (b && false)
and_false true = refl
and_false false = refl

-- two targets are the same just where their keys are
same_parts : (a b : List ℕ) (r s : Register) → bytes_eq (register_text r ++ name_key a) (register_text s ++ name_key b) ≡ (same_name a b && same_register r s)
same_parts a b Word Word = and_true (same_name a b)
same_parts a b Word Phrase = and_false (same_name a b)
same_parts a b Word Number = and_false (same_name a b)
same_parts a b Phrase Word = and_false (same_name a b)
same_parts a b Phrase Phrase = and_true (same_name a b)
same_parts a b Phrase Number = and_false (same_name a b)
same_parts a b Number Word = and_false (same_name a b)
same_parts a b Number Phrase = and_false (same_name a b)
same_parts a b Number Number = and_true (same_name a b)

pub any_key : (target : Target) (targets : List Target) → list_any (bytes_eq (target_key target)) (map target_key targets) ≡ list_any (same_target target) targets
any_key target [] = refl
any_key target (x ∷ xs) = rw (same_parts target.name x.name target.register x.register, any_key target xs) refl

module _ {Y : Type 0} where
  -- a target is looked up among others by its key
  pub holds_target : (set : BTreeSet (String Y)) (targets : List Target) (target : Target) (key : String Y) → HoldsKeys set (map target_key targets)
      → string_bytes key ≡ target_key target → contains string_cmp set key ≡ list_any (same_target target) targets
  holds_target set targets target key holds of =
      let found : contains_text set (target_key target) ≡ list_any (same_target target) targets = holds (target_key target) ∙ any_key target targets in
      rw (← of) at found

  -- and has its key with theirs
  pub holds_target-push : (old new : BTreeSet (String Y)) (targets : List Target) (target : Target) (key : String Y) → HoldsKeys old (map target_key targets)
      → string_bytes key ≡ target_key target → Updates string_cmp old new key true → HoldsKeys new (map target_key (targets ++ target ∷ []))
  holds_target-push old new targets target key holds of updates =
      rw (map-append target_key targets (target ∷ []), ← of) (holds_keys-push old new (map target_key targets) (string_bytes key) holds updates)

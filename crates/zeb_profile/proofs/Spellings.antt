-- The spellings of names, at their keys, while the names get their numbers.
use Rattle.zeb_profile.proofs.Cited.{◌≡◌, ℕ, List, [], ◌∷◌, ◌++◌, Bool, true, false, cond, ◌||◌, Bor, String, Option, Some, None, option_map, unwrap_or, refl, sym, ◌∙◌, ap, inl, inr, if◌then◌else◌, BTreeMap, get_by_text, find, list_any, option_or, is_some, bytes_eq, string_cmp, cases_Bool, false_from_ne_true, list_any-append, btree_map_updates_text, bytes_eq-Decides, NotesSpelling, name_key, numbered, spelled, spelled_at, same_name}
use Rattle.std.specs.BTreeMap.{Updates}
use Rattle.std.specs.String.{string_bytes}
use Rattle.zeb_profile.proofs.KnownKeys.{bytes_eq-sym}
use Rattle.zeb_profile.proofs.Numbering.{same_lower, same_name-along, same_name-refl}

option_or-none : {X : Type 0} (a : Option X) → a ≡ option_or a None
option_or-none None = refl
option_or-none (Some x) = refl

some_or : {X Z : Type 0} (f : X → Z) (a : Option X) (b : Option Z) → is_some a ≡ true → option_map f a ≡ option_or (option_map f a) b
some_or f None b h = absurd (cc)
some_or f (Some x) b h = refl

none_or : {X Z : Type 0} (f : X → Z) (a : Option X) (b : Option Z) → is_some a ≡ false → b ≡ option_or (option_map f a) b
none_or f None b h = refl
none_or f (Some x) b h = absurd (cc)

here_or_later : {X : Type 0} (a : Option X) (here : Bool) (x : X) (rest : Option X)
    → option_or (option_or a (if here then Some x else None)) rest ≡ option_or a (cond here (Some x) rest)
here_or_later None true x rest = refl
here_or_later None false x rest = refl
here_or_later (Some y) true x rest = refl
here_or_later (Some y) false x rest = refl

unwrap_either : {X : Type 0} (a : Option X) (x : X) → unwrap_or a x ≡ unwrap_or (option_or a (Some x)) x
unwrap_either None x = refl
unwrap_either (Some y) x = refl

neither : (a b : Bool) → (a || (b || false)) ≡ false → (a ≡ false) × (b ≡ false)
neither false false h = (refl, refl)
neither false true h = absurd (cc)
neither true b h = absurd (cc)

-- what is the same as a name of the list has the same among them
same_among : (names : List (List ℕ)) (n m : List ℕ) → same_name n m ≡ true → list_any (same_name m) names ≡ list_any (same_name n) names
same_among names n m same = ap (λ (low : List ℕ). list_any (λ x. bytes_eq low (name_key x)) names) (sym (same_lower n m same))

-- a name that is not among these with one more is neither among them nor the same as that one
left_out : (spell : List ℕ → List ℕ) (names : List (List ℕ)) (t n : List ℕ) → (list_any (same_name t) names ≡ false → same_name (spell t) t ≡ true)
    → list_any (same_name n) (numbered spell names t) ≡ false → (list_any (same_name n) names ≡ false) × (same_name n t ≡ false)
left_out spell names t n same out =
    elim (cases_Bool (list_any (same_name t) names)) [
      | inl e ↦
          let none : list_any (same_name n) names ≡ false = rw e at out in
          (none, false_from_ne_true (same_name n t) (λ h. absurd (cc (e, none, same_among names n t h))))
      | inr e ↦
          let none : list_any (same_name n) (names ++ spell t ∷ []) ≡ false = rw e at out in
          let parts = neither (list_any (same_name n) names) (same_name n (spell t)) (sym (list_any-append (same_name n) names (spell t ∷ [])) ∙ none) in
          (parts.0, sym (same_name-along (spell t) t n (same e)) ∙ parts.1)
    ]

module _ {Y : Type 0} where
  -- a name whose key has a spelling changes nothing
  pub notes_known : (spellings : BTreeMap (String Y) (Bor (List ℕ))) (name : List ℕ) → is_some (get_by_text spellings (name_key name)) ≡ true
      → NotesSpelling spellings spellings name
  notes_known spellings name known = λ key.
      elim (cases_Bool (bytes_eq key (name_key name))) [
        | inl e ↦
            let at : key ≡ name_key name = (bytes_eq-Decides key (name_key name)).0 e in
            some_or (λ spelling. spelling.now) (get_by_text spellings key) (if bytes_eq key (name_key name) then Some name else None) (rw at known)
        | inr e ↦ rw e (option_or-none (spelled_at spellings key))
      ]

  -- and another is noted
  pub notes_new : (old new : BTreeMap (String Y) (Bor (List ℕ))) (name : Bor (List ℕ)) (key : String Y) → string_bytes key ≡ name_key name.now
      → is_some (get_by_text old (name_key name.now)) ≡ false → Updates string_cmp old new key (Some name) → NotesSpelling old new name.now
  notes_new old new name key of unknown updates = λ other.
      let now : get_by_text new other ≡ cond (bytes_eq (name_key name.now) other) (Some name) (get_by_text old other) = rw of at (btree_map_updates_text (string_bytes key) old new (Some name) updates other) in
      elim (cases_Bool (bytes_eq other (name_key name.now))) [
        | inl e ↦
            let at : other ≡ name_key name.now = (bytes_eq-Decides other (name_key name.now)).0 e in
            rw (now, bytes_eq-sym (name_key name.now) other, e) (none_or (λ spelling. spelling.now) (get_by_text old other) (Some name.now) (rw at unknown))
        | inr e ↦ rw (now, bytes_eq-sym (name_key name.now) other, e) (option_or-none (spelled_at old other))
      ]

  -- Of a name without a number the first of all spellings is noted, or else stands first among the names that are left.
  abbrev pub IsSpelledBy : BTreeMap (String Y) (Bor (List ℕ)) → List (List ℕ) → List (List ℕ) → List (List ℕ) → Type 0
  IsSpelledBy tied numbered left all = (name : List ℕ) → list_any (same_name name) numbered ≡ false
      → option_or (spelled_at tied (name_key name)) (find (same_name name) left) ≡ find (same_name name) all

  -- so it is where the next name is noted
  pub spelled_noted : (old new : BTreeMap (String Y) (Bor (List ℕ))) (names left all : List (List ℕ)) (name : List ℕ)
      → IsSpelledBy old names (name ∷ left) all → NotesSpelling old new name → IsSpelledBy new names left all
  spelled_noted old new names left all name is notes = λ n out.
      rw (notes (name_key n)) (here_or_later (spelled_at old (name_key n)) (same_name n name) name (find (same_name n) left)) ∙ is n out

  -- and where it gets its number
  pub spelled_numbered : (spell : List ℕ → List ℕ) (tied : BTreeMap (String Y) (Bor (List ℕ))) (names left all : List (List ℕ)) (t : List ℕ)
      → (list_any (same_name t) names ≡ false → same_name (spell t) t ≡ true)
      → IsSpelledBy tied names (t ∷ left) all → IsSpelledBy tied (numbered spell names t) left all
  spelled_numbered spell tied names left all t same is = λ n out.
      let parts = left_out spell names t n same out in
      rw (parts.1) at (is n parts.0)

  -- a name that gets a number is spelled as it first is
  pub spelled_first : (tied : BTreeMap (String Y) (Bor (List ℕ))) (names left all : List (List ℕ)) (t : List ℕ) → IsSpelledBy tied names (t ∷ left) all
      → list_any (same_name t) names ≡ false → spelled tied t ≡ unwrap_or (find (same_name t) all) t
  spelled_first tied names left all t is new =
      let first : option_or (spelled_at tied (name_key t)) (Some t) ≡ find (same_name t) all = rw (same_name-refl t) at (is t new) in
      unwrap_either (spelled_at tied (name_key t)) t ∙ ap (λ found. unwrap_or found t) first

  -- so it is numbered as by the first spelling
  pub numbered_first : (tied : BTreeMap (String Y) (Bor (List ℕ))) (names left all : List (List ℕ)) (t : List ℕ) → IsSpelledBy tied names (t ∷ left) all
      → numbered (spelled tied) names t ≡ numbered (λ name. unwrap_or (find (same_name name) all) name) names t
  numbered_first tied names left all t is =
      elim (cases_Bool (list_any (same_name t) names)) [
        | inl e ↦ rw e refl
        | inr e ↦ rw e (ap (λ (spelling : List ℕ). names ++ spelling ∷ []) (spelled_first tied names left all t is e))
      ]

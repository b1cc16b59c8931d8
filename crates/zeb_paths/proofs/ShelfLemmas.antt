-- The names in a folder of files in memory, where they are gathered one by one.
use Rattle.std.proofs.Common.{◌≡◌, ◌≢◌, ◌+◌, ◌∙◌, ℕ, Bool, true, false, List, [], ◌∷◌, ◌++◌, arith, ap, append_assoc, drop, inl, inr, length, map, refl, subst, sym, take}
use Rattle.std.specs.Prelude.{◌⊎◌, Contains, MatchOption, Option, None, Some, String, string_bytes, ◌||◌}
use Rattle.std.specs.declared.alloc.Global.{Global}
use Rattle.std.specs.Borrow.{Bor}
use Rattle.std.specs.List.{IsDistinct, list_any}
use Rattle.std.specs.Option.{option_map}
use Rattle.std.specs.Str.{bytes_eq}
use Rattle.std.proofs.lemmas.Cmp.{nat_list_eq_equiv}
use Rattle.std.proofs.lemmas.List.{append-nil, append_cancel_left, length-append, take-append-drop}
use Rattle.std.proofs.lemmas.List.Elements.{Contains-append_cases, Contains-append_left, Contains-append_right, Contains-push, Contains-push_cases, filter_map-append}
use Rattle.std.proofs.lemmas.Map.Keys.{IsDistinct-push}
use Rattle.std.proofs.lemmas.Slice.Eq.{bytes_eq-Decides}
use Rattle.std.proofs.Math.Seq.{drop-append_seam, take-append_seam}
use Rattle.zeb_paths.specs.PrivateNames.{Adds, AddsAny}
use Rattle.zeb_paths.specs.Told.{AreNames, below, name_below, names_in}
use Rattle.zeb_paths.specs.declared.causes.PathCause.{PathCause}
use Rattle.zeb_paths.specs.declared.causes.PathCause.TheVariants.{Memory}
use Rattle.zeb_paths.specs.declared.shelf.Shelved.{Shelved}

-- ---- a path below a folder

below_some : (folder path rest : List ℕ) → path ≡ folder ++ 47 ∷ rest → below folder path ≡ Some rest
below_some folder path rest is =
    let front = folder ++ 47 ∷ [] in
    let whole : path ≡ front ++ rest = is ∙ sym (append_assoc folder (47 ∷ []) rest) in
    let long : length folder + 1 ≡ length front = omega (arith, length-append folder (47 ∷ [])) in
    let same : bytes_eq (take (length folder + 1) path) front ≡ true = (bytes_eq-Decides (take (length folder + 1) path) front).1 (rw (whole, long) (take-append_seam front rest)) in
    let behind : drop (length folder + 1) path ≡ rest = rw (whole, long) (drop-append_seam front rest) in
    rw same (ap Some behind)

below_none : (folder path : List ℕ) (same : Bool) → same ≡ bytes_eq (take (length folder + 1) path) (folder ++ 47 ∷ []) → ((rest : List ℕ) → path ≢ folder ++ 47 ∷ rest) → below folder path ≡ None
below_none folder path false e other = rw (sym e) refl
below_none folder path true e other =
    let front : take (length folder + 1) path ≡ folder ++ 47 ∷ [] = (bytes_eq-Decides (take (length folder + 1) path) (folder ++ 47 ∷ [])).0 (sym e) in
    let behind = drop (length folder + 1) path in
    let whole : path ≡ folder ++ 47 ∷ behind = sym (take-append-drop (length folder + 1) path) ∙ ap (λ f. f ++ behind) front ∙ append_assoc folder (47 ∷ []) behind in
    absurd (other behind whole)

-- what stands behind the folder, and then behind a slash
pub below_folder : (folder path : List ℕ) (r : Option (Bor (List ℕ))) → MatchOption r ((rest : List ℕ) → path ≢ folder ++ 47 ∷ rest) (λ x. path ≡ folder ++ 47 ∷ x.now)
    → option_map (λ rest. rest.now) r ≡ below folder path
below_folder folder path None other = sym (below_none folder path _ refl other)
below_folder folder path (Some x) is = sym (below_some folder path x.now is)

pub no_folder : (folder path : List ℕ) (r : Option (Bor (List ℕ))) → r ≡ None → ((rest : List ℕ) → path ≢ folder ++ rest) → option_map (λ rest. rest.now) r ≡ below folder path
no_folder folder path r none other = ap (option_map (λ rest. rest.now)) none ∙ below_folder folder path None (λ rest. other (47 ∷ rest))

no_slash : (folder path behind : List ℕ) → path ≡ folder ++ behind → ((rest : List ℕ) → behind ≢ 47 ∷ rest) → (rest : List ℕ) → path ≢ folder ++ 47 ∷ rest
no_slash folder path behind is other rest e = other rest (append_cancel_left folder behind (47 ∷ rest) (sym is ∙ e))

pub in_folder : (folder path behind : List ℕ) (r : Option (Bor (List ℕ))) → path ≡ folder ++ behind → MatchOption r ((rest : List ℕ) → behind ≢ 47 ∷ rest) (λ x. behind ≡ 47 ∷ x.now)
    → option_map (λ rest. rest.now) r ≡ below folder path
in_folder folder path behind None is other = below_folder folder path None (no_slash folder path behind is other)
in_folder folder path behind (Some x) is same = below_folder folder path (Some x) (is ∙ ap (λ rest. folder ++ rest) same)

-- ---- whether a name is known

either : (first rest : Bool) → (first || rest) ≡ true → (first ≡ true) ⊎ (rest ≡ true)
either true rest e = inl refl
either false rest e = inr e

or_true : (first : Bool) → (first || true) ≡ true
or_true true = refl
or_true false = refl

known_step : (one : String Global) (names : List (String Global)) (name : List ℕ) (rest : Bool) → (bytes_eq (string_bytes one) name ≡ true) ⊎ (rest ≡ true) → (rest ≡ true → Contains (map string_bytes names) name)
    → Contains (string_bytes one ∷ map string_bytes names) name
known_step one names name rest (inl same) later = (0, omega arith, (bytes_eq-Decides (string_bytes one) name).0 same)
known_step one names name rest (inr some) later = Contains-append_right (string_bytes one ∷ []) (map string_bytes names) name (later some)

pub known_is : (names : List (String Global)) (name : List ℕ) → list_any (λ known. bytes_eq (string_bytes known) name) names ≡ true → Contains (map string_bytes names) name
known_is [] name e = absurd cc
known_is (one ∷ names) name e =
    let rest = list_any (λ known. bytes_eq (string_bytes known) name) names in
    known_step one names name rest (either (bytes_eq (string_bytes one) name) rest e) (known_is names name)

first_same : (one : String Global) (name : List ℕ) → Contains [] name ⊎ (string_bytes one ≡ name) → bytes_eq (string_bytes one) name ≡ true
first_same one name (inl none) = absurd (omega (arith, none.1))
first_same one name (inr same) = (bytes_eq-Decides (string_bytes one) name).1 same

is_step : (one : String Global) (names : List (String Global)) (name : List ℕ) (rest : Bool) → Contains (string_bytes one ∷ []) name ⊎ Contains (map string_bytes names) name → (Contains (map string_bytes names) name → rest ≡ true)
    → (bytes_eq (string_bytes one) name || rest) ≡ true
is_step one names name rest (inl only) later = rw (first_same one name (Contains-push_cases [] (string_bytes one) name only)) refl
is_step one names name rest (inr some) later = ap (λ b. bytes_eq (string_bytes one) name || b) (later some) ∙ or_true (bytes_eq (string_bytes one) name)

is_known : (names : List (String Global)) (name : List ℕ) → Contains (map string_bytes names) name → list_any (λ known. bytes_eq (string_bytes known) name) names ≡ true
is_known [] name has = absurd (omega (arith, has.1))
is_known (one ∷ names) name has =
    is_step one names name (list_any (λ known. bytes_eq (string_bytes known) name) names) (Contains-append_cases (string_bytes one ∷ []) (map string_bytes names) name has) (is_known names name)

pub not_known : (names : List (String Global)) (name : List ℕ) → list_any (λ known. bytes_eq (string_bytes known) name) names ≡ false → ¬ Contains (map string_bytes names) name
not_known names name none has = let both : true ≡ false = sym (is_known names name has) ∙ none in absurd cc

-- ---- a further name

is_false : (b : Bool) → (b ≡ true → ⊥) → b ≡ false
is_false true never = absurd (never refl)
is_false false never = refl

none_any : (given : List (List ℕ)) (name : List ℕ) → ¬ Contains given name → list_any (bytes_eq name) given ≡ false
none_any [] name not = refl
none_any (one ∷ given) name not =
    let differs : bytes_eq name one ≡ false = is_false (bytes_eq name one) (λ same. not (0, omega arith, sym ((bytes_eq-Decides name one).0 same))) in
    rw differs (none_any given name (λ has. not (Contains-append_right (one ∷ []) given name has)))

empty_more : (told : List (List ℕ)) (name : List ℕ) → ¬ Contains told [] → name ≢ [] → Contains told [] ⊎ (name ≡ []) → ⊥
empty_more told name none some (inl has) = none has
empty_more told name none some (inr is) = some is

-- the names that are told, and one more
names_more : (told given new : List (List ℕ)) (name : List ℕ) → AreNames told given → name ≢ [] → Adds name given new → AreNames (told ++ name ∷ []) new
names_more told given new name are some (inl known) =
    subst (AreNames (told ++ name ∷ [])) (sym known.1) (
      λ one. (λ has. Contains-append_left told (name ∷ []) one ((are.0 one).0 has), λ has. here one (Contains-push_cases told name one has)),
      are.1,
      λ has. empty_more told name are.2 some (Contains-push_cases told name [] has),
    )
  where
    here : (one : List ℕ) → Contains told one ⊎ (name ≡ one) → Contains given one
    here one (inl has) = (are.0 one).1 has
    here one (inr is) = subst (Contains given) is known.0
names_more told given new name are some (inr other) =
    subst (AreNames (told ++ name ∷ [])) (sym other.1) (
      λ one. (λ has. to one (Contains-push_cases given name one has), λ has. fro one (Contains-push_cases told name one has)),
      IsDistinct-push nat_list_eq_equiv given name are.1 (none_any given name other.0),
      λ has. empty_more told name are.2 some (Contains-push_cases told name [] has),
    )
  where
    to : (one : List ℕ) → Contains given one ⊎ (name ≡ one) → Contains (told ++ name ∷ []) one
    to one (inl has) = Contains-append_left told (name ∷ []) one ((are.0 one).0 has)
    to one (inr is) = subst (Contains (told ++ name ∷ [])) is (Contains-push told name)

    fro : (one : List ℕ) → Contains told one ⊎ (name ≡ one) → Contains (given ++ name ∷ []) one
    fro one (inl has) = Contains-append_left given (name ∷ []) one ((are.0 one).1 has)
    fro one (inr is) = subst (Contains (given ++ name ∷ [])) is (Contains-push given name)

-- ---- the files so far

names_none : (files : List Shelved) (i : ℕ) (file : Shelved) (folder : List ℕ) → take (i + 1) files ≡ take i files ++ file ∷ [] → name_below folder file.path.now ≡ None
    → names_in (take (i + 1) files) folder ≡ names_in (take i files) folder
names_none files i file folder more none =
    let one : names_in (file ∷ []) folder ≡ [] = rw none refl in
    ap (λ some. names_in some folder) more ∙ filter_map-append (λ f. name_below folder f.path.now) (take i files) (file ∷ [])
    ∙ ap (λ last. names_in (take i files) folder ++ last) one ∙ append-nil (names_in (take i files) folder)

names_some : (files : List Shelved) (i : ℕ) (file : Shelved) (folder name : List ℕ) → take (i + 1) files ≡ take i files ++ file ∷ [] → name_below folder file.path.now ≡ Some name
    → names_in (take (i + 1) files) folder ≡ names_in (take i files) folder ++ name ∷ []
names_some files i file folder name more some =
    let one : names_in (file ∷ []) folder ≡ name ∷ [] = rw some refl in
    ap (λ some. names_in some folder) more ∙ filter_map-append (λ f. name_below folder f.path.now) (take i files) (file ∷ [])
    ∙ ap (λ last. names_in (take i files) folder ++ last) one

pub names_start : (items : List (String Global)) → items ≡ [] → AreNames [] (map string_bytes items)
unfolding IsDistinct
names_start items none =
    subst (λ all. AreNames [] (map string_bytes all)) (sym none) (λ name. (λ has. has, λ has. has), tt, λ has. absurd (omega (arith, has.1)))

-- one file more
pub names_step : (files : List Shelved) (i : ℕ) (file : Shelved) (folder : List ℕ) (found : Option (List ℕ)) (given new : List (List ℕ)) → take (i + 1) files ≡ take i files ++ file ∷ []
    → name_below folder file.path.now ≡ found → AddsAny found given new → AreNames (names_in (take i files) folder) given → AreNames (names_in (take (i + 1) files) folder) new
names_step files i file folder None given new more is adds are =
    subst (λ told. AreNames told new) (sym (names_none files i file folder more is)) (subst (AreNames (names_in (take i files) folder)) (sym adds) are)
names_step files i file folder (Some name) given new more is adds are =
    subst (λ told. AreNames told new) (sym (names_some files i file folder name more is)) (names_more (names_in (take i files) folder) given new name are adds.0 adds.1)

-- a file's name is among all
names_has : (files : List Shelved) (i : ℕ) (file : Shelved) (folder name : List ℕ) → take (i + 1) files ≡ take i files ++ file ∷ [] → name_below folder file.path.now ≡ Some name → Contains (names_in files folder) name
names_has files i file folder name more is =
    let front = names_in (take i files) folder in
    let behind = names_in (drop (i + 1) files) folder in
    let whole : names_in files folder ≡ (front ++ name ∷ []) ++ behind =
    ap (λ all. names_in all folder) (sym (take-append-drop (i + 1) files))
    ∙ filter_map-append (λ f. name_below folder f.path.now) (take (i + 1) files) (drop (i + 1) files)
    ∙ ap (λ some. some ++ behind) (names_some files i file folder name more is) in
    subst (λ all. Contains all name) (sym whole) (Contains-append_left (front ++ name ∷ []) behind name (Contains-push front name))

-- a file without a name is refused
pub has_refused : (files : List Shelved) (i : ℕ) (file : Shelved) (folder : List ℕ) (cause : PathCause) → take (i + 1) files ≡ take i files ++ file ∷ [] → (cause ≡ Memory) ⊎ (name_below folder file.path.now ≡ Some [])
    → (cause ≡ Memory) ⊎ Contains (names_in files folder) []
has_refused files i file folder cause more (inl starved) = inl starved
has_refused files i file folder cause more (inr none) = inr (names_has files i file folder [] more none)

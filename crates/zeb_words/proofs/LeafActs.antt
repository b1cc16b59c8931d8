-- What the words behind a command say of it.
use Rattle.zeb_words.proofs.Cited.{◌≡◌, ◌≢◌, ◌∙◌, Bool, refl, sym, ap, subst, List, [], ◌∷◌, ◌++◌, Some, None, codes, true, false, map, unwrap_or, append_assoc, append-nil, Row, Text, all_of, rows_after, check_fault, AsWritten, CommandLine, Argument, Flag, Part, Says, arguments, Named, text_or, IsChoiceRead, LayoutChoice, Leaves, Option, Unsaid, None, choice_parts, inl, inr, one_of}
use Rattle.clap.specs.declared.error.kind.ErrorKind.TheVariants as kind
use Rattle.zeb_words.proofs.Leaf.{Bare, Changing, Fits, Founding, Naming, clash, leaves, plain_leaf, rules, uses}
use Rattle.zeb_words.proofs.LeafRead.{Own, finished, own_fault, taken}
use Rattle.zeb_words.proofs.ReadingLemmas.{IsFlagText, same_flag}

-- ---- commands without options

pub no_parts : (parts : List Part) (full : Bool) → Fits Bare full parts → parts ≡ []
no_parts [] full fits = refl
no_parts (Named name value ∷ parts) full fits = elim fits.0 [ ]
no_parts (Flag name ∷ parts) full fits = elim fits.0 [ ]
no_parts (Argument word ∷ parts) full fits = absurd fits.0

pub bare_said : (words : List Text) → Own Bare words → Says words []
bare_said words o = subst (Says words) (no_parts o.parts false o.fits) o.says

-- ---- commands with a flag

pub choice_said : (words : List Text) (choice : LayoutChoice) (o : Own Founding words)
    → IsChoiceRead (one_of (codes "leaves") (finished Founding (uses Founding o.parts []))) choice → Says words (choice_parts choice)
choice_said words choice o read = by o.parts o.says o.fits o.clashes choice read
  where
    by : (parts : List Part) → Says words parts → Fits Founding false parts → clash Founding parts [] ≡ [] → (choice : LayoutChoice)
        → IsChoiceRead (one_of (codes "leaves") (finished Founding (uses Founding parts []))) choice → Says words (choice_parts choice)
    by [] says fits clashes Unsaid read = says
    by [] says fits clashes Leaves read = let bad : true ≡ false = read.no refl in cc
    by (Flag name ∷ []) says (leaves, fits) clashes Leaves read = says
    by (Flag name ∷ []) says (leaves, fits) clashes Unsaid read = let bad : false ≡ true = read.yes refl in cc
    by (Flag name ∷ Flag other ∷ parts) says (leaves, (leaves, fits)) clashes choice read = let bad = clashes in cc
    by (Flag name ∷ Named other value ∷ parts) says fits clashes choice read = elim fits.1.0 [ ]
    by (Flag name ∷ Argument word ∷ parts) says fits clashes choice read = absurd fits.1.0
    by (Named name value ∷ parts) says fits clashes choice read = elim fits.0 [ ]
    by (Argument word ∷ parts) says fits clashes choice read = absurd fits.0

-- ---- commands with arguments

none_behind : (parts : List Part) → Fits Naming true parts → parts ≡ []
none_behind [] fits = refl
none_behind (Named name value ∷ parts) fits = elim fits.0 [ ]
none_behind (Flag name ∷ parts) fits = elim fits.0 [ ]
none_behind (Argument word ∷ parts) fits = let bad : true ≡ false = fits.0 in cc

pub name_said : (words : List Text) (text : Text) (o : Own Naming words) → text ≡ text_or (codes "name") [] (uses Naming o.parts [])
    → Says words (Argument text ∷ [])
name_said words text o is = by o.parts o.says o.fits o.checked is
  where
    by : (parts : List Part) → Says words parts → Fits Naming false parts → check_fault (plain_leaf Naming) (uses Naming parts []) false ≡ []
        → text ≡ text_or (codes "name") [] (uses Naming parts []) → Says words (Argument text ∷ [])
    by [] says fits checked is = let bad : kind.MissingRequiredArgument ∷ [] ≡ [] = checked in cc
    by (Named name value ∷ parts) says fits checked is = elim fits.0 [ ]
    by (Flag name ∷ parts) says fits checked is = elim fits.0 [ ]
    by (Argument word ∷ parts) says fits checked is =
        let none = none_behind parts fits.1 in
        let same : text ≡ word = is ∙ ap (λ ps. text_or (codes "name") [] (uses Naming (Argument word ∷ ps) [])) none in
        subst (Says words) ((λ i. Argument (sym same i) ∷ none i)) says

-- paths
path_row : List Text → Row
path_row paths = record { id = codes "path"; values = paths; count = None; source = Some CommandLine; reading = AsWritten }

paths_used : (parts : List Part) (seen : List Text) → Fits Changing false parts
    → (uses Changing parts (path_row seen ∷ []) ≡ path_row (seen ++ arguments parts) ∷ []) × (parts ≡ map Argument (arguments parts))
unfolding path_row
paths_used [] seen fits = (ap (λ l. path_row l ∷ []) (sym (append-nil seen)), refl)
paths_used (Named name value ∷ parts) seen fits = elim fits.0 [ ]
paths_used (Flag name ∷ parts) seen fits = elim fits.0 [ ]
paths_used (Argument word ∷ parts) seen fits =
    let rest = paths_used parts (seen ++ word ∷ []) fits.1 in
    (rest.0 ∙ ap (λ l. path_row l ∷ []) (append_assoc seen (word ∷ []) (arguments parts)), ap (λ l. Argument word ∷ l) rest.1)

pub paths_said : (words : List Text) (paths : List Text) (o : Own Changing words) → paths ≡ unwrap_or (all_of (codes "path") (uses Changing o.parts [])) []
    → Says words (map Argument paths) × (paths ≢ [])
unfolding path_row
paths_said words paths o is = by o.parts o.says o.fits o.checked is
  where
    by : (parts : List Part) → Says words parts → Fits Changing false parts → check_fault (plain_leaf Changing) (uses Changing parts []) false ≡ []
        → paths ≡ unwrap_or (all_of (codes "path") (uses Changing parts [])) [] → Says words (map Argument paths) × (paths ≢ [])
    by [] says fits checked is = let bad : kind.MissingRequiredArgument ∷ [] ≡ [] = checked in cc
    by (Named name value ∷ parts) says fits checked is = elim fits.0 [ ]
    by (Flag name ∷ parts) says fits checked is = elim fits.0 [ ]
    by (Argument word ∷ parts) says fits checked is =
        let rest = paths_used parts (word ∷ []) fits.1 in
        let same : paths ≡ word ∷ arguments parts = is ∙ ap (λ rows. unwrap_or (all_of (codes "path") rows) []) rest.0 in
        (subst (Says words) (ap (λ l. Argument word ∷ l) rest.1 ∙ ap (map Argument) (sym same)) says, λ none. let bad : [] ≡ word ∷ arguments parts = sym none ∙ same in cc)

-- ---- the other way: what is said is taken and read

pub bare_taken : (words : List Text) → Says words [] → own_fault Bare words ≡ []
bare_taken words says = (taken Bare words [] says tt refl refl).0

pub choice_taken : (words : List Text) (choice : LayoutChoice) → Says words (choice_parts choice)
    → (own_fault Founding words ≡ []) × IsChoiceRead (one_of (codes "leaves") (rows_after (rules Founding) [] words)) choice
choice_taken words Leaves says =
    let t = taken Founding words (choice_parts Leaves) says (leaves, tt) refl refl in (
      t.0,
      subst (λ rows. IsChoiceRead (one_of (codes "leaves") rows) Leaves) (sym t.1)
          (record { absent = λ e. let bad : Some (codes "true") ≡ None = e in cc; yes = λ e. refl; no = λ e. let bad : Some (codes "true") ≡ Some (codes "false") = e in cc }),
    )
choice_taken words Unsaid says =
    let t = taken Founding words (choice_parts Unsaid) says tt refl refl in (
      t.0,
      subst (λ rows. IsChoiceRead (one_of (codes "leaves") rows) Unsaid) (sym t.1)
          (record { absent = λ e. refl; yes = λ e. let bad : Some (codes "false") ≡ Some (codes "true") = e in cc; no = λ e. refl }),
    )

-- one choice is read at most
pub choice_only : (words : List Text) (choice other : LayoutChoice) → Says words (choice_parts choice)
    → IsChoiceRead (one_of (codes "leaves") (rows_after (rules Founding) [] words)) other → other ≡ choice
choice_only words choice other says read = by choice other (choice_taken words choice says).1 (flag_text choice says) read
  where
    flag_text : (choice : LayoutChoice) → Says words (choice_parts choice) → IsFlagText (one_of (codes "leaves") (rows_after (rules Founding) [] words))
    flag_text Leaves says = subst (λ rows. IsFlagText (one_of (codes "leaves") rows)) (sym (taken Founding words (choice_parts Leaves) says (leaves, tt) refl refl).1) (inl refl)
    flag_text Unsaid says = subst (λ rows. IsFlagText (one_of (codes "leaves") rows)) (sym (taken Founding words (choice_parts Unsaid) says tt refl refl).1) (inr refl)

    by : {read : Option Text} → (choice other : LayoutChoice) → IsChoiceRead read choice → IsFlagText read → IsChoiceRead read other → other ≡ choice
    by Leaves Leaves one flag two = refl
    by Unsaid Unsaid one flag two = refl
    by {read = read} Leaves Unsaid one flag two = let bad : true ≡ false = same_flag read true false flag one two in cc
    by {read = read} Unsaid Leaves one flag two = let bad : false ≡ true = same_flag read false true flag one two in cc

pub name_taken : (words : List Text) (text : Text) → Says words (Argument text ∷ [])
    → (own_fault Naming words ≡ []) × (text ≡ text_or (codes "name") [] (rows_after (rules Naming) [] words))
name_taken words text says =
    let t = taken Naming words (Argument text ∷ []) says (refl, tt) refl refl in
    (t.0, ap (text_or (codes "name") []) (sym t.1))

paths_fit : (paths : List Text) → Fits Changing false (map Argument paths)
paths_fit [] = tt
paths_fit (path ∷ paths) = (refl, paths_fit paths)

paths_clear : (paths seen : List Text) → clash Changing (map Argument paths) (path_row seen ∷ []) ≡ []
unfolding path_row
paths_clear [] seen = refl
paths_clear (path ∷ paths) seen = paths_clear paths (seen ++ path ∷ [])

same_paths : (paths : List Text) → arguments (map Argument paths) ≡ paths
same_paths [] = refl
same_paths (path ∷ paths) = ap (λ l. path ∷ l) (same_paths paths)

pub paths_taken : (words paths : List Text) → Says words (map Argument paths) → (paths ≢ [])
    → (own_fault Changing words ≡ []) × (paths ≡ unwrap_or (all_of (codes "path") (rows_after (rules Changing) [] words)) [])
unfolding path_row
paths_taken words [] says some = absurd (some refl)
paths_taken words (path ∷ paths) says some =
    let used = paths_used (map Argument paths) (path ∷ []) (paths_fit paths) in
    let t = taken Changing words (map Argument (path ∷ paths)) says (paths_fit (path ∷ paths)) (paths_clear paths (path ∷ []))
    (ap (λ rows. check_fault (plain_leaf Changing) rows false) used.0) in
    let row : path_row ((path ∷ []) ++ arguments (map Argument paths)) ∷ [] ≡ path_row (path ∷ paths) ∷ [] = ap (λ l. path_row (path ∷ l) ∷ []) (same_paths paths) in
    (t.0, ap (λ rows. unwrap_or (all_of (codes "path") rows) []) (sym (t.1 ∙ used.0 ∙ row)))

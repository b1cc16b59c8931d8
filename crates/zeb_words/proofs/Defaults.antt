-- What is read of settings once defaults are set.
use Rattle.zeb_words.proofs.Cited.{◌≡◌, ◌∙◌, ◌||◌, Bool, refl, sym, ap, subst, List, [], ◌∷◌, ◌++◌, Some, None, codes, true, false, map, cond, fold, unwrap_or, slice_get, option_map, is_some, bytes_eq, Row, Text, first_of, has_row, more_values, one_of, with_default, read_as, AsWritten, DefaultValue, Setting, Config, Database, Given, IsOneOr, Shows, databases, files, shown, IsFlagRead, text_or}
use Rattle.zeb_words.proofs.Items.{AllRead, AtMostOne, Once, appended, first_is, has_is, once_most, one_is, row, values}
use Rattle.zeb_words.proofs.LeafRead.{kept}
use Rattle.zeb_words.proofs.Top.{rule_by, shape}
use Rattle.zeb_words.proofs.TopRead.{item_of}

abbrev pub with_defaults : List Row → List Row
with_defaults rows = fold with_default rows shape.rules

abbrev default_row : Row
default_row = record { id = codes "shows"; values = codes "false" ∷ []; count = None; source = Some DefaultValue; reading = AsWritten }

abbrev behind_settings : List Row → List Row
behind_settings rows = with_default (with_default (with_default rows (rule_by (codes "shows"))) (rule_by (codes "version"))) (rule_by (codes "help"))

-- only `-s` has a default
defaults_are : (rows : List Row) (is : Bool) → has_row (codes "shows") rows ≡ is → with_defaults rows ≡ cond is rows (rows ++ default_row ∷ [])
defaults_are rows is e =
    let three = by is e in
    let shown = with_default rows (rule_by (codes "shows")) in
    ap (λ r. behind_settings (with_default r (rule_by (codes "database")))) (kept rows (rule_by (codes "config")) refl) ∙ ap behind_settings (kept rows (rule_by (codes "database")) refl)
    ∙ ap (λ r. with_default r (rule_by (codes "help"))) (kept shown (rule_by (codes "version")) refl) ∙ kept shown (rule_by (codes "help")) refl ∙ three
  where
    by : (is : Bool) → has_row (codes "shows") rows ≡ is → with_default rows (rule_by (codes "shows")) ≡ cond is rows (rows ++ default_row ∷ [])
    by true e = rw e refl
    by false e = rw e (appended (codes "shows") (more_values DefaultValue (codes "false" ∷ [])) (default_row ∷ []) rows e)

find_before : (id : Text) (rows : List Row) (r : Row) → bytes_eq r.id id ≡ false → first_of id (rows ++ r ∷ []) ≡ first_of id rows
find_before id [] r e = rw e refl
find_before id (x ∷ rows) r e = by (bytes_eq x.id id) refl (find_before id rows r e)
  where
    by : (is : Bool) → bytes_eq x.id id ≡ is → first_of id (rows ++ r ∷ []) ≡ first_of id rows → first_of id (x ∷ (rows ++ r ∷ [])) ≡ first_of id (x ∷ rows)
    by true same again = rw same refl
    by false same again = rw same again

first_stays : (id : Text) (rows : List Row) (is : Bool) → bytes_eq (codes "shows") id ≡ false → first_of id (cond is rows (rows ++ default_row ∷ [])) ≡ first_of id rows
first_stays id rows true e = refl
first_stays id rows false e = find_before id rows default_row e

find_last : (id : Text) (rows : List Row) (r : Row) → has_row id rows ≡ false → bytes_eq r.id id ≡ true → one_of id (rows ++ r ∷ []) ≡ option_map (read_as r.reading) (slice_get r.values 0)
find_last id [] r fresh e = rw e refl
find_last id (x ∷ rows) r fresh e = by (bytes_eq x.id id) refl fresh (λ f. find_last id rows r f e)
  where
    by : (is : Bool) → bytes_eq x.id id ≡ is → (is || has_row id rows) ≡ false
        → (has_row id rows ≡ false → one_of id (rows ++ r ∷ []) ≡ option_map (read_as r.reading) (slice_get r.values 0))
        → one_of id (x ∷ (rows ++ r ∷ [])) ≡ option_map (read_as r.reading) (slice_get r.values 0)
    by true same fresh again = let bad : true ≡ false = fresh in cc
    by false same fresh again = rw same (again fresh)

-- ---- settings by their letters

pub file_values : (settings : List Setting) → values (codes "config") (map item_of settings) ≡ files settings
file_values [] = refl
file_values (Given Config value ∷ settings) = ap (λ l. value ∷ l) (file_values settings)
file_values (Given Database value ∷ settings) = file_values settings
file_values (Shows ∷ settings) = file_values settings

pub database_values : (settings : List Setting) → values (codes "database") (map item_of settings) ≡ databases settings
database_values [] = refl
database_values (Given Config value ∷ settings) = database_values settings
database_values (Given Database value ∷ settings) = ap (λ l. value ∷ l) (database_values settings)
database_values (Shows ∷ settings) = database_values settings

pub shown_values : (settings : List Setting) → values (codes "shows") (map item_of settings) ≡ map (λ _. codes "true") (shown settings)
shown_values [] = refl
shown_values (Given Config value ∷ settings) = shown_values settings
shown_values (Given Database value ∷ settings) = shown_values settings
shown_values (Shows ∷ settings) = ap (λ l. codes "true" ∷ l) (shown_values settings)

as_written : (settings : List Setting) → AllRead (codes "shows") AsWritten (map item_of settings)
as_written [] = tt
as_written (Given key value ∷ settings) = (λ e. refl, as_written settings)
as_written (Shows ∷ settings) = (λ e. refl, as_written settings)

-- what is read of the file, of the database, and of `-s`
pub file_read : (settings : List Setting) (other : Text) → text_or (codes "config") other (with_defaults (map row (map item_of settings))) ≡ unwrap_or (slice_get (files settings) 0) other
file_read settings other =
    let rows = map row (map item_of settings) in
    ap (text_or (codes "config") other) (defaults_are rows (has_row (codes "shows") rows) refl)
    ∙ ap (λ t. unwrap_or t other) (first_stays (codes "config") rows (has_row (codes "shows") rows) refl
    ∙ first_is (codes "config") (map item_of settings) ∙ ap (λ vs. slice_get vs 0) (file_values settings))

pub database_read : (settings : List Setting) (other : Text) → text_or (codes "database") other (with_defaults (map row (map item_of settings))) ≡ unwrap_or (slice_get (databases settings) 0) other
database_read settings other =
    let rows = map row (map item_of settings) in
    ap (text_or (codes "database") other) (defaults_are rows (has_row (codes "shows") rows) refl)
    ∙ ap (λ t. unwrap_or t other) (first_stays (codes "database") rows (has_row (codes "shows") rows) refl
    ∙ first_is (codes "database") (map item_of settings) ∙ ap (λ vs. slice_get vs 0) (database_values settings))

pub flag_read : (settings : List Setting)
    → one_of (codes "shows") (with_defaults (map row (map item_of settings))) ≡ Some (cond (is_some (slice_get (shown settings) 0)) (codes "true") (codes "false"))
flag_read settings = by (shown settings) refl
  where
    rows : List Row
    rows = map row (map item_of settings)

    has : has_row (codes "shows") rows ≡ is_some (slice_get (map (λ _. codes "true") (shown settings)) 0)
    has = has_is (codes "shows") (map item_of settings) ∙ ap (λ vs. is_some (slice_get vs 0)) (shown_values settings)

    by : (flags : List Bool) → shown settings ≡ flags → one_of (codes "shows") (with_defaults rows) ≡ Some (cond (is_some (slice_get flags 0)) (codes "true") (codes "false"))
    by [] e =
        let none : has_row (codes "shows") rows ≡ false = has ∙ ap (λ l. is_some (slice_get (map (λ _. codes "true") l) 0)) e in
        ap (one_of (codes "shows")) (defaults_are rows false none) ∙ find_last (codes "shows") rows default_row none refl
    by (flag ∷ flags) e =
        let some : has_row (codes "shows") rows ≡ true = has ∙ ap (λ l. is_some (slice_get (map (λ _. codes "true") l) 0)) e in
        ap (one_of (codes "shows")) (defaults_are rows true some) ∙ one_is (codes "shows") AsWritten (map item_of settings) (as_written settings)
        ∙ ap (λ vs. option_map (read_as AsWritten) (slice_get vs 0)) (shown_values settings ∙ ap (map (λ _. codes "true")) e)

-- ---- one value at most

pub one_or : {A : Type 0} (vs : List A) (other x : A) → AtMostOne vs → x ≡ unwrap_or (slice_get vs 0) other → IsOneOr other vs x
one_or [] other x most e = e
one_or (v ∷ []) other x most e = e
one_or (v ∷ w ∷ more) other x most e = absurd most

most_true : (flags : List Bool) → AtMostOne (map (λ _. codes "true") flags) → AtMostOne flags
most_true [] most = tt
most_true (f ∷ []) most = tt
most_true (f ∷ g ∷ more) most = most

pub each_once : (settings : List Setting) → Once (map item_of settings) [] → AtMostOne (files settings) × AtMostOne (databases settings) × AtMostOne (shown settings)
each_once settings once = (
  subst AtMostOne (file_values settings) (once_most (map item_of settings) [] (codes "config") once).1,
  subst AtMostOne (database_values settings) (once_most (map item_of settings) [] (codes "database") once).1,
  most_true (shown settings) (subst AtMostOne (shown_values settings) (once_most (map item_of settings) [] (codes "shows") once).1),
)

pub all_true : (settings : List Setting) (flag : Bool) (flags : List Bool) → shown settings ≡ flag ∷ flags → flag ≡ true
all_true [] flag flags e = cc
all_true (Given key value ∷ settings) flag flags e = all_true settings flag flags e
all_true (Shows ∷ settings) flag flags e = cc

pub flag_or : (settings : List Setting) (flag : Bool) → AtMostOne (shown settings)
    → IsFlagRead (Some (cond (is_some (slice_get (shown settings) 0)) (codes "true") (codes "false"))) flag → IsOneOr false (shown settings) flag
flag_or settings flag most read = by (shown settings) refl most read
  where
    by : (flags : List Bool) → shown settings ≡ flags → AtMostOne flags → IsFlagRead (Some (cond (is_some (slice_get flags 0)) (codes "true") (codes "false"))) flag → IsOneOr false flags flag
    by [] e most read = read.no refl
    by (f ∷ []) e most read = read.yes refl ∙ sym (all_true settings f [] e)
    by (f ∷ g ∷ more) e most read = absurd most

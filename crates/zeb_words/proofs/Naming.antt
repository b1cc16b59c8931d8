-- What is parsed is what the words name.
use Rattle.zeb_words.proofs.Cited.{◌≡◌, ◌≢◌, ◌∙◌, ℕ, Bool, refl, sym, ap, ap₂, subst, List, [], ◌∷◌, ◌++◌, Option, Some, None, codes, true, map, length, String, string_bytes, arith, IsUtf8-string_bytes, unwrap_or, if◌then◌else◌, bytes_eq, Row, Text, all_of, one_of, App, built, entered, matches_of, subcommand_of, check_fault, entered_fault, fault_of, or_else, name_bytes, Argument, Part, Says, Setting, Spells, databases, files, Asks, NamesAct, NamesWords, IsActRead, IsFlagRead, IsNumberRead, IsParsedAs, path_texts, program_app, text_or, Words, Act, IsChoiceRead, LayoutChoice, choice_parts, Init, Upgrade, Create, Drop, Update, Delete, Adelete, Find, Scan, is_some}
use Rattle.clap.specs.declared.error.kind.ErrorKind.TheVariants as kind
use Rattle.zeb_words.specs.Names as names
use Rattle.zeb_words.proofs.ReadingLemmas.{pair_parts}
use Rattle.zeb_words.proofs.Items.{Once, row}
use Rattle.zeb_words.proofs.Leads.{none_of_both}
use Rattle.zeb_words.proofs.Uses.{Each, clean, rows_are}
use Rattle.zeb_words.proofs.Top.{shape, used_rule, values}
use Rattle.zeb_words.proofs.TopFound.{AreTexts, found}
use Rattle.zeb_words.proofs.TopRead.{Any, IsCommandOf, Walks, command_of, enters, good, is_init, item_of, only, using, walks}
use Rattle.zeb_words.proofs.Leaf.{Bare, Changing, Finding, Founding, Leaf, Naming, Scanning}
use Rattle.zeb_words.proofs.Leaf.{uses}
use Rattle.zeb_words.proofs.LeafRead.{Own, finished, own, own_fault}
use Rattle.zeb_words.proofs.LeafActs.{bare_said, choice_said, name_said, paths_said}
use Rattle.zeb_words.proofs.Asking.{asked, find_options, scan_options}
use Rattle.zeb_words.proofs.Defaults.{database_read, each_once, file_read, flag_or, flag_read, one_or, with_defaults}

-- ---- the act

-- the rows of the parts that stand behind a command
abbrev leaf_rows : Leaf → List Part → List Row
leaf_rows l parts = finished l (uses l parts [])

-- what stands behind a command of this name
abbrev leaf_by : Text → Leaf
leaf_by name =
    if bytes_eq name (codes "init") then Founding else
    (if bytes_eq name (codes "upgrade") then Founding else
    (if bytes_eq name (codes "create") then Naming else
    (if bytes_eq name (codes "drop") then Naming else
    (if bytes_eq name (codes "update") then Changing else
    (if bytes_eq name (codes "delete") then Changing else
    (if bytes_eq name (codes "adelete") then Changing else
    (if bytes_eq name (codes "find") then Finding else
    (if bytes_eq name (codes "scan") then Scanning else Bare))))))))

leaf_is : (name : Text) (l : Leaf) → IsCommandOf name l → l ≡ leaf_by name
leaf_is name l is_init = refl
leaf_is name l _ = refl

bare_at : (l : Leaf) (words : List Text) → l ≡ Bare → Own l words → Says words []
bare_at l words e o = bare_said words (subst (λ l. Own l words) e o)

choice_at : (l : Leaf) (words : List Text) (choice : LayoutChoice) → l ≡ Founding → (o : Own l words)
    → IsChoiceRead (one_of (codes "leaves") (leaf_rows l o.parts)) choice → Says words (choice_parts choice)
choice_at l words choice e =
    subst (λ l. (o : Own l words) → IsChoiceRead (one_of (codes "leaves") (leaf_rows l o.parts)) choice → Says words (choice_parts choice)) (sym e)
    (choice_said words choice)

name_at : (l : Leaf) (words : List Text) (text : Text) → l ≡ Naming → (o : Own l words) → text ≡ text_or (codes "name") [] (leaf_rows l o.parts) → Says words (Argument text ∷ [])
name_at l words text e = subst (λ l. (o : Own l words) → text ≡ text_or (codes "name") [] (leaf_rows l o.parts) → Says words (Argument text ∷ [])) (sym e) (name_said words text)

paths_at : (l : Leaf) (words paths : List Text) → l ≡ Changing → (o : Own l words) → paths ≡ unwrap_or (all_of (codes "path") (leaf_rows l o.parts)) []
    → Says words (map Argument paths) × (paths ≢ [])
paths_at l words paths e =
    subst (λ l. (o : Own l words) → paths ≡ unwrap_or (all_of (codes "path") (leaf_rows l o.parts)) [] → Says words (map Argument paths) × (paths ≢ [])) (sym e) (paths_said words paths)

find_at : (l : Leaf) (words : List Text) (query : Text) (m n : ℕ) → l ≡ Finding → (o : Own l words) → query ≡ text_or (codes "query") [] (leaf_rows l o.parts)
    → IsNumberRead (one_of (codes "first") (leaf_rows l o.parts)) 1 m → IsNumberRead (one_of (codes "count") (leaf_rows l o.parts)) 20 n
    → Asks words query names.first m names.count n
find_at l words query m n e =
    subst (λ l. (o : Own l words) → query ≡ text_or (codes "query") [] (leaf_rows l o.parts)
    → IsNumberRead (one_of (codes "first") (leaf_rows l o.parts)) 1 m → IsNumberRead (one_of (codes "count") (leaf_rows l o.parts)) 20 n
    → Asks words query names.first m names.count n) (sym e) (λ o is a b. asked Finding names.first names.count find_options words o query m n is a b)

scan_at : (l : Leaf) (words : List Text) (query : Text) (m n : ℕ) → l ≡ Scanning → (o : Own l words) → query ≡ text_or (codes "query") [] (leaf_rows l o.parts)
    → IsNumberRead (one_of (codes "number") (leaf_rows l o.parts)) 20 m → IsNumberRead (one_of (codes "position") (leaf_rows l o.parts)) 1 n
    → Asks words query names.number m names.position n
scan_at l words query m n e =
    subst (λ l. (o : Own l words) → query ≡ text_or (codes "query") [] (leaf_rows l o.parts)
    → IsNumberRead (one_of (codes "number") (leaf_rows l o.parts)) 20 m → IsNumberRead (one_of (codes "position") (leaf_rows l o.parts)) 1 n
    → Asks words query names.number m names.position n) (sym e) (λ o is a b. asked Scanning names.number names.position scan_options words o query m n is a b)

act_named : (name : Text) (l : Leaf) (words : List Text) (shows : Bool) (o : Own l words) → l ≡ leaf_by name → (act : Act)
    → IsActRead name shows (leaf_rows l o.parts) act → NamesAct name words shows act
act_named name l words shows o is (Init choice) h = (h.0, h.1, choice_at l words choice (is ∙ ap leaf_by h.0) o h.2)
act_named name l words shows o is (Upgrade choice) h = (h.0, h.1, choice_at l words choice (is ∙ ap leaf_by h.0) o h.2)
act_named name l words shows o is (Create d) h = (h.0, h.1, name_at l words (name_bytes d) (is ∙ ap leaf_by h.0) o h.2)
act_named name l words shows o is (Drop d) h = (h.0, h.1, name_at l words (name_bytes d) (is ∙ ap leaf_by h.0) o h.2)
act_named name l words shows o is (Update paths flag) h = let said = paths_at l words (path_texts paths.items) (is ∙ ap leaf_by h.0) o h.2 in (h.0, h.1, said.0, said.1)
act_named name l words shows o is (Delete paths) h = let said = paths_at l words (path_texts paths.items) (is ∙ ap leaf_by h.0) o h.2 in (h.0, h.1, said.0, said.1)
act_named name l words shows o is (Adelete paths) h = let said = paths_at l words (path_texts paths.items) (is ∙ ap leaf_by h.0) o h.2 in (h.0, h.1, said.0, said.1)
act_named name l words shows o is (Find query m n) h = (h.0, h.1, find_at l words (string_bytes query) m n (is ∙ ap leaf_by h.0) o h.2 h.3 h.4)
act_named name l words shows o is (Scan query m n) h = (h.0, h.1, scan_at l words (string_bytes query) m n (is ∙ ap leaf_by h.0) o h.2 h.3 h.4, h.5)
act_named name l words shows o is _ h = (h.0, h.1, bare_at l words (is ∙ ap leaf_by h.0) o)

-- ---- all words

pub each_any : (settings : List Setting) → Each Any settings
each_any [] = tt
each_any (s ∷ settings) = (tt, each_any settings)

texts_behind : (front : List Text) (name : Text) (rest : List Text) → AreTexts (front ++ name ∷ rest) → AreTexts rest
texts_behind [] name rest texts = texts.1
texts_behind (word ∷ front) name rest texts = texts_behind front name rest texts.1

abbrev app : App
app = built program_app

needs_command : (rows : List Row) (stop : Option (Text × List Text)) → check_fault shape rows (is_some (entered app stop)) ≡ [] → is_some stop ≡ true
needs_command rows None fault = let bad : kind.MissingSubcommand ∷ [] ≡ [] = fault in cc
needs_command rows (Some p) fault = refl

-- what the parser reads of words that it takes
record Parsed (words : List Text) : Type 0 where
  front : List Text
  settings : List Setting
  name : Text
  rest : List Text
  are : words ≡ front ++ name ∷ rest
  spells : Spells front settings
  l : Leaf
  is : IsCommandOf name l
  once : Once (map item_of settings) []
  own_words : Own l rest
  rows : matches_of program_app words ≡ with_defaults (map row (map item_of settings))
  sub : subcommand_of program_app words ≡ Some (name, leaf_rows l own_words.parts)

parsed : (words : List Text) → AreTexts words → fault_of program_app words ≡ [] → Parsed words
parsed words texts fault =
    let one = none_of_both _ _ fault in
    let two = none_of_both _ _ one.1 in
    let three = none_of_both _ _ two.1 in
    let four = none_of_both _ _ three.1 in
    let stops = needs_command (matches_of program_app words) _ four.1 in
    let d = found (length words) words (omega arith) texts [] None (record { walks = one.0; settles = three.0; stops = stops }) in
    let c = command_of d.name d.command in
    let w = subst (λ ws. Walks ws d.settings d.name d.rest) (sym d.are) (walks d.front d.settings d.name c.0 d.rest d.spells c.1) in
    let e = enters d.name c.0 d.rest c.1 in
    let clear = clean used_rule values item_of Any Any good only using d.settings [] (each_any d.settings) (sym w.faults ∙ ap₂ or_else one.0 three.0) in
    let below : own_fault c.0 d.rest ≡ [] = sym e.fault ∙ ap (entered_fault app) (sym w.stop) ∙ two.0 in
    let o = own c.0 d.rest (texts_behind d.front d.name d.rest (subst AreTexts d.are texts)) below in
    record {
      front = d.front;
      settings = d.settings;
      name = d.name;
      rest = d.rest;
      are = d.are;
      spells = d.spells;
      l = c.0;
      is = c.1;
      once = clear.0;
      own_words = o;
      rows = ap with_defaults (w.rows ∙ rows_are used_rule values item_of Any Any good only using d.settings [] (each_any d.settings) clear.0);
      sub = ap (entered app) w.stop ∙ e.rows ∙ ap (λ r. Some (d.name, r)) o.rows;
    }

-- the command that is read is named by the words
pub names_parsed : (words : List Text) → AreTexts words → (named : Words) → IsParsedAs words named → NamesWords words named
names_parsed words texts named p =
    let d = parsed words texts p.sound in
    let r = p.read in
    let most = each_once d.settings d.once in
    let same : Some (r.name, r.given) ≡ Some (d.name, leaf_rows d.l d.own_words.parts) = sym r.is ∙ d.sub in
    let parts = pair_parts r.name d.name r.given (leaf_rows d.l d.own_words.parts) same in
    let name : r.name ≡ d.name = parts.0 in
    let given : r.given ≡ leaf_rows d.l d.own_words.parts = parts.1 in
    record {
      front = d.front;
      settings = d.settings;
      command = d.name;
      behind = d.rest;
      are = d.are;
      spells = d.spells;
      config = one_or (files d.settings) (codes "zebra.cfg") (string_bytes named.config) most.0 (r.config ∙ ap (text_or (codes "config") (codes "zebra.cfg")) d.rows ∙ file_read d.settings (codes "zebra.cfg"));
      database = one_or (databases d.settings) (codes "Default") (name_bytes named.database) most.1 (r.database ∙ ap (text_or (codes "database") (codes "Default")) d.rows ∙ database_read d.settings (codes "Default"));
      shows = r.shows;
      flag = flag_or d.settings r.shows most.2 (subst (λ t. IsFlagRead t r.shows) (ap (one_of (codes "shows")) d.rows ∙ flag_read d.settings) r.flagged);
      act = act_named d.name d.l d.rest r.shows d.own_words (leaf_is d.name d.l d.is) named.act
          (subst (λ g. IsActRead d.name r.shows g named.act) given (subst (λ n. IsActRead n r.shows r.given named.act) name r.act));
    }

pub all_texts : {Z : Type 0} (words : List (String Z)) → AreTexts (map string_bytes words)
all_texts [] = tt
all_texts (word ∷ words) = (IsUtf8-string_bytes word, all_texts words)

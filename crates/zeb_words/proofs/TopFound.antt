-- Words that the walk takes spell settings, and then come to a command.
use Rattle.zeb_words.proofs.Cited.{eqb-true, drop, ◌≡◌, ◌∙◌, ◌==◌, ◌≤◌, ℕ, Bool, refl, sym, ap, subst, List, [], ◌∷◌, ◌++◌, Option, Some, None, codes, true, false, arith, length, slice_get, suc, zero, ⊤, IsUtf8, bytes_eq, eqb-false, name_and_value, Row, Walk, Held, Waiting, idle, arg_by_long, arg_by_short, subcommand_met, wait_option, turn_fault, settle_fault, short_fault, long_fault, Kinds, Key, Config, Database, Setting, Given, Shows, letter, Spells, none, apart, by_equals, joined, shows, shows_and, IsPlain, is_some, flags_fault}
use Rattle.std.specs.Char.{encode_utf8}
use Rattle.std.specs.Str.{chars}
use Rattle.clap.specs.Walk.{walked}
use Rattle.clap.specs.Faults.{walk_fault}
use Rattle.clap.specs.declared.error.kind.ErrorKind.TheVariants as kind
use Rattle.zeb_words.specs.Grammar.{Text}
use Rattle.zeb_words.proofs.Leads.{Leads, at_end, none_of_both}
use Rattle.zeb_words.proofs.Plain.{IsNoFlag, no_flag, are_letters}
use Rattle.zeb_words.proofs.Flags.{First, Kind, dashes, first_of_letters, flat, kind_of_word, lettered, letters_fault, letters_text, long, unsettled}
use Rattle.zeb_words.proofs.Top.{Pending, equals_leads, first_flags, flags_of, more_leads, held, id_of, joined_leads, letter_leads, names, pending_fault, rows_with, shape, short_turn, shown, shown_fault, shows_leads, standing, value_leads}

-- the walk takes the words, and stops at a command
pub record Passes (w : Walk) (words : List Text) : Type 0 where
  pub walks : walk_fault shape names w words ≡ []
  pub settles : settle_fault shape.rules false (at_end shape names w words).held ≡ []
  pub stops : is_some (at_end shape names w words).stopped ≡ true

pub passes_on : {w x : Walk} {words rest : List Text} {f : Kinds} → Leads shape names w words x rest f → Passes w words → Passes x rest
passes_on {x = x} {rest = rest} {f = f} leads p = record {
  walks = (none_of_both f _ (sym leads.fault ∙ p.walks)).1;
  settles = ap (λ (y : Walk). settle_fault shape.rules false y.held) (sym leads.end) ∙ p.settles;
  stops = ap (λ (y : Walk). is_some y.stopped) (sym leads.end) ∙ p.stops;
}

turn_passes : (w : Walk) (word : Text) (words : List Text) → Passes w (word ∷ words) → turn_fault shape names w word ≡ []
unfolding walk_fault
turn_passes w word words p = (none_of_both _ _ p.walks).0

-- ---- words that are refused

-- behind `--` no command is met
ended : List Row → Pending → Waiting → Walk
ended rows p waiting = record { held = held rows p; waiting = waiting; position = 1; is_trailing = true; stopped = None }

never_stops : (rows : List Row) (p : Pending) (waiting : Waiting) (words : List Text) → at_end shape names (ended rows p waiting) words ≡ ended rows p waiting
unfolding ended walked
never_stops rows p waiting [] = refl
never_stops rows p waiting (word ∷ words) = never_stops rows p waiting words

dashes_idle : (rows : List Row) (p : Pending) → walked shape.rules names (standing rows p idle) (45 ∷ 45 ∷ []) ≡ ended rows p idle
unfolding ended walked
dashes_idle rows p = refl

dashes_waiting : (key : Key) (rows : List Row) (p : Pending)
    → walked shape.rules names (standing rows p (wait_option (id_of key))) (45 ∷ 45 ∷ []) ≡ ended rows p (wait_option (id_of key))
unfolding ended walked
dashes_waiting Config rows p = refl
dashes_waiting Database rows p = refl

no_stop : (w : Walk) (rows : List Row) (p : Pending) (waiting : Waiting) (words : List Text) → walked shape.rules names w (45 ∷ 45 ∷ []) ≡ ended rows p waiting
    → Passes w ((45 ∷ 45 ∷ []) ∷ words) → ⊥
unfolding ended
no_stop w rows p waiting words e passes =
    let stop = ap (λ (y : Walk). is_some (at_end shape names y words).stopped) e ∙ ap (λ (y : Walk). is_some y.stopped) (never_stops rows p waiting words) in
    let bad : true ≡ false = sym passes.stops ∙ stop in
    cc

long_refused : (name : Text) (value : Option Text) (h : Held) → long_fault shape.rules false (arg_by_long shape.rules name) value h ≡ [] → ⊥
long_refused name value h = by (bytes_eq (codes "version") name) refl value
  where
    by_help : (b : Bool) → bytes_eq (codes "version") name ≡ false → bytes_eq (codes "help") name ≡ b → (value : Option Text)
        → long_fault shape.rules false (arg_by_long shape.rules name) value h ≡ [] → ⊥
    by_help false other e v fault =
        let bad : kind.UnknownArgument ∷ [] ≡ [] = rw (other, e) at fault in
        cc
    by_help true other e None fault =
        let bad : kind.DisplayHelp ∷ [] ≡ [] = (none_of_both _ _ (rw (other, e) at fault)).1 in
        cc
    by_help true other e (Some v) fault =
        let bad : kind.TooManyValues ∷ [] ≡ [] = rw (other, e) at fault in
        cc

    by : (b : Bool) → bytes_eq (codes "version") name ≡ b → (value : Option Text) → long_fault shape.rules false (arg_by_long shape.rules name) value h ≡ [] → ⊥
    by false e v fault = by_help (bytes_eq (codes "help") name) e refl v fault
    by true e None fault =
        let bad : kind.DisplayVersion ∷ [] ≡ [] = (none_of_both _ _ (rw e at fault)).1 in
        cc
    by true e (Some v) fault =
        let bad : kind.TooManyValues ∷ [] ≡ [] = rw e at fault in
        cc

-- a letter sets a value, is that of `-s` or of help, or is unknown
data Letter (x : ℕ) : Type 0 where
  sets : (key : Key) → x ≡ letter key → Letter x
  shows_it : x ≡ 115 → Letter x
  helps : x ≡ 104 → Letter x
  unknown : arg_by_short shape.rules x ≡ None → Letter x

letter_of : (x : ℕ) → Letter x
letter_of x = first (99 == x) refl
  where
    fourth : (is : Bool) → 99 == x ≡ false → 100 == x ≡ false → 115 == x ≡ false → 104 == x ≡ is → Letter x
    fourth true a b c d = helps (sym (eqb-true 104 x d))
    fourth false a b c d = unknown (rw (a, b, c, d) refl)

    third : (is : Bool) → 99 == x ≡ false → 100 == x ≡ false → 115 == x ≡ is → Letter x
    third true a b c = shows_it (sym (eqb-true 115 x c))
    third false a b c = fourth (104 == x) a b c refl

    second : (is : Bool) → 99 == x ≡ false → 100 == x ≡ is → Letter x
    second true a b = sets Database (sym (eqb-true 100 x b))
    second false a b = third (115 == x) a b refl

    first : (is : Bool) → 99 == x ≡ is → Letter x
    first true a = sets Config (sym (eqb-true 99 x a))
    first false a = second (100 == x) a refl

-- ---- behind the letter of a value

waiting_letters : (key : Key) (b : ℕ) (letters : Text) (rows : List Row) (p : Pending) → b == 45 ≡ false
    → turn_fault shape names (standing rows p (wait_option (id_of key))) (45 ∷ b ∷ letters) ≡ [] → flags_of rows p (b ∷ letters) ≡ []
waiting_letters key b letters rows p unhyphened fault =
    let is = are_letters b letters unhyphened in
    (none_of_both _ _ (rw (is.ends, is.long, is.short) at fault)).0

open_fault : (key : Key) (rows : List Row) → pending_fault rows (Some (id_of key, [])) ≡ [] → ⊥
open_fault Config rows e = let bad : kind.InvalidValue ∷ [] ≡ [] = e in cc
open_fault Database rows e = let bad : kind.InvalidValue ∷ [] ≡ [] = e in cc

long_turn : (key : Key) (x : ℕ) (xs : Text) (rows : List Row) (p : Pending)
    → turn_fault shape names (standing rows p (wait_option (id_of key))) (45 ∷ 45 ∷ x ∷ xs) ≡ [] → ⊥
long_turn key x xs rows p fault =
    let split = name_and_value (x ∷ xs) in
    long_refused split.0 split.1 (held rows p) (none_of_both _ _ fault).0

-- the word behind the letter is the value
value_plain : (key : Key) (word : Text) (words : List Text) (rows : List Row) → IsUtf8 word
    → Passes (standing rows (Some (id_of key, [])) (wait_option (id_of key))) (word ∷ words) → IsPlain word
value_plain key word words rows u passes = by (kind_of_word word) u passes
  where
    by : {word : Text} → Kind word → IsUtf8 word → Passes (standing rows (Some (id_of key, [])) (wait_option (id_of key))) (word ∷ words) → IsPlain word
    by (flat word is) u passes = is
    by dashes u passes = absurd (no_stop (standing rows (Some (id_of key, [])) (wait_option (id_of key))) rows (Some (id_of key, [])) (wait_option (id_of key)) words
        (dashes_waiting key rows (Some (id_of key, []))) passes)
    by (long x xs) u passes = absurd (long_turn key x xs rows (Some (id_of key, [])) (turn_passes (standing rows (Some (id_of key, [])) (wait_option (id_of key))) (45 ∷ 45 ∷ x ∷ xs) words passes))
    by (lettered b letters e) u passes =
        let fault = waiting_letters key b letters rows (Some (id_of key, [])) e
        (turn_passes (standing rows (Some (id_of key, [])) (wait_option (id_of key))) (45 ∷ b ∷ letters) words passes) in
        let first = first_of_letters b letters (letters_text b letters u) in
        absurd (unsettled shape.rules (arg_by_short shape.rules first.char) (drop (length (encode_utf8 first.char)) (b ∷ letters)) (held rows (Some (id_of key, [])))
        (flags_fault shape.rules false (length letters) (drop (length (encode_utf8 first.char)) (b ∷ letters)) 0) (open_fault key rows) (sym (letters_fault shape.rules b letters first.char (held rows (Some (id_of key, []))) first.head) ∙ fault))

-- ---- the words of settings, and the command behind them

abbrev pub IsCommand : Text → Type 0
IsCommand name = is_some (subcommand_met names idle name) ≡ true

pub record Found (words : List Text) : Type 0 where
  pub front : List Text
  pub settings : List Setting
  pub name : Text
  pub rest : List Text
  pub are : words ≡ front ++ name ∷ rest
  pub spells : Spells front settings
  pub command : IsCommand name

-- the same of words of which the first has letters
record Lettered (b : ℕ) (letters : Text) (words : List Text) : Type 0 where
  more : List Text
  settings : List Setting
  name : Text
  rest : List Text
  are : words ≡ more ++ name ∷ rest
  spells : Spells ((45 ∷ b ∷ letters) ∷ more) settings
  command : IsCommand name

abbrev pub AreTexts : List Text → Type 0
AreTexts [] = ⊤
AreTexts (word ∷ words) = IsUtf8 word × AreTexts words

-- it is found of all lists of at most n words
abbrev Finds : ℕ → Type 0
Finds n = (words : List Text) → length words ≤ n → AreTexts words → (rows : List Row) (p : Pending) → Passes (standing rows p idle) words → Found words

set_found : (n : ℕ) → Finds n → (key : Key) (letters : Text) (words : List Text) → length words ≤ n → AreTexts words → (rows : List Row) (p : Pending)
    → Passes (standing rows p idle) ((45 ∷ letter key ∷ letters) ∷ words) → Lettered (letter key) letters words
set_found n finds key [] [] le texts rows p passes =
    absurd (open_fault key (rows_with rows p) (passes_on (letter_leads key rows p []) passes).settles)
set_found n finds key [] (value ∷ words) le texts rows p passes =
    let first = letter_leads key rows p (value ∷ words) in
    let waiting = passes_on first passes in
    let plain = value_plain key value words (rows_with rows p) texts.0 waiting in
    let flagless = no_flag value plain in
    let second = value_leads key value (rows_with rows p) flagless words in
    let d = finds words (omega arith) texts.1 (rows_with rows p) (Some (id_of key, value ∷ [])) (passes_on second waiting) in
    record {
      more = value ∷ d.front;
      settings = Given key value ∷ d.settings;
      name = d.name;
      rest = d.rest;
      are = ap (λ l. value ∷ l) d.are;
      spells = apart key value d.front d.settings plain d.spells;
      command = d.command;
    }
set_found n finds key (b ∷ value) words le texts rows p passes = by (b == 61) refl
  where
    by : (is : Bool) → b == 61 ≡ is → Lettered (letter key) (b ∷ value) words
    by false e =
        let step = joined_leads key b value rows p e words in
        let d = finds words le texts _ None (passes_on step passes) in
        record {
          more = d.front;
          settings = Given key (b ∷ value) ∷ d.settings;
          name = d.name;
          rest = d.rest;
          are = d.are;
          command = d.command;
          spells = joined key b value d.front d.settings (eqb-false b 61 e) d.spells;
        }
    by true e =
        let is = eqb-true b 61 e in
        let here = subst (λ b. Passes (standing rows p idle) ((45 ∷ letter key ∷ b ∷ value) ∷ words)) is passes in
        let step = equals_leads key value rows p words in
        let d = finds words le texts _ None (passes_on step here) in
        record {
          more = d.front;
          settings = Given key value ∷ d.settings;
          name = d.name;
          rest = d.rest;
          are = d.are;
          command = d.command;
          spells = subst (λ b. Spells ((45 ∷ letter key ∷ b ∷ value) ∷ d.front) (Given key value ∷ d.settings)) (sym is) (by_equals key value d.front d.settings d.spells);
        }

-- the first byte of letters whose first character is ASCII
ascii_first : (x b : ℕ) (letters rest : Text) → encode_utf8 x ≡ x ∷ [] → b ∷ letters ≡ encode_utf8 x ++ rest → (b ≡ x) × (letters ≡ rest)
ascii_first x b letters rest one parts =
    let e : b ∷ letters ≡ x ∷ rest = parts ∙ ap (λ l. l ++ rest) one in
    (cc, cc)

key_byte : (key : Key) → encode_utf8 (letter key) ≡ letter key ∷ []
unfolding encode_utf8
key_byte Config = refl
key_byte Database = refl

s_byte : encode_utf8 115 ≡ 115 ∷ []
unfolding encode_utf8
s_byte = refl

idle_fault : (b : ℕ) (letters : Text) (words : List Text) (rows : List Row) (p : Pending) → b == 45 ≡ false
    → Passes (standing rows p idle) ((45 ∷ b ∷ letters) ∷ words) → flags_of rows p (b ∷ letters) ≡ []
idle_fault b letters words rows p e passes = (none_of_both _ _ (sym (short_turn b letters rows p e) ∙ turn_passes _ _ words passes)).0

help_refused : (rest : Text) (h : Held) (next : Held → Kinds) → short_fault shape.rules false (arg_by_short shape.rules 104) rest h next ≡ [] → ⊥
help_refused rest h next fault =
    let bad : kind.DisplayHelp ∷ [] ≡ [] = (none_of_both _ _ (none_of_both _ _ fault).0).1 in
    cc

unknown_refused : (x : ℕ) (rest : Text) (h : Held) (next : Held → Kinds) → arg_by_short shape.rules x ≡ None
    → short_fault shape.rules false (arg_by_short shape.rules x) rest h next ≡ [] → ⊥
unknown_refused x rest h next e fault =
    let bad : kind.UnknownArgument ∷ [] ≡ [] = ap (λ a. short_fault shape.rules false a rest h next) (sym e) ∙ fault in
    cc

-- what is found of the other letters of the word
Again : ℕ → Text → List Text → Type 0
Again n [] words = ⊤
Again n (b ∷ letters) words = IsUtf8 (b ∷ letters) → b == 45 ≡ false → (rows : List Row) (p : Pending)
    → Passes (standing rows p idle) ((45 ∷ b ∷ letters) ∷ words) → Lettered b letters words

hyphen_head : (letters : Text) → slice_get (chars (45 ∷ letters)) 0 ≡ Some 45
unfolding chars
hyphen_head [] = refl
hyphen_head (b ∷ letters) = refl

-- no hyphen follows `-s` in its word
no_hyphen : (b : ℕ) (letters : Text) (rows : List Row) (p : Pending) → flags_of rows p (115 ∷ b ∷ letters) ≡ [] → b == 45 ≡ false
no_hyphen b letters rows p fault = by (b == 45) refl
  where
    by : (is : Bool) → b == 45 ≡ is → b == 45 ≡ false
    by false e = e
    by true e =
        let rest = (none_of_both (shown_fault rows p) (flags_of (shown rows p) None (b ∷ letters)) (sym (first_flags b letters rows p) ∙ fault)).1 in
        let here = subst (λ b. flags_of (shown rows p) None (b ∷ letters) ≡ []) (eqb-true b 45 e) rest in
        absurd (unknown_refused 45 (drop (length (encode_utf8 45)) (45 ∷ letters)) (held (shown rows p) None)
        (flags_fault shape.rules false (length letters) (drop (length (encode_utf8 45)) (45 ∷ letters)) 0) refl (sym (letters_fault shape.rules 45 letters 45 (held (shown rows p) None) (hyphen_head letters)) ∙ here))

shows_found : (n : ℕ) → Finds n → (letters : Text) (words : List Text) → length words ≤ n → IsUtf8 letters → AreTexts words → Again n letters words
    → (rows : List Row) (p : Pending) → Passes (standing rows p idle) ((45 ∷ 115 ∷ letters) ∷ words) → Lettered 115 letters words
unfolding Again
shows_found n finds [] words le u texts again rows p passes =
    let d = finds words le texts (shown rows p) None (passes_on (shows_leads rows p words) passes) in
    record { more = d.front; settings = Shows ∷ d.settings; name = d.name; rest = d.rest; are = d.are; command = d.command; spells = shows d.front d.settings d.spells }
shows_found n finds (b ∷ letters) words le u texts again rows p passes =
    let e = no_hyphen b letters rows p (idle_fault 115 (b ∷ letters) words rows p refl passes) in
    let first = first_of_letters b letters u in
    let d = again u e (shown rows p) None (passes_on (more_leads b letters words first.char rows p e first.head) passes) in
    record { more = d.more; settings = Shows ∷ d.settings; name = d.name; rest = d.rest; are = d.are; command = d.command; spells = shows_and b letters d.more d.settings d.spells }

one_letter : (n : ℕ) → Finds n → (b : ℕ) (letters : Text) (words : List Text) → length words ≤ n → IsUtf8 (b ∷ letters) → b == 45 ≡ false → AreTexts words
    → Again n letters words → (rows : List Row) (p : Pending) → Passes (standing rows p idle) ((45 ∷ b ∷ letters) ∷ words) → Lettered b letters words
one_letter n finds b letters words le u e texts again rows p passes = by (letter_of first.char)
  where
    first : First b letters
    first = first_of_letters b letters u

    fault : short_fault shape.rules false (arg_by_short shape.rules first.char) (drop (length (encode_utf8 first.char)) (b ∷ letters)) (held rows p)
        (flags_fault shape.rules false (length letters) (drop (length (encode_utf8 first.char)) (b ∷ letters)) 0) ≡ []
    fault = sym (letters_fault shape.rules b letters first.char (held rows p) first.head) ∙ idle_fault b letters words rows p e passes

    by : Letter first.char → Lettered b letters words
    by (sets key is) =
        let at = ascii_first (letter key) b letters first.rest (key_byte key) (first.parts ∙ ap (λ x. encode_utf8 x ++ first.rest) is) in
        let here = subst (λ b. Passes (standing rows p idle) ((45 ∷ b ∷ letters) ∷ words)) at.0 passes in
        subst (λ b. Lettered b letters words) (sym at.0) (set_found n finds key letters words le texts rows p here)
    by (shows_it is) =
        let at = ascii_first 115 b letters first.rest s_byte (first.parts ∙ ap (λ x. encode_utf8 x ++ first.rest) is) in
        let here = subst (λ b. Passes (standing rows p idle) ((45 ∷ b ∷ letters) ∷ words)) at.0 passes in
        subst (λ b. Lettered b letters words) (sym at.0) (shows_found n finds letters words le (subst IsUtf8 (sym at.1) first.text) texts again rows p here)
    by (helps is) = absurd (help_refused (drop (length (encode_utf8 104)) (b ∷ letters)) (held rows p)
        (flags_fault shape.rules false (length letters) (drop (length (encode_utf8 104)) (b ∷ letters)) 0)
        (subst (λ x. short_fault shape.rules false (arg_by_short shape.rules x) (drop (length (encode_utf8 x)) (b ∷ letters)) (held rows p)
        (flags_fault shape.rules false (length letters) (drop (length (encode_utf8 x)) (b ∷ letters)) 0) ≡ []) is fault))
    by (unknown is) = absurd (unknown_refused first.char (drop (length (encode_utf8 first.char)) (b ∷ letters)) (held rows p)
        (flags_fault shape.rules false (length letters) (drop (length (encode_utf8 first.char)) (b ∷ letters)) 0) is fault)

letters_found : (n : ℕ) → Finds n → (b : ℕ) (letters : Text) (words : List Text) → length words ≤ n → IsUtf8 (b ∷ letters) → b == 45 ≡ false → AreTexts words
    → (rows : List Row) (p : Pending) → Passes (standing rows p idle) ((45 ∷ b ∷ letters) ∷ words) → Lettered b letters words
unfolding Again
letters_found n finds b [] words le u e texts rows p passes = one_letter n finds b [] words le u e texts tt rows p passes
letters_found n finds b (c ∷ letters) words le u e texts rows p passes =
    one_letter n finds b (c ∷ letters) words le u e texts (λ text apart. letters_found n finds c letters words le text apart texts) rows p passes

-- a word that is no flag and no command is refused
stray_turn : (word : Text) (rows : List Row) (p : Pending) → IsNoFlag word → subcommand_met names idle word ≡ None
    → turn_fault shape names (standing rows p idle) word ≡ [] → ⊥
stray_turn word rows p flagless unmet fault =
    let bad : kind.UnknownArgument ∷ kind.InvalidSubcommand ∷ [] ≡ [] = rw (unmet, flagless.ends, flagless.long, flagless.short) at fault in
    cc

idle_long : (x : ℕ) (xs : Text) (rows : List Row) (p : Pending) → turn_fault shape names (standing rows p idle) (45 ∷ 45 ∷ x ∷ xs) ≡ [] → ⊥
idle_long x xs rows p fault =
    let split = name_and_value (x ∷ xs) in
    long_refused split.0 split.1 (held rows p) (none_of_both _ _ fault).0

found_next : (n : ℕ) → Finds n → (word : Text) (words : List Text) → length words ≤ n → IsUtf8 word → AreTexts words → (rows : List Row) (p : Pending)
    → subcommand_met names idle word ≡ None → Kind word → Passes (standing rows p idle) (word ∷ words) → Found (word ∷ words)
found_next n finds word words le u texts rows p unmet (flat w is) passes =
    absurd (stray_turn word rows p (no_flag word is) unmet (turn_passes (standing rows p idle) word words passes))
found_next n finds word words le u texts rows p unmet dashes passes =
    absurd (no_stop (standing rows p idle) rows p idle words (dashes_idle rows p) passes)
found_next n finds word words le u texts rows p unmet (long x xs) passes =
    absurd (idle_long x xs rows p (turn_passes (standing rows p idle) (45 ∷ 45 ∷ x ∷ xs) words passes))
found_next n finds word words le u texts rows p unmet (lettered b letters e) passes =
    let d = letters_found n finds b letters words le (letters_text b letters u) e texts rows p passes in
    record { front = (45 ∷ b ∷ letters) ∷ d.more; settings = d.settings; name = d.name; rest = d.rest; are = ap (λ l. (45 ∷ b ∷ letters) ∷ l) d.are; spells = d.spells; command = d.command }

pub found : (n : ℕ) → Finds n
found zero [] le texts rows p passes =
    let bad : false ≡ true = passes.stops in
    cc
found zero (word ∷ words) le texts rows p passes = absurd (omega arith)
found (suc n) [] le texts rows p passes =
    let bad : false ≡ true = passes.stops in
    cc
found (suc n) (word ∷ words) le texts rows p passes = by (found n) (subcommand_met names idle word) refl
  where
    by : Finds n → (met : Option Text) → subcommand_met names idle word ≡ met → Found (word ∷ words)
    by finds (Some name) e = record { front = []; settings = []; name = word; rest = words; are = refl; spells = none; command = ap is_some e }
    by finds None e = found_next n finds word words (omega arith) texts.0 texts.1 rows p e (kind_of_word word) passes

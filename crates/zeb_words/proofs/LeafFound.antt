-- Words behind a command that the walk takes say options and arguments.
use Rattle.zeb_words.proofs.Cited.{◌≡◌, ◌∙◌, ◌==◌, ◌⊎◌, inl, inr, ◌≤◌, ◌≢◌, ℕ, Bool, refl, sym, ap, subst, List, [], ◌∷◌, ◌++◌, Option, Some, None, codes, true, false, arith, length, map, drop, eqb-true, suc, zero, IsUtf8, bytes_eq, bytes_eq-Decides, name_and_value, Row, Held, Walk, Text, arg_by_index, arg_by_long, arg_by_short, wait_option, turn_fault, settle_fault, short_fault, long_fault, Kinds, Lacks, name_and_value-at, name_and_value-without, eqb-false, IsPlain, Part, Argument, Says, nothing, argument, option_by_equals, Named, named, flags_fault, ended, Flag, alone}
use Rattle.std.specs.Char.{encode_utf8}
use Rattle.clap.specs.Walk.{walked}
use Rattle.clap.specs.Faults.{walk_fault}
use Rattle.clap.specs.declared.error.kind.ErrorKind.TheVariants as kind
use Rattle.zeb_words.proofs.Leads.{Leads, at_end, goes, none_of_both}
use Rattle.zeb_words.proofs.Plain.{IsNoFlag, no_flag, are_letters}
use Rattle.zeb_words.proofs.Flags.{Kind, dashes, first_of_letters, flat, kind_of_word, lettered, letters_fault, letters_text, long, unsettled, unsettled_long}
use Rattle.zeb_words.proofs.TopFound.{AreTexts}
use Rattle.zeb_words.proofs.Leaf.{Fits, HasSlot, IsFlag, IsOption, Leaf, Bare, Finding, Founding, Scanning, Pending, among, behind, calm, count, equals_leads, filled_by, first, flag_leads, held, leaves, number, option_leads, place, plain_leaf, position_of, rows_with, rules, standing, value_leads}
use Rattle.zeb_words.proofs.LeafSaid.{dashes_leads}

-- the walk takes the words
pub record Passes (l : Leaf) (w : Walk) (words : List Text) : Type 0 where
  pub walks : walk_fault (plain_leaf l) [] w words ≡ []
  pub settles : settle_fault (rules l) false (at_end (plain_leaf l) [] w words).held ≡ []

pub passes_on : {w x : Walk} {words rest : List Text} {f : Kinds} (l : Leaf) → Leads (plain_leaf l) [] w words x rest f → Passes l w words → Passes l x rest
passes_on {x = x} {rest = rest} {f = f} l leads p = record {
  walks = (none_of_both f _ (sym leads.fault ∙ p.walks)).1;
  settles = ap (λ (y : Walk). settle_fault (rules l) false y.held) (sym leads.end) ∙ p.settles;
}

turn_passes : (l : Leaf) (w : Walk) (word : Text) (words : List Text) → Passes l w (word ∷ words) → turn_fault (plain_leaf l) [] w word ≡ []
unfolding walk_fault
turn_passes l w word words p = (none_of_both _ _ p.walks).0

-- ---- arguments

-- an argument that has no slot is refused
abbrev IsRefused : Leaf → Bool → Type 0
IsRefused l full = (w trailing : Bool) (rows : List Row) (p : Pending) (word : Text) → ((trailing ≡ true) ⊎ IsNoFlag word)
    → turn_fault (plain_leaf l) [] (standing rows p (calm w) full trailing) word ≡ [] → ⊥

stray : (l : Leaf) (full : Bool) → arg_by_index (rules l) (position_of full) ≡ None → IsRefused l full
stray l full vacant w true rows p word how fault =
    let bad : kind.UnknownArgument ∷ [] ≡ [] = rw vacant at fault in
    cc
stray l full vacant false false rows p word (inr flagless) fault =
    let bad : kind.UnknownArgument ∷ [] ≡ [] = rw (flagless.ends, flagless.long, flagless.short, vacant) at fault in
    cc
stray l full vacant true false rows p word (inr flagless) fault =
    let bad : kind.UnknownArgument ∷ [] ≡ [] = rw (flagless.ends, flagless.long, flagless.short, vacant) at fault in
    cc
stray l full vacant w false rows p word (inl not) fault = cc

-- an argument may stand here, or is refused
slot_or_none : (l : Leaf) (full : Bool) → HasSlot l full ⊎ IsRefused l full
slot_or_none Bare false = inr (stray Bare false refl)
slot_or_none Bare true = inr (stray Bare true refl)
slot_or_none Founding false = inr (stray Founding false refl)
slot_or_none Founding true = inr (stray Founding true refl)
slot_or_none _ false = inl refl
slot_or_none l true = inr (stray l true refl)

found_behind : (l : Leaf) (words : List Text) (w full : Bool) (rows : List Row) (p : Pending) → Passes l (standing rows p (calm w) full true) words
    → Fits l full (map Argument words)
found_behind l [] w full rows p passes = tt
found_behind l (word ∷ words) w full rows p passes = by (slot_or_none l full) (found_behind l words)
  where
    by : HasSlot l full ⊎ IsRefused l full
        → ((w full : Bool) (rows : List Row) (p : Pending) → Passes l (standing rows p (calm w) full true) words → Fits l full (map Argument words))
        → HasSlot l full × Fits l (filled_by l) (map Argument words)
    by (inl slot) again =
        let step = behind l full slot w rows p word in (
          slot,
          again step.next (filled_by l) (rows_with l rows p) _
              (passes_on l (goes (plain_leaf l) [] (standing rows p (calm w) full true) word words _ _ step.fault step.walk) passes),
        )
    by (inr refused) again = absurd (refused w true rows p word (inl refl) (turn_passes l (standing rows p (calm w) full true) word words passes))

-- ---- options

-- no flag of this name, or help, is refused
abbrev IsNoName : Leaf → Text → Type 0
IsNoName l name = (value : Option Text) (h : Held) → long_fault (rules l) false (arg_by_long (rules l) name) value h ≡ [] → ⊥

-- an option's name, a flag's, or none
data Known (l : Leaf) (name : Text) : Type 0 where
  an_option : IsOption l name → Known l name
  a_flag : IsFlag l name → Known l name
  no_name : IsNoName l name → Known l name

same_text : (name text : Text) → bytes_eq text name ≡ true → text ≡ name
same_text name text e = (bytes_eq-Decides text name).0 e

no_long : (l : Leaf) (name : Text) → arg_by_long (rules l) name ≡ None → IsNoName l name
no_long l name e value h fault =
    let bad : kind.UnknownArgument ∷ [] ≡ [] = rw e at fault in
    cc

help_long : (l : Leaf) → IsNoName l (codes "help")
help_long Bare None h fault =
    let bad : kind.DisplayHelp ∷ [] ≡ [] = (none_of_both _ (kind.DisplayHelp ∷ []) fault).1 in
    cc
help_long Bare (Some value) h fault =
    let bad : kind.TooManyValues ∷ [] ≡ [] = fault in
    cc
help_long _ (Some value) h fault =
    let bad : kind.TooManyValues ∷ [] ≡ [] = fault in
    cc
help_long _ None h fault =
    let bad : kind.DisplayHelp ∷ [] ≡ [] = (none_of_both _ (kind.DisplayHelp ∷ []) fault).1 in
    cc

helped : (l : Leaf) (name : Text) → (bytes_eq (codes "help") name ≡ false → arg_by_long (rules l) name ≡ None) → Known l name
helped l name unknown = by (bytes_eq (codes "help") name) refl
  where
    by : (is : Bool) → bytes_eq (codes "help") name ≡ is → Known l name
    by true e = no_name (subst (IsNoName l) (same_text name (codes "help") e) (help_long l))
    by false e = no_name (no_long l name (unknown e))

known : (l : Leaf) (name : Text) → Known l name
known Founding name = by (bytes_eq (codes "leaves") name) refl
  where
    by : (is : Bool) → bytes_eq (codes "leaves") name ≡ is → Known Founding name
    by true e = a_flag (subst (IsFlag Founding) (same_text name (codes "leaves") e) leaves)
    by false e = helped Founding name (λ f. rw (e, f) refl)
known Finding name = by (bytes_eq (codes "first") name) refl
  where
    second : (is : Bool) → bytes_eq (codes "first") name ≡ false → bytes_eq (codes "count") name ≡ is → Known Finding name
    second true d e = an_option (subst (IsOption Finding) (same_text name (codes "count") e) count)
    second false d e = helped Finding name (λ f. rw (d, e, f) refl)

    by : (is : Bool) → bytes_eq (codes "first") name ≡ is → Known Finding name
    by true e = an_option (subst (IsOption Finding) (same_text name (codes "first") e) first)
    by false e = second (bytes_eq (codes "count") name) e refl
known Scanning name = by (bytes_eq (codes "number") name) refl
  where
    second : (is : Bool) → bytes_eq (codes "number") name ≡ false → bytes_eq (codes "position") name ≡ is → Known Scanning name
    second true d e = an_option (subst (IsOption Scanning) (same_text name (codes "position") e) place)
    second false d e = helped Scanning name (λ f. rw (d, e, f) refl)

    by : (is : Bool) → bytes_eq (codes "number") name ≡ is → Known Scanning name
    by true e = an_option (subst (IsOption Scanning) (same_text name (codes "number") e) number)
    by false e = second (bytes_eq (codes "position") name) e refl
known l name = helped l name (λ e. rw e refl)

-- a flag takes no value
no_value : (l : Leaf) (name value : Text) → IsFlag l name → (h : Held) → long_fault (rules l) false (arg_by_long (rules l) name) (Some value) h ≡ [] → ⊥
no_value l name value leaves h fault =
    let bad : kind.TooManyValues ∷ [] ≡ [] = fault in
    cc

-- letters are refused behind a command
no_short : (l : Leaf) (x : ℕ) (rest : Text) (h : Held) (next : Held → Kinds) → short_fault (rules l) false (arg_by_short (rules l) x) rest h next ≡ [] → ⊥
no_short l x rest h next = by l (104 == x) refl
  where
    by : (l : Leaf) (is : Bool) → 104 == x ≡ is → short_fault (rules l) false (arg_by_short (rules l) x) rest h next ≡ [] → ⊥
    by Bare true e fault =
        let bad : kind.DisplayHelp ∷ [] ≡ [] = (none_of_both _ (kind.DisplayHelp ∷ []) (none_of_both _ _ (rw e at fault)).0).1 in
        cc
    by Bare false e fault =
        let bad : kind.UnknownArgument ∷ [] ≡ [] = rw e at fault in
        cc
    by _ false e fault =
        let bad : kind.UnknownArgument ∷ [] ≡ [] = rw e at fault in
        cc
    by _ true e fault =
        let bad : kind.DisplayHelp ∷ [] ≡ [] = (none_of_both _ (kind.DisplayHelp ∷ []) (none_of_both _ _ (rw e at fault)).0).1 in
        cc

calm_letters : (l : Leaf) (b : ℕ) (letters : Text) (w full : Bool) (rows : List Row) (p : Pending) → b == 45 ≡ false
    → turn_fault (plain_leaf l) [] (standing rows p (calm w) full false) (45 ∷ b ∷ letters) ≡ []
    → flags_fault (rules l) false (length (b ∷ letters)) (b ∷ letters) 0 (held rows p) ≡ []
calm_letters l b letters false full rows p unhyphened fault =
    let is = are_letters b letters unhyphened in
    (none_of_both _ _ (rw (is.ends, is.long, is.short) at fault)).0
calm_letters l b letters true full rows p unhyphened fault =
    let is = are_letters b letters unhyphened in
    (none_of_both _ _ (rw (is.ends, is.long, is.short) at fault)).0

letters_refused : (l : Leaf) (b : ℕ) (letters : Text) (w full : Bool) (rows : List Row) (p : Pending) → IsUtf8 (b ∷ letters) → b == 45 ≡ false
    → turn_fault (plain_leaf l) [] (standing rows p (calm w) full false) (45 ∷ b ∷ letters) ≡ [] → ⊥
letters_refused l b letters w full rows p u unhyphened fault =
    let start = first_of_letters b letters u in
    no_short l start.char (drop (length (encode_utf8 start.char)) (b ∷ letters)) (held rows p)
    (flags_fault (rules l) false (length letters) (drop (length (encode_utf8 start.char)) (b ∷ letters)) 0)
    (sym (letters_fault (rules l) b letters start.char (held rows p) start.head) ∙ calm_letters l b letters w full rows p unhyphened fault)

-- a text has no `=`, or is cut at its first
data Cut : Text → Type 0 where
  whole : (text : Text) → Lacks 61 text → Cut text
  cut : (name value : Text) → Lacks 61 name → Cut (name ++ 61 ∷ value)

lacks_more : (b : ℕ) (text : Text) → b ≢ 61 → Lacks 61 text → Lacks 61 (b ∷ text)
lacks_more b text differs h zero lt = differs
lacks_more b text differs h (suc k) lt = h k (omega arith)

cut_of : (text : Text) → Cut text
cut_of [] = whole [] (λ k lt. absurd (omega arith))
cut_of (b ∷ text) = first_byte (b == 61) refl (cut_of text)
  where
    further : {text : Text} → b ≢ 61 → Cut text → Cut (b ∷ text)
    further differs (whole text lacks) = whole (b ∷ text) (lacks_more b text differs lacks)
    further differs (cut name value lacks) = cut (b ∷ name) value (lacks_more b name differs lacks)

    first_byte : (is : Bool) → b == 61 ≡ is → Cut text → Cut (b ∷ text)
    first_byte true e c = subst (λ b. Cut (b ∷ text)) (sym (eqb-true b 61 e)) (cut [] text (λ k lt. absurd (omega arith)))
    first_byte false e c = further (eqb-false b 61 e) c

-- ---- the value of an option

abbrev waiting : List Row → Text → Bool → Walk
waiting rows name full = standing rows (Some (name, [])) (wait_option name) full false

open_fault : (l : Leaf) (name : Text) → IsOption l name → (rows : List Row) → settle_fault (rules l) false (held rows (Some (name, []))) ≡ [] → ⊥
open_fault l name first rows e =
    let bad : kind.InvalidValue ∷ [] ≡ [] = e in
    cc
open_fault l name _ rows e =
    let bad : kind.InvalidValue ∷ [] ≡ [] = e in
    cc

waiting_letters : (l : Leaf) (name : Text) (b : ℕ) (letters : Text) (full : Bool) (rows : List Row) → b == 45 ≡ false
    → turn_fault (plain_leaf l) [] (waiting rows name full) (45 ∷ b ∷ letters) ≡ []
    → flags_fault (rules l) false (length (b ∷ letters)) (b ∷ letters) 0 (held rows (Some (name, []))) ≡ []
waiting_letters l name b letters full rows unhyphened fault =
    let is = are_letters b letters unhyphened in
    (none_of_both _ _ (rw (is.ends, is.long, is.short) at fault)).0

waiting_dashes : (l : Leaf) (name : Text) (full : Bool) (rows : List Row)
    → walked (rules l) [] (waiting rows name full) (45 ∷ 45 ∷ []) ≡ standing rows (Some (name, [])) (wait_option name) full true
unfolding walked
waiting_dashes l name full rows = refl

dashes_fault : (l : Leaf) (name : Text) (full : Bool) (rows : List Row) → turn_fault (plain_leaf l) [] (waiting rows name full) (45 ∷ 45 ∷ []) ≡ []
dashes_fault l name full rows = refl

-- behind `--` an option without a value is refused
open_behind : (l : Leaf) (name : Text) → IsOption l name → (full : Bool) (rows : List Row) (words : List Text)
    → Passes l (standing rows (Some (name, [])) (wait_option name) full true) words → ⊥
open_behind l name is full rows [] passes = open_fault l name is rows passes.settles
open_behind l name is full rows (word ∷ words) passes =
    refused l name is full (turn_passes l (standing rows (Some (name, [])) (wait_option name) full true) word words passes)
  where
    refused : (l : Leaf) (name : Text) → IsOption l name → (full : Bool)
        → turn_fault (plain_leaf l) [] (standing rows (Some (name, [])) (wait_option name) full true) word ≡ [] → ⊥
    refused l name first false fault =
        let bad : kind.InvalidValue ∷ [] ≡ [] = fault in
        cc
    refused l name first true fault =
        let bad : kind.UnknownArgument ∷ [] ≡ [] = fault in
        cc
    refused l name _ false fault =
        let bad : kind.InvalidValue ∷ [] ≡ [] = fault in
        cc
    refused l name _ true fault =
        let bad : kind.UnknownArgument ∷ [] ≡ [] = fault in
        cc

value_plain : (l : Leaf) (name : Text) → IsOption l name → (word : Text) (words : List Text) (full : Bool) (rows : List Row) → IsUtf8 word
    → Passes l (waiting rows name full) (word ∷ words) → IsPlain word
value_plain l name is word words full rows u passes = by (kind_of_word word) u passes
  where
    by : {word : Text} → Kind word → IsUtf8 word → Passes l (waiting rows name full) (word ∷ words) → IsPlain word
    by (flat word flag) u passes = flag
    by dashes u passes = absurd (open_behind l name is full rows words
        (passes_on l (goes (plain_leaf l) [] (waiting rows name full) (45 ∷ 45 ∷ []) words _ _ (dashes_fault l name full rows) (waiting_dashes l name full rows)) passes))
    by (long x xs) u passes =
        let split = name_and_value (x ∷ xs) in
        absurd (unsettled_long (rules l) (arg_by_long (rules l) split.0) split.1 (held rows (Some (name, []))) (open_fault l name is rows)
        (none_of_both _ _ (turn_passes l (waiting rows name full) (45 ∷ 45 ∷ x ∷ xs) words passes)).0)
    by (lettered b letters e) u passes =
        let fault = waiting_letters l name b letters full rows e (turn_passes l (waiting rows name full) (45 ∷ b ∷ letters) words passes) in
        let start = first_of_letters b letters (letters_text b letters u) in
        absurd (unsettled (rules l) (arg_by_short (rules l) start.char) (drop (length (encode_utf8 start.char)) (b ∷ letters)) (held rows (Some (name, [])))
        (flags_fault (rules l) false (length letters) (drop (length (encode_utf8 start.char)) (b ∷ letters)) 0) (open_fault l name is rows)
        (sym (letters_fault (rules l) b letters start.char (held rows (Some (name, []))) start.head) ∙ fault))

-- ---- all words behind a command

pub record Found (l : Leaf) (full : Bool) (words : List Text) : Type 0 where
  pub parts : List Part
  pub says : Says words parts
  pub fits : Fits l full parts

abbrev Finds : ℕ → Type 0
Finds n = (l : Leaf) (words : List Text) → length words ≤ n → AreTexts words → (w full : Bool) (rows : List Row) (p : Pending)
    → Passes l (standing rows p (calm w) full false) words → Found l full words

calm_long : (l : Leaf) (x : ℕ) (xs : Text) (w full : Bool) (rows : List Row) (p : Pending)
    → turn_fault (plain_leaf l) [] (standing rows p (calm w) full false) (45 ∷ 45 ∷ x ∷ xs) ≡ []
    → long_fault (rules l) false (arg_by_long (rules l) (name_and_value (x ∷ xs)).0) (name_and_value (x ∷ xs)).1 (held rows p) ≡ []
calm_long l x xs false full rows p fault = (none_of_both _ _ fault).0
calm_long l x xs true full rows p fault = (none_of_both _ _ fault).0

option_found : (n : ℕ) → Finds n → (l : Leaf) (name : Text) → IsOption l name → (words : List Text) → length words ≤ n → AreTexts words
    → (w full : Bool) (rows : List Row) (p : Pending) → Passes l (standing rows p (calm w) full false) ((codes "--" ++ name) ∷ words)
    → Found l full ((codes "--" ++ name) ∷ words)
option_found n finds l name is [] le texts w full rows p passes =
    let after = passes_on l (option_leads l name is w full rows p []) passes in
    absurd (open_fault l name is (rows_with l rows p) after.settles)
option_found n finds l name is (value ∷ words) le texts w full rows p passes =
    let at = passes_on l (option_leads l name is w full rows p (value ∷ words)) passes in
    let plain = value_plain l name is value words full (rows_with l rows p) texts.0 at in
    let flagless = no_flag value plain in
    let second = value_leads l name is full value (rows_with l rows p) flagless words in
    let d = finds l words (omega arith) texts.1 false full (rows_with l rows p) (Some (name, value ∷ [])) (passes_on l second at) in
    record { parts = Named name value ∷ d.parts; says = named name value words d.parts plain d.says; fits = (is, d.fits) }

equals_found : (n : ℕ) → Finds n → (l : Leaf) (name value : Text) → IsOption l name → (words : List Text) → length words ≤ n → AreTexts words
    → (w full : Bool) (rows : List Row) (p : Pending) → Passes l (standing rows p (calm w) full false) ((codes "--" ++ (name ++ 61 ∷ value)) ∷ words)
    → Found l full ((codes "--" ++ (name ++ 61 ∷ value)) ∷ words)
equals_found n finds l name value is words le texts w full rows p passes =
    let step = equals_leads l name is w full value rows p words in
    let d = finds l words le texts false full _ None (passes_on l step passes) in
    record { parts = Named name value ∷ d.parts; says = option_by_equals name value words d.parts d.says; fits = (is, d.fits) }

flag_found : (n : ℕ) → Finds n → (l : Leaf) (name : Text) → IsFlag l name → (words : List Text) → length words ≤ n → AreTexts words
    → (w full : Bool) (rows : List Row) (p : Pending) → Passes l (standing rows p (calm w) full false) ((codes "--" ++ name) ∷ words)
    → Found l full ((codes "--" ++ name) ∷ words)
flag_found n finds l name is words le texts w full rows p passes =
    let step = flag_leads l name is w full rows p words in
    let d = finds l words le texts false full _ None (passes_on l step passes) in
    record { parts = Flag name ∷ d.parts; says = alone name words d.parts d.says; fits = (is, d.fits) }

long_found : (n : ℕ) → Finds n → (l : Leaf) (flag : Text) → Cut flag → (words : List Text) → length words ≤ n → AreTexts words
    → (w full : Bool) (rows : List Row) (p : Pending)
    → long_fault (rules l) false (arg_by_long (rules l) (name_and_value flag).0) (name_and_value flag).1 (held rows p) ≡ []
    → Passes l (standing rows p (calm w) full false) ((codes "--" ++ flag) ∷ words) → Found l full ((codes "--" ++ flag) ∷ words)
long_found n finds l flag (whole text lacks) words le texts w full rows p fault passes = by (known l text)
  where
    by : Known l text → Found l full ((codes "--" ++ text) ∷ words)
    by (an_option is) = option_found n finds l text is words le texts w full rows p passes
    by (a_flag is) = flag_found n finds l text is words le texts w full rows p passes
    by (no_name refused) = absurd (refused None (held rows p)
        (subst (λ (s : Text × Option Text). long_fault (rules l) false (arg_by_long (rules l) s.0) s.1 (held rows p) ≡ []) (name_and_value-without text lacks) fault))
long_found n finds l flag (cut name value lacks) words le texts w full rows p fault passes = by (known l name)
  where
    by : Known l name → Found l full ((codes "--" ++ (name ++ 61 ∷ value)) ∷ words)
    by (an_option is) = equals_found n finds l name value is words le texts w full rows p passes
    by (a_flag is) = absurd (no_value l name value is (held rows p)
        (subst (λ (s : Text × Option Text). long_fault (rules l) false (arg_by_long (rules l) s.0) s.1 (held rows p) ≡ []) (name_and_value-at name value lacks) fault))
    by (no_name refused) = absurd (refused (Some value) (held rows p)
        (subst (λ (s : Text × Option Text). long_fault (rules l) false (arg_by_long (rules l) s.0) s.1 (held rows p) ≡ []) (name_and_value-at name value lacks) fault))

next_found : (n : ℕ) → Finds n → (l : Leaf) (word : Text) (words : List Text) → length words ≤ n → IsUtf8 word → AreTexts words → (w full : Bool) (rows : List Row) (p : Pending)
    → Kind word → HasSlot l full ⊎ IsRefused l full → Passes l (standing rows p (calm w) full false) (word ∷ words) → Found l full (word ∷ words)
next_found n finds l word words le u texts w full rows p (flat same is) (inl slot) passes =
    let step = among l full slot w rows p word (no_flag word is) in
    let d = finds l words le texts step.next (filled_by l) (rows_with l rows p) _
    (passes_on l (goes (plain_leaf l) [] (standing rows p (calm w) full false) word words _ _ step.fault step.walk) passes) in
    record { parts = Argument word ∷ d.parts; says = argument word words d.parts is d.says; fits = (slot, d.fits) }
next_found n finds l word words le u texts w full rows p (flat same is) (inr refused) passes =
    absurd (refused w false rows p word (inr (no_flag word is)) (turn_passes l (standing rows p (calm w) full false) word words passes))
next_found n finds l word words le u texts w full rows p dashes slot passes =
    let after = passes_on l (dashes_leads l w full rows p words) passes in
    record { parts = map Argument words; says = ended words; fits = found_behind l words w full rows p after }
next_found n finds l word words le u texts w full rows p (long x xs) slot passes =
    long_found n finds l (x ∷ xs) (cut_of (x ∷ xs)) words le texts w full rows p
    (calm_long l x xs w full rows p (turn_passes l (standing rows p (calm w) full false) (45 ∷ 45 ∷ x ∷ xs) words passes)) passes
next_found n finds l word words le u texts w full rows p (lettered b letters e) slot passes =
    absurd (letters_refused l b letters w full rows p (letters_text b letters u) e (turn_passes l (standing rows p (calm w) full false) (45 ∷ b ∷ letters) words passes))

pub found : (n : ℕ) → Finds n
found n l [] le texts w full rows p passes = record { parts = []; says = nothing; fits = tt }
found zero l (word ∷ words) le texts w full rows p passes = absurd (omega arith)
found (suc n) l (word ∷ words) le texts w full rows p passes =
    next_found n (found n) l word words (omega arith) texts.0 texts.1 w full rows p (kind_of_word word) (slot_or_none l full) passes

-- The walk over the words behind a command.
use Rattle.zeb_words.proofs.Cited.{◌≡◌, ◌&&◌, ℕ, Bool, refl, List, [], ◌∷◌, ◌++◌, Option, Some, None, codes, true, false, ⊤, unwrap_or, and_right, Row, Rule, Walk, Waiting, Held, Text, idle, positional, settled_rows, used, arg_by_index, arg_by_long, is_pending, takes_several, wait_option, App, Shape, built_leaf, inherited, new_app, built, new_rule, turn_fault, settle_fault, use_fault, Kinds, or_else, Part, Argument, Flag, Named, changing_app, find_app, founding_app, naming_app, program_app, scan_app, walked}
use Rattle.clap.proofs.OnLiterals.{clap_on_literals}
use Rattle.zeb_words.proofs.Leads.{Leads, else_none, goes}
use Rattle.zeb_words.proofs.Uses.{clash_of, uses_of}
use Rattle.zeb_words.proofs.Plain.{IsNoFlag}

-- ---- the commands by what stands behind them

-- nothing, a flag, a name, paths, or options and a query
pub data Leaf : Type 0 where
  Bare : Leaf
  Founding : Leaf
  Naming : Leaf
  Changing : Leaf
  Finding : Leaf
  Scanning : Leaf

abbrev pub leaf : Text → App → Shape
leaf name app = built_leaf (inherited (built program_app).top (app.top))

abbrev pub rules : Leaf → List Rule
rules Bare = (leaf [] (new_app [])).rules
rules Founding = (leaf [] (founding_app [])).rules
rules Naming = (leaf [] (naming_app [])).rules
rules Changing = (leaf [] (changing_app [])).rules
rules Finding = (leaf [] find_app).rules
rules Scanning = (leaf [] scan_app).rules

-- the options of a command
pub data IsOption : Leaf → Text → Type 0 where
  first : IsOption Finding (codes "first")
  count : IsOption Finding (codes "count")
  number : IsOption Scanning (codes "number")
  place : IsOption Scanning (codes "position")

-- its flags
pub data IsFlag : Leaf → Text → Type 0 where
  leaves : IsFlag Founding (codes "leaves")

abbrev pub option_rule : Leaf → Text → Rule
option_rule l name = unwrap_or (arg_by_long (rules l) name) (new_rule name)

abbrev pub slot_rule : Leaf → Rule
slot_rule l = unwrap_or (arg_by_index (rules l) 1) (new_rule [])

-- an argument may stand here
abbrev pub HasSlot : Leaf → Bool → Type 0
HasSlot Bare full = ⊥
HasSlot Founding full = ⊥
HasSlot Naming full = full ≡ false
HasSlot Changing full = full ≡ false
HasSlot Finding full = full ≡ false
HasSlot Scanning full = full ≡ false

-- none may stand after one that stood
abbrev pub filled_by : Leaf → Bool
filled_by Bare = true
filled_by Founding = true
filled_by Naming = true
filled_by Changing = false
filled_by Finding = true
filled_by Scanning = true

abbrev pub position_of : Bool → ℕ
position_of false = 1
position_of true = 2

abbrev pub Fits : Leaf → Bool → List Part → Type 0
Fits l full [] = ⊤
Fits l full (Named name value ∷ parts) = IsOption l name × Fits l full parts
Fits l full (Flag name ∷ parts) = IsFlag l name × Fits l full parts
Fits l full (Argument value ∷ parts) = HasSlot l full × Fits l (filled_by l) parts

abbrev pub part_rule : Leaf → Part → Rule
part_rule l (Named name value) = option_rule l name
part_rule l (Flag name) = option_rule l name
part_rule l (Argument value) = slot_rule l

abbrev pub part_values : Part → List Text
part_values (Named name value) = value ∷ []
part_values (Flag name) = []
part_values (Argument value) = value ∷ []

abbrev pub uses : Leaf → List Part → List Row → List Row
uses l = uses_of (part_rule l) part_values

abbrev pub clash : Leaf → List Part → List Row → Kinds
clash l = clash_of (part_rule l) part_values

abbrev pub Pending : Type 0
Pending = Option (Text × List Text)

-- nothing waits for a value
abbrev pub calm : Bool → Waiting
calm false = idle
calm true = positional

abbrev pub held : List Row → Pending → Held
held rows p = record { rows = rows; pending = p; skip = 0 }

abbrev pub standing : List Row → Pending → Waiting → Bool → Bool → Walk
standing rows p waiting full trailing = record { held = held rows p; waiting = waiting; position = position_of full; is_trailing = trailing; stopped = None }

-- what the six kinds of commands have in common beside their rules
abbrev pub plain_leaf : Leaf → Shape
plain_leaf l = record (leaf [] (new_app [])) { rules = rules l }

abbrev pub pending_fault : Leaf → List Row → Pending → Kinds
pending_fault l rows p = settle_fault (rules l) false (held rows p)

abbrev pub rows_with : Leaf → List Row → Pending → List Row
rows_with l rows p = settled_rows (rules l) p rows

-- ---- single words

pub option_leads : (l : Leaf) (name : Text) → IsOption l name → (w full : Bool) (rows : List Row) (p : Pending) (rest : List Text)
    → Leads (plain_leaf l) [] (standing rows p (calm w) full false) ((codes "--" ++ name) ∷ rest) (standing (rows_with l rows p) (Some (name, [])) (wait_option name) full false) rest (pending_fault l rows p)
unfolding clap_on_literals
option_leads l name first false full rows p rest = goes (plain_leaf l) [] _ _ rest _ _ (else_none _) refl
option_leads l name first true full rows p rest = goes (plain_leaf l) [] _ _ rest _ _ (else_none _) refl
option_leads l name _ false full rows p rest = goes (plain_leaf l) [] _ _ rest _ _ (else_none _) refl
option_leads l name _ true full rows p rest = goes (plain_leaf l) [] _ _ rest _ _ (else_none _) refl

pub equals_leads : (l : Leaf) (name : Text) → IsOption l name → (w full : Bool) (value : Text) (rows : List Row) (p : Pending) (rest : List Text)
    → Leads (plain_leaf l) [] (standing rows p (calm w) full false) ((codes "--" ++ (name ++ 61 ∷ value)) ∷ rest) (standing (used (option_rule l name) (value ∷ []) (rows_with l rows p)) None idle full false) rest
    (or_else (pending_fault l rows p) (use_fault false (option_rule l name) (value ∷ []) (rows_with l rows p)))
unfolding clap_on_literals
equals_leads l name first false full value rows p rest = goes (plain_leaf l) [] _ _ rest _ _ (else_none _) refl
equals_leads l name first true full value rows p rest = goes (plain_leaf l) [] _ _ rest _ _ (else_none _) refl
equals_leads l name _ false full value rows p rest = goes (plain_leaf l) [] _ _ rest _ _ (else_none _) refl
equals_leads l name _ true full value rows p rest = goes (plain_leaf l) [] _ _ rest _ _ (else_none _) refl

pub flag_leads : (l : Leaf) (name : Text) → IsFlag l name → (w full : Bool) (rows : List Row) (p : Pending) (rest : List Text)
    → Leads (plain_leaf l) [] (standing rows p (calm w) full false) ((codes "--" ++ name) ∷ rest) (standing (used (option_rule l name) [] (rows_with l rows p)) None idle full false) rest
    (or_else (pending_fault l rows p) (use_fault false (option_rule l name) [] (rows_with l rows p)))
unfolding clap_on_literals
flag_leads l name leaves false full rows p rest = goes (plain_leaf l) [] _ _ rest _ _ (else_none _) refl
flag_leads l name leaves true full rows p rest = goes (plain_leaf l) [] _ _ rest _ _ (else_none _) refl

pub value_leads : (l : Leaf) (name : Text) → IsOption l name → (full : Bool) (value : Text) (rows : List Row) → IsNoFlag value → (rest : List Text)
    → Leads (plain_leaf l) [] (standing rows (Some (name, [])) (wait_option name) full false) (value ∷ rest) (standing rows (Some (name, value ∷ [])) idle full false) rest []
unfolding clap_on_literals
value_leads l name first full value rows flagless rest =
    goes (plain_leaf l) [] _ value rest _ _ (rw (flagless.ends, flagless.long, flagless.short) refl) (rw (flagless.ends, flagless.long, flagless.short) refl)
value_leads l name _ full value rows flagless rest =
    goes (plain_leaf l) [] _ value rest _ _ (rw (flagless.ends, flagless.long, flagless.short) refl) (rw (flagless.ends, flagless.long, flagless.short) refl)

pub option_rows : (l : Leaf) (name : Text) → IsOption l name → (value : Text) (rows : List Row)
    → rows_with l rows (Some (name, value ∷ [])) ≡ used (option_rule l name) (value ∷ []) rows
option_rows l name first value rows = refl
option_rows l name _ value rows = refl

pub option_pends : (l : Leaf) (name : Text) → IsOption l name → (value : Text) (rows : List Row)
    → pending_fault l rows (Some (name, value ∷ [])) ≡ use_fault false (option_rule l name) (value ∷ []) rows
option_pends l name first value rows = refl
option_pends l name _ value rows = refl

-- ---- arguments

pub slot_rows : (l : Leaf) (full : Bool) → HasSlot l full → (value : Text) (rows : List Row)
    → rows_with l rows (Some ((slot_rule l).id, value ∷ [])) ≡ used (slot_rule l) (value ∷ []) rows
slot_rows Bare full slot value rows = absurd slot
slot_rows Founding full slot value rows = absurd slot
slot_rows _ full slot value rows = refl

pub slot_pends : (l : Leaf) (full : Bool) → HasSlot l full → (value : Text) (rows : List Row)
    → pending_fault l rows (Some ((slot_rule l).id, value ∷ [])) ≡ use_fault false (slot_rule l) (value ∷ []) rows
slot_pends Bare full slot value rows = absurd slot
slot_pends Founding full slot value rows = absurd slot
slot_pends _ full slot value rows = refl

-- one more argument
pub record TakesArgument (l : Leaf) (rows : List Row) (p : Pending) (w full trailing : Bool) (word : Text) : Type 0 where
  pub next : Bool
  pub fault : turn_fault (plain_leaf l) [] (standing rows p (calm w) full trailing) word ≡ pending_fault l rows p
  pub walk : walked (rules l) [] (standing rows p (calm w) full trailing) word
      ≡ standing (rows_with l rows p) (Some ((slot_rule l).id, word ∷ [])) (calm next) (filled_by l) trailing

-- an argument is used once, whatever stood before it
never_several : (l : Leaf) (full : Bool) → HasSlot l full → (p : Pending) → (is_pending (slot_rule l) p && takes_several (slot_rule l)) ≡ false
never_several Bare full slot p = absurd slot
never_several Founding full slot p = absurd slot
never_several _ full slot p = and_right _ _ refl

pub behind : (l : Leaf) (full : Bool) → HasSlot l full → (w : Bool) (rows : List Row) (p : Pending) (word : Text) → TakesArgument l rows p w full true word
unfolding clap_on_literals
behind Bare full slot w rows p word = absurd slot
behind Founding full slot w rows p word = absurd slot
behind Changing false slot w rows p word = let once = never_several Changing false slot p in record { next = true; fault = rw once refl; walk = rw once refl }
behind Naming true slot w rows p word = cc
behind _ true slot w rows p word = cc
behind l false slot w rows p word = let once = never_several l false slot p in record { next = false; fault = rw once refl; walk = rw once refl }

pub among : (l : Leaf) (full : Bool) → HasSlot l full → (w : Bool) (rows : List Row) (p : Pending) (word : Text) → IsNoFlag word → TakesArgument l rows p w full false word
unfolding clap_on_literals
among Bare full slot w rows p word flagless = absurd slot
among Founding full slot w rows p word flagless = absurd slot
among Naming true slot w rows p word flagless = cc
among Changing false slot false rows p word flagless =
    let once = never_several Changing false slot p in
    record { next = true; fault = rw (flagless.ends, flagless.long, flagless.short, once) refl; walk = rw (flagless.ends, flagless.long, flagless.short, once) refl }
among Changing false slot true rows p word flagless =
    let once = never_several Changing false slot p in
    record { next = true; fault = rw (flagless.ends, flagless.long, flagless.short, once) refl; walk = rw (flagless.ends, flagless.long, flagless.short, once) refl }
among _ true slot w rows p word flagless = cc
among l false slot false rows p word flagless =
    let once = never_several l false slot p in
    record { next = false; fault = rw (flagless.ends, flagless.long, flagless.short, once) refl; walk = rw (flagless.ends, flagless.long, flagless.short, once) refl }
among l false slot true rows p word flagless =
    let once = never_several l false slot p in
    record { next = false; fault = rw (flagless.ends, flagless.long, flagless.short, once) refl; walk = rw (flagless.ends, flagless.long, flagless.short, once) refl }

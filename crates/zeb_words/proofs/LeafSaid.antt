-- What the walk comes to where words behind a command say options and arguments.
use Rattle.zeb_words.proofs.Cited.{◌≡◌, ◌∙◌, Bool, refl, sym, ap, ap₂, List, [], ◌∷◌, ◌++◌, Some, None, codes, true, false, map, Row, Walk, Text, settled_rows, used, settle_fault, use_fault, Kinds, or_else, Part, Argument, Says, nothing, argument, option_by_equals, Named, named, ended, Flag, alone}
use Rattle.clap.specs.Walk.{walked}
use Rattle.zeb_words.proofs.Leads.{Leads, else_none, else_joined, goes, goes_on, stays}
use Rattle.zeb_words.proofs.Plain.{no_flag}
use Rattle.zeb_words.proofs.Leaf.{Fits, Leaf, Pending, among, behind, calm, clash, equals_leads, filled_by, flag_leads, option_pends, option_rows, option_leads, part_rule, part_values, pending_fault, plain_leaf, rows_with, rules, slot_pends, slot_rows, standing, uses, value_leads}

pub record Said (l : Leaf) (start : Walk) (words : List Text) (parts : List Part) : Type 0 where
  pub after : Walk
  pub faults : Kinds
  pub leads : Leads (plain_leaf l) [] start words after [] faults
  pub are : settled_rows (rules l) after.held.pending after.held.rows ≡ uses l parts (settled_rows (rules l) start.held.pending start.held.rows)
  pub fault : or_else faults (settle_fault (rules l) false after.held)
      ≡ or_else (settle_fault (rules l) false start.held) (clash l parts (settled_rows (rules l) start.held.pending start.held.rows))

before : (l : Leaf) (start next : Walk) (words more : List Text) (parts : List Part) (f : Kinds) (part : Part)
    → Leads (plain_leaf l) [] start words next more f
    → settled_rows (rules l) next.held.pending next.held.rows
    ≡ used (part_rule l part) (part_values part) (settled_rows (rules l) start.held.pending start.held.rows)
    → or_else f (settle_fault (rules l) false next.held)
    ≡ or_else (settle_fault (rules l) false start.held) (use_fault false (part_rule l part) (part_values part) (settled_rows (rules l) start.held.pending start.held.rows))
    → Said l next more parts → Said l start words (part ∷ parts)
before l start next words more parts f part leads are fault d = record {
  after = d.after;
  faults = or_else f d.faults;
  leads = goes_on (plain_leaf l) [] leads d.leads;
  are = d.are ∙ ap (uses l parts) are;
  fault = else_joined f d.faults _
      ∙ ap (or_else f) d.fault
      ∙ sym (else_joined f _ _)
      ∙ ap₂ or_else fault (ap (clash l parts) are)
      ∙ else_joined (settle_fault (rules l) false start.held) _ _;
}

end : (l : Leaf) (start : Walk) → Said l start [] []
end l start = record {
  after = start;
  faults = [];
  leads = stays (plain_leaf l) [] start [];
  are = refl;
  fault = sym (else_none (settle_fault (rules l) false start.held));
}

pub said_behind : (l : Leaf) (arguments : List Text) (full : Bool) → Fits l full (map Argument arguments) → (w : Bool) (rows : List Row) (p : Pending)
    → Said l (standing rows p (calm w) full true) arguments (map Argument arguments)
said_behind l [] full fits w rows p = end l (standing rows p (calm w) full true)
said_behind l (word ∷ words) full fits w rows p =
    let step = behind l full fits.0 w rows p word in
    before l (standing rows p (calm w) full true) _ (word ∷ words) words (map Argument words) _ (Argument word)
    (goes (plain_leaf l) [] (standing rows p (calm w) full true) word words _ _ step.fault step.walk)
    (slot_rows l full fits.0 word (rows_with l rows p))
    (ap (or_else (pending_fault l rows p)) (slot_pends l full fits.0 word (rows_with l rows p)))
    (said_behind l words (filled_by l) fits.1 step.next (rows_with l rows p) _)

pub dashes_leads : (l : Leaf) (w full : Bool) (rows : List Row) (p : Pending) (rest : List Text)
    → Leads (plain_leaf l) [] (standing rows p (calm w) full false) ((45 ∷ 45 ∷ []) ∷ rest) (standing rows p (calm w) full true) rest []
unfolding walked
dashes_leads l false full rows p rest = goes (plain_leaf l) [] _ _ rest _ _ refl refl
dashes_leads l true full rows p rest = goes (plain_leaf l) [] _ _ rest _ _ refl refl

pub said : (l : Leaf) (words : List Text) (parts : List Part) → Says words parts → (full : Bool) → Fits l full parts → (w : Bool) (rows : List Row) (p : Pending)
    → Said l (standing rows p (calm w) full false) words parts
said l words parts nothing full fits w rows p = end l (standing rows p (calm w) full false)
said l words parts (ended arguments) full fits w rows p =
    let d = said_behind l arguments full fits w rows p in
    record {
      after = d.after;
      faults = d.faults;
      leads = goes_on (plain_leaf l) [] (dashes_leads l w full rows p arguments) d.leads;
      are = d.are;
      fault = d.fault;
    }
said l words parts (argument word more others flat d) full fits w rows p =
    let step = among l full fits.0 w rows p word (no_flag word flat) in
    before l (standing rows p (calm w) full false) _ (word ∷ more) more others _ (Argument word)
    (goes (plain_leaf l) [] (standing rows p (calm w) full false) word more _ _ step.fault step.walk)
    (slot_rows l full fits.0 word (rows_with l rows p))
    (ap (or_else (pending_fault l rows p)) (slot_pends l full fits.0 word (rows_with l rows p)))
    (said l more others d (filled_by l) fits.1 step.next (rows_with l rows p) _)
said l words parts (named name value more others flat d) full fits w rows p =
    let flagless = no_flag value flat in
    let first = option_leads l name fits.0 w full rows p (value ∷ more) in
    let second = value_leads l name fits.0 full value (rows_with l rows p) flagless more in
    before l (standing rows p (calm w) full false) _ ((codes "--" ++ name) ∷ value ∷ more) more others _ (Named name value)
    (goes_on (plain_leaf l) [] first second)
    (option_rows l name fits.0 value (rows_with l rows p))
    (else_joined (pending_fault l rows p) [] _ ∙ ap (or_else (pending_fault l rows p)) (option_pends l name fits.0 value (rows_with l rows p)))
    (said l more others d full fits.1 false (rows_with l rows p) (Some (name, value ∷ [])))
said l words parts (option_by_equals name value more others d) full fits w rows p =
    before l (standing rows p (calm w) full false) _ ((codes "--" ++ (name ++ 61 ∷ value)) ∷ more) more others _ (Named name value)
    (equals_leads l name fits.0 w full value rows p more)
    refl (else_none _)
    (said l more others d full fits.1 false _ None)
said l words parts (alone name more others d) full fits w rows p =
    before l (standing rows p (calm w) full false) _ ((codes "--" ++ name) ∷ more) more others _ (Flag name)
    (flag_leads l name fits.0 w full rows p more)
    refl (else_none _)
    (said l more others d full fits.1 false _ None)

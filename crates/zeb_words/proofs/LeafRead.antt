-- What is read of the words behind a command.
use Rattle.zeb_words.proofs.Cited.{◌≡◌, ◌∙◌, ◌||◌, Bool, refl, sym, ap, ap₂, List, [], ◌∷◌, None, codes, true, false, length, drop, cond, arith, ⊤, fold, idle, Row, Rule, Text, Walk, has_row, nothing_held, rows_after, settled_rows, with_default, check_fault, default_fault, level_fault, settle_fault, Kinds, or_else, Part, Says}
use Rattle.clap.specs.Faults.{defaults_fault, walk_fault}
use Rattle.zeb_words.proofs.Leads.{at_end, else_none, none_of_both}
use Rattle.zeb_words.proofs.TopFound.{AreTexts}
use Rattle.zeb_words.proofs.Leaf.{Bare, Changing, Finding, Fits, Founding, Leaf, Naming, Scanning, clash, option_rule, plain_leaf, rules, standing, uses}
use Rattle.zeb_words.proofs.LeafSaid.{Said, said}
use Rattle.zeb_words.proofs.LeafFound.{found}

-- no argument has a default
pub NoDefaults : List Rule → Type 0
NoDefaults [] = ⊤
NoDefaults (a ∷ rest) = (a.defaults ≡ []) × NoDefaults rest

none_by : (b : Bool) (k : Kinds) → cond (b || true) [] k ≡ []
none_by true k = refl
none_by false k = refl

pub default_none : (rows : List Row) (a : Rule) → a.defaults ≡ [] → default_fault rows a ≡ []
default_none rows a e = rw e (none_by (has_row a.id rows) _)

same_either : (b : Bool) (rows : List Row) → cond b rows rows ≡ rows
same_either true rows = refl
same_either false rows = refl

pub kept : (rows : List Row) (a : Rule) → a.defaults ≡ [] → with_default rows a ≡ rows
kept rows a e = rw e (same_either (has_row a.id rows) rows)

pub no_defaults : (c : List Rule) (rows : List Row) → NoDefaults c → (defaults_fault rows c ≡ []) × (fold with_default rows c ≡ rows)
unfolding NoDefaults defaults_fault
no_defaults [] rows none = (refl, refl)
no_defaults (a ∷ c) rows none =
    let rest = no_defaults c rows none.1 in
    let now = kept rows a none.0 in
    (rw (default_none rows a none.0, now) rest.0, ap (λ r. fold with_default r c) now ∙ rest.1)

-- what stands for a flag that isn't given
abbrev pub finished : Leaf → List Row → List Row
finished Founding rows = with_default rows (option_rule Founding (codes "leaves"))
finished _ rows = rows

none_given : (rows : List Row) → default_fault rows (option_rule Founding (codes "leaves")) ≡ []
none_given rows = by (has_row (codes "leaves") rows) refl
  where
    by : (is : Bool) → has_row (codes "leaves") rows ≡ is → default_fault rows (option_rule Founding (codes "leaves")) ≡ []
    by true e = rw e refl
    by false e = rw e refl

-- only a flag has a default, and no fault comes of it
leaf_defaults : (l : Leaf) (rows : List Row) → (defaults_fault rows (rules l) ≡ []) × (fold with_default rows (rules l) ≡ finished l rows)
unfolding NoDefaults defaults_fault
leaf_defaults Founding rows =
    let rest = no_defaults (drop 1 (rules Founding)) (finished Founding rows) (refl, tt) in
    (ap₂ or_else (none_given rows) rest.0, rest.1)
leaf_defaults Bare rows = no_defaults (rules Bare) rows (refl, tt)
leaf_defaults Finding rows = no_defaults (rules Finding) rows (refl, (refl, (refl, (refl, tt))))
leaf_defaults Scanning rows = no_defaults (rules Scanning) rows (refl, (refl, (refl, (refl, tt))))
leaf_defaults Naming rows = no_defaults (rules Naming) rows (refl, (refl, tt))
leaf_defaults Changing rows = no_defaults (rules Changing) rows (refl, (refl, tt))

abbrev pub own_fault : Leaf → List Text → Kinds
own_fault l words = level_fault (plain_leaf l) [] nothing_held words false []

-- what the words behind a command say, where the parser takes them
pub record Own (l : Leaf) (words : List Text) : Type 0 where
  pub parts : List Part
  pub says : Says words parts
  pub fits : Fits l false parts
  pub clashes : clash l parts [] ≡ []
  pub checked : check_fault (plain_leaf l) (finished l (uses l parts [])) false ≡ []
  pub rows : rows_after (rules l) [] words ≡ finished l (uses l parts [])

abbrev begin : Walk
begin = standing [] None idle false false

abbrev pub settled_at : Leaf → Walk → List Row
settled_at l w = settled_rows (rules l) w.held.pending w.held.rows

rows_of_parts : (l : Leaf) (words : List Text) (parts : List Part) → Said l begin words parts
    → (settled_at l (at_end (plain_leaf l) [] begin words) ≡ uses l parts []) × (rows_after (rules l) [] words ≡ finished l (uses l parts []))
rows_of_parts l words parts s =
    let settled = ap (settled_at l) s.leads.end ∙ s.are in
    (settled, (leaf_defaults l (settled_at l (at_end (plain_leaf l) [] begin words))).1 ∙ ap (finished l) settled)

pub own : (l : Leaf) (words : List Text) → AreTexts words → own_fault l words ≡ [] → Own l words
unfolding walk_fault
own l words texts fault =
    let one = none_of_both _ _ fault in
    let two = none_of_both _ _ one.1 in
    let three = none_of_both _ _ two.1 in
    let d = found (length words) l words (omega arith) texts false false [] None (record { walks = one.0; settles = two.0 }) in
    let s = said l words d.parts d.says false d.fits false [] None in
    let rows = rows_of_parts l words d.parts s in
    let faults : s.faults ≡ [] = sym (else_none s.faults) ∙ sym s.leads.fault ∙ one.0 in
    let settles : settle_fault (rules l) false s.after.held ≡ [] = ap (λ (y : Walk). settle_fault (rules l) false y.held) (sym s.leads.end) ∙ two.0 in
    record {
      parts = d.parts;
      says = d.says;
      fits = d.fits;
      clashes = sym s.fault ∙ ap₂ or_else faults settles;
      checked = ap (λ r. check_fault (plain_leaf l) r false) (sym rows.1) ∙ three.1;
      rows = rows.1;
    }

pub taken : (l : Leaf) (words : List Text) (parts : List Part) → Says words parts → Fits l false parts → clash l parts [] ≡ []
    → check_fault (plain_leaf l) (finished l (uses l parts [])) false ≡ [] → (own_fault l words ≡ []) × (rows_after (rules l) [] words ≡ finished l (uses l parts []))
unfolding walk_fault
taken l words parts says fits clashes checked =
    let s = said l words parts says false fits false [] None in
    let rows = rows_of_parts l words parts s in
    let none = none_of_both s.faults _ (s.fault ∙ clashes) in
    let walks : walk_fault (plain_leaf l) [] begin words ≡ [] = s.leads.fault ∙ else_none s.faults ∙ none.0 in
    let settles : settle_fault (rules l) false (at_end (plain_leaf l) [] begin words).held ≡ [] = ap (λ (y : Walk). settle_fault (rules l) false y.held) s.leads.end ∙ none.1 in
    let check : check_fault (plain_leaf l) (rows_after (rules l) [] words) false ≡ [] = ap (λ r. check_fault (plain_leaf l) r false) rows.1 ∙ checked in
    (ap₂ or_else walks (ap₂ or_else settles (ap₂ or_else (leaf_defaults l (settled_at l (at_end (plain_leaf l) [] begin words))).0 check)), rows.1)

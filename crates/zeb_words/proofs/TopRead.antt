-- What is read of settings.
use Rattle.zeb_words.proofs.Cited.{◌⊎◌, inl, inr, ◌≡◌, ◌∙◌, Bool, refl, sym, ap, ap₂, subst, List, [], ◌∷◌, ◌++◌, Some, None, codes, true, false, map, ⊤, Row, Text, has_row, used, with_values, without, use_fault, AsWritten, CommandLine, find, is_some, option_map, bytes_eq, bytes_eq-Decides, Names, Walk, settled_rows, answers_to, idle, rows_after, subcommand_met, built, entered, entered_fault, settle_fault, turn_fault, program_app, Setting, Spells, Config, Database, Given, Shows, append_assoc, append-nil, or_else, stopped_fault, walk_fault}
use Rattle.clap.specs.declared.error.kind.ErrorKind.TheVariants as kind
use Rattle.clap.specs.Walk.{walked}
use Rattle.clap.proofs.OnLiterals.{clap_on_literals}
use Rattle.zeb_words.proofs.Leaf.{Bare, Changing, Finding, Founding, Leaf, Naming, Scanning, rules}
use Rattle.zeb_words.proofs.LeafRead.{own_fault}
use Rattle.zeb_words.proofs.TopFound.{IsCommand}
use Rattle.zeb_words.proofs.Items.{Item}
use Rattle.zeb_words.proofs.Top.{Pending, clash, id_of, names, pending_fault, shape, spelled, standing, used_rule, uses, values}
use Rattle.zeb_words.proofs.Leads.{at_end, else_none, goes, goes_on}

abbrev pub item_of : Setting → Item
item_of (Given key value) = record { id = id_of key; value = value; how = AsWritten }
item_of Shows = record { id = codes "shows"; value = codes "true"; how = AsWritten }

abbrev pub Any : Setting → Type 0
Any s = ⊤

pub good : (s : Setting) (rows : List Row) → Any s → has_row (item_of s).id rows ≡ false → Any s → use_fault false (used_rule s) (values s) rows ≡ []
good (Given Config value) rows well fresh sound = rw fresh refl
good (Given Database value) rows well fresh sound = rw fresh refl
good Shows rows well fresh sound = rw fresh refl

pub only : (s : Setting) (rows : List Row) → Any s → use_fault false (used_rule s) (values s) rows ≡ [] → (has_row (item_of s).id rows ≡ false) × Any s
only s rows well fault = (by s (has_row (item_of s).id rows) refl fault, tt)
  where
    by : (s : Setting) (is : Bool) → has_row (item_of s).id rows ≡ is → use_fault false (used_rule s) (values s) rows ≡ [] → has_row (item_of s).id rows ≡ false
    by s false e fault = e
    by (Given Config value) true e fault = let bad : kind.ArgumentConflict ∷ [] ≡ [] = rw e at fault in cc
    by (Given Database value) true e fault = let bad : kind.ArgumentConflict ∷ [] ≡ [] = rw e at fault in cc
    by Shows true e fault = let bad : kind.ArgumentConflict ∷ [] ≡ [] = rw e at fault in cc

pub using : (s : Setting) (rows : List Row) → Any s
    → used (used_rule s) (values s) rows ≡ with_values (item_of s).id (item_of s).how CommandLine ((item_of s).value ∷ []) (without (item_of s).id rows)
using (Given Config value) rows well = refl
using (Given Database value) rows well = refl
using Shows rows well = refl

-- ---- commands

pub Among : Text → List Text → Type 0
Among name [] = ⊥
Among name (x ∷ xs) = (x ≡ name) ⊎ Among name xs

NoAliases : Names → Type 0
NoAliases [] = ⊤
NoAliases (s ∷ names) = (s.1 ≡ []) × NoAliases names

named_in : (name : Text) (all : Names) → NoAliases all → is_some (option_map (λ (s : Text × List Text). s.0) (find (answers_to name) all)) ≡ true
    → Among name (map (λ s. s.0) all)
unfolding Among NoAliases
named_in name [] none met = let bad : false ≡ true = met in cc
named_in name (s ∷ all) none met = by (bytes_eq s.0 name) refl met (named_in name all none.1)
  where
    by : (is : Bool) → bytes_eq s.0 name ≡ is → is_some (option_map (λ (s : Text × List Text). s.0) (find (answers_to name) (s ∷ all))) ≡ true
        → (is_some (option_map (λ (s : Text × List Text). s.0) (find (answers_to name) all)) ≡ true → Among name (map (λ s. s.0) all))
        → (s.0 ≡ name) ⊎ Among name (map (λ s. s.0) all)
    by true e met again = inl ((bytes_eq-Decides s.0 name).0 e)
    by false e met again = inr (again (rw (e, none.0) at met))

-- the commands, with what stands behind each
pub data IsCommandOf : Text → Leaf → Type 0 where
  is_init : IsCommandOf (codes "init") Founding
  is_create : IsCommandOf (codes "create") Naming
  is_drop : IsCommandOf (codes "drop") Naming
  is_update : IsCommandOf (codes "update") Changing
  is_delete : IsCommandOf (codes "delete") Changing
  is_adelete : IsCommandOf (codes "adelete") Changing
  is_stat : IsCommandOf (codes "stat") Bare
  is_dump : IsCommandOf (codes "dump") Bare
  is_check : IsCommandOf (codes "check") Bare
  is_reindex : IsCommandOf (codes "reindex") Bare
  is_upgrade : IsCommandOf (codes "upgrade") Founding
  is_find : IsCommandOf (codes "find") Finding
  is_scan : IsCommandOf (codes "scan") Scanning
  is_batch : IsCommandOf (codes "batch") Bare
  is_shell : IsCommandOf (codes "shell") Bare

pub command_of : (name : Text) → IsCommand name → (l : Leaf) × IsCommandOf name l
unfolding NoAliases Among
command_of name is = by (named_in name names (refl, (refl, (refl, (refl, (refl, (refl, (refl, (refl, (refl, (refl, (refl, (refl, (refl, (refl, (refl, tt))))))))))))))) is)
  where
    at : {l : Leaf} {known : Text} → known ≡ name → IsCommandOf known l → (l : Leaf) × IsCommandOf name l
    at {l = l} e is = (l, subst (λ t. IsCommandOf t l) e is)

    by : Among name (map (λ s. s.0) names) → (l : Leaf) × IsCommandOf name l
    by (inl e) = at e is_init
    by (inr (inl e)) = at e is_create
    by (inr (inr (inl e))) = at e is_drop
    by (inr (inr (inr (inl e)))) = at e is_update
    by (inr (inr (inr (inr (inl e))))) = at e is_delete
    by (inr (inr (inr (inr (inr (inl e)))))) = at e is_adelete
    by (inr (inr (inr (inr (inr (inr (inl e))))))) = at e is_check
    by (inr (inr (inr (inr (inr (inr (inr (inl e)))))))) = at e is_reindex
    by (inr (inr (inr (inr (inr (inr (inr (inr (inl e))))))))) = at e is_upgrade
    by (inr (inr (inr (inr (inr (inr (inr (inr (inr (inl e)))))))))) = at e is_stat
    by (inr (inr (inr (inr (inr (inr (inr (inr (inr (inr (inl e))))))))))) = at e is_dump
    by (inr (inr (inr (inr (inr (inr (inr (inr (inr (inr (inr (inl e)))))))))))) = at e is_find
    by (inr (inr (inr (inr (inr (inr (inr (inr (inr (inr (inr (inr (inl e))))))))))))) = at e is_scan
    by (inr (inr (inr (inr (inr (inr (inr (inr (inr (inr (inr (inr (inr (inl e)))))))))))))) = at e is_batch
    by (inr (inr (inr (inr (inr (inr (inr (inr (inr (inr (inr (inr (inr (inr (inl e))))))))))))))) = at e is_shell
    by (inr (inr (inr (inr (inr (inr (inr (inr (inr (inr (inr (inr (inr (inr (inr e))))))))))))))) = absurd e

-- what the parse makes of a command and the words behind it
pub record Enters (name : Text) (l : Leaf) (words : List Text) : Type 0 where
  pub met : subcommand_met names idle name ≡ Some name
  pub rows : entered (built program_app) (Some (name, words)) ≡ Some (name, rows_after (rules l) [] words)
  pub fault : entered_fault (built program_app) (Some (name, words)) ≡ own_fault l words
  pub turn : (rows : List Row) (p : Pending) → turn_fault shape names (standing rows p idle) name ≡ []
  pub walk : (rows : List Row) (p : Pending) → walked shape.rules names (standing rows p idle) name ≡ record (standing rows p idle) { stopped = Some (name, []) }

pub enters : (name : Text) (l : Leaf) (words : List Text) → IsCommandOf name l → Enters name l words
unfolding clap_on_literals
enters name l words is_init = record { met = refl; rows = refl; fault = refl; turn = λ rows p. refl; walk = λ rows p. refl }
enters name l words _ = record { met = refl; rows = refl; fault = refl; turn = λ rows p. refl; walk = λ rows p. refl }

-- ---- the end of the words

stopped_end : (w : Walk) (name : Text) (seen rest : List Text)
    → at_end shape names (record w { stopped = Some (name, seen) }) rest ≡ record w { stopped = Some (name, seen ++ rest) }
unfolding walked
stopped_end w name seen [] = ap (λ l. record w { stopped = Some (name, l) }) (sym (append-nil seen))
stopped_end w name seen (x ∷ rest) = stopped_end w name (seen ++ x ∷ []) rest ∙ ap (λ l. record w { stopped = Some (name, l) }) (append_assoc seen (x ∷ []) rest)

abbrev pub rows_at_end : List Text → List Row
rows_at_end words =
    let end = at_end shape names (standing [] None idle) words in
    settled_rows shape.rules end.held.pending end.held.rows

-- the walk over all words of a command line
pub record Walks (words : List Text) (settings : List Setting) (name : Text) (rest : List Text) : Type 0 where
  pub stop : (at_end shape names (standing [] None idle) words).stopped ≡ Some (name, rest)
  pub rows : rows_at_end words ≡ uses settings []
  pub faults : or_else (walk_fault shape names (standing [] None idle) words) (settle_fault shape.rules false (at_end shape names (standing [] None idle) words).held)
      ≡ clash settings []

pub walks : (front : List Text) (settings : List Setting) (name : Text) (l : Leaf) (rest : List Text) → Spells front settings → IsCommandOf name l
    → Walks (front ++ name ∷ rest) settings name rest
walks front settings name l rest d is =
    let s = spelled front (name ∷ rest) settings d [] None in
    let e = enters name l rest is in
    let at = standing s.after s.pending idle in
    let step = goes shape names at name rest _ _ (e.turn s.after s.pending) (e.walk s.after s.pending) in
    let all = goes_on shape names s.leads step in
    let end = all.end ∙ stopped_end at name [] rest in
    record {
      stop = ap (λ (y : Walk). y.stopped) end;
      rows = ap (λ (y : Walk). settled_rows shape.rules y.held.pending y.held.rows) end ∙ s.are;
      faults = ap₂ or_else (all.fault ∙ ap (or_else (or_else s.faults [])) (stopped_fault shape names at (name, []) rest))
          (ap (λ (y : Walk). settle_fault shape.rules false y.held) end)
          ∙ ap (λ k. or_else k (pending_fault s.after s.pending)) (else_none (or_else s.faults []) ∙ else_none s.faults) ∙ s.fault;
    }

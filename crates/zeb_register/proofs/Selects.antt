-- SELECT over one table, as the rows of the table that it lists.
use Rattle.zeb_register.proofs.Cited.{IsPlain, command_of, reads_as, Select, IsDatabase, reads_listing, Row, column, row_cmp, limited, as_count, Schema, State, Term, eval, eval_all, all_has, has_got, Has, ◌≡◌, ◌↔◌, ℕ, true, false, List, [], ◌∷◌, map, refl, sym, ap, subst, ◌∙◌, Less, Equal, list_any, Table, HasLayout, IsListOf}
use Rattle.sqlite.specs.Listing.{understood}
use Rattle.sqlite.specs.State.{Shown}
use Rattle.zeb_register.proofs.StatementForms.{Condition, MeetsAll, passes, reading, alone, rising, shows, ordering}
use Rattle.zeb_register.proofs.ValueKinds.{IsPlainTable, HasKeys, are_fit, are_comparable, codes_of, covers}
use Rattle.zeb_register.proofs.RowLemmas.{covered_some, ordering_tied, shares_alone}
use Rattle.zeb_register.proofs.Scans.{reads, shows_each, shows_rising, all_shown}
use Rattle.zeb_register.proofs.Writes.{keyed_there, codes_there, meets_there}

pub shown_places : (params r : Row) (show : List ℕ) → eval_all (shows show) (params ∷ r ∷ []) ≡ map (column r) show
shown_places params r [] = refl
shown_places params r (place ∷ show) = ap (λ vs. column r place ∷ vs) (shown_places params r show)

-- the rows of a table that meet conditions, by the columns that are shown
abbrev pub IsSelected : List Row → List Condition → Row → List ℕ → Row → Type 0
IsSelected rows wheres params show x = (r : Row) × Has rows r × MeetsAll params r wheres × (x ≡ map (column r) show)

module _ (schema : Schema) (at : ℕ) (table : Table) (static : IsPlainTable schema at table) (keys : List (List ℕ)) (has : HasKeys schema table keys) where
  -- ORDER BY and the conditions tell two rows apart, and what is shown is in the order of ORDER BY
  pub selects : (sql : List ℕ) (params : Row) (wheres : List Condition) (show order : List ℕ) (limit : Term) (names : List (List ℕ))
      → command_of (understood schema sql) ≡ Select (alone (reading table.tree wheres (shows show) order limit)) names → IsPlain (understood schema sql) → reads_listing schema sql ≡ false
      → are_fit table params wheres ≡ true → are_comparable (codes_of table) (codes_of table) order ≡ true
      → list_any (covers wheres order) keys ≡ true
      → ((r s : Row) → ordering order r s ≡ Less → row_cmp (map (column r) show) (map (column s) show) ≡ Less)
      → (old new : State) (rows : List Row) → HasLayout schema old → Shown sql params old new rows
      → (all : List Row) × IsListOf (IsSelected (old.now.trees table.tree) wheres params show) all × (rows ≡ limited (as_count (eval limit (params ∷ []))) all)
  selects sql params wheres show order limit names is bare unlisted fit comparable covered rises old new rows layout shown =
      let db = old.now.trees table.tree in
      let read = reads_as sql params old new schema layout.is (Select (alone (reading table.tree wheres (shows show) order limit)) names) is bare unlisted rows shown in
      let answer = reads old.now table.tree wheres (shows show) (rising order) limit params rows read in
      let each = shows_each db wheres (shows show) (rising order) limit params rows answer in
      let met = meets_there schema at table static old params wheres layout fit in
      let sound = subst (λ t. IsDatabase (record { schema = t; trees = old.now.trees })) layout.is layout.sound in
      let keyed = keyed_there schema at table static old layout in
      let int = λ (r : Row) (h : Has db r). all_has _ db r keyed.1 h in
      let codes = λ (r : Row) (h : Has db r). codes_there schema at table static old r layout h in
      let apart = λ (r s : Row) (here : Has db r) (there : Has db s) (p : passes wheres params r ≡ true) (q : passes wheres params s ≡ true) (lower : _) (tie : ordering order r s ≡ Equal).
      shares_alone schema old.now.trees table keys sound (has_got schema.tables at table static.there) has r s here there (int r here) (int s there) (codes r here) (codes s there)
      (covered_some params r s wheres order keys ((met r here).0 p) ((met s there).0 q) (ordering_tied (codes_of table) order r s (codes r here) (codes s there) comparable tie) covered) lower in (
        all_shown db wheres (shows show) (rising order) limit params rows answer,
        record {
          each = λ x. (
            λ h. let r = (each x).0 h in (r.0, r.1, (met r.0 r.1).0 r.2, r.3 ∙ shown_places params r.0 show),
            λ h. (each x).1 (h.0, h.1, (met h.0 h.1).1 h.2, h.3 ∙ sym (shown_places params h.0 show)),
          );
          rising = shows_rising db wheres (shows show) order limit params rows answer keyed.0 apart (λ r s lower. rw (shown_places params r show, shown_places params s show) (rises r s lower));
        },
        answer.shown,
      )

pub list_so : (P Q : Row → Type 0) (rows : List Row) → ((x : Row) → P x ↔ Q x) → IsListOf P rows → IsListOf Q rows
list_so P Q rows so h = record { each = λ x. (λ there. (so x).0 ((h.each x).0 there), λ q. (h.each x).1 ((so x).1 q)); rising = h.rising }

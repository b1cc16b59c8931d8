-- Uses of arguments in turn: what they make of the rows, and which faults come of them.
use Rattle.zeb_words.proofs.Cited.{◌≡◌, ◌∙◌, refl, sym, ap, subst, List, [], ◌∷◌, ◌++◌, false, map, append_assoc, append-nil, ⊤, Row, Rule, Text, has_row, used, with_values, without, use_fault, Kinds, or_else, CommandLine}
use Rattle.zeb_words.proofs.Leads.{none_of_both}
use Rattle.zeb_words.proofs.Items.{Item, Once, row, used_new}

abbrev pub uses_of : {X : Type 0} → (X → Rule) → (X → List Text) → List X → List Row → List Row
uses_of rule raw [] rows = rows
uses_of rule raw (x ∷ xs) rows = uses_of rule raw xs (used (rule x) (raw x) rows)

abbrev pub clash_of : {X : Type 0} → (X → Rule) → (X → List Text) → List X → List Row → Kinds
clash_of rule raw [] rows = []
clash_of rule raw (x ∷ xs) rows = or_else (use_fault false (rule x) (raw x) rows) (clash_of rule raw xs (used (rule x) (raw x) rows))

abbrev pub Each : {X : Type 0} → (X → Type 0) → List X → Type 0
Each P [] = ⊤
Each P (x ∷ xs) = P x × Each P xs

-- each use is that of an argument with one value, which is refused where there is a row already, or where the value isn't sound
module _ {X : Type 0} (rule : X → Rule) (raw : X → List Text) (item : X → Item) (Well Sound : X → Type 0)
    (good : (x : X) (rows : List Row) → Well x → has_row (item x).id rows ≡ false → Sound x → use_fault false (rule x) (raw x) rows ≡ [])
    (only : (x : X) (rows : List Row) → Well x → use_fault false (rule x) (raw x) rows ≡ [] → (has_row (item x).id rows ≡ false) × Sound x)
    (using : (x : X) (rows : List Row) → Well x
    → used (rule x) (raw x) rows ≡ with_values (item x).id (item x).how CommandLine ((item x).value ∷ []) (without (item x).id rows)) where
  next : (x : X) (rows : List Row) → Well x → has_row (item x).id rows ≡ false → used (rule x) (raw x) rows ≡ rows ++ row (item x) ∷ []
  next x rows well fresh = using x rows well ∙ used_new (item x) rows fresh

  pub clean : (xs : List X) (rows : List Row) → Each Well xs → clash_of rule raw xs rows ≡ [] → Once (map item xs) rows × Each Sound xs
  clean [] rows well e = (tt, tt)
  clean (x ∷ xs) rows well e =
      let parts = none_of_both _ _ e in
      let here = only x rows well.0 parts.0 in
      let more = clean xs (rows ++ row (item x) ∷ []) well.1 (subst (λ rows. clash_of rule raw xs rows ≡ []) (next x rows well.0 here.0) parts.1) in
      ((here.0, more.0), (here.1, more.1))

  pub no_clash : (xs : List X) (rows : List Row) → Each Well xs → Once (map item xs) rows → Each Sound xs → clash_of rule raw xs rows ≡ []
  no_clash [] rows well once sound = refl
  no_clash (x ∷ xs) rows well once sound =
      rw (good x rows well.0 once.0 sound.0)
      (subst (λ rows. clash_of rule raw xs rows ≡ []) (sym (next x rows well.0 once.0)) (no_clash xs (rows ++ row (item x) ∷ []) well.1 once.1 sound.1))

  pub rows_are : (xs : List X) (rows : List Row) → Each Well xs → Once (map item xs) rows → uses_of rule raw xs rows ≡ rows ++ map row (map item xs)
  rows_are [] rows well once = sym (append-nil rows)
  rows_are (x ∷ xs) rows well once =
      ap (uses_of rule raw xs) (next x rows well.0 once.0)
      ∙ rows_are xs (rows ++ row (item x) ∷ []) well.1 once.1
      ∙ append_assoc rows (row (item x) ∷ []) (map row (map item xs))

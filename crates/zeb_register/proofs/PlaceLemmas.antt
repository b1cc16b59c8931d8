-- Rows of one record's places.
use Rattle.zeb_register.proofs.Cited.{Alters, Row, column, row_cmp, State, Trees, rowid, is_int, Null, Int, Text, all_has, Has, value_cmp-Int, true, ◌≡◌, ◌↔◌, ◌⊎◌, ◌∙◌, ◌<◌, ◌+◌, zero, suc, ℕ, ℤ, pos, List, [], ◌∷◌, ◌++◌, map, take, Ordering, Less, Equal, Greater, length, get_or, inl, inr, refl, sym, ap, ap₂, subst, arith, nat_cmp, take_more, map-append, AllByRecursion, ordering_then, Key, register_code, Place, KeepsOthers, IsKeyed, Loses, Gains, place_key, postings_tree, Changes, blocks_tree, dict_tree, databases_tree, records_tree, TakesDatabase, IsOfDatabase, Content, place_cmp, IsWithout, TakesWhole, HoldsRows, first_two, place_row, DropsRegisters, KeepsBesidePostings, Puts, posting_columns, store_schema}
use Rattle.std.specs.List.Sorted.{IsStrictlySortedBy}
use Rattle.zeb_register.proofs.ContentLemmas.{ints_order}

-- the rows of the key in the record, shown by their places
abbrev pub place_front : ℤ → Key → ℕ → Row
place_front db key sysno = place_key db (pos key.index) (pos (register_code key.register)) key.term (pos sysno)

pub both_more : (xs : List Row) (ys : List Place) (i : ℕ) (x : Row) (d : Place) → x ≡ get_or xs i x → i < length xs → i < length ys → map first_two (take i xs) ≡ map place_row (take i ys) → first_two x ≡ place_row (get_or ys i d)
    → map first_two (take (i + 1) xs) ≡ map place_row (take (i + 1) ys)
both_more xs ys i x d is left right before same =
    ap (map first_two) (take_more xs i x left) ∙ map-append first_two (take i xs) (get_or xs i x ∷ []) ∙ ap₂ (λ a b. a ++ b ∷ []) before (ap first_two (sym is) ∙ same)
    ∙ sym (ap (map place_row) (take_more ys i d right) ∙ map-append place_row (take i ys) (get_or ys i d ∷ []))

pub same_at : (xs : List Row) (ys : List Place) (i : ℕ) (x : Row) (d : Place) → i < length xs → i < length ys → map first_two xs ≡ map place_row ys → first_two (get_or xs i x) ≡ place_row (get_or ys i d)
same_at [] ys i x d left right same = absurd (omega arith)
same_at (a ∷ xs) [] i x d left right same = absurd (omega arith)
same_at (a ∷ xs) (b ∷ ys) zero x d left right same = let e : first_two a ≡ place_row b = cc in e
same_at (a ∷ xs) (b ∷ ys) (suc i) x d left right same = same_at xs ys i x d (omega arith) (omega arith) (let e : map first_two xs ≡ map place_row ys = cc in e)

-- ---- places in the order of their rows

lower_two : (x y : Ordering) → ordering_then x y ≡ Less → ordering_then x (ordering_then y Equal) ≡ Less
lower_two Less y h = refl
lower_two Greater y h = absurd (cc)
lower_two Equal Less h = refl
lower_two Equal Equal h = absurd (cc)
lower_two Equal Greater h = absurd (cc)

place_order : (p q : Place) → place_cmp p q ≡ Less → row_cmp (place_row p) (place_row q) ≡ Less
place_order p q h =
    rw (value_cmp-Int (pos p.seq) (pos q.seq), value_cmp-Int (pos p.pos) (pos q.pos), ints_order p.seq q.seq, ints_order p.pos q.pos) (lower_two (nat_cmp p.seq q.seq) (nat_cmp p.pos q.pos) h)

all_places_rise : (p : Place) (ps : List Place) → AllByRecursion (λ q. place_cmp p q ≡ Less) ps → AllByRecursion (λ r. row_cmp (place_row p) r ≡ Less) (map place_row ps)
all_places_rise p [] h = tt
all_places_rise p (q ∷ ps) h = (place_order p q h.0, all_places_rise p ps h.1)

pub places_rise : (ps : List Place) → IsStrictlySortedBy place_cmp ps → IsStrictlySortedBy row_cmp (map place_row ps)
unfolding IsStrictlySortedBy
places_rise [] h = tt
places_rise (p ∷ ps) h = (all_places_rise p ps h.0, places_rise ps h.1)

-- ---- putting places one after the other

has_last : (xs : List Place) (y z : Place) → Has (xs ++ y ∷ []) z ↔ (Has xs z ⊎ (z ≡ y))
has_last [] y z = (λ h. elim h [ inl same ↦ inr same | inr none ↦ absurd none ], λ h. elim h [ inl none ↦ absurd none | inr same ↦ inl same ])
has_last (x ∷ xs) y z =
    let rest = has_last xs y z in (
      λ h. elim h [ inl same ↦ inl (inl same) | inr more ↦ elim (rest.0 more) [ inl there ↦ inl (inr there) | inr last ↦ inr last ] ],
      λ h. elim h [ inl before ↦ elim before [ inl same ↦ inl same | inr there ↦ inr (rest.1 (inl there)) ] | inr last ↦ inr (rest.1 (inr last)) ],
    )

pub beside : (old new : Trees) → KeepsOthers store_schema postings_tree old new → KeepsBesidePostings old new
beside old new kept = (
  (kept.0 (λ e. absurd (omega (arith, e))), kept.1.0 (λ e. absurd (omega (arith, e))), kept.1.1.0 (λ e. absurd (omega (arith, e)))),
  kept.1.1.1.1.0 (λ e. absurd (omega (arith, e))),
  kept.1.1.1.1.1.0 (λ e. absurd (omega (arith, e))),
)

pub beside_then : (a b c : Trees) → KeepsBesidePostings a b → KeepsBesidePostings b c → KeepsBesidePostings a c
beside_then a b c p q = ((q.0.0 ∙ p.0.0, q.0.1 ∙ p.0.1, q.0.2 ∙ p.0.2), q.1 ∙ p.1, q.2 ∙ p.2)

pub puts_more : (db : ℤ) (key : Key) (sysno : ℕ) (places : List Place) (i : ℕ) (d : Place) (a b c : State) → i < length places → Puts db key sysno (take i places) a b
    → Changes postings_tree (Gains (posting_columns db key sysno (get_or places i d))) b c → Puts db key sysno (take (i + 1) places) a c
puts_more db key sysno places i d a b c within before done =
    let last = get_or places i d in
    let more : take (i + 1) places ≡ take i places ++ last ∷ [] = take_more places i d within in
    record {
      store = done.layout;
      rows = λ row. (
        λ h. elim ((done.rows row).0 h) [
          | inl was ↦ elim ((before.rows row).0 was) [ inl first ↦ inl first | inr q ↦ inr (q.0, subst (λ l. Has l q.0) (sym more) ((has_last (take i places) last q.0).1 (inl q.1)), q.2) ]
          | inr same ↦ inr (last, subst (λ l. Has l last) (sym more) ((has_last (take i places) last last).1 (inr refl)), same)
        ],
        λ h. (done.rows row).1 (elim h [
          | inl first ↦ inl ((before.rows row).1 (inl first))
          | inr q ↦ elim ((has_last (take i places) last q.0).0 (subst (λ l. Has l q.0) more q.1)) [
            | inl there ↦ inl ((before.rows row).1 (inr (q.0, there, q.2)))
            | inr same ↦ inr (q.2 ∙ ap (posting_columns db key sysno) same)
          ]
        ]),
      );
      others = beside_then a.now.trees b.now.trees c.now.trees before.others (beside b.now.trees c.now.trees done.others);
    }

-- ---- rows of the registers taken

loses_before : (P : Row → Type 0) (tree : ℕ) (a b c : Trees) → b tree ≡ a tree → Loses P tree b c → Loses P tree a c
loses_before P tree a b c same lost columns = (
  λ h. let was = (lost columns).0 h in ((was.0.0, subst (λ rows. Has rows (Int was.0.0 ∷ columns)) same was.0.1), was.1),
  λ h. (lost columns).1 ((h.0.0, subst (λ rows. Has rows (Int h.0.0 ∷ columns)) (sym same) h.0.1), h.1),
)

loses_after : (P : Row → Type 0) (tree : ℕ) (a b c : Trees) → Loses P tree a b → c tree ≡ b tree → Loses P tree a c
loses_after P tree a b c lost same columns = (
  λ h. (lost columns).0 (h.0, subst (λ rows. Has rows (Int h.0 ∷ columns)) same h.1),
  λ h. let is = (lost columns).1 h in (is.0, subst (λ rows. Has rows (Int is.0 ∷ columns)) (sym same) is.1),
)

int_row : (r : Row) → is_int (rowid r) ≡ true → (id : ℤ) × (columns : Row) × (r ≡ Int id ∷ columns)
int_row [] is = absurd cc
int_row (Int id ∷ columns) is = (id, columns, refl)
int_row (v ∷ columns) is = absurd cc

pub none_left : (P : Row → Type 0) (tree : ℕ) (old new : Trees) → IsKeyed (new tree) → Loses P tree old new → old tree ≡ [] → new tree ≡ []
none_left P tree old new keyed lost none = at (new tree) refl
  where
    at : (rows : List Row) → new tree ≡ rows → new tree ≡ []
    at [] is = is
    at (r ∷ rows) is =
        let here : Has (new tree) r = subst (λ l. Has l r) (sym is) (inl refl) in
        let int = int_row r (all_has _ (new tree) r keyed.1 here) in
        let was = ((lost int.1).0 (int.0, subst (Has (new tree)) int.2 here)).0 in
        absurd (subst (λ l. Has l (Int was.0 ∷ int.1)) none was.1)

-- the rows of the database are taken out of two of the registers' tables
abbrev pub DropsTwo : ℤ → State → State → State → Type 0
DropsTwo db b c d = Alters blocks_tree (Loses (IsOfDatabase db)) b c × Alters dict_tree (Loses (IsOfDatabase db)) c d

pub drops : (db : ℤ) (a b c d : State) → Changes postings_tree (Loses (IsOfDatabase db)) a b → Changes blocks_tree (Loses (IsOfDatabase db)) b c → Changes dict_tree (Loses (IsOfDatabase db)) c d → DropsRegisters db a d
drops db a b c d one two three = record {
  store = three.layout;
  lists = (
    three.others.0 (λ e. absurd (omega (arith, e))) ∙ two.others.0 (λ e. absurd (omega (arith, e))) ∙ one.others.0 (λ e. absurd (omega (arith, e))),
    three.others.1.0 (λ e. absurd (omega (arith, e))) ∙ two.others.1.0 (λ e. absurd (omega (arith, e))) ∙ one.others.1.0 (λ e. absurd (omega (arith, e))),
    three.others.1.1.0 (λ e. absurd (omega (arith, e))) ∙ two.others.1.1.0 (λ e. absurd (omega (arith, e))) ∙ one.others.1.1.0 (λ e. absurd (omega (arith, e))),
  );
  postings = loses_after (IsOfDatabase db) postings_tree a.now.trees b.now.trees d.now.trees one.rows
      (three.others.1.1.1.0 (λ e. absurd (omega (arith, e))) ∙ two.others.1.1.1.0 (λ e. absurd (omega (arith, e))));
  blocks = loses_after (IsOfDatabase db) blocks_tree a.now.trees c.now.trees d.now.trees
      (loses_before (IsOfDatabase db) blocks_tree a.now.trees b.now.trees c.now.trees (one.others.1.1.1.1.0 (λ e. absurd (omega (arith, e)))) two.rows)
      (three.others.1.1.1.1.0 (λ e. absurd (omega (arith, e))));
  dict = loses_before (IsOfDatabase db) dict_tree a.now.trees c.now.trees d.now.trees
      (two.others.1.1.1.1.1.0 (λ e. absurd (omega (arith, e))) ∙ one.others.1.1.1.1.1.0 (λ e. absurd (omega (arith, e)))) three.rows;
}

-- ---- a database taken

module _ (db : ℤ) (a b c d : State) (one : DropsRegisters db a b) (two : Changes records_tree (Loses (IsOfDatabase db)) b c) (three : Changes databases_tree (TakesDatabase db) c d) where
  same7 : d.now.trees 7 ≡ b.now.trees 7
  same7 = three.others.1.1.1.0 (λ e. absurd (omega (arith, e))) ∙ two.others.1.1.1.0 (λ e. absurd (omega (arith, e)))

  same9 : d.now.trees 9 ≡ b.now.trees 9
  same9 = three.others.1.1.1.1.0 (λ e. absurd (omega (arith, e))) ∙ two.others.1.1.1.1.0 (λ e. absurd (omega (arith, e)))

  same11 : d.now.trees 11 ≡ b.now.trees 11
  same11 = three.others.1.1.1.1.1.0 (λ e. absurd (omega (arith, e))) ∙ two.others.1.1.1.1.1.0 (λ e. absurd (omega (arith, e)))

  pub taken_whole : TakesWhole db a d
  taken_whole =
      let same2 : c.now.trees 2 ≡ a.now.trees 2 = two.others.1.0 (λ e. absurd (omega (arith, e))) ∙ one.lists.1 in
      let before4 : b.now.trees 4 ≡ a.now.trees 4 = one.lists.2 in
      let after4 : d.now.trees 4 ≡ c.now.trees 4 = three.others.1.1.0 (λ e. absurd (omega (arith, e))) in
      record {
        store = three.layout;
        databases = λ i name last. (
          λ h. let was = (three.rows i name last).0 h in (subst (λ rows. Has rows (Int i ∷ Null ∷ Text name ∷ Int last ∷ [])) same2 was.0, was.1),
          λ h. (three.rows i name last).1 (subst (λ rows. Has rows (Int i ∷ Null ∷ Text name ∷ Int last ∷ [])) (sym same2) h.0, h.1),
        );
        records = λ columns. (
          λ h.
              let was = (two.rows columns).0 (h.0, subst (λ rows. Has rows (Int h.0 ∷ columns)) after4 h.1) in
              ((was.0.0, subst (λ rows. Has rows (Int was.0.0 ∷ columns)) before4 was.0.1), was.1),
          λ h.
              let is = (two.rows columns).1 ((h.0.0, subst (λ rows. Has rows (Int h.0.0 ∷ columns)) (sym before4) h.0.1), h.1) in
              (is.0, subst (λ rows. Has rows (Int is.0 ∷ columns)) (sym after4) is.1),
        );
        texts = three.others.0 (λ e. absurd (omega (arith, e))) ∙ two.others.0 (λ e. absurd (omega (arith, e))) ∙ one.lists.0;
        postings = loses_after (IsOfDatabase db) postings_tree a.now.trees b.now.trees d.now.trees one.postings same7;
        blocks = loses_after (IsOfDatabase db) blocks_tree a.now.trees b.now.trees d.now.trees one.blocks same9;
        dict = loses_after (IsOfDatabase db) dict_tree a.now.trees b.now.trees d.now.trees one.dict same11;
      }

  pub rows_without : (before after : Content) → HoldsRows a.now.trees before → IsWithout db before after → HoldsRows d.now.trees after
  rows_without before after holds without =
      record {
        rising = without.rising;
        each = λ row. (
          λ h.
              let was = (one.postings row).0 (h.0, subst (λ rows. Has rows (Int h.0 ∷ row)) same7 h.1) in
              let p = (holds.each row).0 was.0 in
              (p.0, p.1, p.2, (without.left p.0 p.1 p.2).1 (p.3, λ same. was.1 (ap (λ (r : Row). column r 0) p.4 ∙ ap Int same)), p.4),
          λ p.
              let was = (without.left p.0 p.1 p.2).0 p.3 in
              let is = (one.postings row).1 ((holds.each row).1 (p.0, p.1, p.2, was.0, p.4), λ in_it. was.1 (let e : Int p.0 ≡ Int db = ap (λ (r : Row). column r 0) (sym p.4) ∙ in_it in cc)) in
              (is.0, subst (λ rows. Has rows (Int is.0 ∷ row)) (sym same7) is.1),
        );
        alone = (
          same9 ∙ none_left (IsOfDatabase db) blocks_tree a.now.trees b.now.trees one.store.keyed.1.1.1.1.0 one.blocks holds.alone.0,
          same11 ∙ none_left (IsOfDatabase db) dict_tree a.now.trees b.now.trees one.store.keyed.1.1.1.1.1.0 one.dict holds.alone.1,
        );
      }

-- What the leaves from a text on have of the keys there: their own entries.
use Rattle.zeb_leaves.proofs.Cited.{Row, row_cmp, row_cmp_total, Has, all_has, ◌≡◌, ◌≢◌, ◌↔◌, ◌⊎◌, ◌∙◌, ◌++◌, ◌∷◌, ℕ, true, false, List, [], Some, None, refl, sym, ap, subst, inl, inr, Ordering, Less, Equal, Greater, nat_cmp, slice_cmp, ordering_reverse, never_itself, Entry, entry_cmp, kept_rises, Covers, IsEntryOf, LacksEntriesAt, ShowsEntries, leaf_key, own_key, has_filtered, has_kept, not, and_from, and_parts, is_lt, key_cmp, leaf_row, AreLeavesFrom, End, HideAllOwns, HideOwns, ShowAllOwns, ShowOwns, ShowsOwn, SomeBad, is_below, is_own, entries_total, one_shown, shown_rises}
use Rattle.std.specs.List.Sorted.{IsStrictlySortedBy}
use Rattle.zeb_register.proofs.KeyOrder.{key_order}
use Rattle.zeb_leaves.proofs.OneCover.{covers_itself, entries_at, one_cover, same_key, up_to_then}
use Rattle.zeb_leaves.proofs.SpanEntries.{HasOwnIn, own_joined}
use Rattle.zeb_leaves.proofs.SpanRuns.{below_or, covers_key, from_term, less_up, not_less_up, rows_up, term_from, up_itself, up_less, up_not_less}

-- ---- a test of an entry, by its key

not_less : (o : Ordering) → not (is_lt o) ≡ true → o ≢ Less
not_less Less is same = let e : false ≡ true = is in cc
not_less Equal is same = let e : Equal ≡ Less = same in cc
not_less Greater is same = let e : Greater ≡ Less = same in cc

less_not : (o : Ordering) → o ≢ Less → not (is_lt o) ≡ true
less_not Less up = absurd (up refl)
less_not Equal up = refl
less_not Greater up = refl

pub lt_less : (o : Ordering) → is_lt o ≡ true → o ≡ Less
lt_less Less is = refl
lt_less Equal is = let e : false ≡ true = is in absurd (cc)
lt_less Greater is = let e : false ≡ true = is in absurd (cc)

-- a key is below the end, where there is one
abbrev pub Within : End → List ℕ → ℕ → Type 0
Within None t b = Unit {0}
Within (Some end) t b = row_cmp (leaf_key t b) (leaf_key end.0 end.1) ≡ Less

-- and from another on
abbrev pub FromKey : List ℕ → ℕ → List ℕ → ℕ → Type 0
FromKey first from t b = row_cmp (leaf_key first from) (leaf_key t b) ≢ Greater

from_key : (first : List ℕ) (from : ℕ) (e : Entry) → not (is_below e first from) ≡ true → FromKey first from e.term e.block
from_key first from e is =
    not_less_up (leaf_key e.term e.block) (leaf_key first from) (λ less. not_less (key_cmp e.term e.block first from) is (sym (key_order e.term first e.block from) ∙ less))

key_from : (first : List ℕ) (from : ℕ) (e : Entry) → FromKey first from e.term e.block → not (is_below e first from) ≡ true
key_from first from e up =
    less_not (key_cmp e.term e.block first from) (λ less. up_not_less (leaf_key e.term e.block) (leaf_key first from) up (key_order e.term first e.block from ∙ less))

pub own_is : (first : List ℕ) (from : ℕ) (end : End) (e : Entry) → is_own first from end e ≡ true ↔ (FromKey first from e.term e.block × Within end e.term e.block)
own_is first from None e = (λ is. (from_key first from e is, tt), λ it. key_from first from e it.0)
own_is first from (Some end) e = (
  λ is.
      let both = and_parts (not (is_below e first from)) (is_below e end.0 end.1) is in
      (from_key first from e both.0, key_order e.term end.0 e.block end.1 ∙ lt_less (key_cmp e.term e.block end.0 end.1) both.1),
  λ it. and_from (not (is_below e first from)) (is_below e end.0 end.1) (key_from first from e it.0) (ap is_lt (sym (key_order e.term end.0 e.block end.1) ∙ it.1)),
)

-- whose term is from a text on
abbrev pub FromText : List ℕ → List ℕ → ℕ → Type 0
FromText first t b = is_lt (slice_cmp nat_cmp t first) ≡ false

-- a key from there on has no entries, or a bad one
abbrev pub IsHidden : (Row → Type 0) → (Entry → Type 0) → List ℕ → ℕ → Type 0
IsHidden Leaves Bad first from =
    ((t : List ℕ) × (b : ℕ) × FromKey first from t b × LacksEntriesAt Leaves (leaf_key t b))
    ⊎ ((e : Entry) × FromKey first from e.term e.block × IsEntryOf Leaves e.term e × Bad e)

-- rows whose own keys rise
abbrev pub KeysRise : List Row → Type 0
KeysRise [] = Unit {0}
KeysRise (row ∷ rows) = ((r : Row) → Has rows r → row_cmp (own_key row) (own_key r) ≡ Less) × KeysRise rows

module _ (Leaves : Row → Type 0) (shaped : (leaf : Row) → Leaves leaf → (t : List ℕ) × (b : ℕ) × (d : List ℕ) × (leaf ≡ leaf_row t b d)) (one : (x y : Row) → Leaves x → Leaves y → own_key x ≡ own_key y → x ≡ y) where
  -- the keys that one leaf covers
  pub in_own : (leaf : Row) (In : List ℕ → ℕ → Type 0) (first : List ℕ) (from : ℕ) (end : End) (own : List Entry) → ((t : List ℕ) (b : ℕ) → In t b → Covers Leaves (leaf_key t b) leaf)
      → ((t : List ℕ) (b : ℕ) → In t b ↔ (FromKey first from t b × Within end t b)) → ShowsOwn first from end leaf own → HasOwnIn Leaves In own
  in_own leaf In first from end own covers so shows = record {
    whole = λ t b is. (shows.0, entries_at Leaves shaped one (leaf_key t b) leaf shows.0 (covers t b is) shows.1);
    rising = subst (IsStrictlySortedBy entry_cmp) (sym shows.2) (kept_rises entries_total (is_own first from end) shows.0 (shown_rises leaf shows.0 shows.1));
    each = λ e. (
      λ h.
          let here = has_filtered (is_own first from end) shows.0 e (subst (λ (l : List Entry). Has l e) shows.2 h) in
          let is = (so e.term e.block).1 ((own_is first from end e).0 here.1) in
          (is, (refl, leaf, shows.0, covers e.term e.block is, shows.1, here.0)),
      λ h.
          let of = h.1 in
          let same : of.1 ≡ leaf = one_cover Leaves shaped one (leaf_key e.term e.block) of.1 leaf of.3 (covers e.term e.block h.0) in
          let also : of.2 ≡ shows.0 = one_shown leaf of.2 shows.0 (subst (λ (r : Row). ShowsEntries r of.2) same of.4) shows.1 in
          let here : Has shows.0 e = subst (λ (l : List Entry). Has l e) also of.5 in
          subst (λ (l : List Entry). Has l e) (sym shows.2) (has_kept (is_own first from end) shows.0 e here ((own_is first from end e).1 ((so e.term e.block).0 h.0))),
    );
  }

  -- ---- leaves in their order

  pub key_behind : (x y : Row) → Leaves x → Leaves y → row_cmp x y ≡ Less → row_cmp (own_key x) (own_key y) ≡ Less
  key_behind x y here there less = from (row_cmp (own_key x) (own_key y)) refl
    where
      up : row_cmp (own_key x) (own_key y) ≢ Greater
      up above =
          let a = shaped x here in
          let b = shaped y there in
          rows_up a.0 b.0 a.1 b.1 a.2 b.2 (sym (ap (λ r. row_cmp r y) a.3 ∙ ap (row_cmp (leaf_row a.0 a.1 a.2)) b.3) ∙ less) (sym (ap (λ r. row_cmp (own_key r) (own_key y)) a.3 ∙ ap (λ r. row_cmp (leaf_key a.0 a.1) (own_key r)) b.3) ∙ above)

      from : (o : Ordering) → row_cmp (own_key x) (own_key y) ≡ o → row_cmp (own_key x) (own_key y) ≡ Less
      from Less is = is
      from Greater is = absurd (up is)
      from Equal is =
          let a = shaped x here in
          let b = shaped y there in
          let tied : row_cmp (leaf_key a.0 a.1) (leaf_key b.0 b.1) ≡ Equal = sym (ap (λ r. row_cmp (own_key r) (own_key y)) a.3 ∙ ap (λ r. row_cmp (leaf_key a.0 a.1) (own_key r)) b.3) ∙ is in
          let keys = same_key a.0 b.0 a.1 b.1 (λ above. let e : Equal ≡ Greater = sym tied ∙ above in cc) (λ above. let e : Equal ≡ Greater = sym (row_cmp_total.antisymm (leaf_key b.0 b.1) (leaf_key a.0 a.1) ∙ ap ordering_reverse tied) ∙ above in cc) in
          let same : x ≡ y = one x y here there (ap own_key a.3 ∙ keys ∙ sym (ap own_key b.3)) in
          absurd (never_itself row_cmp_total x (subst (λ (r : Row). row_cmp x r ≡ Less) (sym same) less))

  keys_rise : (rows : List Row) → IsStrictlySortedBy row_cmp rows → ((r : Row) → Has rows r → Leaves r) → KeysRise rows
  unfolding IsStrictlySortedBy
  keys_rise [] up known = tt
  keys_rise (row ∷ rows) up known =
      (λ r here. key_behind row r (known row (inl refl)) (known r (inr here)) (all_has (λ s. row_cmp row s ≡ Less) rows r up.0 here), keys_rise rows up.1 (λ r h. known r (inr h)))

  -- the row covers a key, and all leaves above the key stand behind it, in their order
  pub record Stands (first : List ℕ) (from : ℕ) (row : Row) (rows : List Row) : Type 0 where
    pub covers : Covers Leaves (leaf_key first from) row
    pub known : (r : Row) → Has rows r → Leaves r × (row_cmp (leaf_key first from) (own_key r) ≢ Greater)
    pub all : (r : Row) → Leaves r → row_cmp (leaf_key first from) (own_key r) ≡ Less → Has rows r
    pub rise : KeysRise rows

  -- the last row covers each key from there on
  pub last_own : (first : List ℕ) (from : ℕ) (row : Row) (own : List Entry) → Stands first from row [] → ShowsOwn first from None row own → HasOwnIn Leaves (FromKey first from) own
  last_own first from row own it shows =
      in_own row (FromKey first from) first from None own
      (λ t b up. covers_key Leaves row (leaf_key first from) (leaf_key t b) it.covers up (λ other there above other_up. it.all other there above))
      (λ t b. (λ up. (up, tt), λ both. both.0)) shows

  module _ (first : List ℕ) (from : ℕ) (row next : Row) (rows : List Row) (it : Stands first from row (next ∷ rows)) (s : List ℕ) (c : ℕ) (key : own_key next ≡ leaf_key s c) where
    pub over : row_cmp (leaf_key first from) (leaf_key s c) ≢ Greater
    over more = (it.known next (inl refl)).1 (ap (row_cmp (leaf_key first from)) key ∙ more)

    -- the keys up to the next leaf
    abbrev pub UpTo : List ℕ → ℕ → Type 0
    UpTo t b = FromKey first from t b × (row_cmp (leaf_key t b) (leaf_key s c) ≡ Less)

    here_covers : (t : List ℕ) (b : ℕ) → UpTo t b → Covers Leaves (leaf_key t b) row
    here_covers t b is = covers_key Leaves row (leaf_key first from) (leaf_key t b) it.covers is.0 (λ other there above other_up.
        let low : row_cmp (own_key other) (leaf_key s c) ≡ Less = up_less (own_key other) (leaf_key t b) (leaf_key s c) other_up is.1 in
        elim (it.all other there above) [
          | inl same ↦ never_itself row_cmp_total (leaf_key s c) (subst (λ (k : Row). row_cmp k (leaf_key s c) ≡ Less) (ap own_key same ∙ key) low)
          | inr later ↦ never_itself row_cmp_total (leaf_key s c) (row_cmp_total.trans (leaf_key s c) (own_key other) (leaf_key s c) (subst (λ (k : Row). row_cmp k (own_key other) ≡ Less) key (it.rise.0 other later)) low)
        ])

    pub here_own : (own : List Entry) → ShowsOwn first from (Some (s, c)) row own → HasOwnIn Leaves UpTo own
    here_own own shows = in_own row UpTo first from (Some (s, c)) own here_covers (λ t b. (λ is. is, λ is. is)) shows

    pub next_stands : Stands s c next rows
    next_stands = record {
      covers = covers_itself Leaves shaped one next (it.known next (inl refl)).0 s c key;
      known = λ r h. ((it.known r (inr h)).0, λ above. let e : Less ≡ Greater = sym (subst (λ (k : Row). row_cmp k (own_key r) ≡ Less) key (it.rise.0 r h)) ∙ above in cc);
      all = λ r there above. elim (it.all r there (up_less (leaf_key first from) (leaf_key s c) (own_key r) over above)) [
        | inl same ↦ absurd (never_itself row_cmp_total (leaf_key s c) (subst (λ (k : Row). row_cmp (leaf_key s c) k ≡ Less) (ap own_key same ∙ key) above))
        | inr later ↦ later
      ];
      rise = it.rise.1;
    }

    own_more : (here rest : List Entry) → HasOwnIn Leaves UpTo here → HasOwnIn Leaves (FromKey s c) rest → HasOwnIn Leaves (FromKey first from) (here ++ rest)
    own_more here rest left right = own_joined Leaves (FromKey first from) UpTo (FromKey s c) here rest left right
        (λ u n v m low high. less_up (leaf_key u n) (leaf_key s c) (leaf_key v m) low.1 high)
        (λ u n up. elim (below_or (leaf_key u n) (leaf_key s c)) [ inl less ↦ inl (up, less) | inr beyond ↦ inr beyond ])
        (λ u n is. elim is [ inl low ↦ low.0 | inr high ↦ up_to_then (leaf_key first from) (leaf_key s c) (leaf_key u n) over high ])

  owns : (first : List ℕ) (from : ℕ) (row : Row) (rows : List Row) (own : List Entry) → Stands first from row rows → ShowOwns first from row rows own → HasOwnIn Leaves (FromKey first from) own
  owns first from row [] own it shows = last_own first from row own it shows
  owns first from row (next ∷ rows) own it shows =
      let rest = owns shows.0 shows.1 next rows shows.3 (next_stands first from row next rows it shows.0 shows.1 shows.4) shows.6 in
      subst (HasOwnIn Leaves (FromKey first from)) (sym shows.7)
      (own_more first from row next rows it shows.0 shows.1 shows.4 shows.2 shows.3 (here_own first from row next rows it shows.0 shows.1 shows.4 shows.2 shows.5) rest)

  -- ---- where something is hidden

  module _ (Bad : Entry → Type 0) where
    abbrev Hidden : List ℕ → ℕ → Type 0
    Hidden = IsHidden Leaves Bad

    bad_hides : (first : List ℕ) (from : ℕ) (In : List ℕ → ℕ → Type 0) (own : List Entry) → HasOwnIn Leaves In own → ((t : List ℕ) (b : ℕ) → In t b → FromKey first from t b) → SomeBad Bad own → Hidden first from
    bad_hides first from In own has so bad = let known = (has.each bad.0).0 bad.1 in inr (bad.0, so bad.0.term bad.0.block known.0, known.1, bad.2)

    from_there : (first : List ℕ) (from : ℕ) (s : List ℕ) (c : ℕ) → row_cmp (leaf_key first from) (leaf_key s c) ≢ Greater → Hidden s c → Hidden first from
    from_there first from s c over (inl it) = inl (it.0, it.1, up_to_then (leaf_key first from) (leaf_key s c) (leaf_key it.0 it.1) over it.2, it.3)
    from_there first from s c over (inr it) = inr (it.0, up_to_then (leaf_key first from) (leaf_key s c) (leaf_key it.0.term it.0.block) over it.1, it.2, it.3)

    hides : (first : List ℕ) (from : ℕ) (row : Row) (rows : List Row) → Stands first from row rows → HideOwns Bad first from row rows → Hidden first from
    hides first from row [] it (inl none) = inl (first, from, up_itself (leaf_key first from), inl (row, it.covers, none))
    hides first from row [] it (inr bad) = bad_hides first from (FromKey first from) bad.0 (last_own first from row bad.0 it bad.1) (λ t b up. up) bad.2
    hides first from row (next ∷ rows) it (inl none) = let own = shaped next (it.known next (inl refl)).0 in absurd (none own.0 own.1 (ap own_key own.3))
    hides first from row (next ∷ rows) it (inr bad) = elim bad.3 [
      | inl here ↦ elim here [
        | inl none ↦ inl (first, from, up_itself (leaf_key first from), inl (row, it.covers, none))
        | inr some ↦ bad_hides first from (UpTo first from row next rows it bad.0 bad.1 bad.2) some.0 (here_own first from row next rows it bad.0 bad.1 bad.2 some.0 some.1) (λ t b is. is.0) some.2
      ]
      | inr later ↦ from_there first from bad.0 bad.1 (over first from row next rows it bad.0 bad.1 bad.2) (hides bad.0 bad.1 next rows (next_stands first from row next rows it bad.0 bad.1 bad.2) later)
    ]

  -- ---- all leaves from a text on

  module _ (first : List ℕ) where
    pub all_stand : (row : Row) (rows : List Row) → AreLeavesFrom Leaves first (row ∷ rows) → Stands first 0 row rows
    all_stand row rows are = record {
      covers = are.0;
      known = λ r h. let is = (are.1.each r).0 h in (is.0, λ above. from_term first is.1 is.2 is.4 (sym (ap (row_cmp (leaf_key first 0)) is.3) ∙ above));
      all = λ r there above.
          let own = shaped r there in
          let key : own_key r ≡ leaf_key own.0 own.1 = ap own_key own.3 in
          (are.1.each r).1 (there, own.0, own.1, key, term_from first own.0 own.1 (λ more. let e : Less ≡ Greater = sym above ∙ ap (row_cmp (leaf_key first 0)) key ∙ more in cc));
      rise = keys_rise rows are.1.rising (λ r h. ((are.1.each r).0 h).0);
    }

    pub all_owns : (rows : List Row) (own : List Entry) → AreLeavesFrom Leaves first rows → ShowAllOwns first rows own → HasOwnIn Leaves (FromText first) own
    unfolding IsStrictlySortedBy
    all_owns [] own none shows = record {
      whole = λ t b any. ([], record { shown = λ leaf covers. absurd (none leaf covers.is); covered = inr (refl, none) });
      rising = subst (IsStrictlySortedBy entry_cmp) (sym shows) tt;
      each = λ e. (λ h. absurd (subst (λ (l : List Entry). Has l e) shows h), λ it. absurd (none it.1.1 it.1.3.is));
    }
    all_owns (row ∷ rows) own are shows =
        let it = owns first 0 row rows own (all_stand row rows are) shows in
        record {
          whole = λ t b from. it.whole t b (from_term first t b from);
          rising = it.rising;
          each = λ e. (λ h. let known = (it.each e).0 h in (term_from first e.term e.block known.0, known.1), λ h. (it.each e).1 (from_term first e.term e.block h.0, h.1));
        }

    pub all_hide : (Bad : Entry → Type 0) (rows : List Row) → AreLeavesFrom Leaves first rows → HideAllOwns Bad first rows → IsHidden Leaves Bad first 0
    all_hide Bad [] none bad = absurd bad
    all_hide Bad (row ∷ rows) are bad = hides Bad first 0 row rows (all_stand row rows are) bad

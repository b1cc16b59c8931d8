-- Leaves that have rising entries, one behind the other: which of them covers a key, and which entries each covers.
use Rattle.zeb_leaves.proofs.Cited.{Row, row_cmp, Has, all_has, has_either, has_left, has_right, ◌≡◌, ◌≢◌, ◌⊎◌, ◌∙◌, ◌++◌, ◌∷◌, List, [], refl, sym, ap, subst, inl, inr, Less, Greater, Entry, entry_cmp, IsUpTo, ShowsEntries, leaf_key, own_key, ArePartedFrom, IsPart}
use Rattle.std.specs.List.Sorted.{IsStrictlySortedBy}
use Rattle.zeb_register.proofs.KeyOrder.{key_order}
use Rattle.zeb_leaves.proofs.OneCover.{up_to_then}
use Rattle.zeb_leaves.proofs.SpanRuns.{below_or, flipped_back, less_up, up_itself}

abbrev pub key_at : Entry → Row
key_at e = leaf_key e.term e.block

less_key : (d e : Entry) → entry_cmp d e ≡ Less → row_cmp (key_at d) (key_at e) ≡ Less
less_key d e less = key_order d.term e.term d.block e.block ∙ less

-- what is below a key, that key isn't up to
pub not_up : (x y : Row) → row_cmp x y ≡ Less → row_cmp y x ≢ Greater → ⊥
not_up x y less up = up (flipped_back x y less)

pub less_is_up : (x y : Row) → row_cmp x y ≡ Less → row_cmp x y ≢ Greater
less_is_up x y less above = let e : Less ≡ Greater = sym less ∙ above in cc

-- ---- rising entries, parted

behind_rises : (own rest : List Entry) → IsStrictlySortedBy entry_cmp (own ++ rest) → IsStrictlySortedBy entry_cmp rest
unfolding IsStrictlySortedBy
behind_rises [] rest up = up
behind_rises (d ∷ own) rest up = behind_rises own rest up.1

apart : (own rest : List Entry) → IsStrictlySortedBy entry_cmp (own ++ rest) → (d e : Entry) → Has own d → Has rest e → entry_cmp d e ≡ Less
unfolding IsStrictlySortedBy
apart [] rest up d e here there = absurd here
apart (c ∷ own) rest up d e (inl same) there = subst (λ (x : Entry). entry_cmp x e ≡ Less) (sym same) (all_has (λ y. entry_cmp c y ≡ Less) (own ++ rest) e up.0 (has_right own rest e there))
apart (c ∷ own) rest up d e (inr here) there = apart own rest up.1 d e here there

-- each of the rest isn't below the first
rest_from : (e : Entry) (rest : List Entry) → IsStrictlySortedBy entry_cmp (e ∷ rest) → (d : Entry) → Has (e ∷ rest) d → row_cmp (key_at e) (key_at d) ≢ Greater
unfolding IsStrictlySortedBy
rest_from e rest up d (inl same) = subst (λ (x : Entry). row_cmp (key_at e) (key_at x) ≢ Greater) (sym same) (up_itself (key_at e))
rest_from e rest up d (inr here) = less_is_up (key_at e) (key_at d) (less_key e d (all_has (λ y. entry_cmp e y ≡ Less) rest d up.0 here))

-- ---- leaves that have the entries, one behind the other

abbrev pub From : Row → List Entry → Type 0
From key entries = (e : Entry) → Has entries e → row_cmp key (key_at e) ≢ Greater

-- each has the first key, or that of an entry
pub parts_keys : (key leaf : Row) (leaves : List Row) (entries : List Entry) → ArePartedFrom key leaf leaves entries → (other : Row) → Has (leaf ∷ leaves) other
    → (own_key other ≡ key) ⊎ ((e : Entry) × Has entries e × (own_key other ≡ key_at e))
parts_keys key leaf [] entries parts other (inl same) = inl (ap own_key same ∙ parts.own_is)
parts_keys key leaf [] entries parts other (inr none) = absurd none
parts_keys key leaf (next ∷ leaves) entries parts other (inl same) = inl (ap own_key same ∙ parts.4.own_is)
parts_keys key leaf (next ∷ leaves) entries parts other (inr later) =
    let own = parts.0 in
    let e = parts.1 in
    let rest = parts.2 in
    let there = λ (d : Entry) (here : Has (e ∷ rest) d). subst (λ (l : List Entry). Has l d) (sym parts.3) (has_right own (e ∷ rest) d here) in
    elim (parts_keys (key_at e) next leaves (e ∷ rest) parts.5 other later) [
      | inl same ↦ inr (e, there e (inl refl), same)
      | inr it ↦ inr (it.0, there it.0 it.1, it.2)
    ]

-- so none is below the first
pub parts_from : (key leaf : Row) (leaves : List Row) (entries : List Entry) → ArePartedFrom key leaf leaves entries → From key entries → (other : Row) → Has (leaf ∷ leaves) other → row_cmp key (own_key other) ≢ Greater
parts_from key leaf leaves entries parts from other here = elim (parts_keys key leaf leaves entries parts other here) [
  | inl same ↦ subst (λ (k : Row). row_cmp key k ≢ Greater) (sym same) (up_itself key)
  | inr it ↦ subst (λ (k : Row). row_cmp key k ≢ Greater) (sym it.2) (from it.0 it.1)
]

-- what the first of several leaves has, and what those behind it have
record Parting (first leaf next : Row) (leaves : List Row) (entries : List Entry) : Type 0 where
  own : List Entry
  e : Entry
  rest : List Entry
  is : entries ≡ own ++ e ∷ rest
  part : IsPart first leaf own
  behind : ArePartedFrom (key_at e) next leaves (e ∷ rest)
  whole_up : IsStrictlySortedBy entry_cmp (own ++ e ∷ rest)
  rest_up : IsStrictlySortedBy entry_cmp (e ∷ rest)
  of_entries : (d : Entry) → Has (own ++ e ∷ rest) d → Has entries d
  over : (other : Row) → Has (next ∷ leaves) other → row_cmp (key_at e) (own_key other) ≢ Greater

parting : (first leaf next : Row) (leaves : List Row) (entries : List Entry) → ArePartedFrom first leaf (next ∷ leaves) entries → IsStrictlySortedBy entry_cmp entries → Parting first leaf next leaves entries
parting first leaf next leaves entries parts up =
    let own = parts.0 in
    let e = parts.1 in
    let rest = parts.2 in
    let whole_up = subst (λ (l : List Entry). IsStrictlySortedBy entry_cmp l) parts.3 up in
    let rest_up = behind_rises own (e ∷ rest) whole_up in
    record {
      own = own;
      e = e;
      rest = rest;
      is = parts.3;
      part = parts.4;
      behind = parts.5;
      whole_up = whole_up;
      rest_up = rest_up;
      of_entries = λ d here. subst (λ (l : List Entry). Has l d) (sym parts.3) here;
      over = parts_from (key_at e) next leaves (e ∷ rest) parts.5 (rest_from e rest rest_up);
    }

-- the one of them that is the greatest up to a key, and what it has of the key
pub record Found (key : Row) (leaves : List Row) (entries : List Entry) : Type 0 where
  pub leaf : Row
  pub own : List Entry
  pub is : Has leaves leaf
  pub up_to : IsUpTo key leaf
  pub greatest : (other : Row) → Has leaves other → IsUpTo key other → IsUpTo (own_key leaf) other
  pub shown : ShowsEntries leaf own
  pub has : (e : Entry) → key_at e ≡ key → Has entries e → Has own e
  pub from : (e : Entry) → Has own e → Has entries e

pub find : (key first leaf : Row) (leaves : List Row) (entries : List Entry) → ArePartedFrom first leaf leaves entries → IsStrictlySortedBy entry_cmp entries → From first entries → row_cmp first key ≢ Greater → Found key (leaf ∷ leaves) entries
find key first leaf [] entries parts up from low = record {
  leaf = leaf;
  own = entries;
  is = inl refl;
  up_to = subst (λ (k : Row). row_cmp k key ≢ Greater) (sym parts.own_is) low;
  greatest = λ other here _. elim here [ inl same ↦ subst (λ (r : Row). IsUpTo (own_key leaf) r) (sym same) (up_itself (own_key leaf)) | inr none ↦ absurd none ];
  shown = parts.shown;
  has = λ e is here. here;
  from = λ e here. here;
}
find key first leaf (next ∷ leaves) entries parts up from low =
    elim (below_or key (key_at p.e)) [
      | inl below ↦ here below
      | inr high ↦ there high (find key (key_at p.e) next leaves (p.e ∷ p.rest) p.behind p.rest_up (rest_from p.e p.rest p.rest_up) high)
    ]
  where
    p : Parting first leaf next leaves entries
    p = parting first leaf next leaves entries parts up

    here : row_cmp key (key_at p.e) ≡ Less → Found key (leaf ∷ next ∷ leaves) entries
    here below = record {
      leaf = leaf;
      own = p.own;
      is = inl refl;
      up_to = subst (λ (k : Row). row_cmp k key ≢ Greater) (sym p.part.own_is) low;
      greatest = λ other has up_to. elim has [
        | inl same ↦ subst (λ (r : Row). IsUpTo (own_key leaf) r) (sym same) (up_itself (own_key leaf))
        | inr later ↦ absurd (not_up key (own_key other) (less_up key (key_at p.e) (own_key other) below (p.over other later)) up_to)
      ];
      shown = p.part.shown;
      has = λ d is has. elim (has_either p.own (p.e ∷ p.rest) d (subst (λ (l : List Entry). Has l d) p.is has)) [
        | inl mine ↦ mine
        | inr later ↦ absurd (not_up key (key_at p.e) below (subst (λ (k : Row). row_cmp (key_at p.e) k ≢ Greater) is (rest_from p.e p.rest p.rest_up d later)))
      ];
      from = λ d mine. p.of_entries d (has_left p.own (p.e ∷ p.rest) d mine);
    }

    there : row_cmp (key_at p.e) key ≢ Greater → Found key (next ∷ leaves) (p.e ∷ p.rest) → Found key (leaf ∷ next ∷ leaves) entries
    there high it =
        record {
          leaf = it.leaf;
          own = it.own;
          is = inr it.is;
          up_to = it.up_to;
          greatest = λ other has up_to. elim has [
            | inl same ↦ subst (λ (k : Row). row_cmp k (own_key it.leaf) ≢ Greater) (sym (ap own_key same ∙ p.part.own_is))
                (up_to_then first (key_at p.e) (own_key it.leaf) (from p.e (p.of_entries p.e (has_right p.own (p.e ∷ p.rest) p.e (inl refl)))) (p.over it.leaf it.is))
            | inr later ↦ it.greatest other later up_to
          ];
          shown = it.shown;
          has = λ d is has. elim (has_either p.own (p.e ∷ p.rest) d (subst (λ (l : List Entry). Has l d) p.is has)) [
            | inl mine ↦ absurd (not_up (key_at d) (key_at p.e) (less_key d p.e (apart p.own (p.e ∷ p.rest) p.whole_up d p.e mine (inl refl))) (subst (λ (k : Row). row_cmp (key_at p.e) k ≢ Greater) (sym is) high))
            | inr later ↦ it.has d is later
          ];
          from = λ d mine. p.of_entries d (has_right p.own (p.e ∷ p.rest) d (it.from d mine));
        }

-- each of them covers its entries, as far as they go
pub record Owns (leaves : List Row) (entries : List Entry) (leaf : Row) : Type 0 where
  pub key : Row
  pub own : List Entry
  pub part : IsPart key leaf own
  pub from : (e : Entry) → Has own e → Has entries e
  pub up_to : (e : Entry) → Has own e → IsUpTo (key_at e) leaf
  pub greatest : (e : Entry) → Has own e → (other : Row) → Has leaves other → IsUpTo (key_at e) other → IsUpTo (own_key leaf) other

pub owns : (first leaf : Row) (leaves : List Row) (entries : List Entry) → ArePartedFrom first leaf leaves entries → IsStrictlySortedBy entry_cmp entries → From first entries → (one : Row) → Has (leaf ∷ leaves) one → Owns (leaf ∷ leaves) entries one
owns first leaf [] entries parts up from one (inr none) = absurd none
owns first leaf [] entries parts up from one (inl same) = subst (Owns (leaf ∷ []) entries) (sym same) record {
  key = first;
  own = entries;
  part = parts;
  from = λ e here. here;
  up_to = λ e here. subst (λ (k : Row). row_cmp k (key_at e) ≢ Greater) (sym parts.own_is) (from e here);
  greatest = λ e here other has _. elim has [ inl also ↦ subst (λ (r : Row). IsUpTo (own_key leaf) r) (sym also) (up_itself (own_key leaf)) | inr none ↦ absurd none ];
}
owns first leaf (next ∷ leaves) entries parts up from one has = elim has [
  | inl same ↦ subst (Owns (leaf ∷ next ∷ leaves) entries) (sym same) mine
  | inr later ↦ theirs later (owns (key_at p.e) next leaves (p.e ∷ p.rest) p.behind p.rest_up (rest_from p.e p.rest p.rest_up) one later)
]
  where
    p : Parting first leaf next leaves entries
    p = parting first leaf next leaves entries parts up

    mine : Owns (leaf ∷ next ∷ leaves) entries leaf
    mine = record {
      key = first;
      own = p.own;
      part = p.part;
      from = λ d here. p.of_entries d (has_left p.own (p.e ∷ p.rest) d here);
      up_to = λ d here. subst (λ (k : Row). row_cmp k (key_at d) ≢ Greater) (sym p.part.own_is) (from d (p.of_entries d (has_left p.own (p.e ∷ p.rest) d here)));
      greatest = λ d here other has up_to. elim has [
        | inl same ↦ subst (λ (r : Row). IsUpTo (own_key leaf) r) (sym same) (up_itself (own_key leaf))
        | inr later ↦
            let less = less_key d p.e (apart p.own (p.e ∷ p.rest) p.whole_up d p.e here (inl refl)) in
            absurd (not_up (key_at d) (own_key other) (less_up (key_at d) (key_at p.e) (own_key other) less (p.over other later)) up_to)
      ];
    }

    theirs : Has (next ∷ leaves) one → Owns (next ∷ leaves) (p.e ∷ p.rest) one → Owns (leaf ∷ next ∷ leaves) entries one
    theirs later it =
        record {
          key = it.key;
          own = it.own;
          part = it.part;
          from = λ d here. p.of_entries d (has_right p.own (p.e ∷ p.rest) d (it.from d here));
          up_to = it.up_to;
          greatest = λ d here other has up_to. elim has [
            | inl same ↦ subst (λ (k : Row). row_cmp k (own_key one) ≢ Greater) (sym (ap own_key same ∙ p.part.own_is))
                (up_to_then first (key_at p.e) (own_key one) (from p.e (p.of_entries p.e (has_right p.own (p.e ∷ p.rest) p.e (inl refl)))) (p.over one later))
            | inr also ↦ it.greatest d here other also up_to
          ];
        }

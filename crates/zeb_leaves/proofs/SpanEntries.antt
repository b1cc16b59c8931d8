-- What the leaves of neighbouring terms have of these: their entries.
use Rattle.zeb_leaves.proofs.Cited.{Row, row_cmp, Has, all_from, all_has, has_either, has_left, has_right, ◌≡◌, ◌≢◌, ◌↔◌, ◌⊎◌, ◌∙◌, ◌++◌, ◌∷◌, ℕ, false, List, [], refl, sym, ap, subst, inl, inr, Less, Greater, nat_cmp, slice_cmp, ordering_then, Entry, entry_cmp, joined_rises, Covers, HasEntriesAt, IsEntryOf, ShowsEntries, leaf_key, own_key, is_lt, entry_of, AreInSpan, IsInSpan, leaf_row, AreSpanLeaves, IsSpanLeaf, ShowAllSpans, ShowSpans, ShowsSpan, entries_total, one_shown, shown_rises, IsBetween, IsListOf}
use Rattle.std.specs.List.Sorted.{IsStrictlySortedBy}
use Rattle.zeb_leaf.specs.declared.entries.Held.{Held}
use Rattle.zeb_register.proofs.KeyOrder.{key_order}
use Rattle.zeb_leaves.proofs.SpanRuns.{behind_listed, below_end, below_or, covers_key, end_above, first_is, first_least, flipped_back, from_term, last_up, less_up, not_less_up, term_from, term_up, up_itself, up_less, up_not_less}
use Rattle.zeb_leaves.proofs.OneCover.{covers_itself, entries_at, one_cover, up_to_then}

-- ---- entries, and what is held of them beside their terms

abbrev pub AreHeld : List Entry → List Held → Type 0
AreHeld [] held = held ≡ []
AreHeld (e ∷ own) held = (found : Held) × (rest : List Held) × (e ≡ entry_of e.term found) × (held ≡ found ∷ rest) × AreHeld own rest

held_joined : (own more : List Entry) (held rest : List Held) → AreHeld own held → AreHeld more rest → AreHeld (own ++ more) (held ++ rest)
held_joined [] more held rest are also = subst (λ (l : List Held). AreHeld more (l ++ rest)) (sym are) also
held_joined (e ∷ own) more held rest are also = (are.0, are.1 ++ rest, are.2, ap (λ l. l ++ rest) are.3, held_joined own more are.1 rest are.4 also)

-- those of a row's entries that are asked for
record Chosen (In : Entry → Type 0) (entries : List Entry) (held : List Held) : Type 0 where
  own : List Entry
  are : AreHeld own held
  rising : IsStrictlySortedBy entry_cmp entries → IsStrictlySortedBy entry_cmp own
  each : (e : Entry) → Has own e ↔ (Has entries e × In e)

module _ (first : List ℕ) (from : ℕ) (end : List ℕ) (below : ℕ) where
  chosen : (entries : List Entry) (held : List Held) → AreInSpan first from end below entries held → Chosen (IsInSpan first from end below) entries held
  unfolding IsStrictlySortedBy
  chosen [] held are = record { own = []; are = are; rising = λ up. tt; each = λ e. (λ h. absurd h, λ h. absurd h.0) }
  chosen (d ∷ entries) held (inr it) =
      let rest = chosen entries held it.1 in
      record {
        own = rest.own;
        are = rest.are;
        rising = λ up. rest.rising up.1;
        each = λ e. (
          λ h. let here = (rest.each e).0 h in (inr here.0, here.1),
          λ h. elim h.0 [ inl same ↦ absurd (it.0 (subst (IsInSpan first from end below) same h.1)) | inr later ↦ (rest.each e).1 (later, h.1) ],
        );
      }
  chosen (d ∷ entries) held (inl it) =
      let rest = chosen entries it.2 it.5 in
      record {
        own = d ∷ rest.own;
        are = (it.1, it.2, it.3, it.4, rest.are);
        rising = λ up. (all_from (λ x. entry_cmp d x ≡ Less) rest.own (λ x here. all_has (λ y. entry_cmp d y ≡ Less) entries x up.0 ((rest.each x).0 here).0), rest.rising up.1);
        each = λ e. (
          λ h. elim h [ inl same ↦ (inl same, subst (IsInSpan first from end below) (sym same) it.0) | inr later ↦ let here = (rest.each e).0 later in (inr here.0, here.1) ],
          λ h. elim h.0 [ inl same ↦ inl same | inr later ↦ inr ((rest.each e).1 (later, h.1)) ],
        );
      }

less_of : (s : List ℕ) (b : ℕ) (u : List ℕ) (n : ℕ) (t : List ℕ) (c : ℕ) → row_cmp (leaf_key s b) (leaf_key u n) ≢ Greater → row_cmp (leaf_key u n) (leaf_key t c) ≡ Less → row_cmp (leaf_key s b) (leaf_key t c) ≡ Less
less_of s b u n t c up less = up_less (leaf_key s b) (leaf_key u n) (leaf_key t c) up less

flipped_less : (s : List ℕ) (b : ℕ) (t : List ℕ) (c : ℕ) → row_cmp (leaf_key s b) (leaf_key t c) ≡ Less → row_cmp (leaf_key t c) (leaf_key s b) ≡ Greater
flipped_less s b t c less = flipped_back (leaf_key s b) (leaf_key t c) less

up_less_key : (t : List ℕ) (b : ℕ) (s : List ℕ) (c : ℕ) (x : Row) → row_cmp (leaf_key t b) (leaf_key s c) ≢ Greater → row_cmp (leaf_key s c) x ≡ Less → row_cmp (leaf_key t b) x ≡ Less
up_less_key t b s c x up less = up_less (leaf_key t b) (leaf_key s c) x up less

-- ---- of some keys: each has entries, and these are those of their blocks

pub record HasOwnIn (Leaves : Row → Type 0) (In : List ℕ → ℕ → Type 0) (own : List Entry) : Type 0 where
  pub whole : (term : List ℕ) (block : ℕ) → In term block → (entries : List Entry) × HasEntriesAt Leaves (leaf_key term block) entries
  pub rising : IsStrictlySortedBy entry_cmp own
  pub each : (e : Entry) → Has own e ↔ (In e.term e.block × IsEntryOf Leaves e.term e)

-- and what is held is of these
pub record HeldIn (Leaves : Row → Type 0) (In : List ℕ → ℕ → Type 0) (held : List Held) : Type 0 where
  pub own : List Entry
  pub are : AreHeld own held
  pub has : HasOwnIn Leaves In own

module _ (Leaves : Row → Type 0) where
  -- keys, and then greater ones
  pub own_joined : (In These Those : List ℕ → ℕ → Type 0) (own more : List Entry) → HasOwnIn Leaves These own → HasOwnIn Leaves Those more → ((s : List ℕ) (b : ℕ) (t : List ℕ) (c : ℕ) → These s b → Those t c → row_cmp (leaf_key s b) (leaf_key t c) ≡ Less)
      → ((t : List ℕ) (b : ℕ) → In t b → These t b ⊎ Those t b) → ((t : List ℕ) (b : ℕ) → These t b ⊎ Those t b → In t b) → HasOwnIn Leaves In (own ++ more)
  own_joined In These Those own more left right apart so back = record {
    whole = λ t b is. elim (so t b is) [ inl here ↦ left.whole t b here | inr there ↦ right.whole t b there ];
    rising = joined_rises entries_total own more left.rising right.rising (λ d e here there.
        sym (key_order d.term e.term d.block e.block) ∙ apart d.term d.block e.term e.block ((left.each d).0 here).0 ((right.each e).0 there).0);
    each = λ e. (
      λ h. elim (has_either own more e h) [
        | inl here ↦ let it = (left.each e).0 here in (back e.term e.block (inl it.0), it.1)
        | inr there ↦ let it = (right.each e).0 there in (back e.term e.block (inr it.0), it.1)
      ],
      λ it. elim (so e.term e.block it.0) [
        | inl here ↦ has_left own more e ((left.each e).1 (here, it.1))
        | inr there ↦ has_right own more e ((right.each e).1 (there, it.1))
      ],
    );
  }

  in_joined : (In These Those : List ℕ → ℕ → Type 0) (held rest : List Held) → HeldIn Leaves These held → HeldIn Leaves Those rest → ((s : List ℕ) (b : ℕ) (t : List ℕ) (c : ℕ) → These s b → Those t c → row_cmp (leaf_key s b) (leaf_key t c) ≡ Less)
      → ((t : List ℕ) (b : ℕ) → In t b → These t b ⊎ Those t b) → ((t : List ℕ) (b : ℕ) → These t b ⊎ Those t b → In t b) → HeldIn Leaves In (held ++ rest)
  in_joined In These Those held rest left right apart so back = record {
    own = left.own ++ right.own;
    are = held_joined left.own right.own held rest left.are right.are;
    has = own_joined In These Those left.own right.own left.has right.has apart so back;
  }

  module _ (shaped : (leaf : Row) → Leaves leaf → (t : List ℕ) × (b : ℕ) × (d : List ℕ) × (leaf ≡ leaf_row t b d)) (one : (x y : Row) → Leaves x → Leaves y → own_key x ≡ own_key y → x ≡ y) where
    -- the keys that one leaf covers
    pub in_leaf : (leaf : Row) (In : List ℕ → ℕ → Type 0) (first : List ℕ) (from : ℕ) (end : List ℕ) (below : ℕ) (held : List Held) → ((t : List ℕ) (b : ℕ) → In t b → Covers Leaves (leaf_key t b) leaf)
        → ((t : List ℕ) (b : ℕ) → In t b → (row_cmp (leaf_key first from) (leaf_key t b) ≢ Greater) × (ordering_then (slice_cmp nat_cmp t end) (nat_cmp b below) ≡ Less))
        → ((t : List ℕ) (b : ℕ) → row_cmp (leaf_key first from) (leaf_key t b) ≢ Greater → ordering_then (slice_cmp nat_cmp t end) (nat_cmp b below) ≡ Less → In t b) → ShowsSpan first from end below leaf held → HeldIn Leaves In held
    in_leaf leaf In first from end below held covers so back shows = record {
      own = it.own;
      are = it.are;
      has = record {
        whole = λ t b is. (shows.0, entries_at Leaves shaped one (leaf_key t b) leaf shows.0 (covers t b is) shows.1);
        rising = it.rising (shown_rises leaf shows.0 shows.1);
        each = λ e. (
          λ h.
              let here = (it.each e).0 h in
              let is = back e.term e.block (not_less_up (leaf_key e.term e.block) (leaf_key first from) (λ less. here.1.from (sym (key_order e.term first e.block from) ∙ less))) here.1.below in
              (is, (refl, leaf, shows.0, covers e.term e.block is, shows.1, here.0)),
          λ h.
              let of = h.1 in
              let same : of.1 ≡ leaf = one_cover Leaves shaped one (leaf_key e.term e.block) of.1 leaf of.3 (covers e.term e.block h.0) in
              let also : of.2 ≡ shows.0 = one_shown leaf of.2 shows.0 (subst (λ (r : Row). ShowsEntries r of.2) same of.4) shows.1 in
              let here : Has shows.0 e = subst (λ (l : List Entry). Has l e) also of.5 in
              let within = so e.term e.block h.0 in
              (it.each e).1 (here, record { from = λ less. up_not_less (leaf_key e.term e.block) (leaf_key first from) within.0 (key_order e.term first e.block from ∙ less); below = within.1 }),
        );
      };
    }
      where
        it : Chosen (IsInSpan first from end below) shows.0 held
        it = chosen first from end below shows.0 held shows.2

    module _ (first last : List ℕ) where
      abbrev end : List ℕ
      end = last ++ 0 ∷ []

      -- the keys of terms between the two, from a key on
      abbrev pub From : List ℕ → ℕ → List ℕ → ℕ → Type 0
      From t b u n = IsBetween first last u × (row_cmp (leaf_key t b) (leaf_key u n) ≢ Greater)

      -- the key's term is one of these where it is up to one that is
      between_up : (t : List ℕ) (b : ℕ) → row_cmp (leaf_key first 0) (leaf_key t b) ≢ Greater → (s u : List ℕ) (c n : ℕ) → row_cmp (leaf_key t b) (leaf_key s c) ≢ Greater → slice_cmp nat_cmp s u ≢ Greater → is_lt (slice_cmp nat_cmp last u) ≡ false → IsBetween first last s
      between_up t b start s u c n from up below = (term_from first s c (up_to_then (leaf_key first 0) (leaf_key t b) (leaf_key s c) start from), last_up last s u up below)

      -- no leaf stands between a key and another of these terms, that is up to no leaf listed
      pub spans : (t : List ℕ) (b : ℕ) (row : Row) (rows : List Row) (held : List Held) (Low : Row → Type 0) → row_cmp (leaf_key first 0) (leaf_key t b) ≢ Greater → ((r : Row) → row_cmp (leaf_key t b) (own_key r) ≡ Less → Low r)
          → ((r : Row) → IsSpanLeaf Leaves first last Low r → row_cmp (leaf_key t b) (own_key r) ≢ Greater) → Covers Leaves (leaf_key t b) row → IsListOf (IsSpanLeaf Leaves first last Low) rows → ShowSpans end t b row rows held → HeldIn Leaves (From t b) held
      spans t b row [] held Low start low up covers listed shows =
          in_leaf row (From t b) t b end 0 held
          (λ u n is. covers_key Leaves row (leaf_key t b) (leaf_key u n) covers is.1 (λ other there above other_up.
          let own = shaped other there in
          let key : own_key other ≡ leaf_key own.0 own.1 = ap own_key own.3 in
          let over : row_cmp (leaf_key t b) (leaf_key own.0 own.1) ≢ Greater = λ more. let e : Less ≡ Greater = sym above ∙ ap (row_cmp (leaf_key t b)) key ∙ more in cc in
          let under : row_cmp (leaf_key own.0 own.1) (leaf_key u n) ≢ Greater = λ more. other_up (ap (λ k. row_cmp k (leaf_key u n)) key ∙ more) in
          absurd ((listed.each other).1 (there, own.0, own.1, key, between_up t b start own.0 u own.1 n over (term_up own.0 u own.1 n under) is.0.1, low other above))))
          (λ u n is. (is.1, below_end last u n is.0.1))
          (λ u n from below. ((term_from first u n (up_to_then (leaf_key first 0) (leaf_key t b) (leaf_key u n) start from), end_above last u n below), from))
          shows
      spans t b row (next ∷ rows) held Low start low up covers listed shows =
          let s = shows.0 in
          let c = shows.1 in
          let is = first_is Leaves shaped one first last Low next rows listed in
          let key : own_key next ≡ leaf_key s c = shows.4 in
          let over : row_cmp (leaf_key t b) (leaf_key s c) ≢ Greater = λ more. up next is (ap (row_cmp (leaf_key t b)) key ∙ more) in
          let next_term : is_lt (slice_cmp nat_cmp last s) ≡ false = last_up last s is.1 (term_up s is.1 c is.2 (λ more. up_itself (leaf_key s c) (ap (row_cmp (leaf_key s c)) (sym key ∙ is.3) ∙ more))) is.4.1 in
          let In = λ (u : List ℕ) (n : ℕ). From t b u n × (row_cmp (leaf_key u n) (leaf_key s c) ≡ Less) in
          let here = in_leaf row In t b s c shows.2
          (λ u n in_it. covers_key Leaves row (leaf_key t b) (leaf_key u n) covers in_it.0.1 (λ other there above other_up.
          let own = shaped other there in
          let k : own_key other ≡ leaf_key own.0 own.1 = ap own_key own.3 in
          let from : row_cmp (leaf_key t b) (leaf_key own.0 own.1) ≢ Greater = λ more. let e : Less ≡ Greater = sym above ∙ ap (row_cmp (leaf_key t b)) k ∙ more in cc in
          let under : row_cmp (leaf_key own.0 own.1) (leaf_key u n) ≢ Greater = λ more. other_up (ap (λ x. row_cmp x (leaf_key u n)) k ∙ more) in
          let least = first_least Leaves shaped one first last Low next rows listed other (there, own.0, own.1, k, between_up t b start own.0 u own.1 n from (term_up own.0 u own.1 n under) in_it.0.0.1, low other above) in
          least (ap (λ x. row_cmp x (own_key other)) key ∙ ap (row_cmp (leaf_key s c)) k ∙ flipped_less own.0 own.1 s c (less_of own.0 own.1 u n s c under in_it.1))))
          (λ u n in_it. (in_it.0.1, sym (key_order u s n c) ∙ in_it.1))
          (λ u n from below. let less = key_order u s n c ∙ below in ((between_up t b start u s n c from (term_up u s n c (λ more. let e : Less ≡ Greater = sym less ∙ more in cc)) next_term, from), less))
          shows.5 in
          let rest = spans s c next rows shows.3 (λ r. row_cmp (own_key next) (own_key r) ≡ Less) (up_to_then (leaf_key first 0) (leaf_key t b) (leaf_key s c) start over)
          (λ r less. ap (λ x. row_cmp x (own_key r)) key ∙ less)
          (λ r it above. let e : Less ≡ Greater = sym it.5 ∙ ap (λ x. row_cmp x (own_key r)) key ∙ above in cc)
          (covers_itself Leaves shaped one next is.0 s c key)
          (behind_listed Leaves shaped one first last Low next rows listed (λ r less. low r (up_less_key t b s c (own_key r) over (sym (ap (λ x. row_cmp x (own_key r)) key) ∙ less)))) shows.6 in
          subst (HeldIn Leaves (From t b)) (sym shows.7) (
          in_joined (From t b) In (From s c) shows.2 shows.3 here rest
          (λ u n v m low_it high_it. less_up (leaf_key u n) (leaf_key s c) (leaf_key v m) low_it.1 high_it.1)
          (λ u n from. elim (below_or (leaf_key u n) (leaf_key s c)) [ inl less ↦ inl (from, less) | inr beyond ↦ inr (from.0, beyond) ])
          (λ u n in_it. elim in_it [ inl low_it ↦ low_it.0 | inr high_it ↦ (high_it.0, up_to_then (leaf_key t b) (leaf_key s c) (leaf_key u n) over high_it.1) ])
          )

      -- of all keys of these terms
      pub all_spans : IsBetween first last first → (rows : List Row) (held : List Held) → AreSpanLeaves Leaves first last rows → ShowAllSpans end first rows held → HeldIn Leaves (λ u n. IsBetween first last u) held
      unfolding IsStrictlySortedBy
      all_spans known [] held none shows = record {
        own = [];
        are = shows;
        has = record {
          whole = λ t b any. ([], record { shown = λ leaf covers. absurd (none leaf covers.is); covered = inr (refl, none) });
          rising = tt;
          each = λ e. (λ h. absurd h, λ it. absurd (none it.1.1 it.1.3.is));
        };
      }
      all_spans known (row ∷ rows) held are shows =
          let it = spans first 0 row rows held (λ _. Unit {0}) (up_itself (leaf_key first 0)) (λ r less. tt)
          (λ r is above. from_term first is.1 is.2 is.4.0 (sym (ap (row_cmp (leaf_key first 0)) is.3) ∙ above)) are.0 are.1 shows in
          record {
            own = it.own;
            are = it.are;
            has = record {
              whole = λ t b between. it.has.whole t b (between, from_term first t b between.0);
              rising = it.has.rising;
              each = λ e. (λ h. let known_e = (it.has.each e).0 h in (known_e.0.0, known_e.1), λ h. (it.has.each e).1 ((h.0, from_term first e.term e.block h.0.0), h.1));
            };
          }

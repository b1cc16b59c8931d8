-- What a walk over the rows of a database says of its leaves, and of the postings that they take.
use Rattle.zeb_leaves.proofs.Cited.{Row, row_cmp, row_cmp_total, Has, all_has, has_either, has_left, has_right, has_mapped, mapped_has, ◌≡◌, ◌⊎◌, ◌∙◌, ◌∷◌, List, [], Option, Some, None, map, refl, sym, ap, ap₂, subst, inl, inr, Less, never_itself, Posting, Entry, SaysPart, Key, with_key, KeyPosting}
use Rattle.std.specs.List.Sorted.{IsStrictlySortedBy}
use Rattle.zeb_leaves.proofs.DatabaseRows.{leaves_between, leaves_up, one_leaf_shown}
use Rattle.zeb_leaves.proofs.SpanRuns.{less_up}
use Rattle.zeb_leaves.specs.PrivateAgreeing.{AreWalked, Follows, IsBeside, IsFirst, IsWhole, Leaf, ShowsLeaf, TakeEntries, entry_key, key_of, own_of}

-- ---- entries that take postings

taken_rest : (key : Key) (entries : List Entry) (postings rest : List KeyPosting) → TakeEntries key entries postings rest → (x : KeyPosting) → Has rest x → Has postings x
taken_rest key [] postings rest takes x here = subst (λ l. Has l x) (sym takes) here
taken_rest key (e ∷ entries) postings rest takes x here =
    subst (λ l. Has l x) (sym takes.3) (has_right (map (with_key (key_of key e)) takes.0) takes.1 x (taken_rest key entries takes.1 rest takes.4 x here))

-- the entry says postings that stand among these
abbrev pub Said : Key → List KeyPosting → Entry → Type 0
Said key postings e = (part : List Posting) × SaysPart e part × ((p : Posting) → Has part p → Has postings (with_key (key_of key e) p))

taken_said : (key : Key) (entries : List Entry) (postings rest : List KeyPosting) → TakeEntries key entries postings rest → (e : Entry) → Has entries e → Said key postings e
taken_said key [] postings rest takes e here = absurd here
taken_said key (d ∷ entries) postings rest takes e (inl same) =
    subst (Said key postings) (sym same)
    (takes.0, takes.2, λ p h. subst (λ l. Has l (with_key (key_of key d) p)) (sym takes.3) (has_left (map (with_key (key_of key d)) takes.0) takes.1 (with_key (key_of key d) p) (mapped_has (with_key (key_of key d)) takes.0 p h)))
taken_said key (d ∷ entries) postings rest takes e (inr later) =
    let it = taken_said key entries takes.1 rest takes.4 e later in
    (it.0, it.1, λ p h. subst (λ l. Has l (with_key (key_of key e) p)) (sym takes.3) (has_right (map (with_key (key_of key d)) takes.0) takes.1 (with_key (key_of key e) p) (it.2 p h)))

-- one of the entries says the posting
abbrev pub IsSaid : Key → List Entry → KeyPosting → Type 0
IsSaid key entries x = (e : Entry) × (part : List Posting) × Has entries e × SaysPart e part × Has part x.posting × (x.key ≡ key_of key e)

taken_posting : (key : Key) (entries : List Entry) (postings rest : List KeyPosting) → TakeEntries key entries postings rest → (x : KeyPosting) → Has postings x → Has rest x ⊎ IsSaid key entries x
taken_posting key [] postings rest takes x here = inl (subst (λ l. Has l x) takes here)
taken_posting key (d ∷ entries) postings rest takes x here =
    elim (has_either (map (with_key (key_of key d)) takes.0) takes.1 x (subst (λ l. Has l x) takes.3 here)) [
      | inl front ↦
          let p = has_mapped (with_key (key_of key d)) takes.0 x front in
          inr (d, takes.0, inl refl, takes.2, subst (Has takes.0) (sym (ap (λ (y : KeyPosting). y.posting) p.2)) p.1, ap (λ (y : KeyPosting). y.key) p.2)
      | inr later ↦ elim (taken_posting key entries takes.1 rest takes.4 x later) [ inl left ↦ inl left | inr it ↦ inr (it.0, it.1, inr it.2, it.3, it.4, it.5) ]
    ]

-- ---- leaves that are walked

-- the row shows the leaf, which is whole, and each entry of it says postings that stand among these
pub record Stands (postings : List KeyPosting) (row : Row) (leaf : Leaf) : Type 0 where
  pub shows : ShowsLeaf row leaf
  pub whole : IsWhole leaf
  pub said : (e : Entry) → Has leaf.entries e → Said leaf.key postings e

pub walked_leaf : (before : Option Leaf) (rows : List Row) (postings : List KeyPosting) → AreWalked before rows postings → (row : Row) → Has rows row → (leaf : Leaf) × Stands postings row leaf
walked_leaf before [] postings walked row here = absurd here
walked_leaf before (r ∷ rows) postings walked row (inl same) = (
  walked.0,
  record {
    shows = subst (λ (x : Row). ShowsLeaf x walked.0) (sym same) walked.2.shows;
    whole = walked.2.whole;
    said = taken_said walked.0.key walked.0.entries postings walked.1 walked.2.takes;
  },
)
walked_leaf before (r ∷ rows) postings walked row (inr later) =
    let it = walked_leaf (Some walked.0) rows walked.1 walked.3 row later in (
      it.0,
      record {
        shows = it.1.shows;
        whole = it.1.whole;
        said = λ e h.
            let s = it.1.said e h in
            (s.0, s.1, λ p k. taken_rest walked.0.key walked.0.entries postings walked.1 walked.2.takes (with_key (key_of it.0.key e) p) (s.2 p k));
      },
    )

-- each posting is one that a leaf says
pub walked_posting : (before : Option Leaf) (rows : List Row) (postings : List KeyPosting) → AreWalked before rows postings → (x : KeyPosting) → Has postings x
    → (row : Row) × (leaf : Leaf) × Has rows row × ShowsLeaf row leaf × IsSaid leaf.key leaf.entries x
walked_posting before [] postings walked x here = absurd (subst (λ l. Has l x) walked here)
walked_posting before (r ∷ rows) postings walked x here = elim (taken_posting walked.0.key walked.0.entries postings walked.1 walked.2.takes x here) [
  | inr it ↦ (r, walked.0, inl refl, walked.2.shows, it)
  | inl left ↦ let more = walked_posting (Some walked.0) rows walked.1 walked.3 x left in (more.0, more.1, inr more.2, more.3, more.4)
]

-- ---- the entries of a leaf are below the next leaf of its register

behind_head : (head : Leaf) (r : Row) → ShowsLeaf r head → (rows : List Row) (postings : List KeyPosting) → AreWalked (Some head) rows postings → IsStrictlySortedBy row_cmp (r ∷ rows) → (y : Row) → Has rows y → (b : Leaf) → ShowsLeaf y b → IsBeside head.key b.key
    → (e : Entry) → Has head.entries e → row_cmp (entry_key e) (own_of b) ≡ Less
unfolding IsStrictlySortedBy
behind_head head r shows [] postings walked up y here b there beside e h = absurd here
behind_head head r shows (z ∷ more) postings walked up y here b there beside e h = elim here [
  | inl same ↦
      let leaf = one_leaf_shown z walked.0 b walked.2.shows (subst (λ (q : Row). ShowsLeaf q b) same there) in
      subst (λ (l : Leaf). row_cmp (entry_key e) (own_of l) ≡ Less) leaf (first walked.2.follows (subst (λ (l : Leaf). IsBeside head.key l.key) (sym leaf) beside))
  | inr later ↦
      let next = all_has (λ q. row_cmp z q ≡ Less) more y up.1.0 later in
      let between = leaves_between r z y head walked.0 b shows walked.2.shows there beside up.0.0 next in
      less_up (entry_key e) (own_of walked.0) (own_of b) (first walked.2.follows between)
      (leaves_up z y walked.0 b walked.2.shows there (sym between.0 ∙ beside.0, sym between.1 ∙ beside.1) next)
]
  where
    first : Follows (Some head) walked.0 → IsBeside head.key walked.0.key → row_cmp (entry_key e) (own_of walked.0) ≡ Less
    first (inl it) beside = it.ends e h
    first (inr it) beside = absurd (it.0 beside)

never_back : (x y : Row) → row_cmp x y ≡ Less → row_cmp y x ≡ Less → ⊥
never_back x y low high = never_itself row_cmp_total x (row_cmp_total.trans x y x low high)

pub walked_ends : (before : Option Leaf) (rows : List Row) (postings : List KeyPosting) → AreWalked before rows postings → IsStrictlySortedBy row_cmp rows → (x y : Row) → Has rows x → Has rows y → row_cmp x y ≡ Less
    → (a b : Leaf) → ShowsLeaf x a → ShowsLeaf y b → IsBeside a.key b.key → (e : Entry) → Has a.entries e → row_cmp (entry_key e) (own_of b) ≡ Less
unfolding IsStrictlySortedBy
walked_ends before [] postings walked up x y here there less a b one two beside e h = absurd here
walked_ends before (r ∷ rows) postings walked up x y (inl first) (inl also) less a b one two beside e h = absurd (never_itself row_cmp_total r (sym (ap₂ row_cmp first also) ∙ less))
walked_ends before (r ∷ rows) postings walked up x y (inr later) (inl also) less a b one two beside e h =
    absurd (never_back r x (all_has (λ q. row_cmp r q ≡ Less) rows x up.0 later) (sym (ap (row_cmp x) also) ∙ less))
walked_ends before (r ∷ rows) postings walked up x y (inr later) (inr also) less a b one two beside e h = walked_ends (Some walked.0) rows walked.1 walked.3 up.1 x y later also less a b one two beside e h
walked_ends before (r ∷ rows) postings walked up x y (inl first) (inr also) less a b one two beside e h =
    let leaf = one_leaf_shown r a walked.0 (subst (λ (q : Row). ShowsLeaf q a) first one) walked.2.shows in
    behind_head walked.0 r walked.2.shows rows walked.1 walked.3 up y also b two (subst (λ (l : Leaf). IsBeside l.key b.key) leaf beside) e (subst (λ (l : Leaf). Has l.entries e) leaf h)

-- ---- the first leaf of a register

-- the register of the leaf begins among the rows, or the leaf before them is of it
abbrev Begins : Option Leaf → List Row → Leaf → Type 0
Begins before rows b = ((l : Leaf) × (before ≡ Some l) × IsBeside l.key b.key) ⊎ ((z : Row) × (c : Leaf) × Has rows z × ShowsLeaf z c × IsBeside c.key b.key × IsFirst c)

head_begins : (before : Option Leaf) (r : Row) (rows : List Row) (leaf : Leaf) → ShowsLeaf r leaf → Follows before leaf → (b : Leaf) → IsBeside leaf.key b.key → Begins before (r ∷ rows) b
head_begins None r rows leaf shows follows b beside = inr (r, leaf, inl refl, shows, beside, follows)
head_begins (Some l) r rows leaf shows (inl it) b beside = inl (l, refl, (it.beside.0 ∙ beside.0, it.beside.1 ∙ beside.1))
head_begins (Some l) r rows leaf shows (inr it) b beside = inr (r, leaf, inl refl, shows, beside, it.1)

pub walked_begins : (before : Option Leaf) (rows : List Row) (postings : List KeyPosting) → AreWalked before rows postings → (y : Row) → Has rows y → (b : Leaf) → ShowsLeaf y b → Begins before rows b
walked_begins before [] postings walked y here b there = absurd here
walked_begins before (r ∷ rows) postings walked y (inl same) b there =
    let leaf = one_leaf_shown r walked.0 b walked.2.shows (subst (λ (q : Row). ShowsLeaf q b) same there) in
    head_begins before r rows walked.0 walked.2.shows walked.2.follows b (ap (λ (l : Leaf). l.key.index) leaf, ap (λ (l : Leaf). l.key.register) leaf)
walked_begins before (r ∷ rows) postings walked y (inr later) b there = elim (walked_begins (Some walked.0) rows walked.1 walked.3 y later b there) [
  | inr it ↦ inr (it.0, it.1, inr it.2, it.3, it.4, it.5)
  | inl it ↦
      let same : it.0 ≡ walked.0 = cc in
      head_begins before r rows walked.0 walked.2.shows walked.2.follows b (subst (λ (l : Leaf). IsBeside l.key b.key) same it.2)
]

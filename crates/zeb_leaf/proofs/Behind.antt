-- What comes behind an entry that isn't below a key isn't below it either; and what shares much with one that is, is below it.
use Rattle.zeb_leaf.proofs.Cited.{◌≡◌, ◌≢◌, ◌∙◌, ◌+◌, ◌<◌, ◌∷◌, ℕ, suc, List, [], refl, sym, ap, subst, inl, inr, arith, common_steps, cases_eq, Less, slice_cmp, nat_cmp, ordering_then, shared_of, Entry, Place, Follows, behind_entry, Ordering, IsOnSide, IsOutside, TakesIfInSpan, IsInSpan, key_cmp, Held}
use Rattle.std.proofs.lemmas.Cmp.{nat_list_cmp_total}
use Rattle.zeb_leaf.proofs.Order.{cmp_from_above, entries_total}
use Rattle.zeb_leaf.proofs.Rising.{Above, cmp_itself, shared-other, shared-same}
use Rattle.zeb_leaf.specs.declared.spans.Side.{Side}
use Rattle.zeb_leaf.specs.declared.spans.Side.TheVariants.{Below, Near, Past}

-- what may come behind an entry may come where that may
above_then : (place : Place) (e f : Entry) → Above place.term place.least e.term e.block → Above e.term (e.block + 1) f.term f.block → Above place.term place.least f.term f.block
above_then place e f (inl less) (inl more) = inl (nat_list_cmp_total.trans place.term e.term f.term less more)
above_then place e f (inl less) (inr level) = inl (subst (λ (t : List ℕ). slice_cmp nat_cmp place.term t ≡ Less) level.0 less)
above_then place e f (inr same) (inl more) = inl (subst (λ (t : List ℕ). slice_cmp nat_cmp t f.term ≡ Less) (sym same.0) more)
above_then place e f (inr same) (inr level) = inr ((λ i. (let g : place.term ≡ f.term = cc in g) i), omega (arith, same.1, level.1))

pub follows_then : (place : Place) (e f : Entry) → Follows place e → Follows (behind_entry e) f → Follows place f
follows_then place e f one two = record { above = above_then place e f one.above two.above; sound = two.sound }

module _ (end : List ℕ) (number : ℕ) where
  -- nothing that may come at the place is below the key
  abbrev pub IsPast : Place → Type 0
  IsPast place = (e : Entry) → Follows place e → key_cmp e.term e.block end number ≢ Less

  pub past_behind : (e : Entry) → key_cmp e.term e.block end number ≢ Less → IsPast (behind_entry e)
  past_behind e from f follows less =
      let last : Entry = record { term = end; block = number; records = 0; bytes = [] } in
      from (entries_total.trans e f last (cmp_from_above e f follows.above) less)

  pub still_past : (place : Place) (e : Entry) → IsPast place → Follows place e → IsPast (behind_entry e)
  still_past place e past follows f behind = past f (follows_then place e f follows behind)

  pub none_taken : (first : List ℕ) (least : ℕ) (place : Place) (e : Entry) (held : List Held) → IsPast place → Follows place e → TakesIfInSpan first least end number e held held
  none_taken first least place e held past follows = inr ((λ (inside : IsInSpan first least end number e). past e follows inside.below), refl)

-- ---- below a text

-- a term that shares more with one below a text than that shares with the text, is below the text, and shares as much with it
pub shares_more : (before term other : List ℕ) → slice_cmp nat_cmp before other ≡ Less → shared_of before other < shared_of before term → (slice_cmp nat_cmp term other ≡ Less) × (shared_of term other ≡ shared_of before other)
shares_more [] term other low more = absurd (let none : shared_of [] term ≡ 0 = refl in omega (arith, more, none))
shares_more (x ∷ before) [] other low more = absurd (let none : shared_of (x ∷ before) [] ≡ 0 = refl in omega (arith, more, none))
shares_more (x ∷ before) (y ∷ term) [] low more = absurd (cc)
shares_more (x ∷ before) (y ∷ term) (z ∷ other) low more = elim (cases_eq x y) [
  | inr apart ↦ absurd (omega (arith, more, shared-other x y before term apart))
  | inl same ↦ elim (cases_eq x z) [
    | inl level ↦
        let low' : slice_cmp nat_cmp before other ≡ Less = sym (ap (λ o. ordering_then o (slice_cmp nat_cmp before other)) (ap (nat_cmp x) (sym level) ∙ cmp_itself x)) ∙ low in
        let one : shared_of (x ∷ before) (z ∷ other) ≡ suc (shared_of before other) = ap (λ w. shared_of (x ∷ before) (w ∷ other)) (sym level) ∙ shared-same x before other in
        let two : shared_of (x ∷ before) (y ∷ term) ≡ suc (shared_of before term) = ap (λ w. shared_of (x ∷ before) (w ∷ term)) (sym same) ∙ shared-same x before term in
        let rest = shares_more before term other low' (omega (arith, more, one, two)) in
        let yz : y ≡ z = sym same ∙ level in (
          ap (λ o. ordering_then o (slice_cmp nat_cmp term other)) (ap (nat_cmp y) (sym yz) ∙ cmp_itself y) ∙ rest.0,
          ap (λ w. shared_of (y ∷ term) (w ∷ other)) (sym yz) ∙ shared-same y term other ∙ ap suc rest.1 ∙ sym one,
        )
    | inr apart ↦
        let first : nat_cmp x z ≡ Less = heads (slice_cmp nat_cmp before other) x z apart low in
        let yz : ¬ (y ≡ z) = λ e. apart (same ∙ e) in (
          ap (λ o. ordering_then o (slice_cmp nat_cmp term other)) (ap (λ w. nat_cmp w z) (sym same) ∙ first),
          shared-other y z term other yz ∙ sym (shared-other x z before other apart),
        )
  ]
]
  where
    heads : (rest : Ordering) (x z : ℕ) → ¬ (x ≡ z) → ordering_then (nat_cmp x z) rest ≡ Less → nat_cmp x z ≡ Less
    heads rest x z apart low = grind (arith, common_steps, apart, low)

-- ---- a walk beside a span

module _ (first : List ℕ) (least : ℕ) (end : List ℕ) (number : ℕ) where
  -- what the side says of all that may come at a place
  abbrev pub StandsAt : Side → Place → Type 0
  StandsAt (Below count) place = (slice_cmp nat_cmp place.term first ≡ Less) × (count ≡ shared_of place.term first)
  StandsAt Near place = Unit {0}
  StandsAt Past place = IsPast end number place

  pub stands_behind : (side : Side) (e : Entry) → IsOnSide first end number e.term e.block side → StandsAt side (behind_entry e)
  stands_behind (Below count) e is = is
  stands_behind Near e is = tt
  stands_behind Past e is = past_behind end number e is

  -- an entry that is known to be outside isn't taken, and the next stands as this did
  pub left_out : (side : Side) (place : Place) (e : Entry) (shared : ℕ) (held : List Held) → StandsAt side place → IsOutside side shared → Follows place e → shared ≡ shared_of place.term e.term
      → TakesIfInSpan first least end number e held held × StandsAt side (behind_entry e)
  left_out (Below count) place e shared held stands outside follows is =
      let more = shares_more place.term e.term first stands.0 (omega (arith, outside, stands.1, is)) in (
        inr ((λ (inside : IsInSpan first least end number e). inside.from (ap (λ o. ordering_then o (nat_cmp e.block least)) more.0)), refl),
        (more.0, stands.1 ∙ sym more.1),
      )
  left_out Near place e shared held stands outside follows is = absurd outside
  left_out Past place e shared held stands outside follows is = (none_taken end number first least place e held stands follows, still_past end number place e stands follows)

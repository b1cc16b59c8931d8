-- Entries merged with changes, change by change.
use Rattle.zeb_leaf.proofs.Cited.{◌≡◌, ◌≢◌, ℕ, List, [], ◌∷◌, ◌++◌, length, ◌⊎◌, refl, sym, ◌∙◌, ap, subst, inl, inr, arith, common_steps, append_assoc, Less, Equal, Greater, Some, None, AllByRecursion, Entry, IsEntry, entry_cmp, slice_cmp, nat_cmp, ordering_then, Contains-append_cases, Contains-append_left, Contains-append_right, ordering_reverse, Contains, Option, Ordering, AreMerged, IsOf, IsPut, IsTouched, change_cmp, entry_with, puts, ArePartedAt, Begins, IsRestBehind, Merges, key_cmp, BlockChange}
use Rattle.std.specs.List.Sorted.{IsStrictlySortedBy}
use Rattle.zeb_leaf.specs.declared.merging.NewBlock.{NewBlock}
use Rattle.zeb_leaf.proofs.Members.{all_by, all_of, behind_in, first_below, first_in, none_in, only_in, sorted_front, sorted_joined, sorted_rest}
use Rattle.zeb_leaf.proofs.Order.{cmp_level, cmp_same, entries_total}
use Rattle.zeb_leaf.proofs.Rising.{cmp_itself}

-- ---- a key, as an entry without anything in it

abbrev pub bare : List ℕ → ℕ → Entry
bare term block = record { term = term; block = block; records = 0; bytes = [] }

abbrev pub at : BlockChange → Entry
at c = bare c.term c.block

-- entries with one key
level_by : (terms : Ordering) (p q : Entry) → slice_cmp nat_cmp p.term q.term ≡ terms → ordering_then terms (nat_cmp p.block q.block) ≡ Equal → (p.term ≡ q.term) × (p.block ≡ q.block)
level_by Less p q is level = absurd (cc)
level_by Equal p q is level = (cmp_level p.term q.term is, same_number p.block q.block level)
  where
    same_number : (m n : ℕ) → nat_cmp m n ≡ Equal → m ≡ n
    same_number m n level = grind (arith, common_steps, level)
level_by Greater p q is level = absurd (cc)

key_level : (p q : Entry) → entry_cmp p q ≡ Equal → (p.term ≡ q.term) × (p.block ≡ q.block)
key_level p q level = level_by (slice_cmp nat_cmp p.term q.term) p q refl level

level_key : (p q : Entry) → p.term ≡ q.term → p.block ≡ q.block → entry_cmp p q ≡ Equal
level_key p q term block =
    subst (λ (t : List ℕ). ordering_then (slice_cmp nat_cmp p.term t) (nat_cmp p.block q.block) ≡ Equal) term
    (subst (λ (n : ℕ). ordering_then (slice_cmp nat_cmp p.term p.term) (nat_cmp p.block n) ≡ Equal) block
    (ap (λ o. ordering_then o (nat_cmp p.block p.block)) (cmp_same p.term) ∙ cmp_itself p.block))

-- neither below nor level, it is above
turned : (p q : Entry) → entry_cmp p q ≢ Less → entry_cmp p q ≢ Equal → entry_cmp q p ≡ Less
turned p q not_below not_level = entries_total.antisymm q p ∙ by_cases (entry_cmp p q) not_below not_level
  where
    by_cases : (o : Ordering) → o ≢ Less → o ≢ Equal → ordering_reverse o ≡ Less
    by_cases Less not_below not_level = absurd (not_below refl)
    by_cases Equal not_below not_level = absurd (not_level refl)
    by_cases Greater not_below not_level = refl

below_level : (p q r : Entry) → entry_cmp p q ≡ Less → entry_cmp q r ≡ Equal → entry_cmp p r ≡ Less
below_level p q r below level = entries_total.antisymm p r ∙ ap ordering_reverse (sym (entries_total.congr q r p level)) ∙ sym (entries_total.antisymm p q) ∙ below

level_below : (p q r : Entry) → entry_cmp p q ≡ Equal → entry_cmp q r ≡ Less → entry_cmp p r ≡ Less
level_below p q r level below = entries_total.congr p q r level ∙ below

not_both : (p q : Entry) → entry_cmp p q ≡ Less → ¬ (entry_cmp p q ≡ Equal)
not_both p q below level = let both : Less ≡ Equal = sym below ∙ level in absurd (cc)

-- ---- what a change puts

puts_level_by : (term : List ℕ) (block : ℕ) (new : Option NewBlock) (e : Entry) → Contains (entry_with term block new) e → entry_cmp (bare term block) e ≡ Equal
puts_level_by term block None e has = absurd (none_in e has)
puts_level_by term block (Some new) e has =
    let own : Entry = record { term = term; block = block; records = new.records; bytes = new.bytes } in
    subst (λ (f : Entry). entry_cmp (bare term block) f ≡ Equal) (only_in own e has) (level_key (bare term block) own refl refl)

puts_level : (c : BlockChange) (e : Entry) → Contains (puts c) e → entry_cmp (at c) e ≡ Equal
puts_level c e has = puts_level_by c.term c.block c.new e has

puts_rise : (term : List ℕ) (block : ℕ) (new : Option NewBlock) → IsStrictlySortedBy entry_cmp (entry_with term block new)
unfolding IsStrictlySortedBy
puts_rise term block None = tt
puts_rise term block (Some new) = (tt, tt)

-- ---- entries parted at a key

-- what is behind a key in a rising list is above it
behind_above : (term : List ℕ) (block : ℕ) (rest behind : List Entry) → IsStrictlySortedBy entry_cmp rest → ¬ Begins term block Less rest → IsRestBehind term block rest behind → (e : Entry) → Contains behind e → entry_cmp (bare term block) e ≡ Less
behind_above term block rest behind up next (inl own) e has =
    let there = subst (λ (list : List Entry). IsStrictlySortedBy entry_cmp list) own.1 up in
    level_below (bare term block) own.0 e (level_key (bare term block) own.0 (sym (key_level own.0 (bare term block) own.2).0) (sym (key_level own.0 (bare term block) own.2).1)) (first_below entry_cmp own.0 behind e there has)
behind_above term block rest behind up next (inr other) e has =
    all_above rest up next other.1 (subst (λ (list : List Entry). Contains list e) other.0 has)
  where
    all_above : (rest : List Entry) → IsStrictlySortedBy entry_cmp rest → ¬ Begins term block Less rest → ¬ Begins term block Equal rest → Contains rest e → entry_cmp (bare term block) e ≡ Less
    all_above [] up next other has = absurd (none_in e has)
    all_above (f ∷ rest) up next other has =
        let first : entry_cmp (bare term block) f ≡ Less = turned f (bare term block) next other in
        elim (Contains-append_cases (f ∷ []) rest e has) [
          | inl same ↦ subst (λ (g : Entry). entry_cmp (bare term block) g ≡ Less) (only_in f e same) first
          | inr more ↦ entries_total.trans (bare term block) f e first (first_below entry_cmp f rest e up more)
        ]

-- an entry that isn't below the key is its own, or behind it
rest_cases : (term : List ℕ) (block : ℕ) (rest behind : List Entry) → IsRestBehind term block rest behind → (e : Entry) → Contains rest e → ((e.term ≡ term) × (e.block ≡ block)) ⊎ Contains behind e
rest_cases term block rest behind (inl own) e has =
    elim (Contains-append_cases (own.0 ∷ []) behind e (subst (λ (list : List Entry). Contains list e) own.1 has)) [
      | inl same ↦ inl (subst (λ (f : Entry). (f.term ≡ term) × (f.block ≡ block)) (only_in own.0 e same) (key_level own.0 (bare term block) own.2))
      | inr more ↦ inr more
    ]
rest_cases term block rest behind (inr other) e has = inr (subst (λ (list : List Entry). Contains list e) (sym other.0) has)

rest_has : (term : List ℕ) (block : ℕ) (rest behind : List Entry) → IsRestBehind term block rest behind → (e : Entry) → Contains behind e → Contains rest e
rest_has term block rest behind (inl own) e has = subst (λ (list : List Entry). Contains list e) (sym own.1) (behind_in own.0 behind e has)
rest_has term block rest behind (inr other) e has = subst (λ (list : List Entry). Contains list e) other.0 has

rest_rises : (term : List ℕ) (block : ℕ) (rest behind : List Entry) → IsRestBehind term block rest behind → IsStrictlySortedBy entry_cmp rest → IsStrictlySortedBy entry_cmp behind
rest_rises term block rest behind (inl own) up = sorted_rest entry_cmp (own.0 ∷ []) behind (subst (λ (list : List Entry). IsStrictlySortedBy entry_cmp list) own.1 up)
rest_rises term block rest behind (inr other) up = subst (λ (list : List Entry). IsStrictlySortedBy entry_cmp list) (sym other.0) up

-- ---- all changes

-- from these entries on, the changes lead there
abbrev pub MergesAll : List BlockChange → List Entry → List Entry → Type 0
MergesAll [] left end = end ≡ left
MergesAll (c ∷ changes) left end =
    (below : List Entry) × (behind : List Entry) × (more : List Entry)
    × ArePartedAt c.term c.block left below behind × MergesAll changes behind more × (end ≡ (below ++ puts c) ++ more)

-- one change, and then the others
pub merged_more : (c : BlockChange) (changes : List BlockChange) (left old new rest end : List Entry) → Merges c left old new rest → MergesAll changes rest end
    → (whole : List Entry) × MergesAll (c ∷ changes) left whole × (old ++ whole ≡ new ++ end)
merged_more c changes left old new rest end one all =
    let own = one.below ++ puts c in (
      own ++ end,
      (one.below, rest, end, one.parted, all, refl),
      sym (append_assoc old own end) ∙ ap (λ (list : List Entry). list ++ end) (sym one.put),
    )

-- the changes behind one are above it
changes_above : (c : BlockChange) (changes : List BlockChange) (e : Entry) → IsStrictlySortedBy change_cmp (c ∷ changes) → (d : BlockChange) → Contains changes d → entry_cmp (at d) e ≡ Equal → entry_cmp (at c) e ≡ Less
changes_above c changes e up d has level = below_level (at c) (at d) e (first_below change_cmp c changes d up has) level

module _ (c : BlockChange) (changes : List BlockChange) (left below behind more : List Entry)
    (parted : ArePartedAt c.term c.block left below behind) (up : IsStrictlySortedBy entry_cmp left) (sound : AllByRecursion IsEntry left)
    (rising : IsStrictlySortedBy change_cmp (c ∷ changes)) (news : AllByRecursion IsEntry (puts c)) (rest : AreMerged changes behind more) where
  whole_up : IsStrictlySortedBy entry_cmp (below ++ parted.rest)
  whole_up = subst (λ (list : List Entry). IsStrictlySortedBy entry_cmp list) parted.whole up

  of_left : (e : Entry) → Contains below e ⊎ Contains parted.rest e → Contains left e
  of_left e (inl has) = subst (λ (list : List Entry). Contains list e) (sym parted.whole) (Contains-append_left below parted.rest e has)
  of_left e (inr has) = subst (λ (list : List Entry). Contains list e) (sym parted.whole) (Contains-append_right below parted.rest e has)

  below_at : (e : Entry) → Contains below e → entry_cmp e (at c) ≡ Less
  below_at e has = all_of (λ (f : Entry). key_cmp f.term f.block c.term c.block ≡ Less) below e parted.lower has

  behind_at : (e : Entry) → Contains behind e → entry_cmp (at c) e ≡ Less
  behind_at e has = behind_above c.term c.block parted.rest behind (sorted_rest entry_cmp below parted.rest whole_up) parted.next parted.left e has

  more_at : (e : Entry) → Contains more e → entry_cmp (at c) e ≡ Less
  more_at e has = elim ((rest.has e).0 has) [
    | inl stays ↦ behind_at e stays.0
    | inr put ↦ changes_above c changes e rising put.0 put.1 (puts_level put.0 e put.2)
  ]

  -- no change touches what is below the first
  below_untouched : (e : Entry) → entry_cmp e (at c) ≡ Less → ¬ IsTouched (c ∷ changes) e
  below_untouched e less touched = elim (Contains-append_cases (c ∷ []) changes touched.0 touched.1) [
    | inl same ↦ let one = subst (λ (d : BlockChange). IsOf d e) (sym (only_in c touched.0 same)) touched.2 in not_both e (at c) less (level_key e (at c) one.0 one.1)
    | inr has ↦
        let up = first_below change_cmp c changes touched.0 rising has in
        not_both e (at touched.0) (entries_total.trans e (at c) (at touched.0) less up) (level_key e (at touched.0) touched.2.0 touched.2.1)
  ]

  above_untouched : (e : Entry) → entry_cmp (at c) e ≡ Less → ¬ IsTouched changes e → ¬ IsTouched (c ∷ changes) e
  above_untouched e above not touched = elim (Contains-append_cases (c ∷ []) changes touched.0 touched.1) [
    | inl same ↦ let one = subst (λ (d : BlockChange). IsOf d e) (sym (only_in c touched.0 same)) touched.2 in not_both (at c) e above (level_key (at c) e (sym one.0) (sym one.1))
    | inr has ↦ not (touched.0, has, touched.2)
  ]

  own : List Entry
  own = below ++ puts c

  has_to : (e : Entry) → Contains ((below ++ puts c) ++ more) e → (Contains left e × ¬ IsTouched (c ∷ changes) e) ⊎ IsPut (c ∷ changes) e
  has_to e has = elim (Contains-append_cases (below ++ puts c) more e has) [
    | inl front ↦ elim (Contains-append_cases below (puts c) e front) [
      | inl low ↦ inl (of_left e (inl low), below_untouched e (below_at e low))
      | inr new ↦ inr (c, first_in c changes, new)
    ]
    | inr last ↦ elim ((rest.has e).0 last) [
      | inl stays ↦ inl (of_left e (inr (rest_has c.term c.block parted.rest behind parted.left e stays.0)), above_untouched e (behind_at e stays.0) stays.1)
      | inr put ↦ inr (put.0, behind_in c changes put.0 put.1, put.2)
    ]
  ]

  stays_has : (e : Entry) → ¬ IsTouched (c ∷ changes) e → Contains below e ⊎ Contains parted.rest e → Contains ((below ++ puts c) ++ more) e
  stays_has e free (inl low) = Contains-append_left (below ++ puts c) more e (Contains-append_left below (puts c) e low)
  stays_has e free (inr high) = elim (rest_cases c.term c.block parted.rest behind parted.left e high) [
    | inl one ↦ absurd (free (c, first_in c changes, one))
    | inr there ↦ Contains-append_right (below ++ puts c) more e ((rest.has e).1 (inl (there, λ touched. free (touched.0, behind_in c changes touched.0 touched.1, touched.2))))
  ]

  put_has : (e : Entry) (d : BlockChange) → Contains (puts d) e → Contains (c ∷ []) d ⊎ Contains changes d → Contains ((below ++ puts c) ++ more) e
  put_has e d new (inl same) = Contains-append_left (below ++ puts c) more e (Contains-append_right below (puts c) e (subst (λ (b : BlockChange). Contains (puts b) e) (sym (only_in c d same)) new))
  put_has e d new (inr there) = Contains-append_right (below ++ puts c) more e ((rest.has e).1 (inr (d, there, new)))

  has_from : (e : Entry) → (Contains left e × ¬ IsTouched (c ∷ changes) e) ⊎ IsPut (c ∷ changes) e → Contains ((below ++ puts c) ++ more) e
  has_from e (inl stays) = stays_has e stays.1 (Contains-append_cases below parted.rest e (subst (λ (list : List Entry). Contains list e) parted.whole stays.0))
  has_from e (inr put) = put_has e put.0 put.2 (Contains-append_cases (c ∷ []) changes put.0 put.1)

  front_below : (p q : Entry) → Contains (below ++ puts c) p → Contains more q → entry_cmp p q ≡ Less
  front_below p q front last = elim (Contains-append_cases below (puts c) p front) [
    | inl low ↦ entries_total.trans p (at c) q (below_at p low) (more_at q last)
    | inr new ↦
        let level = key_level (at c) p (puts_level c p new) in
        level_below p (at c) q (level_key p (at c) (sym level.0) (sym level.1)) (more_at q last)
  ]

  pub one_merged : AreMerged (c ∷ changes) left ((below ++ puts c) ++ more)
  one_merged = record {
    has = λ e. (has_to e, has_from e);
    rising = sorted_joined entry_cmp (below ++ puts c) more
        (sorted_joined entry_cmp below (puts c) (sorted_front entry_cmp below parted.rest whole_up) (puts_rise c.term c.block c.new) (λ p q low new. below_level p (at c) q (below_at p low) (puts_level c q new)))
        rest.rising front_below;
    each = all_by IsEntry ((below ++ puts c) ++ more) (λ e has. elim (Contains-append_cases (below ++ puts c) more e has) [
      | inl front ↦ elim (Contains-append_cases below (puts c) e front) [
        | inl low ↦ all_of IsEntry left e sound (of_left e (inl low))
        | inr new ↦ all_of IsEntry (puts c) e news new
      ]
      | inr last ↦ all_of IsEntry more e rest.each last
    ]);
  }

pub merged_all : (changes : List BlockChange) (left end : List Entry) → MergesAll changes left end → IsStrictlySortedBy entry_cmp left → AllByRecursion IsEntry left
    → IsStrictlySortedBy change_cmp changes → AllByRecursion (λ c. AllByRecursion IsEntry (puts c)) changes → AreMerged changes left end
unfolding IsStrictlySortedBy
merged_all [] left end all up sound rising news = subst (λ (list : List Entry). AreMerged [] left list) (sym all) record {
  has = λ e. (λ has. inl (has, λ touched. none_in touched.0 touched.1), λ one. nothing_put e one);
  rising = up;
  each = sound;
}
  where
    nothing_put : (e : Entry) → (Contains left e × ¬ IsTouched [] e) ⊎ IsPut [] e → Contains left e
    nothing_put e (inl stays) = stays.0
    nothing_put e (inr put) = absurd (none_in put.0 put.1)
merged_all (c ∷ changes) left end all up sound rising news =
    let below = all.0 in
    let behind = all.1 in
    let parted = all.3 in
    let behind_up = rest_rises c.term c.block parted.rest behind parted.left (sorted_rest entry_cmp below parted.rest (subst (λ (list : List Entry). IsStrictlySortedBy entry_cmp list) parted.whole up)) in
    let behind_sound = all_by IsEntry behind (λ e has. all_of IsEntry left e sound (subst (λ (list : List Entry). Contains list e) (sym parted.whole) (Contains-append_right below parted.rest e (rest_has c.term c.block parted.rest behind parted.left e has)))) in
    let rest = merged_all changes behind all.2 all.4 behind_up behind_sound rising.1 news.1 in
    subst (λ (list : List Entry). AreMerged (c ∷ changes) left list) (sym all.5) (one_merged c changes left below behind all.2 parted up sound rising news.0 rest)

-- without changes all stays
pub merged_end : (changes : List BlockChange) (left : List Entry) → length changes ≡ 0 → MergesAll changes left left
merged_end [] left none = refl
merged_end (c ∷ changes) left none = absurd (omega (arith, none))

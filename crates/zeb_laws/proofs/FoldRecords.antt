-- Which records a change leaves, how many, and under which numbers.
use Rattle.zeb_laws.proofs.Cited.{◌≡◌, ◌≢◌, ◌⊎◌, ◌∙◌, ℕ, ◌+◌, ◌<◌, Bool, true, false, not, cond, List, [], ◌∷◌, ◌++◌, length, map, filter, find, Some, inl, inr, refl, sym, ap, subst, arith, length-append, ⊤, if◌then◌else◌, Contains, nat_cmp, nat_tests, length-map, Has, all_has, has_contained, contains_had, has_left, has_either, has_filtered, has_mapped, mapped_has, Split, Kind, Update, Conditions, FoldsTo, HasNamesake, Changed, Progress, at_first, counted, Base, Kept, has_ident, IsBase, AreRisingKept, is_ident, has_same, none_kept}
use Rattle.std.specs.List.Sorted.{IsStrictlySortedBy}
use Rattle.std.specs.declared.cmp.Ordering.TheVariants.{Less}
use Rattle.zeb_laws.proofs.FoldCounts.{DidTo, added, renewed, removed, passed, files_keep}

-- ---- no identifier twice

abbrev AreApart : List Kept → Type 0
AreApart [] = ⊤
AreApart (first ∷ rest) = ((k : Kept) → Has rest k → k.ident ≢ first.ident) × AreApart rest

rising_apart : (a b : ℕ) → nat_cmp a b ≡ Less → a ≢ b
rising_apart a b = grind (arith, nat_tests)

apart_in : (records : List Kept) → AreRisingKept records → ((a b : Kept) → Has records a → Has records b → a.ident ≡ b.ident → a ≡ b) → AreApart records
unfolding IsStrictlySortedBy
apart_in [] rising single = tt
apart_in (first ∷ rest) rising single = (
  λ k there same. rising_apart first.sysno k.sysno (all_has _ rest k rising.0 there) (ap (λ (x : Kept). x.sysno) (sym (single k first (inr there) (inl refl) same))),
  apart_in rest rising.1 (λ a b here there. single a b (inr here) (inr there)),
)

push_apart : (records : List Kept) (kept : Kept) → AreApart records → ((k : Kept) → Has records k → k.ident ≢ kept.ident) → AreApart (records ++ kept ∷ [])
push_apart [] kept apart none = (λ k there. absurd there, tt)
push_apart (first ∷ rest) kept apart none = (
  λ k there same. elim (has_either rest (kept ∷ []) k there) [
    | inl was ↦ apart.0 k was same
    | inr last ↦ elim last [ inl is ↦ none first (inl refl) (sym same ∙ ap (λ (x : Kept). x.ident) is) | inr h ↦ absurd h ]
  ],
  push_apart rest kept apart.1 (λ k there. none k (inr there)),
)

map_apart : (f : Kept → Kept) (same : (k : Kept) → (f k).ident ≡ k.ident) (records : List Kept) → AreApart records → AreApart (map f records)
map_apart f same [] apart = tt
map_apart f same (first ∷ rest) apart = (
  λ k there is. let x = has_mapped f rest k there in apart.0 x.0 x.1 (sym (same x.0) ∙ sym (ap (λ (y : Kept). y.ident) x.2) ∙ is ∙ same first),
  map_apart f same rest apart.1,
)

filter_apart : (p : Kept → Bool) (records : List Kept) → AreApart records → AreApart (filter p records)
filter_apart p [] apart = tt
filter_apart p (first ∷ rest) apart = elim (p first) as (λ b. AreApart (cond b (first ∷ filter p rest) (filter p rest))) [
  | true ↦ (λ k there. apart.0 k (has_filtered p rest k there).0, filter_apart p rest apart.1)
  | false ↦ filter_apart p rest apart.1
]

-- ---- how many are left without one

abbrev without : List ℕ → List Kept → List Kept
without ident records = filter (λ kept. not (has_ident ident kept)) records

none_less : (ident : List ℕ) (records : List Kept) → ((k : Kept) → Has records k → k.ident ≢ ident) → length (without ident records) ≡ length records
none_less ident [] none = refl
none_less ident (first ∷ rest) none = elim (is_ident ident first) [
  | inl is ↦ absurd (none first (inl refl) (has_same ident first is))
  | inr differs ↦ rw differs (omega (arith, none_less ident rest (λ k there. none k (inr there))))
]

one_less : (ident : List ℕ) (elder : Kept) (records : List Kept) → AreApart records → find (has_ident ident) records ≡ Some elder → length (without ident records) + 1 ≡ length records
one_less ident elder [] apart found = cc
one_less ident elder (first ∷ rest) apart found = elim (is_ident ident first) [
  | inl is ↦ rw is (omega (arith, none_less ident rest (λ k there same. apart.0 k there (same ∙ sym (has_same ident first is)))))
  | inr differs ↦ rw differs (omega (arith, one_less ident elder rest apart.1 (rw differs at found)))
]

-- ---- bytes in the place of others

abbrev pub with_other : List ℕ → List ℕ → Kept → Kept
with_other ident bytes kept = if has_ident ident kept then record kept { bytes = bytes } else kept

module _ (ident bytes : List ℕ) (kept : Kept) where
  other_sysno : (with_other ident bytes kept).sysno ≡ kept.sysno
  other_sysno = elim (is_ident ident kept) [ inl is ↦ rw is refl | inr differs ↦ rw differs refl ]

  pub other_ident : (with_other ident bytes kept).ident ≡ kept.ident
  other_ident = elim (is_ident ident kept) [ inl is ↦ rw is refl | inr differs ↦ rw differs refl ]

-- ---- how many are kept

record KeptSo (base : Base) (p : Progress) : Type 0 where
  apart : AreApart p.base.records
  many : length p.base.records + p.deleted ≡ length base.records + p.inserted

kept_step : (kind : Kind) (base : Base) (p : Progress) → KeptSo base p → (changed : Changed) → DidTo kind p.base changed → KeptSo base (counted changed.0 p changed.1)
kept_step kind base p so changed (added ident bytes update none is) = subst (λ (ch : Changed). KeptSo base (counted ch.0 p ch.1)) (sym is) (record {
  apart = push_apart p.base.records _ so.apart (λ k there. none_kept ident p.base k none there);
  many = omega (arith, so.many, length-append p.base.records (record { sysno = p.base.last + 1; ident = ident; bytes = bytes } ∷ []));
})
kept_step kind base p so changed (renewed ident bytes update is) = subst (λ (ch : Changed). KeptSo base (counted ch.0 p ch.1)) (sym is) (record {
  apart = map_apart (with_other ident bytes) (other_ident ident bytes) p.base.records so.apart;
  many = omega (arith, so.many, length-map p.base.records (with_other ident bytes));
})
kept_step kind base p so changed (removed ident elder other found is) = subst (λ (ch : Changed). KeptSo base (counted ch.0 p ch.1)) (sym is) (record {
  apart = filter_apart (λ kept. not (has_ident ident kept)) p.base.records so.apart;
  many = omega (arith, so.many, one_less ident elder p.base.records so.apart found);
})
kept_step kind base p so changed (passed lenient is) = subst (λ (ch : Changed). KeptSo base (counted ch.0 p ch.1)) (sym is) (record { apart = so.apart; many = so.many })

pub all_kept : (c : Conditions) (kind : Kind) (files : List Split) (base : Base) (p : Progress) → FoldsTo c kind files base p → IsBase c.profile base
    → length p.base.records + p.deleted ≡ length base.records + p.inserted
all_kept c kind files base p is sound =
    let single : (a b : Kept) → Has base.records a → Has base.records b → a.ident ≡ b.ident → a ≡ b =
    λ a b here there. sound.single a b (contains_had base.records a here) (contains_had base.records b there) in
    (files_keep c kind (KeptSo base) (λ q changed did so. kept_step kind base q so changed did) 1 files (at_first base) p is
    (record { apart = apart_in base.records sound.rising single; many = refl })).many

-- ---- under which numbers

abbrev HasLike : List Kept → Kept → Type 0
HasLike records kept = (other : Kept) × Has records other × (other.sysno ≡ kept.sysno) × (other.ident ≡ kept.ident)

-- each record of the first is there still
abbrev Stay : Base → Progress → Type 0
Stay base p = (kept : Kept) → Has base.records kept → HasLike p.base.records kept

stay_step : (base : Base) (p : Progress) → Stay base p → (changed : Changed) → DidTo Update p.base changed → Stay base (counted changed.0 p changed.1)
stay_step base p so changed (added ident bytes update none is) = subst (λ (ch : Changed). Stay base (counted ch.0 p ch.1)) (sym is) (λ kept there.
    let it = so kept there in (it.0, has_left p.base.records _ it.0 it.1, it.2, it.3))
stay_step base p so changed (renewed ident bytes update is) = subst (λ (ch : Changed). Stay base (counted ch.0 p ch.1)) (sym is) (λ kept there.
    let it = so kept there in
    (with_other ident bytes it.0, mapped_has (with_other ident bytes) p.base.records it.0 it.1, other_sysno ident bytes it.0 ∙ it.2, other_ident ident bytes it.0 ∙ it.3))
stay_step base p so changed (removed ident elder other found is) = absurd (other refl)
stay_step base p so changed (passed lenient is) = cc

pub all_stay : (c : Conditions) (files : List Split) (base : Base) (p : Progress) → FoldsTo c Update files base p → (kept : Kept) → Contains base.records kept → HasNamesake p.base.records kept
all_stay c files base p is kept there =
    let it = files_keep c Update (Stay base) (λ q changed did so. stay_step base q so changed did) 1 files (at_first base) p is (λ k h. (k, h, refl, refl)) kept (has_contained base.records kept there) in
    (it.0, contains_had p.base.records it.0 it.1, it.2, it.3)

-- each record was there, or has a number that was given since
record Come (base : Base) (p : Progress) : Type 0 where
  last : p.base.last ≡ base.last + p.inserted
  each : (kept : Kept) → Has p.base.records kept → HasLike base.records kept ⊎ (base.last < kept.sysno)

come_step : (kind : Kind) (base : Base) (p : Progress) → Come base p → (changed : Changed) → DidTo kind p.base changed → Come base (counted changed.0 p changed.1)
come_step kind base p so changed (added ident bytes update none is) = subst (λ (ch : Changed). Come base (counted ch.0 p ch.1)) (sym is) (record {
  last = omega (arith, so.last);
  each = λ kept there. elim (has_either p.base.records _ kept there) [
    | inl was ↦ so.each kept was
    | inr new ↦ elim new [ inl same ↦ inr (omega (arith, so.last, ap (λ (k : Kept). k.sysno) same)) | inr h ↦ absurd h ]
  ];
})
come_step kind base p so changed (renewed ident bytes update is) = subst (λ (ch : Changed). Come base (counted ch.0 p ch.1)) (sym is) (record {
  last = so.last;
  each = λ kept there.
      let x = has_mapped (with_other ident bytes) p.base.records kept there in
      let number : kept.sysno ≡ x.0.sysno = ap (λ (k : Kept). k.sysno) x.2 ∙ other_sysno ident bytes x.0 in
      let name : kept.ident ≡ x.0.ident = ap (λ (k : Kept). k.ident) x.2 ∙ other_ident ident bytes x.0 in
      elim (so.each x.0 x.1) [
        | inl like ↦ inl (like.0, like.1, like.2 ∙ sym number, like.3 ∙ sym name)
        | inr later ↦ inr (omega (arith, later, number))
      ];
})
come_step kind base p so changed (removed ident elder other found is) = subst (λ (ch : Changed). Come base (counted ch.0 p ch.1)) (sym is) (record {
  last = so.last;
  each = λ kept there. so.each kept (has_filtered (λ k. not (has_ident ident k)) p.base.records kept there).0;
})
come_step kind base p so changed (passed lenient is) = subst (λ (ch : Changed). Come base (counted ch.0 p ch.1)) (sym is) (record { last = so.last; each = so.each })

pub all_come : (c : Conditions) (kind : Kind) (files : List Split) (base : Base) (p : Progress) → FoldsTo c kind files base p
    → (kept : Kept) → Contains p.base.records kept → HasNamesake base.records kept ⊎ (base.last < kept.sysno)
all_come c kind files base p is kept there =
    let all = files_keep c kind (Come base) (λ q changed did so. come_step kind base q so changed did) 1 files (at_first base) p is
    (record { last = omega arith; each = λ k h. inl (k, h, refl, refl) }) in
    elim (all.each kept (has_contained p.base.records kept there)) [
      | inl like ↦ inl (like.0, contains_had base.records like.0 like.1, like.2, like.3)
      | inr later ↦ inr later
    ]

-- A database is made: the tables are then the image of one database more.
use Rattle.zeb_engine.proofs.Cited.{◌≡◌, ◌≢◌, ◌⊎◌, ◌∙◌, ℕ, ℤ, pos, cond, List, [], ◌∷◌, None, refl, sym, ap, subst, inl, inr, arith, Contains, bytes_eq, bytes_eq-Decides, Int, Trees, Has, has_contained, contains_had, Directive, Content, PutsDatabase, HasDatabase, KeepsRegisters, record_row, Base, new_base, base_named, IsDatabaseName, AreBases, AreListed, IsImageOf, AreKept, IsBase, bytes_other, named_none, with_base_has, with_base_in_order, none_in, Format, holds_in, with_base}
use Rattle.std.specs.List.Sorted.{IsStrictlySortedBy}

-- what a new database has
none_wrong : (profile : List Directive) (name : List ℕ) → IsBase profile (new_base name)
unfolding IsStrictlySortedBy
none_wrong profile name = record {
  rising = tt;
  from_one = λ kept there. absurd (has_contained [] kept there);
  to_last = λ kept there. absurd (has_contained [] kept there);
  few = omega arith;
  single = λ a b there. absurd (has_contained [] a there);
  sound = λ kept there. absurd (has_contained [] kept there);
}

pub with_new_base : (profile : List Directive) (name : List ℕ) → IsDatabaseName name → (bases : List Base) → AreBases profile bases → AreBases profile (with_base (new_base name) bases)
with_new_base profile name named bases are = record {
  rising = with_base_in_order (new_base name) bases are.rising;
  each = λ base there. elim ((with_base_has (new_base name) bases base are.rising).0 (has_contained (with_base (new_base name) bases) base there)) [
    | inl new ↦ subst (IsBase profile) (sym new) (none_wrong profile name)
    | inr old ↦ are.each base (contains_had bases base old.0)
  ];
  named = λ base there. elim ((with_base_has (new_base name) bases base are.rising).0 (has_contained (with_base (new_base name) bases) base there)) [
    | inl new ↦ subst (λ (b : Base). IsDatabaseName b.name) (sym new) named
    | inr old ↦ are.named base (contains_had bases base old.0)
  ];
}

pub new_base_in : (profile : List Directive) (name : List ℕ) (bases : List Base) → AreBases profile bases → Contains (with_base (new_base name) bases) (new_base name)
new_base_in profile name bases are = contains_had (with_base (new_base name) bases) (new_base name) ((with_base_has (new_base name) bases (new_base name) are.rising).1 (inl refl))

module _ (format : Format) (stays : (a b : Trees) (content : Content) → KeepsRegisters a b → holds_in format a content → holds_in format b content) (profile : List Directive) (old new : Trees) (name : List ℕ) (bases : List Base)
    (image : IsImageOf format profile old bases) (are : AreBases profile bases) (absent : base_named name bases ≡ None) (id : ℤ) (put : PutsDatabase id name (pos 0) 2 old new) (records : new 4 ≡ old 4) (registers : KeepsRegisters old new) where
  id_then : List ℕ → ℤ
  id_then n = cond (bytes_eq n name) id (image.lists.id_of n)

  here : (n : List ℕ) → n ≡ name → id_then n ≡ id
  unfolding id_then
  here n same = ap (λ b. cond b id (image.lists.id_of n)) ((bytes_eq-Decides n name).1 same)

  elsewhere : (n : List ℕ) → n ≢ name → id_then n ≡ image.lists.id_of n
  unfolding id_then
  elsewhere n other = ap (λ b. cond b id (image.lists.id_of n)) (bytes_other n name other)

  other_name : (base : Base) → Contains bases base → base.name ≢ name
  other_name base there = named_none name bases base absent (has_contained bases base there)

  row_of : (base : Base) → Contains bases base → HasDatabase old (image.lists.id_of base.name) base.name (pos base.last)
  row_of base there = (image.lists.listed (image.lists.id_of base.name) base.name (pos base.last)).1 (base, there, refl, refl, refl)

  free : (base : Base) → Contains bases base → id ≢ image.lists.id_of base.name
  free base there same = other_name base there (put.own base.name (pos base.last) (subst (λ i. HasDatabase old i base.name (pos base.last)) (sym same) (row_of base there)))

  among : (base : Base) → Contains (with_base (new_base name) bases) base → (base ≡ new_base name) ⊎ (Contains bases base × (base.name ≢ name))
  among base there = elim ((with_base_has (new_base name) bases base are.rising).0 (has_contained (with_base (new_base name) bases) base there)) [
    | inl one ↦ inl one
    | inr kept ↦ inr (contains_had bases base kept.0, kept.1)
  ]

  kept_there : (base : Base) → Contains bases base → Contains (with_base (new_base name) bases) base
  kept_there base there = contains_had (with_base (new_base name) bases) base ((with_base_has (new_base name) bases base are.rising).1 (inr (has_contained bases base there, other_name base there)))

  name_of : (base : Base) → base ≡ new_base name → base.name ≡ name
  name_of base one = ap (λ (b : Base). b.name) one

  apart : (a b : Base) → Contains (with_base (new_base name) bases) a → Contains (with_base (new_base name) bases) b → id_then a.name ≡ id_then b.name → a.name ≡ b.name
  apart a b in_a in_b same = elim (among a in_a) [
    | inl one ↦ elim (among b in_b) [
      | inl two ↦ name_of a one ∙ sym (name_of b two)
      | inr two ↦ absurd (free b two.0 (sym (here a.name (name_of a one)) ∙ same ∙ elsewhere b.name two.1))
    ]
    | inr one ↦ elim (among b in_b) [
      | inl two ↦ absurd (free a one.0 (sym (here b.name (name_of b two)) ∙ sym same ∙ elsewhere a.name one.1))
      | inr two ↦ image.lists.distinct a b one.0 two.0 (sym (elsewhere a.name one.1) ∙ same ∙ elsewhere b.name two.1)
    ]
  ]

  listed_then : AreListed new (with_base (new_base name) bases) id_then
  listed_then i n l = (
    λ there. elim ((put.each i n l).0 there) [
      | inl kept ↦ let found = (image.lists.listed i n l).0 kept.0 in
          (found.0, kept_there found.0 found.1, found.2 ∙ sym (elsewhere found.0.name (other_name found.0 found.1)), found.3, found.4)
      | inr made ↦ (new_base name, new_base_in profile name bases are, made.0 ∙ sym (here name refl), made.1, made.2)
    ],
    λ found. elim (among found.0 found.1) [
      | inl one ↦ (put.each i n l).1 (inr (found.2 ∙ here found.0.name (name_of found.0 one), found.3 ∙ name_of found.0 one, found.4 ∙ ap (λ (b : Base). pos b.last) one))
      | inr kept ↦ (put.each i n l).1 (inl ((image.lists.listed i n l).1 (found.0, kept.0, found.2 ∙ elsewhere found.0.name kept.1, found.3, found.4), λ same. kept.1 (sym found.3 ∙ same)))
    ],
  )

  kept_then : AreKept new image.lists.records_of
  kept_then i sysno ident bytes = (
    λ there. (image.lists.kept i sysno ident bytes).0 (there.0, subst (λ rows. Has rows (Int there.0 ∷ record_row i sysno ident bytes)) records there.1),
    λ found. let there = (image.lists.kept i sysno ident bytes).1 found in (there.0, subst (λ rows. Has rows (Int there.0 ∷ record_row i sysno ident bytes)) (sym records) there.1),
  )

  pub created_image : IsImageOf format profile new (with_base (new_base name) bases)
  created_image = record {
    lists = record {
      id_of = id_then;
      records_of = image.lists.records_of;
      distinct = apart;
      listed = listed_then;
      of_base = λ base there. elim (among base there) [
        | inl one ↦ ap image.lists.records_of (here base.name (name_of base one)) ∙ none_in (image.lists.records_of id) (image.lists.of_none id free) ∙ sym (ap (λ (b : Base). b.records) one)
        | inr kept ↦ ap image.lists.records_of (elsewhere base.name kept.1) ∙ image.lists.of_base base kept.0
      ];
      of_none = λ i none. image.lists.of_none i (λ base there same. none base (kept_there base there) (same ∙ sym (elsewhere base.name (other_name base there))));
      kept = kept_then;
    };
    content = image.content;
    held = stays old new image.content registers image.held;
    posted = image.posted;
  }

-- A database is taken away with its records and postings: the tables are then the image of one database less.
use Rattle.zeb_engine.proofs.Cited.{◌≡◌, ◌≢◌, ◌↔◌, ◌∙◌, ℕ, ℤ, pos, cond, List, [], Some, sym, ap, subst, inl, inr, Contains, int_eq, Int, Trees, Has, has_contained, contains_had, Key, Directive, Content, HasRisingLists, IsWithout, posting_cmp, Posting, Loses, HasDatabase, IsOfDatabase, TakesDatabase, record_row, Base, Kept, base_named, without_base, AreBases, AreListed, IsImageOf, AreKept, ArePosted, named_found, without_base_has, without_base_in_order, id_same, id_other, ids_told, Format, holds_in}
use Rattle.std.specs.List.Sorted.{IsStrictlySortedBy}

pub without_bases : (profile : List Directive) (name : List ℕ) (bases : List Base) → AreBases profile bases → AreBases profile (without_base name bases)
without_bases profile name bases are = record {
  rising = without_base_in_order name bases are.rising;
  each = λ base there. are.each base (contains_had bases base ((without_base_has name bases base).0 (has_contained (without_base name bases) base there)).0);
  named = λ base there. are.named base (contains_had bases base ((without_base_has name bases base).0 (has_contained (without_base name bases) base there)).0);
}

-- the content without the lists of one database
content_without : ℤ → Content → Content
content_without id content d key = cond (int_eq d id) [] (content d key)

module _ (id : ℤ) (content : Content) where
  lists_here : (d : ℤ) (key : Key) → d ≡ id → content_without id content d key ≡ []
  unfolding content_without
  lists_here d key same = ap (λ b. cond b [] (content d key)) (id_same d id same)

  lists_else : (d : ℤ) (key : Key) → d ≢ id → content_without id content d key ≡ content d key
  unfolding content_without
  lists_else d key other = ap (λ b. cond b [] (content d key)) (id_other d id other)

  no_posting : IsStrictlySortedBy posting_cmp []
  unfolding IsStrictlySortedBy
  no_posting = tt

  without_rises : HasRisingLists content → HasRisingLists (content_without id content)
  without_rises up d key = elim (ids_told d id) [
    | inl same ↦ subst (IsStrictlySortedBy posting_cmp) (sym (lists_here d key same)) no_posting
    | inr other ↦ subst (IsStrictlySortedBy posting_cmp) (sym (lists_else d key other)) (up d key)
  ]

  without_has : (d : ℤ) (key : Key) (p : Posting) → Has (content_without id content d key) p ↔ (Has (content d key) p × (d ≢ id))
  without_has d key p = (
    λ there. elim (ids_told d id) [
      | inl same ↦ absurd (subst (λ l. Has l p) (lists_here d key same) there)
      | inr other ↦ (subst (λ l. Has l p) (lists_else d key other) there, other)
    ],
    λ kept. subst (λ l. Has l p) (sym (lists_else d key kept.1)) kept.0,
  )

  is_without : HasRisingLists content → IsWithout id content (content_without id content)
  is_without up = record { rising = without_rises up; left = without_has }

module _ (format : Format) (profile : List Directive) (old new : Trees) (name : List ℕ) (bases : List Base) (base : Base) (image : IsImageOf format profile old bases) (are : AreBases profile bases)
    (found : base_named name bases ≡ Some base) (id : ℤ) (row : HasDatabase old id base.name (pos base.last)) (databases : TakesDatabase id 2 old new) (records : Loses (IsOfDatabase id) 4 old new)
    (registers : (before after : Content) → holds_in format old before → IsWithout id before after → holds_in format new after) where
  its_id : id ≡ image.lists.id_of base.name
  its_id = let told = (image.lists.listed id base.name (pos base.last)).0 row in told.2 ∙ ap image.lists.id_of (sym told.3)

  base_in : Contains bases base
  base_in = contains_had bases base (named_found name bases base found).0

  its_name : name ≡ base.name
  its_name = (named_found name bases base found).1

  only : (other : Base) → Contains bases other → other.name ≡ name → image.lists.id_of other.name ≡ id
  only other there same = ap image.lists.id_of (same ∙ its_name) ∙ sym its_id

  id_differs : (other : Base) → Contains bases other → other.name ≢ name → image.lists.id_of other.name ≢ id
  id_differs other there differs same = differs (image.lists.distinct other base there base_in (same ∙ its_id) ∙ sym its_name)

  among : (other : Base) → Contains (without_base name bases) other → Contains bases other × (other.name ≢ name)
  among other there = let kept = (without_base_has name bases other).0 (has_contained (without_base name bases) other there) in (contains_had bases other kept.0, kept.1)

  kept_in : (other : Base) → Contains bases other → other.name ≢ name → Contains (without_base name bases) other
  kept_in other there differs = contains_had (without_base name bases) other ((without_base_has name bases other).1 (has_contained bases other there, differs))

  records_then : ℤ → List Kept
  records_then i = cond (int_eq i id) [] (image.lists.records_of i)

  records_here : (i : ℤ) → i ≡ id → records_then i ≡ []
  unfolding records_then
  records_here i same = ap (λ b. cond b [] (image.lists.records_of i)) (id_same i id same)

  records_else : (i : ℤ) → i ≢ id → records_then i ≡ image.lists.records_of i
  unfolding records_then
  records_else i other = ap (λ b. cond b [] (image.lists.records_of i)) (id_other i id other)

  kept_has : (i : ℤ) (kept : Kept) → Contains (records_then i) kept ↔ (Contains (image.lists.records_of i) kept × (i ≢ id))
  kept_has i kept = (
    λ there. elim (ids_told i id) [
      | inl same ↦ absurd (has_contained [] kept (subst (λ l. Contains l kept) (records_here i same) there))
      | inr other ↦ (subst (λ l. Contains l kept) (records_else i other) there, other)
    ],
    λ both. subst (λ l. Contains l kept) (sym (records_else i both.1)) both.0,
  )

  listed_then : AreListed new (without_base name bases) image.lists.id_of
  listed_then i n l = (
    λ there. let was = (databases i n l).0 there in
        let told = (image.lists.listed i n l).0 was.0 in
        (told.0, kept_in told.0 told.1 (λ same. was.1 (told.2 ∙ only told.0 told.1 same)), told.2, told.3, told.4),
    λ told. let kept = among told.0 told.1 in
        (databases i n l).1 ((image.lists.listed i n l).1 (told.0, kept.0, told.2, told.3, told.4), λ same. id_differs told.0 kept.0 kept.1 (sym told.2 ∙ same)),
  )

  int_inside : (a b : ℤ) → Int a ≡ Int b → a ≡ b
  int_inside a b same = cc

  kept_then : AreKept new records_then
  kept_then i sysno ident bytes = (
    λ there. let was = (records (record_row i sysno ident bytes)).0 there in
        let told = (image.lists.kept i sysno ident bytes).0 was.0 in
        (told.0, (kept_has i told.0).1 (told.1, λ same. was.1 (ap Int same)), told.2, told.3, told.4),
    λ told. let kept = (kept_has i told.0).0 told.1 in
        (records (record_row i sysno ident bytes)).1 ((image.lists.kept i sysno ident bytes).1 (told.0, kept.0, told.2, told.3, told.4), λ same. kept.1 (int_inside i id same)),
  )

  posted_then : ArePosted profile records_then (content_without id image.content)
  posted_then = record {
    rising = without_rises id image.content image.posted.rising;
    each = λ i n o. (
      λ there. let was = (without_has id image.content i o.key (record { sysno = n; seq = o.seq; pos = o.pos })).0 there in
          let told = (image.posted.each i n o).0 was.0 in
          (told.0, (kept_has i told.0).1 (told.1, was.1), told.2, told.3),
      λ told. let kept = (kept_has i told.0).0 told.1 in
          (without_has id image.content i o.key (record { sysno = n; seq = o.seq; pos = o.pos })).1 ((image.posted.each i n o).1 (told.0, kept.0, told.2, told.3), kept.1),
    );
  }

  pub dropped_image : IsImageOf format profile new (without_base name bases)
  dropped_image = record {
    lists = record {
      id_of = image.lists.id_of;
      records_of = records_then;
      distinct = λ a b in_a in_b same. image.lists.distinct a b (among a in_a).0 (among b in_b).0 same;
      listed = listed_then;
      of_base = λ other there. let kept = among other there in records_else (image.lists.id_of other.name) (id_differs other kept.0 kept.1) ∙ image.lists.of_base other kept.0;
      of_none = λ i none kept there. let was = (kept_has i kept).0 there in
          image.lists.of_none i (λ other in_bases same. none other (kept_in other in_bases (λ named. was.1 (same ∙ only other in_bases named))) same) kept was.0;
      kept = kept_then;
    };
    content = content_without id image.content;
    held = registers image.content (content_without id image.content) image.held (is_without id image.content image.posted.rising);
    posted = posted_then;
  }

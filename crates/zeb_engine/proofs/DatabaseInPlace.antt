-- A database in the place of the one that has its name: the tables are then the image of the databases with it.
use Rattle.zeb_engine.proofs.Cited.{◌≡◌, ◌≢◌, ◌⊎◌, ◌∙◌, ℕ, ℤ, pos, Bool, List, [], ◌∷◌, refl, sym, ap, subst, inl, inr, Ordering, Less, Equal, Greater, if◌then◌else◌, tied_itself, slice_cmp, nat_list_cmp_total, Contains, nat_cmp, Int, Null, Text, Trees, Has, has_contained, contains_had, Directive, PutsDatabase, Content, HasDatabase, KeepsRegisters, databases_tree, Base, Kept, base_placed, IsDatabaseName, AreBases, AreListed, IsImageOf, AreStored, IsBase, with_records, bytes_told, name_order, with_base_has, with_base_in_order, id_same, id_other, ids_told, same_kept, Format, holds_in}
use Rattle.zeb_image.specs.Holdings.{with_base}

-- ---- one put over the other, of the same name

module _ (one two : Base) (same : one.name ≡ two.name) where
  tied : name_order one two ≡ Equal
  tied = ap (slice_cmp nat_cmp one.name) (sym same) ∙ tied_itself nat_list_cmp_total one.name

  placed_twice : (first : Base) (rest : List Base) → with_base one (with_base two rest) ≡ with_base one rest → (r : Ordering) → name_order one first ≡ r
      → with_base one (base_placed r two first rest (with_base two rest)) ≡ base_placed r one first rest (with_base one rest)
  unfolding with_base
  placed_twice first rest behind Less is = ap (λ o. base_placed o one two (first ∷ rest) (with_base one (first ∷ rest))) tied
  placed_twice first rest behind Equal is = ap (λ o. base_placed o one two rest (with_base one rest)) tied
  placed_twice first rest behind Greater is = ap (λ o. base_placed o one first (with_base two rest) (with_base one (with_base two rest))) is ∙ ap (λ l. first ∷ l) behind

  pub base_twice : (bases : List Base) → with_base one (with_base two bases) ≡ with_base one bases
  unfolding with_base
  base_twice [] = ap (λ o. base_placed o one two [] (one ∷ [])) tied
  base_twice (first ∷ rest) =
      ap (λ o. with_base one (base_placed o two first rest (with_base two rest))) (sym (ap (λ n. slice_cmp nat_cmp n first.name) same)) ∙ placed_twice first rest (base_twice rest) (name_order one first) refl

-- ---- the records of one database

module _ (id : ℤ) (records : List Kept) (records_of : ℤ → List Kept) where
  pub records_here : (i : ℤ) → i ≡ id → with_records id records records_of i ≡ records
  records_here i same = ap (λ (b : Bool). if b then records else records_of i) (id_same i id same)

  pub records_else : (i : ℤ) → i ≢ id → with_records id records records_of i ≡ records_of i
  records_else i other = ap (λ (b : Bool). if b then records else records_of i) (id_other i id other)

module _ (format : Format) (profile : List Directive) (bases : List Base) (base : Base) (there : Contains bases base) where
  -- the tables hold what they did before any record of the database was changed
  pub stored_at_first : (trees : Trees) (image : IsImageOf format profile trees bases) (id : ℤ) → id ≡ image.lists.id_of base.name → AreStored format profile trees (with_records id base.records image.lists.records_of)
  stored_at_first trees image id is = subst (AreStored format profile trees) (sym (λ i x. each x i)) (record { kept = image.lists.kept; content = image.content; held = image.held; posted = image.posted })
    where
      each : (x : ℤ) → with_records id base.records image.lists.records_of x ≡ image.lists.records_of x
      each x = elim (ids_told x id) [
        | inl same ↦ records_here id base.records image.lists.records_of x same ∙ sym (image.lists.of_base base there) ∙ ap image.lists.records_of (sym (same ∙ is))
        | inr other ↦ records_else id base.records image.lists.records_of x other
      ]

  module _ (are : AreBases profile bases) (next : Base) (named : next.name ≡ base.name) where
    among : (z : Base) → Contains (with_base next bases) z → (z ≡ next) ⊎ (Contains bases z × (z.name ≢ next.name))
    among z h = elim ((with_base_has next bases z are.rising).0 (has_contained (with_base next bases) z h)) [
      | inl one ↦ inl one
      | inr kept ↦ inr (contains_had bases z kept.0, kept.1)
    ]

    pub next_in : Contains (with_base next bases) next
    next_in = contains_had (with_base next bases) next ((with_base_has next bases next are.rising).1 (inl refl))

    others_in : (z : Base) → Contains bases z → z.name ≢ next.name → Contains (with_base next bases) z
    others_in z h other = contains_had (with_base next bases) z ((with_base_has next bases z are.rising).1 (inr (has_contained bases z h, other)))

    name_of : (z : Base) → z ≡ next → z.name ≡ next.name
    name_of z one = ap (λ (b : Base). b.name) one

    -- the database that had the name
    elder : (z : Base) → Contains (with_base next bases) z → (e : Base) × Contains bases e × (e.name ≡ z.name)
    elder z h = elim (among z h) [
      | inl one ↦ (base, there, sym (name_of z one ∙ named))
      | inr kept ↦ (z, kept.0, refl)
    ]

    pub bases_with : IsBase profile next → AreBases profile (with_base next bases)
    bases_with is = record {
      rising = with_base_in_order next bases are.rising;
      each = λ z h. elim (among z h) [
        | inl one ↦ subst (IsBase profile) (sym one) is
        | inr kept ↦ are.each z kept.0
      ];
      named = λ z h. elim (among z h) [
        | inl one ↦ subst IsDatabaseName (sym (name_of z one ∙ named)) (are.named base there)
        | inr kept ↦ are.named z kept.0
      ];
    }

    module _ (stays : (a b : Trees) (content : Content) → KeepsRegisters a b → holds_in format a content → holds_in format b content) (old now new : Trees) (image : IsImageOf format profile old bases) (id : ℤ) (its_id : id ≡ image.lists.id_of base.name)
        (stored : AreStored format profile now (with_records id next.records image.lists.records_of)) (names : now databases_tree ≡ old databases_tree)
        (put_id : ℤ) (put : PutsDatabase put_id next.name (pos next.last) databases_tree now new) (records : new 4 ≡ now 4) (registers : KeepsRegisters now new) where
      there_now : (i : ℤ) (n : List ℕ) (l : ℤ) → HasDatabase old i n l → HasDatabase now i n l
      there_now i n l h = subst (λ rows. Has rows (Int i ∷ Null ∷ Text n ∷ Int l ∷ [])) (sym names) h

      there_before : (i : ℤ) (n : List ℕ) (l : ℤ) → HasDatabase now i n l → HasDatabase old i n l
      there_before i n l h = subst (λ rows. Has rows (Int i ∷ Null ∷ Text n ∷ Int l ∷ [])) names h

      same_id : put_id ≡ image.lists.id_of next.name
      same_id = sym (put.kept id (pos base.last) (there_now id next.name (pos base.last) ((image.lists.listed id next.name (pos base.last)).1 (base, there, its_id, named, refl)))) ∙ its_id ∙ ap image.lists.id_of (sym named)

      listed_then : AreListed new (with_base next bases) image.lists.id_of
      listed_then i n l = (
        λ h. elim ((put.each i n l).0 h) [
          | inl kept ↦ let found = (image.lists.listed i n l).0 (there_before i n l kept.0) in
              (found.0, others_in found.0 found.1 (λ same. kept.1 (found.3 ∙ same)), found.2, found.3, found.4)
          | inr made ↦ (next, next_in, made.0 ∙ same_id, made.1, made.2)
        ],
        λ found. elim (among found.0 found.1) [
          | inl one ↦ (put.each i n l).1 (inr (found.2 ∙ ap image.lists.id_of (name_of found.0 one) ∙ sym same_id, found.3 ∙ name_of found.0 one, found.4 ∙ ap (λ (b : Base). pos b.last) one))
          | inr kept ↦ (put.each i n l).1 (inl (there_now i n l ((image.lists.listed i n l).1 (found.0, kept.0, found.2, found.3, found.4)), λ same. kept.1 (sym found.3 ∙ same)))
        ],
      )

      -- a database of another name has another id
      apart : (z : Base) → Contains bases z → z.name ≢ next.name → image.lists.id_of z.name ≢ id
      apart z h other same = other (image.lists.distinct z base h there (same ∙ its_id) ∙ sym named)

      pub image_with : IsImageOf format profile new (with_base next bases)
      image_with = record {
        lists = record {
          id_of = image.lists.id_of;
          records_of = with_records id next.records image.lists.records_of;
          distinct = λ a b in_a in_b same.
              let e = elder a in_a in
              let f = elder b in_b in
              sym e.2 ∙ image.lists.distinct e.0 f.0 e.1 f.1 (ap image.lists.id_of e.2 ∙ same ∙ sym (ap image.lists.id_of f.2)) ∙ f.2;
          listed = listed_then;
          of_base = λ z h. elim (among z h) [
            | inl one ↦ records_here id next.records image.lists.records_of (image.lists.id_of z.name) (ap image.lists.id_of (name_of z one ∙ named) ∙ sym its_id) ∙ sym (ap (λ (b : Base). b.records) one)
            | inr kept ↦ records_else id next.records image.lists.records_of (image.lists.id_of z.name) (apart z kept.0 kept.1) ∙ image.lists.of_base z kept.0
          ];
          of_none = λ i none kept held.
              let other : i ≢ id = λ same. none next next_in (same ∙ its_id ∙ ap image.lists.id_of (sym named)) in
              image.lists.of_none i (λ z h same. elim (bytes_told z.name next.name) [
                | inl one ↦ none next next_in (same ∙ ap image.lists.id_of one)
                | inr differs ↦ none z (others_in z h differs) same
              ]) kept (subst (λ l. Contains l kept) (records_else id next.records image.lists.records_of i other) held);
          kept = same_kept now new (with_records id next.records image.lists.records_of) records stored.kept;
        };
        content = stored.content;
        held = stays now new stored.content registers stored.held;
        posted = stored.posted;
      }

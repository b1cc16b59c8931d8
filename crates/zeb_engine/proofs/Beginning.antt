-- The texts of a register, and the tables that `init` leaves.
use Rattle.zeb_engine.proofs.Cited.{◌≡◌, ◌≢◌, ◌⊎◌, ◌∙◌, ℕ, pos, List, [], ◌∷◌, codes, get_or, Some, refl, sym, ap, subst, inl, inr, arith, IsUtf8, option_map, Int, Null, Text, Trees, State, Has, has_contained, Directive, identifier_pattern, canonical_text, pattern_text, posting_cmp, HasRow, Replaces, IsEmptyStore, Changes, LacksRegisters, meta_tree, entry, IsEntryOf, record_row, IsProfile, registers_empty, Conditions, AreSessions, HasTexts, AreBases, IsImage, IsImageOf, holding, AreOf, PutsTexts, Format, holds_in, version_of}
use Rattle.std.specs.List.Sorted.{IsStrictlySortedBy}
use Rattle.zeb_engine.proofs.ReadyImages.{ready_image}

-- the rows of the texts are told by their table alone
pub texts_still : (old new : Trees) (version text pattern : List ℕ) → new meta_tree ≡ old meta_tree → HasTexts old version text pattern → HasTexts new version text pattern
texts_still old new version text pattern same texts = record {
  readable = texts.readable;
  each = λ name value. (
    λ there. (texts.each name value).0 (there.0, subst (λ rows. Has rows (Int there.0 ∷ entry name value)) same there.1),
    λ is. let there = (texts.each name value).1 is in (there.0, subst (λ rows. Has rows (Int there.0 ∷ entry name value)) (sym same) there.1),
  );
}

pub text_inside : (a b : List ℕ) → Text a ≡ Text b → a ≡ b
text_inside a b same = cc

pub entry_inside : (a b v w : List ℕ) → entry a v ≡ entry b w → (a ≡ b) × (v ≡ w)
entry_inside a b v w same = (cc, cc)

module _ (a b c d : State) (v t p : List ℕ) (readable : IsUtf8 v × IsUtf8 t × IsUtf8 p) (none : a.now.trees meta_tree ≡ [])
    (one : Changes meta_tree (Replaces (IsEntryOf (codes "version")) (entry (codes "version") v)) a b)
    (two : Changes meta_tree (Replaces (IsEntryOf (codes "profile")) (entry (codes "profile") t)) b c)
    (three : Changes meta_tree (Replaces (IsEntryOf (codes "identifier")) (entry (codes "identifier") p)) c d) where
  profile_apart : Text (codes "version") ≢ Text (codes "profile")
  profile_apart same = let e : 118 ≡ 112 = ap (λ (l : List ℕ). get_or l 0 0) (text_inside (codes "version") (codes "profile") same) in omega (arith, e)

  identifier_apart : Text (codes "version") ≢ Text (codes "identifier")
  identifier_apart same = let e : 118 ≡ 105 = ap (λ (l : List ℕ). get_or l 0 0) (text_inside (codes "version") (codes "identifier") same) in omega (arith, e)

  apart : Text (codes "profile") ≢ Text (codes "identifier")
  apart same = let e : 112 ≡ 105 = ap (λ (l : List ℕ). get_or l 0 0) (text_inside (codes "profile") (codes "identifier") same) in omega (arith, e)

  version_row : HasRow d.now.trees meta_tree (entry (codes "version") v)
  version_row = (three.rows (entry (codes "version") v)).1 (inl ((two.rows (entry (codes "version") v)).1 (inl ((one.rows (entry (codes "version") v)).1 (inr refl), profile_apart)), identifier_apart))

  profile_row : HasRow d.now.trees meta_tree (entry (codes "profile") t)
  profile_row = (three.rows (entry (codes "profile") t)).1 (inl ((two.rows (entry (codes "profile") t)).1 (inr refl), apart))

  identifier_row : HasRow d.now.trees meta_tree (entry (codes "identifier") p)
  identifier_row = (three.rows (entry (codes "identifier") p)).1 (inr refl)

  no_row : (name value : List ℕ) → ¬ HasRow a.now.trees meta_tree (entry name value)
  no_row name value there = subst (λ rows. Has rows (Int there.0 ∷ entry name value)) none there.1

  row_is : (name value : List ℕ) → HasRow d.now.trees meta_tree (entry name value)
      → ((name ≡ codes "version") × (value ≡ v)) ⊎ (((name ≡ codes "profile") × (value ≡ t)) ⊎ ((name ≡ codes "identifier") × (value ≡ p)))
  row_is name value there = elim ((three.rows (entry name value)).0 there) [
    | inr last ↦ inr (inr (entry_inside name (codes "identifier") value p last))
    | inl before ↦ elim ((two.rows (entry name value)).0 before.0) [
      | inr last ↦ inr (inl (entry_inside name (codes "profile") value t last))
      | inl earlier ↦ elim ((one.rows (entry name value)).0 earlier.0) [
        | inr last ↦ inl (entry_inside name (codes "version") value v last)
        | inl was ↦ absurd (no_row name value was.0)
      ]
    ]
  ]

  row_at : (name value n x : List ℕ) → (name ≡ n) × (value ≡ x) → HasRow d.now.trees meta_tree (entry n x) → HasRow d.now.trees meta_tree (entry name value)
  row_at name value n x same there = (there.0, subst (λ m. Has (d.now.trees meta_tree) (Int there.0 ∷ entry m value)) (sym same.0) (subst (λ w. Has (d.now.trees meta_tree) (Int there.0 ∷ entry n w)) (sym same.1) there.1))

  pub texts_put : PutsTexts v t p a d
  texts_put = record {
    store = three.layout;
    texts = record {
      readable = readable;
      each = λ name value. (
        row_is name value,
        λ is. elim is [
          | inl version ↦ row_at name value (codes "version") v version version_row
          | inr other ↦ elim other [ inl profile ↦ row_at name value (codes "profile") t profile profile_row | inr identifier ↦ row_at name value (codes "identifier") p identifier identifier_row ]
        ],
      );
    };
    others = (
      three.others.1.0 (λ e. absurd (omega (arith, e))) ∙ two.others.1.0 (λ e. absurd (omega (arith, e))) ∙ one.others.1.0 (λ e. absurd (omega (arith, e))),
      three.others.1.1.0 (λ e. absurd (omega (arith, e))) ∙ two.others.1.1.0 (λ e. absurd (omega (arith, e))) ∙ one.others.1.1.0 (λ e. absurd (omega (arith, e))),
      three.others.1.1.1.0 (λ e. absurd (omega (arith, e))) ∙ two.others.1.1.1.0 (λ e. absurd (omega (arith, e))) ∙ one.others.1.1.1.0 (λ e. absurd (omega (arith, e))),
      three.others.1.1.1.1.0 (λ e. absurd (omega (arith, e))) ∙ two.others.1.1.1.1.0 (λ e. absurd (omega (arith, e))) ∙ one.others.1.1.1.1.0 (λ e. absurd (omega (arith, e))),
      three.others.1.1.1.1.1.0 (λ e. absurd (omega (arith, e))) ∙ two.others.1.1.1.1.1.0 (λ e. absurd (omega (arith, e))) ∙ one.others.1.1.1.1.1.0 (λ e. absurd (omega (arith, e))),
    );
  }

-- ---- no database

pub no_bases : (profile : List Directive) → AreBases profile []
unfolding IsStrictlySortedBy
no_bases profile = record { rising = tt; each = λ base there. absurd (has_contained [] base there); named = λ base there. absurd (has_contained [] base there) }

no_posting : IsStrictlySortedBy posting_cmp []
unfolding IsStrictlySortedBy
no_posting = tt

module _ (format : Format) (empty : (trees : Trees) → LacksRegisters trees → holds_in format trees (λ _ _. [])) (profile : List Directive) (trees : Trees) (no_names : trees 2 ≡ []) (no_records : trees 4 ≡ []) (none : LacksRegisters trees) where
  pub empty_image : IsImageOf format profile trees []
  empty_image = record {
    lists = record {
      id_of = λ _. pos 0;
      records_of = λ _. [];
      distinct = λ a b there. absurd (has_contained [] a there);
      listed = λ id name last. (λ there. absurd (subst (λ rows. Has rows (Int id ∷ Null ∷ Text name ∷ Int last ∷ [])) no_names there), λ found. absurd (has_contained [] found.0 found.1));
      of_base = λ base there. absurd (has_contained [] base there);
      of_none = λ id _ kept there. has_contained [] kept there;
      kept = λ id sysno ident bytes. (λ there. absurd (subst (λ rows. Has rows (Int there.0 ∷ record_row id sysno ident bytes)) no_records there.1), λ found. absurd (has_contained [] found.0 found.1));
    };
    content = λ _ _. [];
    held = empty trees none;
    posted = record { rising = λ id key. no_posting; each = λ id key p. (λ there. absurd there, λ found. absurd (has_contained [] found.0 found.1)) };
  }

-- whatever rows there were
pub begun_image : (format : Format) (version : List ℕ) → version ≡ version_of format → (profile : List Directive) (pattern : List ℕ) (mid new : State)
    → IsEmptyStore mid → PutsTexts version (canonical_text profile) pattern mid new → (c : Conditions) → AreOf version profile pattern c → IsImage new.now.trees (holding c [])
begun_image format version version_is profile pattern mid new wiped put c of =
    let texts = subst (λ v. HasTexts new.now.trees v (canonical_text c.profile) pattern) (sym of.version_is) (subst (λ q. HasTexts new.now.trees version (canonical_text q) pattern) (sym of.profile_is) put.texts) in
    let session : AreSessions format c = record { version_is = of.version_is ∙ version_is; sound = subst (λ (p : List Directive). ∥ IsProfile p ∥₁) (sym of.profile_is) of.sound } in
    let rows = wiped.2 in
    ready_image format c session new.now.trees [] (record {
      pattern = pattern;
      pattern_is = subst (λ q. option_map pattern_text (identifier_pattern q) ≡ Some pattern) (sym of.profile_is) of.pattern_is;
      texts = texts;
      are = no_bases c.profile;
      image = empty_image format (registers_empty format) c.profile new.now.trees (put.others.0 ∙ rows.1.0) (put.others.1 ∙ rows.1.1.0) (put.others.2 ∙ rows.1.1.1.0, put.others.3 ∙ rows.1.1.1.1.0, put.others.4 ∙ rows.1.1.1.1.1.0);
    })

-- Two profiles that say the same have the same images.
use Rattle.zeb_image.proofs.Cited.{◌≡◌, ◌∙◌, ℕ, ℤ, List, sym, ap, subst, ∥∥₁_elim, Contains, option_and_then, option_map, Trees, units_of, fields_of, Directive, canonical_text, pattern_text, identifier_pattern, IsProfile, SaysTheSame, one_text_says_the_same, SaysTheSame-prop, Occurrence, first_fitting, held_in, Content, OccursIn, ident_in, Base, Kept, AreBases, IsImageOf, IsImageUnder, ArePosted, IsBase, IsKept, Format}

turned_round : (one other : List Directive) → SaysTheSame one other → SaysTheSame other one
turned_round one other same = record {
  names = sym same.names;
  uses = λ number. sym (same.uses number);
  pairs = sym same.pairs;
  targets = λ tag code. sym (same.targets tag code);
  identifier = sym same.identifier;
}

occurs_so : (one other : List Directive) → SaysTheSame one other → (kept : Kept) (o : Occurrence) → OccursIn one kept o → OccursIn other kept o
occurs_so one other same kept o is = record {
  unit = is.unit;
  in_record = is.in_record;
  same_seq = is.same_seq;
  in_target = subst (λ targets. Contains targets (o.key.index, o.key.register)) (same.targets is.unit.tag is.unit.code) is.in_target;
  in_unit = is.in_unit;
}

-- databases under a profile with the same rule for identifiers
module _ (one other : List Directive) (same : identifier_pattern one ≡ identifier_pattern other) where
  ident_so : (bytes : List ℕ) → ident_in one bytes ≡ ident_in other bytes
  ident_so bytes = ap (λ rule. held_in (option_and_then (λ pattern. first_fitting pattern (units_of (fields_of bytes))) rule)) same

  kept_so : (kept : Kept) → IsKept one kept → IsKept other kept
  kept_so kept is = record { whole = is.whole; named = sym (ident_so kept.bytes) ∙ is.named; text = is.text }

  base_so : (base : Base) → IsBase one base → IsBase other base
  base_so base is = record {
    rising = is.rising;
    from_one = is.from_one;
    to_last = is.to_last;
    few = is.few;
    single = is.single;
    sound = λ kept there. kept_so kept (is.sound kept there);
  }

  pub bases_so : (bases : List Base) → AreBases one bases → AreBases other bases
  bases_so bases are = record { rising = are.rising; each = λ base there. base_so base (are.each base there); named = are.named }

module _ (one other : List Directive) (same : SaysTheSame one other) where
  posted_so : (records_of : ℤ → List Kept) (content : Content) → ArePosted one records_of content → ArePosted other records_of content
  posted_so records_of content are = record {
    rising = are.rising;
    each = λ id n o. (
      λ there. let it = (are.each id n o).0 there in (it.0, it.1, it.2, occurs_so one other same it.0 o it.3),
      λ it. (are.each id n o).1 (it.0, it.1, it.2, occurs_so other one (turned_round one other same) it.0 o it.3),
    );
  }

  image_of_so : (format : Format) (trees : Trees) (bases : List Base) → IsImageOf format one trees bases → IsImageOf format other trees bases
  image_of_so format trees bases is = record { lists = is.lists; content = is.content; held = is.held; posted = posted_so is.lists.records_of is.content is.posted }

-- an image is one under each profile of its text
pub under_other : (one other : List Directive) → ∥ IsProfile other ∥₁ → (trees : Trees) (version text : List ℕ) (bases : List Base) → text ≡ canonical_text other
    → IsImageUnder one trees version text bases → IsImageUnder other trees version text bases
under_other one other is_other trees version text bases text_is at =
    let same : SaysTheSame one other =
    ∥∥₁_elim at.sound (SaysTheSame-prop one other) (λ first. ∥∥₁_elim is_other (SaysTheSame-prop one other) (λ second.
    (one_text_says_the_same one other first second (sym at.text_is ∙ text_is)).1)) in
    record {
      sound = is_other;
      text_is = text_is;
      pattern = at.pattern;
      pattern_is = ap (option_map pattern_text) (sym same.identifier) ∙ at.pattern_is;
      texts = at.texts;
      are = bases_so one other same.identifier bases at.are;
      format = at.format;
      version_is = at.version_is;
      image = image_of_so one other same at.format trees bases at.image;
    }

-- What the tables of a register that is ready hold: the image of its databases, also under the session's own profile.
use Rattle.zeb_engine.proofs.Cited.{◌≡◌, ◌∙◌, ℕ, List, Ok, Some, refl, sym, subst, option_map, Trees, Directive, canonical_text, pattern_text, identifier_pattern, Format, one_format, Conditions, AreSessions, Holdings, Base, AreBases, HasTexts, IsImage, IsImageOf, IsImageUnder, holding, under_other, ready}
use Rattle.zeb_engine.proofs.Ready.{ready_is}

-- under some profile that has the session's text
pub image_some : (c : Conditions) (trees : Trees) (before : Holdings) (bases : List Base) → ready c before ≡ Ok bases → IsImage trees before
    → (profile : List Directive) × IsImageUnder profile trees c.version (canonical_text c.profile) bases
image_some c trees before bases is image = subst (IsImage trees) (ready_is c before bases is) image

-- other databases in place of those, under the same texts
pub image_with_bases : (profile : List Directive) (old new : Trees) (version text : List ℕ) (bases : List Base) (it : IsImageUnder profile old version text bases) → HasTexts new version text it.pattern
    → (next : List Base) → AreBases profile next → IsImageOf it.format profile new next → IsImageUnder profile new version text next
image_with_bases profile old new version text bases it texts next are image = record {
  sound = it.sound;
  text_is = it.text_is;
  pattern = it.pattern;
  pattern_is = it.pattern_is;
  texts = texts;
  are = are;
  format = it.format;
  version_is = it.version_is;
  image = image;
}

-- the image under the session's profile
pub record IsReadyImage (format : Format) (c : Conditions) (trees : Trees) (bases : List Base) : Type 0 where
  pub pattern : List ℕ
  pub pattern_is : option_map pattern_text (identifier_pattern c.profile) ≡ Some pattern
  pub texts : HasTexts trees c.version (canonical_text c.profile) pattern
  pub are : AreBases c.profile bases
  pub image : IsImageOf format c.profile trees bases

module _ (format : Format) (c : Conditions) (session : AreSessions format c) (trees : Trees) where
  pub image_ready : (before : Holdings) (bases : List Base) → ready c before ≡ Ok bases → IsImage trees before → IsReadyImage format c trees bases
  image_ready before bases is image =
      let some = image_some c trees before bases is image in
      let at = under_other some.0 c.profile session.sound trees c.version (canonical_text c.profile) bases refl some.1 in
      record {
        pattern = at.pattern;
        pattern_is = at.pattern_is;
        texts = at.texts;
        are = at.are;
        image = subst (λ (f : Format). IsImageOf f c.profile trees bases) (one_format at.format format (sym at.version_is ∙ session.version_is)) at.image;
      }

  pub ready_image : (bases : List Base) → IsReadyImage format c trees bases → IsImage trees (holding c bases)
  ready_image bases at = (
    c.profile,
    record {
      sound = session.sound;
      text_is = refl;
      pattern = at.pattern;
      pattern_is = at.pattern_is;
      texts = at.texts;
      are = at.are;
      format = format;
      version_is = session.version_is;
      image = at.image;
    },
  )

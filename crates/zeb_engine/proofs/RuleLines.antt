-- The line of a canonical text that tells the rule for identifiers.
use Rattle.zeb_engine.proofs.Cited.{◌≡◌, ◌≢◌, ◌↔◌, ◌∙◌, ℕ, List, [], ◌∷◌, ◌++◌, codes, get_or, drop, take, true, false, Some, Ok, refl, sym, ap, subst, arith, append_assoc, decimal, list_any, slice_split, option_map, bytes_eq, slice_split_at, bytes_eq-Decides, Directive, Identifier, Att, Melm, AllUnits, UnitPattern, canonical_line, canonical_text, pattern_text, targets_text, identifier_pattern, IsProfile, is_identifier, pattern_of, IsRead, is_line_feed, profile_sound, AllRead, written_one_line, bytes_other, are_same, is_rule_line, rule_line, same_rule, written}
use Rattle.std.specs.List.{find}
use Rattle.zeb_profile.specs.declared.directives.Directive.TheVariants.{Store}

abbrev pattern_line : UnitPattern → List ℕ
pattern_line pattern = codes "identifier " ++ pattern_text pattern

-- ---- one line before others

module _ (directive : Directive) (rest : List ℕ) (ended : canonical_line directive ≡ written directive ++ codes "\n") (read : IsRead directive) where
  split : slice_split is_line_feed (canonical_line directive ++ rest) ≡ written directive ∷ slice_split is_line_feed rest
  split =
      ap (λ line. slice_split is_line_feed (line ++ rest)) ended
      ∙ ap (slice_split is_line_feed) (append_assoc (written directive) (codes "\n") rest)
      ∙ slice_split_at is_line_feed (written directive) 10 rest (written_one_line directive read) refl

  passed_over : is_rule_line (written directive) ≡ false → rule_line (canonical_line directive ++ rest) ≡ rule_line rest
  passed_over other = ap (find is_rule_line) split ∙ rw other refl

  found_there : is_rule_line (written directive) ≡ true → rule_line (canonical_line directive ++ rest) ≡ Some (written directive)
  found_there is = ap (find is_rule_line) split ∙ rw is refl

-- a line that begins with another byte
other_line : (first : ℕ) (line : List ℕ) → first ≢ 105 → is_rule_line (first ∷ line) ≡ false
other_line first line other = bytes_other (take 11 (first ∷ line)) (codes "identifier ") (λ same. other (ap (λ (l : List ℕ). get_or l 0 0) same))

-- the first rule line is that of the first rule
rule_first : (directives : List Directive) → AllRead directives → rule_line (canonical_text directives) ≡ option_map pattern_line (identifier_pattern directives)
rule_first [] read = refl
rule_first (Store path ∷ ds) read = rule_first ds read.1
rule_first (Identifier pattern ∷ ds) read = found_there (Identifier pattern) (canonical_text ds) refl read.0 ((bytes_eq-Decides (codes "identifier ") (codes "identifier ")).1 refl)
rule_first (Att number name ∷ ds) read =
    passed_over (Att number name) (canonical_text ds) refl read.0 (other_line 97 (codes "tt " ++ decimal number ++ codes " " ++ name) (λ e. absurd (omega (arith, e)))) ∙ rule_first ds read.1
rule_first (Melm pattern targets ∷ ds) read =
    passed_over (Melm pattern targets) (canonical_text ds) refl read.0 (other_line 109 (codes "elm " ++ pattern_text pattern ++ codes " " ++ targets_text targets) (λ e. absurd (omega (arith, e)))) ∙ rule_first ds read.1
rule_first (AllUnits targets ∷ ds) read =
    passed_over (AllUnits targets) (canonical_text ds) refl read.0 (other_line 97 (codes "ll " ++ targets_text targets) (λ e. absurd (omega (arith, e)))) ∙ rule_first ds read.1

-- ---- the rules of two profiles

pattern_read : (directives : List Directive) (pattern : UnitPattern) → AllRead directives → identifier_pattern directives ≡ Some pattern → pattern_of (pattern_text pattern) ≡ Ok pattern
pattern_read [] pattern read is = absurd cc
pattern_read (Store path ∷ ds) pattern read is = pattern_read ds pattern read.1 is
pattern_read (Identifier first ∷ ds) pattern read is = let same : first ≡ pattern = cc in subst (λ (p : UnitPattern). pattern_of (pattern_text p) ≡ Ok p) same read.0.0
pattern_read (Att number name ∷ ds) pattern read is = pattern_read ds pattern read.1 is
pattern_read (Melm first targets ∷ ds) pattern read is = pattern_read ds pattern read.1 is
pattern_read (AllUnits targets ∷ ds) pattern read is = pattern_read ds pattern read.1 is

some_pattern : (directives : List Directive) → list_any is_identifier directives ≡ true → (pattern : UnitPattern) × (identifier_pattern directives ≡ Some pattern)
some_pattern [] has = absurd cc
some_pattern (Store path ∷ ds) has = some_pattern ds has
some_pattern (Identifier first ∷ ds) has = (first, refl)
some_pattern (Att number name ∷ ds) has = some_pattern ds has
some_pattern (Melm first targets ∷ ds) has = some_pattern ds has
some_pattern (AllUnits targets ∷ ds) has = some_pattern ds has

module _ (one other : List Directive) (is_one : IsProfile one) (is_other : IsProfile other) where
  module _ (p q : UnitPattern) (one_is : identifier_pattern one ≡ Some p) (other_is : identifier_pattern other ≡ Some q) where
    lines_are : same_rule (canonical_text one) (canonical_text other) ≡ bytes_eq (pattern_line p) (pattern_line q)
    lines_are =
        ap (λ line. are_same line (rule_line (canonical_text other))) (rule_first one (profile_sound one is_one).read ∙ ap (option_map pattern_line) one_is)
        ∙ ap (are_same (Some (pattern_line p))) (rule_first other (profile_sound other is_other).read ∙ ap (option_map pattern_line) other_is)

    -- by the texts of their patterns
    pub texts_tell : (same_rule (canonical_text one) (canonical_text other) ≡ true) ↔ (pattern_text p ≡ pattern_text q)
    texts_tell = (
      λ same. ap (drop 11) ((bytes_eq-Decides (pattern_line p) (pattern_line q)).0 (sym lines_are ∙ same)),
      λ same. lines_are ∙ (bytes_eq-Decides (pattern_line p) (pattern_line q)).1 (ap (λ text. codes "identifier " ++ text) same),
    )

    pub one_pattern : pattern_text p ≡ pattern_text q → p ≡ q
    one_pattern same =
        let e : Ok p ≡ Ok q = sym (pattern_read one p (profile_sound one is_one).read one_is) ∙ ap pattern_of same ∙ pattern_read other q (profile_sound other is_other).read other_is in
        cc

  pub same_rule_says : (same_rule (canonical_text one) (canonical_text other) ≡ true) ↔ (identifier_pattern one ≡ identifier_pattern other)
  same_rule_says =
      let p = some_pattern one (profile_sound one is_one).identified in
      let q = some_pattern other (profile_sound other is_other).identified in (
        λ same. p.1 ∙ ap Some (one_pattern p.0 q.0 p.1 q.1 ((texts_tell p.0 q.0 p.1 q.1).0 same)) ∙ sym q.1,
        λ same. let e : Some p.0 ≡ Some q.0 = sym p.1 ∙ same ∙ q.1 in
            let inside : p.0 ≡ q.0 = cc in
            (texts_tell p.0 q.0 p.1 q.1).1 (ap pattern_text inside),
      )

use Rattle.zeb_text.proofs.Cited.{◌≡◌, ℕ, List, [], ◌∷◌, ◌++◌, refl, sym, ap, subst, ◌∙◌, append_assoc, joined_text, Symbol, Char, Star, Matches, joined_patterns}
use Rattle.zeb_lower_laws.specs.JoinedMatches.{MatchEach}
use Rattle.zeb_lower_laws.proofs.text.joined_patterns_match_joined_texts.Goals as goal

-- a match of one pattern after another cuts the text in two
parts : (front back : List Symbol) (text : List ℕ) → Matches (front ++ back) text
    → (first : List ℕ) × (rest : List ℕ) × (text ≡ first ++ rest) × Matches front first × Matches back rest
parts [] back text m = ([], text, refl, refl, m)
parts (Char c ∷ front) back text m =
    let inner = parts front back m.0 m.2 in
    (c ∷ inner.0, inner.1, m.1 ∙ ap (λ cs. c ∷ cs) inner.2, (inner.0, refl, inner.3), inner.4)
parts (Star ∷ front) back text m =
    let inner = parts front back m.1 m.3 in
    (m.0 ++ inner.0, inner.1, m.2 ∙ ap (λ cs. m.0 ++ cs) inner.2 ∙ sym (append_assoc m.0 inner.0 inner.1), (m.0, inner.0, refl, inner.3), inner.4)

whole : (front back : List Symbol) (first rest : List ℕ) → Matches front first → Matches back rest → Matches (front ++ back) (first ++ rest)
whole [] back first rest m n = subst (λ cs. Matches back (cs ++ rest)) (sym m) n
whole (Char c ∷ front) back first rest m n = (m.0 ++ rest, ap (λ cs. cs ++ rest) m.1, whole front back m.0 rest m.2 n)
whole (Star ∷ front) back first rest m n =
    (m.0, m.1 ++ rest, ap (λ cs. cs ++ rest) m.2 ∙ append_assoc m.0 m.1 rest, whole front back m.1 rest m.3 n)

cut : (patterns : List (List Symbol)) (text : List ℕ) → Matches (joined_patterns patterns) text
    → (texts : List (List ℕ)) × (text ≡ joined_text texts) × MatchEach patterns texts
cut [] text m = ([], m, refl)
cut (pattern ∷ []) text m = (text ∷ [], refl, (text, [], refl, m, refl))
cut (pattern ∷ next ∷ patterns) text m =
    let two = parts pattern (Char 32 ∷ joined_patterns (next ∷ patterns)) text m in
    let others = cut (next ∷ patterns) two.4.0 two.4.2 in
    let each = others.2 in
    let long : joined_text (two.0 ∷ others.0) ≡ two.0 ++ 32 ∷ joined_text others.0 = ap (λ texts. joined_text (two.0 ∷ texts)) each.2 ∙ ap (λ texts. two.0 ++ 32 ∷ joined_text texts) (sym each.2) in
    (two.0 ∷ others.0, two.2 ∙ ap (λ cs. two.0 ++ cs) (two.4.1 ∙ ap (λ cs. 32 ∷ cs) others.1) ∙ sym long, (two.0, others.0, refl, two.3, each))

joined : (patterns : List (List Symbol)) (texts : List (List ℕ)) → MatchEach patterns texts → Matches (joined_patterns patterns) (joined_text texts)
joined [] texts each = ap joined_text each
joined (pattern ∷ []) texts each =
    let alone : texts ≡ each.0 ∷ [] = each.2 ∙ ap (λ rest. each.0 ∷ rest) each.4 in
    subst (λ all. Matches pattern (joined_text all)) (sym alone) each.3
joined (pattern ∷ next ∷ patterns) texts each =
    let others = joined (next ∷ patterns) each.1 each.4 in
    let long : joined_text texts ≡ each.0 ++ 32 ∷ joined_text each.1 =
    ap joined_text each.2 ∙ ap (λ rest. joined_text (each.0 ∷ rest)) each.4.2 ∙ ap (λ rest. each.0 ++ 32 ∷ joined_text rest) (sym each.4.2) in
    subst (Matches (pattern ++ Char 32 ∷ joined_patterns (next ∷ patterns))) (sym long)
    (whole pattern (Char 32 ∷ joined_patterns (next ∷ patterns)) each.0 (32 ∷ joined_text each.1) each.3 (joined_text each.1, refl, others))

pub returns : goal.returns
returns c = λ patterns text. (cut patterns text, λ found. subst (Matches (joined_patterns patterns)) (sym found.1) (joined patterns found.0 found.2))

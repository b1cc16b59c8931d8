-- Files have one answer.
use Rattle.zeb_analysis.proofs.Cited.{◌≡◌, ◌∙◌, ℕ, List, [], ◌∷◌, Result, Ok, Err, refl, sym, ap, subst, Directive, unit_targets, Occurrence, identifier_of, IsOccurrence, rising_unique, occurrence_total, occurrences_apart, AnalysisFault, Analysed, AreAnalysesOf, IsAnalysisOf, AnalysesTo, Standing, standing_in_all, units_in}

same_parts : (a b : Analysed) → a.file ≡ b.file → a.nth ≡ b.nth → a.ident ≡ b.ident → a.occurrences ≡ b.occurrences → a ≡ b
same_parts a b p q r s i = record { file = p i; nth = q i; ident = r i; occurrences = s i }

one_analysis : (profile : List Directive) (standing : Standing) (a b : Analysed) → IsAnalysisOf profile standing a → IsAnalysisOf profile standing b → a ≡ b
one_analysis profile standing a b one other =
    let first = one.stands in
    let second = other.stands in
    let bytes : other.bytes ≡ one.bytes = cc in
    let called : identifier_of profile (units_in one.bytes) ≡ Ok b.ident = ap (λ these. identifier_of profile (units_in these)) (sym bytes) ∙ other.called in
    let own = one.called in
    let ident : a.ident ≡ b.ident = cc in
    let there : (o : Occurrence) → IsOccurrence (unit_targets profile) (units_in one.bytes) o → IsOccurrence (unit_targets profile) (units_in other.bytes) o =
    λ o. subst (λ these. IsOccurrence (unit_targets profile) (units_in these) o) (sym bytes) in
    let back : (o : Occurrence) → IsOccurrence (unit_targets profile) (units_in other.bytes) o → IsOccurrence (unit_targets profile) (units_in one.bytes) o =
    λ o. subst (λ these. IsOccurrence (unit_targets profile) (units_in these) o) bytes in
    let occurrences : a.occurrences ≡ b.occurrences =
    rising_unique occurrence_total occurrences_apart a.occurrences b.occurrences one.rising other.rising
    (λ o has. (other.members o).1 (there o ((one.members o).0 has))) (λ o has. (one.members o).1 (back o ((other.members o).0 has))) in
    same_parts a b (one.same_file ∙ sym other.same_file) (one.same_place ∙ sym other.same_place) ident occurrences

one_list : (profile : List Directive) (standings : List Standing) (xs ys : List Analysed) → AreAnalysesOf profile standings xs → AreAnalysesOf profile standings ys → xs ≡ ys
one_list profile [] [] [] one other = refl
one_list profile [] [] (y ∷ ys) one other = absurd other
one_list profile [] (x ∷ xs) ys one other = absurd one
one_list profile (standing ∷ others) [] ys one other = absurd one
one_list profile (standing ∷ others) (x ∷ xs) [] one other = absurd other
one_list profile (standing ∷ others) (x ∷ xs) (y ∷ ys) one other =
    let first = one_analysis profile standing x y one.0 other.0 in
    let rest = one_list profile others xs ys one.1 other.1 in
    cc

pub told_once : (profile : List Directive) (limit : ℕ) (texts : List (List ℕ)) (one other : Result (List Analysed) AnalysisFault)
    → AnalysesTo profile limit texts one → AnalysesTo profile limit texts other → one ≡ other
told_once profile limit texts (Ok xs) (Ok ys) one also = ap Ok (one_list profile (standing_in_all 1 texts) xs ys one.1 also.1)
told_once profile limit texts (Ok xs) (Err fault) one also = let none = one.0 in absurd (cc)
told_once profile limit texts (Err fault) (Ok ys) one also = let none = also.0 in absurd (cc)
told_once profile limit texts (Err fault) (Err another) one also = cc

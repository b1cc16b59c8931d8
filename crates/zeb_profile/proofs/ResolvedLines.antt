-- Lines with their targets resolved say what their directives say.
use Rattle.zeb_profile.proofs.Cited.{◌≡◌, ℕ, List, [], ◌∷◌, ◌++◌, map, Bool, true, false, Option, Some, None, unwrap_or, refl, ap, sym, ◌∙◌, inl, inr, if◌then◌else◌, list_any, cases_Bool, map-append, list_any-append, Register, Directive, Store, Identifier, Att, Melm, Target, Line, all_line_targets, all_told, first_told, further_pairs, has_pair, index_names, is_control, melm_targets, melm_told, pair_of, same_pair, unit_targets, any_pair, directives_on, first_pairs, is_all, is_melm_for, line_value, resolved, Placed, all_targets, directives_in, targets_in, unit_pairs}
use Rattle.zeb_profile.specs.declared.directives.Directive.TheVariants.{All}

-- each line has the targets of its directive, by their numbers among these names
abbrev pub AreResolved : List (List ℕ) → List Line → Type 0
AreResolved names lines = map line_value lines ≡ map (resolved names) (directives_on lines)

-- the pairs of a line that stands first, and that those behind it are resolved
pub resolved-first : (names : List (List ℕ)) (line : Line) (lines : List Line) → AreResolved names (line ∷ lines)
    → (line.pairs.items ≡ map (pair_of names) (targets_in line.directive)) × AreResolved names lines
resolved-first names line lines all = let one : line_value line ≡ resolved names line.directive = cc in (ap (λ value. value.1) one, cc)

-- what is told of a directive is its targets, where the directive passes
TellsTargets : (Directive → Bool) → (Directive → Option (List Target)) → Type 0
TellsTargets passes told = (directive : Directive) → told directive ≡ (if passes directive then Some (targets_in directive) else None)

first_pairs-told : (passes : Directive → Bool) (told : Directive → Option (List Target)) → TellsTargets passes told
    → (names : List (List ℕ)) (lines : List Line) → AreResolved names lines
    → first_pairs passes lines ≡ map (pair_of names) (unwrap_or (first_told told (directives_on lines)) [])
unfolding TellsTargets
first_pairs-told passes told tells names [] all = refl
first_pairs-told passes told tells names (line ∷ lines) all =
    let here = resolved-first names line lines all in
    elim (cases_Bool (passes line.directive)) [
      | inl e ↦ rw (tells line.directive, e) here.0
      | inr e ↦ rw (tells line.directive, e) (first_pairs-told passes told tells names lines here.1)
    ]

melm_tells : (tag : List ℕ) (code : Option ℕ) → TellsTargets (is_melm_for tag code) (melm_told tag code)
unfolding TellsTargets
melm_tells tag code (Store path) = refl
melm_tells tag code (Identifier pattern) = refl
melm_tells tag code (Att number name) = refl
melm_tells tag code (Melm pattern targets) = refl
melm_tells tag code (All targets) = refl

all_tells : TellsTargets is_all all_told
unfolding TellsTargets
all_tells (Store path) = refl
all_tells (Identifier pattern) = refl
all_tells (Att number name) = refl
all_tells (Melm pattern targets) = refl
all_tells (All targets) = refl

pub melm_resolved : (tag : List ℕ) (code : Option ℕ) (names : List (List ℕ)) (lines : List Line) → AreResolved names lines
    → first_pairs (is_melm_for tag code) lines ≡ map (pair_of names) (melm_targets tag code (directives_on lines))
melm_resolved tag code = first_pairs-told (is_melm_for tag code) (melm_told tag code) (melm_tells tag code)

pub all_resolved : (names : List (List ℕ)) (lines : List Line) → AreResolved names lines
    → first_pairs is_all lines ≡ map (pair_of names) (all_line_targets (directives_on lines))
all_resolved = first_pairs-told is_all all_told all_tells

pub pair_resolved : (pair : ℕ × Register) (names : List (List ℕ)) (lines : List Line) → AreResolved names lines
    → any_pair pair lines ≡ list_any (same_pair pair) (map (pair_of names) (all_targets (directives_on lines)))
pair_resolved pair names [] all = refl
pair_resolved pair names (line ∷ lines) all =
    let here = resolved-first names line lines all in
    rw (
      map-append (pair_of names) (targets_in line.directive) (all_targets (directives_on lines)),
      list_any-append (same_pair pair) (map (pair_of names) (targets_in line.directive)) (map (pair_of names) (all_targets (directives_on lines))),
      ← here.0,
      pair_resolved pair names lines here.1,
    ) refl

-- ---- what the look-ups of a profile answer
if_mapped : {X Y : Type 0} (b : Bool) (f : X → Y) (xs : List X) → (if b then [] else map f xs) ≡ map f (if b then [] else xs)
if_mapped true f xs = refl
if_mapped false f xs = refl

pub unit_resolved : (names : List (List ℕ)) (lines : List Line) (directives : List Directive) (tag : List ℕ) (code : Option ℕ)
    → names ≡ index_names (directives_on lines) → AreResolved names lines → directives_on lines ≡ directives
    → unit_pairs tag code lines ≡ unit_targets directives tag code
unit_resolved names lines directives tag code named all of =
    let melm = melm_resolved tag code names lines all in
    let further : (if is_control tag then [] else first_pairs is_all lines) ≡ map (pair_of names) (if is_control tag then [] else all_line_targets (directives_on lines)) =
    ap (λ (pairs : List (ℕ × Register)). if is_control tag then [] else pairs) (all_resolved names lines all)
    ∙ if_mapped (is_control tag) (pair_of names) (all_line_targets (directives_on lines)) in
    let joined : unit_pairs tag code lines
    ≡ map (pair_of names) (melm_targets tag code (directives_on lines))
    ++ further_pairs (map (pair_of names) (melm_targets tag code (directives_on lines))) (map (pair_of names) (if is_control tag then [] else all_line_targets (directives_on lines))) =
    rw (melm, further) refl in
    let whole : map (pair_of names) (melm_targets tag code (directives_on lines))
    ++ further_pairs (map (pair_of names) (melm_targets tag code (directives_on lines))) (map (pair_of names) (if is_control tag then [] else all_line_targets (directives_on lines)))
    ≡ unit_targets (directives_on lines) tag code =
    ap (λ (known : List (List ℕ)). map (pair_of known) (melm_targets tag code (directives_on lines))
    ++ further_pairs (map (pair_of known) (melm_targets tag code (directives_on lines))) (map (pair_of known) (if is_control tag then [] else all_line_targets (directives_on lines)))) named in
    joined ∙ whole ∙ ap (λ ds. unit_targets ds tag code) of

pub pair_held : (names : List (List ℕ)) (lines : List Line) (directives : List Directive) (pair : ℕ × Register)
    → names ≡ index_names (directives_on lines) → AreResolved names lines → directives_on lines ≡ directives
    → any_pair pair lines ≡ has_pair directives pair
pair_held names lines directives pair named all of =
    pair_resolved pair names lines all
    ∙ ap (λ (known : List (List ℕ)). list_any (same_pair pair) (map (pair_of known) (all_targets (directives_on lines)))) named
    ∙ ap (λ ds. has_pair ds pair) of

-- lines that are resolved directives have these directives
pub resolved-directives : (names : List (List ℕ)) (lines : List Line) (directives : List Directive)
    → map line_value lines ≡ map (resolved names) directives → directives_on lines ≡ directives
resolved-directives names [] [] h = refl
resolved-directives names [] (d ∷ ds) h = absurd (cc)
resolved-directives names (line ∷ lines) [] h = absurd (cc)
resolved-directives names (line ∷ lines) (d ∷ ds) h =
    let one : line_value line ≡ resolved names d = cc in
    let others : map line_value lines ≡ map (resolved names) ds = cc in
    let here : line.directive ≡ d = ap (λ value. value.0) one in
    ap (λ first. first ∷ directives_on lines) here ∙ ap (λ rest. d ∷ rest) (resolved-directives names lines ds others)

pub are_resolved : (names : List (List ℕ)) (lines : List Line) (directives : List Directive)
    → map line_value lines ≡ map (resolved names) directives → AreResolved names lines
are_resolved names lines directives h = h ∙ ap (map (resolved names)) (sym (resolved-directives names lines directives h))

-- one line more is resolved
pub resolved_push : (names : List (List ℕ)) (lines grown : List Line) (line : Line) (placed : List Placed) (next : Placed)
    → map line_value lines ≡ map (resolved names) (directives_in placed) → grown ≡ lines ++ line ∷ [] → line_value line ≡ resolved names next.directive
    → map line_value grown ≡ map (resolved names) (directives_in (placed ++ next ∷ []))
resolved_push names lines grown line placed next before is value =
    ap (map line_value) is ∙ map-append line_value lines (line ∷ [])
    ∙ ap (λ (front : List (Directive × List (ℕ × Register))). front ++ line_value line ∷ []) before
    ∙ ap (λ (last : Directive × List (ℕ × Register)). map (resolved names) (directives_in placed) ++ last ∷ []) value
    ∙ sym (ap (map (resolved names)) (map-append (λ (place : Placed). place.directive) placed (next ∷ []))
    ∙ map-append (resolved names) (directives_in placed) (next.directive ∷ []))

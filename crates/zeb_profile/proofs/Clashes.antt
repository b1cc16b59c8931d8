-- What is noted of the lines read so far refuses just what they refuse.
use Rattle.zeb_profile.proofs.Cited.{◌≡◌, ℕ, List, [], ◌∷◌, ◌++◌, Option, Some, None, refl, sym, ◌∙◌, ap, fun_ext, map-append, Directive, Placed, ProfileFaultKind, Repeats, directive_of, ◌>>=◌, clash, directive_after, directives_in, first_clash, first_of, unless, NotesAlso, NotesClashes, directive_beside, noted_clash}

first_of-assoc : (a b c : Option ProfileFaultKind) → first_of (first_of a b) c ≡ first_of a (first_of b c)
first_of-assoc None b c = refl
first_of-assoc (Some kind) b c = refl

pub first_of-none : (a : Option ProfileFaultKind) → a ≡ first_of a None
first_of-none None = refl
first_of-none (Some kind) = refl

first_clash-behind : (directives : List Directive) (directive later : Directive) → first_clash (directives ++ directive ∷ []) later ≡ first_of (first_clash directives later) (clash directive later)
first_clash-behind [] directive later = sym (first_of-none (clash directive later))
first_clash-behind (x ∷ xs) directive later =
    rw (first_clash-behind xs directive later) (sym (first_of-assoc (clash x later) (first_clash xs later) (clash directive later)))

-- with one line more
pub notes_clashes-push : (old new : Repeats) (placed : List Placed) (line : Placed) → NotesClashes old (directives_in placed) → NotesAlso line.directive old new
    → NotesClashes new (directives_in (placed ++ line ∷ []))
notes_clashes-push old new placed line notes also = λ later.
    rw (map-append (λ x. x.directive) placed (line ∷ [])) (also later ∙ ap (λ o. first_of o (clash line.directive later)) (notes later) ∙ sym (first_clash-behind (directives_in placed) line.directive later))

-- so a line says the same beside what is noted as behind the lines
pub says_beside : (repeats : Repeats) (directives : List Directive) (line : List ℕ) → NotesClashes repeats directives → directive_beside repeats line ≡ directive_after directives line
says_beside repeats directives line notes =
    let same : noted_clash repeats ≡ first_clash directives = fun_ext notes in
    ap (λ (fault : Directive → Option ProfileFaultKind). directive_of line >>= λ directive. unless (fault directive) directive) same

-- Texts with the same telling lines are one profile.
use Rattle.zeb_profile.proofs.Cited.{◌≡◌, ℕ, List, [], ◌∷◌, ◌++◌, map, None, Ok, false, refl, ap, subst, sym, ◌∙◌, find, list_any, ◌>>=◌, at_line, directive_after, directives_in, has_room, is_identifier, is_store, lack_of, placed_after, placed_lines, telling_lines, ties_unknown, unless}
use Rattle.zeb_profile.specs.declared.directives.Directive.{Directive}
use Rattle.zeb_profile.specs.declared.directives.Placed.{Placed}
use Rattle.zeb_lower_laws.specs.ProfileLaws.{CommentsSayNothing}
use Rattle.zeb_profile.proofs.Lacks.{lack_none}
use Rattle.zeb_profile.proofs.ProfilesBack.{any_placed, directives_push, find_none, lacks_nothing, line_ok, none_found, unless_none}
use Rattle.zeb_profile.proofs.TargetsBack.{step_ok}

-- what was read, with the numbers of other lines
record ReadsAs (earlier : List Placed) (found : List (ℕ × List ℕ)) (directives : List Directive) : Type 0 where
  placed : List Placed
  read : placed_after earlier found ≡ Ok placed
  same : directives_in placed ≡ directives

read_as : (one other : List Placed) (found lines : List (ℕ × List ℕ)) (placed : List Placed) → directives_in one ≡ directives_in other
    → map (λ (line : ℕ × List ℕ). line.1) found ≡ map (λ (line : ℕ × List ℕ). line.1) lines → placed_after one found ≡ Ok placed → ReadsAs other lines (directives_in placed)
read_as one other [] [] placed same alike h =
    let whole : one ≡ placed = cc in
    record { placed = other; read = refl; same = sym same ∙ ap directives_in whole }
read_as one other [] (y ∷ ys) placed same alike h = absurd (cc)
read_as one other (x ∷ xs) [] placed same alike h = absurd (cc)
read_as one other (x ∷ xs) (y ∷ ys) placed same alike h =
    let step = step_ok (at_line x.0 (directive_after (directives_in one) x.1)) (λ directive. placed_after (one ++ record { line = x.0; directive = directive } ∷ []) xs) placed h in
    let directive : Directive = step.0 in
    let text : x.1 ≡ y.1 = cc in
    let others : map (λ (line : ℕ × List ℕ). line.1) xs ≡ map (λ (line : ℕ × List ℕ). line.1) ys = cc in
    let said : directive_after (directives_in other) y.1 ≡ Ok directive =
    ap (λ earlier. directive_after earlier y.1) (sym same) ∙ ap (directive_after (directives_in one)) (sym text) ∙ line_ok x.0 (directive_after (directives_in one) x.1) directive step.1 in
    let pushed : directives_in (one ++ record { line = x.0; directive = directive } ∷ []) ≡ directives_in (other ++ record { line = y.0; directive = directive } ∷ []) =
    directives_push one x.0 directive ∙ ap (λ front. front ++ directive ∷ []) same ∙ sym (directives_push other y.0 directive) in
    let rest : ReadsAs (other ++ record { line = y.0; directive = directive } ∷ []) ys (directives_in placed) =
    read_as (one ++ record { line = x.0; directive = directive } ∷ []) (other ++ record { line = y.0; directive = directive } ∷ []) xs ys placed pushed others step.2 in
    record {
      placed = rest.placed;
      read = ap (λ answer. at_line y.0 answer >>= λ d. placed_after (other ++ record { line = y.0; directive = d } ∷ []) ys) said ∙ rest.read;
      same = rest.same;
    }

-- what lines lack is a matter of their directives
same_lack : (one other : List Placed) → directives_in one ≡ directives_in other → lack_of one ≡ None → lack_of other ≡ None
same_lack one other same h =
    let lacks = lack_none (find (λ line. ties_unknown (directives_in one) line.directive) one) (list_any (λ line. is_identifier line.directive) one) (list_any (λ line. is_store line.directive) one) (has_room (directives_in one)) h in
    let tied : list_any (ties_unknown (directives_in other)) (directives_in other) ≡ false =
    subst (λ (all : List Directive). list_any (ties_unknown all) all ≡ false) same (find_none (ties_unknown (directives_in one)) one lacks.0) in
    lacks_nothing (find (λ line. ties_unknown (directives_in other) line.directive) other) (list_any (λ line. is_identifier line.directive) other) (list_any (λ line. is_store line.directive) other)
    (has_room (directives_in other))
    (none_found (ties_unknown (directives_in other)) other tied)
    (any_placed is_identifier other ∙ ap (list_any is_identifier) (sym same) ∙ sym (any_placed is_identifier one) ∙ lacks.1)
    (any_placed is_store other ∙ ap (list_any is_store) (sym same) ∙ sym (any_placed is_store one) ∙ lacks.2)
    (ap has_room (sym same) ∙ lacks.3)

pub comments_say_nothing : CommentsSayNothing
comments_say_nothing text other directives alike h =
    let step = step_ok (placed_lines text) (λ placed. unless (lack_of placed) (directives_in placed)) directives h in
    let whole = unless_none (lack_of step.0) (directives_in step.0) directives step.2 in
    let again : ReadsAs [] (telling_lines other) (directives_in step.0) = read_as [] [] (telling_lines text) (telling_lines other) step.0 refl alike step.1 in
    let none : lack_of again.placed ≡ None = same_lack step.0 again.placed (sym again.same) whole.0 in
    ap (λ placed. placed >>= λ lines. unless (lack_of lines) (directives_in lines)) again.read
    ∙ ap (λ lack. unless lack (directives_in again.placed)) none
    ∙ ap Ok (again.same ∙ whole.1)

-- The lines that say something, from one of them on.
use Rattle.zeb_profile.proofs.Cited.{◌≡◌, ℕ, ◌+◌, ◌<◌, List, [], ◌∷◌, ◌++◌, length, drop, get_or, map, suc, add-one, drop-cons, Bor, cond, refl, true, false, ap, sym, ◌∙◌, Ok, Err, ◌≢◌, enumerate_from, filter, lines_of, Directive, Placed, ProfileFault, ProfileFaultKind, Memory, FailsPlaced, Fails, placed_after, placed_lines, directive_after, directives_in, trimmed, says_something}

-- the telling lines from the i-th line on, lines counted from 0
abbrev pub telling_from : ℕ → List (Bor (List ℕ)) → List (ℕ × List ℕ)
telling_from i lines = filter (λ line. says_something line.1) (enumerate_from (i + 1) (map trimmed (map (λ line. line.now) (drop i lines))))

pub telling_from-next : (i : ℕ) (lines : List (Bor (List ℕ))) (d : Bor (List ℕ)) → i < length lines
    → telling_from i lines ≡ cond (says_something (trimmed (get_or lines i d).now)) ((i + 1, trimmed (get_or lines i d).now) ∷ telling_from (i + 1) lines) (telling_from (i + 1) lines)
telling_from-next i lines d h = let e : i + 1 ≡ suc i = add-one i in rw (drop-cons lines i d, e) refl

-- a line that says nothing is passed over
pub read_past : (placed : List Placed) (lines : List (Bor (List ℕ))) (i : ℕ) (d : Bor (List ℕ)) → i < length lines → says_something (trimmed (get_or lines i d).now) ≡ false
    → placed_after placed (telling_from (i + 1) lines) ≡ placed_after placed (telling_from i lines)
read_past placed lines i d within silent =
    let next : telling_from i lines ≡ telling_from (i + 1) lines = telling_from-next i lines d within ∙ rw silent refl in
    sym (ap (placed_after placed) next)

-- one that says a directive comes behind the others
pub read_on : (placed : List Placed) (lines : List (Bor (List ℕ))) (i : ℕ) (d : Bor (List ℕ)) (directive : Directive) → i < length lines → says_something (trimmed (get_or lines i d).now) ≡ true
    → directive_after (directives_in placed) (trimmed (get_or lines i d).now) ≡ Ok directive
    → placed_after (placed ++ record { line = i + 1; directive = directive } ∷ []) (telling_from (i + 1) lines) ≡ placed_after placed (telling_from i lines)
read_on placed lines i d directive within tells says =
    let next : telling_from i lines ≡ (i + 1, trimmed (get_or lines i d).now) ∷ telling_from (i + 1) lines = telling_from-next i lines d within ∙ rw tells refl in
    let read : placed_after placed ((i + 1, trimmed (get_or lines i d).now) ∷ telling_from (i + 1) lines) ≡ placed_after (placed ++ record { line = i + 1; directive = directive } ∷ []) (telling_from (i + 1) lines) = rw says refl in
    sym (ap (placed_after placed) next ∙ read)

-- the first faulty line ends the reading
pub placed_lines_fails : (text : List ℕ) (lines : List (Bor (List ℕ))) (placed : List Placed) (i : ℕ) (d : Bor (List ℕ)) (kind : ProfileFaultKind) (fault : ProfileFault)
    → map (λ line. line.now) lines ≡ lines_of text → placed_after placed (telling_from i lines) ≡ placed_after [] (telling_from 0 lines)
    → i < length lines → says_something (trimmed (get_or lines i d).now) ≡ true → Fails kind (directive_after (directives_in placed) (trimmed (get_or lines i d).now))
    → fault.kind ≡ kind → (kind ≡ Memory → fault.line ≡ 0) → (kind ≢ Memory → fault.line ≡ i + 1)
    → FailsPlaced fault (placed_lines text)
placed_lines_fails text lines placed i d kind fault e inv within tells fails same memory other = (
  λ m. memory (sym same ∙ m),
  λ ne.
      let ordinary : kind ≢ Memory = λ m. ne (same ∙ m) in
      let at : fault.line ≡ i + 1 = other ordinary in
      let faulty : record { line = i + 1; kind = kind } ≡ fault = rw (← at, ← same) refl in
      let said : placed_after [] (telling_from 0 lines) ≡ Err (record { line = i + 1; kind = kind }) =
      sym inv ∙ ap (placed_after placed) (telling_from-next i lines d within) ∙ rw (tells, fails ordinary) refl in
      rw (← e) (said ∙ ap Err faulty),
)

use Rattle.zeb_text.proofs.Cited.{◌≡◌, ◌<◌, ℕ, Bool, false, ◌==◌, subst, arith, length, map, chars, string_bytes, Contains, vec_len, nat_tests, length-map, Star}
use Rattle.zeb_text.proofs.SymbolLemmas.{Contains-star}
use Rattle.zeb_text.proofs.patterns.Pattern.literal.Goals as goal

not_empty : (n : ℕ) (r : Bool) → r ≡ (n == 0) → r ≡ false → 0 < n
not_empty n r e h = grind (arith, nat_tests)

pub returns-else-is_empty-clause-star : goal.returns-else-is_empty-clause-star
returns-else-is_empty-clause-star c =
    let stars = c.self.inside.before_stars in
    let texts = map (λ s. chars (string_bytes s)) stars.items in
    let some : 0 < vec_len stars = not_empty _ _ c.is_empty.ensures c.if-is_empty.false in
    let long : 0 < length texts = simp length-map (omega (arith, stars.ok.0)) in
    subst (λ pattern. Contains pattern Star) c.self.view_is (Contains-star texts (chars (string_bytes c.self.inside.last)) long)

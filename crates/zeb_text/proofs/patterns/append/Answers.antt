use Rattle.zeb_text.proofs.Cited.{◌≡◌, ◌++◌, [], ap, sym, ◌∙◌, arith, map, take, chars, string_bytes, length, append_assoc, take_all, literal, starred}
use Rattle.zeb_text.proofs.JoinLemmas.{map_more}
use Rattle.zeb_text.proofs.SymbolLemmas.{starred-append, starred-piece}
use Rattle.zeb_text.proofs.patterns.append.Goals as goal

pub loop-piece-preserved : goal.loop-piece-preserved
loop-piece-preserved c =
    let items = c.pattern.inside.before_stars.items in
    let i = c.loop-piece.piece-index in
    let piece = c.piece-item.result in
    let is = rw c.deref-piece-items.ensures.value at c.piece-item.is in
    let more = map_more (λ s. chars (string_bytes s)) items i piece (omega (arith, ap length c.deref-piece-items.ensures.value)) is in
    let texts = map (λ s. chars (string_bytes s)) (take i items) in
    rw (c.in_ok-push_star.ensures, c.in_ok-push_text.ensures, c.loop-piece.invariant, c.as_str.ensures.value, more, starred-piece texts (chars (string_bytes piece)))
    (simp append_assoc)

pub returns : goal.returns
returns c =
    let items = c.pattern.inside.before_stars.items in
    let texts = map (λ s. chars (string_bytes s)) items in
    let last = chars (string_bytes c.pattern.inside.last) in
    let to = c.args.to.now in
    let i = c.loop-piece.piece-index in
    let all : take i items ≡ items = take_all i items (omega (arith, ap length c.deref-piece-items.ensures.value)) in
    let whole : to ++ c.args.pattern.now ≡ c.loop-piece.to ++ literal (chars c.as_str-2.result.now) =
    rw (c.loop-piece.invariant, all, c.as_str-2.ensures.value, ← c.pattern.view_is)
    (ap (λ pattern. to ++ pattern) (starred-append texts [] last) ∙ sym (append_assoc to (starred texts []) (literal last))) in
    rw whole c.push_text-2.ensures

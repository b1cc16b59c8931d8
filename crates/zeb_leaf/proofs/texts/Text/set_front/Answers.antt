-- What was copied behind the back isn't of the text.
use Rattle.zeb_leaf.proofs.Cited.{◌≡◌, ◌+◌, ◌≤◌, ◌∙◌, ◌++◌, length, take, arith, ap, List, ℕ, length-append}
use Rattle.std.proofs.lemmas.List.{length-take, with_items_is}
use Rattle.zeb_leaf.proofs.CopiedTexts.{front_put}
use Rattle.zeb_leaf.proofs.texts.Text.set_front.Goals as goal

pub returns-then-copy_at_once-clause-ok : goal.returns-then-copy_at_once-clause-ok
returns-then-copy_at_once-clause-ok c =
    let kept = c.as_mut_slice.result.now in
    let len = c.self.inside.len in
    let place = c.args.place in
    let back = c.args.back.now in
    let front = c.split_at_mut-behind.result.0.now in
    let put = c.copy_at_once.new.to in
    let split = c.split_at_mut-behind.ensures in
    let same : take len kept ≡ c.args.self.now = ap (λ (b : List ℕ). take len b) c.as_mut_slice.ensures.value ∙ c.self.view_is in
    let before : place ≤ len = omega (arith, c.requires.place, ap length same, length-take len kept) in
    let within : len ≤ length kept = omega (arith, c.self.invariant, ap length c.as_mut_slice.ensures.value) in
    let long : length (front ++ put) ≡ c.self.inside.kept.len =
    omega (arith, length-append front put, c.copy_at_once.auto.to, ap length split.value, length-append front c.split_at_mut-behind.result.1.now, c.as_mut_slice.ensures.len) in
    ap (λ (b : List ℕ). take (place + length back) b) (with_items_is c.self.inside.kept (front ++ put) long)
    ∙ (λ i. take (place + length back) (split.front i ++ c.copy_at_once.ensures.copied c.if-copy_at_once.true i))
    ∙ front_put kept c.args.onward.now back _ len place before within c.if-back-le-AT_ONCE.true c.requires.begins
    ∙ ap (λ (t : List ℕ). take place t ++ back) same

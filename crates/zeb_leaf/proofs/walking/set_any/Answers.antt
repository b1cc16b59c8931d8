-- A text cut between characters, with a text behind it, is a text; any other is tried as a whole.
use Rattle.zeb_leaf.proofs.Cited.{◌++◌, ℕ, List, take, sym, subst, IsUtf8, IsUtf8-append, IsUtf8-take, IsCharBoundary}
use Rattle.zeb_leaf.proofs.walking.set_any.Goals as goal

joined : (text suffix : List ℕ) (shared : ℕ) → IsUtf8 text → IsCharBoundary text shared → IsUtf8 suffix → IsUtf8 (take shared text ++ suffix)
joined text suffix shared is cut more = IsUtf8-append (take shared text) suffix (IsUtf8-take text shared is cut) more

pub returns-then-is_text-clause-told : goal.returns-then-is_text-clause-told
returns-then-is_text-clause-told c =
    let text = c.args.text.now in
    let put = c.in_ok-set_behind.ensures.ok in
    let cut = subst (λ (t : List ℕ). IsCharBoundary t c.args.shared) c.as_slice.ensures (c.is_between_characters.ensures c.if-is_between_characters.true) in
    (put, subst IsUtf8 (sym put) (joined text c.args.suffix.now c.args.shared c.requires.text.1 cut (c.is_text.ensures.0 c.if-is_text.true)))

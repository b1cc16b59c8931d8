-- One character further in a text, seen as the words of the whole text.
use Rattle.zeb_query.proofs.Cited.{◌≡◌, ℕ, ◌+◌, ◌<◌, List, ◌∷◌, length, get_or, drop, sym, ap, ◌∙◌, len_utf8, at_drop_more, Cutter, words_with}

pub words_with-more : (old new : Cutter) (place width c : ℕ) (cs : List ℕ) (n m : ℕ) → (n < length cs) × (c ≡ get_or cs n c) → width ≡ len_utf8 c → m ≡ n + 1 → ((rest : List ℕ) → words_with new (place + len_utf8 c) rest ≡ words_with old place (c ∷ rest)) → words_with new (place + width) (drop m cs) ≡ words_with old place (drop n cs)
words_with-more old new place width c cs n m at wide next step =
    let reads : words_with old place (drop n cs) ≡ words_with old place (get_or cs n c ∷ drop (n + 1) cs) = at_drop_more (words_with old place) cs n c at.0 in
    ap (λ w. words_with new (place + w) (drop m cs)) wide
    ∙ ap (λ k. words_with new (place + len_utf8 c) (drop k cs)) next
    ∙ step (drop (n + 1) cs)
    ∙ ap (λ x. words_with old place (x ∷ drop (n + 1) cs)) at.1
    ∙ sym reads

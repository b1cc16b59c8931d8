-- Entries, and what they say, one entry more.
use Rattle.zeb_leaves.proofs.Cited.{◌≡◌, ◌∙◌, ◌<◌, ◌+◌, ◌++◌, ◌∷◌, ℕ, List, [], length, refl, sym, ap, subst, Posting, get_or, take, SayAll, Says}
use Rattle.std.proofs.lemmas.List.{append_assoc, append-nil, take_more}
use Rattle.zeb_leaf.specs.declared.entries.Held.{Held}

said_behind : (held : List Held) (one : Held) (list part : List Posting) → SayAll held list → Says one part → SayAll (held ++ one ∷ []) (list ++ part)
said_behind [] one list part none says = (part, [], says, refl, ap (λ l. l ++ part) none ∙ sym (append-nil part))
said_behind (first ∷ held) one list part say says =
    (say.0, say.1 ++ part, say.2, said_behind held one say.1 part say.3 says, ap (λ l. l ++ part) say.4 ∙ append_assoc say.0 say.1 part)

pub said_more : (held : List Held) (i : ℕ) (one : Held) (list part : List Posting) → i < length held → one ≡ get_or held i one → SayAll (take i held) list → Says one part → SayAll (take (i + 1) held) (list ++ part)
said_more held i one list part within is say says =
    let here : take (i + 1) held ≡ take i held ++ one ∷ [] = take_more held i one within ∙ ap (λ h. take i held ++ h ∷ []) (sym is) in
    subst (λ (l : List Held). SayAll l (list ++ part)) (sym here) (said_behind (take i held) one list part say says)

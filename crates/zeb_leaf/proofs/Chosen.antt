-- What was chosen of the entries so far.
use Rattle.zeb_leaf.proofs.Cited.{◌≡◌, ℕ, List, [], ◌∷◌, ◌++◌, refl, sym, ◌∙◌, ap, subst, inl, inr, append-nil, append_assoc, Entry, Held, TakesIfInSpan, AreInSpan}

module _ (first : List ℕ) (least : ℕ) (end : List ℕ) (number : ℕ) (e : Entry) (more : List Held) (one : AreInSpan first least end number (e ∷ []) more) where
  span_more : (done : List Entry) (among : List Held) → AreInSpan first least end number done among → AreInSpan first least end number (done ++ e ∷ []) (among ++ more)
  span_more [] among are = subst (λ (list : List Held). AreInSpan first least end number (e ∷ []) (list ++ more)) (sym are) one
  span_more (d ∷ done) among (inl it) = inl (it.0, it.1, it.2 ++ more, it.3, ap (λ (list : List Held). list ++ more) it.4, span_more done it.2 it.5)
  span_more (d ∷ done) among (inr it) = inr (it.0, span_more done among it.1)

-- what stood there, then what was chosen, then what the next entry adds
pub span_taken : (first : List ℕ) (least : ℕ) (end : List ℕ) (number : ℕ) (e : Entry) (done : List Entry) (old among now new : List Held) → AreInSpan first least end number done among → now ≡ old ++ among → TakesIfInSpan first least end number e now new
    → (more : List Held) × AreInSpan first least end number (done ++ e ∷ []) more × (new ≡ old ++ more)
span_taken first least end number e done old among now new are is (inl it) =
    let more = it.1 ∷ [] in (
      among ++ more,
      span_more first least end number e more (inl (it.0, it.1, [], it.2, refl, refl)) done among are,
      it.3 ∙ ap (λ (list : List Held). list ++ more) is ∙ append_assoc old among more,
    )
span_taken first least end number e done old among now new are is (inr it) = (
  among ++ [],
  span_more first least end number e [] (inr (it.0, refl)) done among are,
  it.1 ∙ is ∙ ap (λ (list : List Held). old ++ list) (sym (append-nil among)),
)

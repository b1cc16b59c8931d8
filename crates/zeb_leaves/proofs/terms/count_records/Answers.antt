use Rattle.zeb_leaves.proofs.Cited.{◌≡◌, ◌∙◌, ◌<◌, ◌++◌, ◌∷◌, [], List, suc, true, false, length, length-append, ap, sym, inl, inr, arith, rules, TermCount, ◌-◌, take, vec_len, IsUtf8, entry_with_records, same_last, last_set, last_view, term_with}
use Rattle.zeb_leaves.proofs.terms.count_records.Goals as goal
use Rattle.zeb_leaves.proofs.terms.count_records.Goals.{in-Some+else-is_term, in_default}

pub returns-then-is_term : goal.returns-then-is_term
returns-then-is_term c =
    let items = c.args.counts.now.items in
    let last = c.in-Some.last.now in
    let n = vec_len c.args.counts.now - 1 in
    let some : 0 < vec_len c.args.counts.now = c.in-Some.ensures.variant.0 (search rules) in
    let long : length items ≡ suc n = omega (arith, c.args.counts.now.ok.0, some) in
    let same : last.term ≡ c.args.term.now = search rules in
    inl (take n items, last, last_view n items last long c.in-Some.ensures.value, same, last_set n items (term_with last.term c.in_ok-last.field-0) long ∙ ap (λ r. take n items ++ term_with last.term r ∷ []) c.in_ok-last.ensures.ok)

pub returns : goal.returns
returns c =
    let items = c.args.counts.now.items in
    let e = entry_with_records c.args.term.now c.args.records in
    let term : c.in_ok-term.term ≡ e.term = c.in_ok-term.ensures.0 in
    let text : IsUtf8 e.term = c.in_ok-term.ensures.1 in
    elim c.match-last_mut.branch [
      | in-Some+else-is_term w ↦
          let last = w.in-Some.last.now in
          let n = vec_len c.args.counts.now - 1 in
          let some : 0 < vec_len c.args.counts.now = w.in-Some.ensures.variant.0 (search rules) in
          let long : length items ≡ suc n = omega (arith, c.args.counts.now.ok.0, some) in
          let view : items ≡ take n items ++ last ∷ [] = last_view n items last long w.in-Some.ensures.value in
          inr (
            λ front other is same.
                let it : last ≡ other = same_last (take n items) front last other (sym view ∙ is) in
                let yes' = w.is_term.ensures.1 (ap (λ (x : TermCount). x.term) it ∙ same) in
                let f : true ≡ false = sym yes' ∙ w.if-is_term.false in
                cc,
            text,
            c.in_ok-push.ensures.items ∙ ap (λ l. l ++ term_with c.in_ok-term.term e.records ∷ []) (ap (λ v. v.items) w.counts-is ∙ last_set n items last long ∙ sym view) ∙ ap (λ t. items ++ term_with t e.records ∷ []) term,
          )
      | in_default w ↦
          inr (
            λ front other is same. none front other (let never : 0 < vec_len c.args.counts.now → ⊥ = λ h. (let f : false ≡ true = w.in_default.ensures.variant.1 h in cc) in let empty : length items ≡ 0 = omega (arith, never, c.args.counts.now.ok.0) in empty) is,
            text,
            c.in_ok-push.ensures.items ∙ ap (λ l. l ++ term_with c.in_ok-term.term e.records ∷ []) (ap (λ v. v.items) w.counts-is) ∙ ap (λ t. items ++ term_with t e.records ∷ []) term,
          )
    ]
  where
    none : {X : Type 0} {items : List X} (front : List X) (other : X) → length items ≡ 0 → items ≡ front ++ other ∷ [] → ⊥
    none front other empty is = omega (arith, empty, ap length is, length-append front (other ∷ []))

use Rattle.zeb_register.proofs.Cited.{◌≡◌, ◌∙◌, ◌<◌, ◌+◌, ◌-◌, ◌++◌, ◌∷◌, [], List, suc, true, false, take, length, ap, sym, inl, inr, arith, rules, bytes_eq-Decides, vec_len, TermCount, term_with}
use Rattle.zeb_register.proofs.ContentLemmas.{has_at}
use Rattle.zeb_register.proofs.RisingLists.{same_last}
use Rattle.zeb_register.proofs.TermRows.{last_view, last_set}
use Rattle.zeb_register.proofs.terms.count_occurrence.Goals as goal
use Rattle.zeb_register.proofs.terms.count_occurrence.Goals.{then-sysno-newest, else-sysno-newest, in-Some+else-eq, in_default}

pub overflow_add-last : goal.overflow_add-last
overflow_add-last c =
    let items = c.args.counts.now.items in
    let long : vec_len c.args.counts.now ≡ length items = c.args.counts.now.ok.0 in
    let some : 0 < vec_len c.args.counts.now = c.in-Some.ensures.variant.0 (search rules) in
    omega (arith, c.requires.room c.in-Some.last.now (has_at items (vec_len c.args.counts.now - 1) c.in-Some.last.now c.in-Some.ensures.value (omega (arith, long, some))))

pub returns-then-eq : goal.returns-then-eq
returns-then-eq c =
    let items = c.args.counts.now.items in
    let last = c.in-Some.last.now in
    let n = vec_len c.args.counts.now - 1 in
    let some : 0 < vec_len c.args.counts.now = c.in-Some.ensures.variant.0 (search rules) in
    let long : length items ≡ suc n = omega (arith, c.args.counts.now.ok.0, some) in
    let view : items ≡ take n items ++ last ∷ [] = last_view n items last long c.in-Some.ensures.value in
    let same : last.term ≡ c.args.term = (bytes_eq-Decides last.term c.args.term).0 (sym c.eq.ensures ∙ c.if-eq.true) in
    elim c.if-sysno-newest.branch [
      | then-sysno-newest w ↦ inl (take n items, last, view, same, inr (w.if-sysno-newest.true, ap (λ v. v.items) w.counts-is ∙ last_set n items (term_with last.term (last.records + 1)) long))
      | else-sysno-newest w ↦ inl (take n items, last, view, same, inl (w.if-sysno-newest.false, ap (λ v. v.items) w.counts-is ∙ last_set n items last long ∙ sym view))
    ]

pub returns : goal.returns
returns c =
    let items = c.args.counts.now.items in
    elim c.match-last_mut.branch [
      | in-Some+else-eq w ↦
          let last = w.in-Some.last.now in
          let n = vec_len c.args.counts.now - 1 in
          let some : 0 < vec_len c.args.counts.now = w.in-Some.ensures.variant.0 (search rules) in
          let long : length items ≡ suc n = omega (arith, c.args.counts.now.ok.0, some) in
          let view : items ≡ take n items ++ last ∷ [] = last_view n items last long w.in-Some.ensures.value in
          inr (
            λ front other is same.
                let it : last ≡ other = same_last (take n items) front last other (sym view ∙ is) in
                let e : false ≡ true = sym w.if-eq.false ∙ w.eq.ensures ∙ (bytes_eq-Decides last.term c.args.term).1 (ap (λ (x : TermCount). x.term) it ∙ same) in
                cc,
            c.in_ok-push.ensures.items ∙ ap (λ l. l ++ term_with c.args.term 1 ∷ []) (ap (λ v. v.items) w.counts-is ∙ last_set n items last long ∙ sym view),
          )
      | in_default w ↦
          inr (
            λ front other is same. none front other (let never : 0 < vec_len c.args.counts.now → ⊥ = λ h. (let e : false ≡ true = w.in_default.ensures.variant.1 h in cc) in let e : length items ≡ 0 = omega (arith, never, c.args.counts.now.ok.0) in e) is,
            c.in_ok-push.ensures.items ∙ ap (λ l. l ++ term_with c.args.term 1 ∷ []) (ap (λ v. v.items) w.counts-is),
          )
    ]
  where
    none : {X : Type 0} {items : List X} (front : List X) (other : X) → length items ≡ 0 → items ≡ front ++ other ∷ [] → ⊥
    none front other empty is = omega (arith, empty, ap length is, Rattle.std.proofs.Common.length-append front (other ∷ []))

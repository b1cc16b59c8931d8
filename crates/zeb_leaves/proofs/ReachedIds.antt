-- From one id with which rows of a table begin to the next, where what is said of those passed so far is any fact of an id.
use Rattle.zeb_register.proofs.Cited.{Trees, ◌≡◌, ◌≤ℤ◌, ◌<ℤ◌, ◌+ℤ◌, ℤ, ℕ, pos, Some, None, refl, sym, subst, Ordering, Less, Equal, Greater, arith, int_cmp, int_ranked, ints, Owns, AreEnds, IsLeastFrom}
use Rattle.zeb_register.specs.declared.belonging.Ends.{Ends}

-- the id occurs, those below it are P, and none is above the last
pub record IsReached (tree : ℕ) (trees : Trees) (P : ℤ → Type 0) (last id : ℤ) : Type 0 where
  pub owns : Owns tree trees id
  pub lower : (other : ℤ) → Owns tree trees other → other <ℤ id → P other
  pub upper : (other : ℤ) → Owns tree trees other → other ≤ℤ last

module _ (tree : ℕ) (trees : Trees) (P : ℤ → Type 0) where
  abbrev AllOwners : Type 0
  AllOwners = (other : ℤ) → Owns tree trees other → P other

  pub first_reached : (ends : Ends) → AreEnds tree trees (Some ends) → IsReached tree trees P ends.last ends.first
  first_reached ends are = record {
    owns = are.0;
    lower = λ other there low. absurd (let e = (are.1 other there).0 in omega (arith, ints, e, low));
    upper = λ other there. (are.1 other there).1;
  }

  module _ (last id : ℤ) (it : IsReached tree trees P last id) where
    -- each id up to this one is P, where this one is
    up_to_id : P id → (other : ℤ) → Owns tree trees other → other ≤ℤ id → P other
    up_to_id here other there up = from (int_cmp other id) refl
      where
        from : (o : Ordering) → o ≡ int_cmp other id → P other
        from Less is = it.lower other there (int_ranked other id Less is)
        from Equal is = let same : other ≡ id = int_ranked other id Equal is in subst P (sym same) here
        from Greater is = let high : id <ℤ other = int_ranked other id Greater is in absurd (omega (arith, ints, high, up))

    pub all_reached : P id → last ≤ℤ id → AllOwners
    all_reached here over other there = up_to_id here other there (let e = it.upper other there in omega (arith, ints, e, over))

    pub none_next : P id → IsLeastFrom (Owns tree trees) (id +ℤ pos 1) None → AllOwners
    none_next here none other there = from (int_cmp other id) refl
      where
        from : (o : Ordering) → o ≡ int_cmp other id → P other
        from Less is = let low : other <ℤ id = int_ranked other id Less is in up_to_id here other there (omega (arith, ints, low))
        from Equal is = let same : other ≡ id = int_ranked other id Equal is in up_to_id here other there (omega (arith, ints, same))
        from Greater is = let high : id <ℤ other = int_ranked other id Greater is in absurd (none other there (omega (arith, ints, high)))

    pub next_reached : P id → (next : ℤ) → IsLeastFrom (Owns tree trees) (id +ℤ pos 1) (Some next) → IsReached tree trees P last next
    next_reached here next first = record { owns = first.0; lower = λ other there low. from other there low (int_cmp other id) refl; upper = it.upper }
      where
        from : (other : ℤ) → Owns tree trees other → other <ℤ next → (o : Ordering) → o ≡ int_cmp other id → P other
        from other there low Less is = let less : other <ℤ id = int_ranked other id Less is in up_to_id here other there (omega (arith, ints, less))
        from other there low Equal is = let same : other ≡ id = int_ranked other id Equal is in up_to_id here other there (omega (arith, ints, same))
        from other there low Greater is =
            let high : id <ℤ other = int_ranked other id Greater is in
            absurd (let e : next ≤ℤ other = first.2 other there (omega (arith, ints, high)) in omega (arith, ints, e, low))

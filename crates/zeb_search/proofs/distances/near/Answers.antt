use Rattle.zeb_search.proofs.Cited.{◌↔◌, ◌⊎◌, List, ℕ, Option, None, Vec, sym, subst, inl, inr, Has, Words, IsNearBy}
use Rattle.std.proofs.Common.{Global}
use Rattle.zeb_search.proofs.SeparatedPostings.{near_numbers, IsNearByAny}
use Rattle.zeb_search.proofs.distances.near.Goals as goal
use Rattle.zeb_search.proofs.distances.near.Goals.{in-Some+in_ok-add_near-2, in_default}

pub returns : goal.returns
returns c = λ up down.
    let separation = c.args.separation.now in
    let left = c.args.left.now in
    let right = c.args.right.now in
    let first : List ℕ = c.add_near.new.numbers.items in
    let all : List ℕ = c.match-more_words.numbers.items in
    let second : (n : ℕ) → Has all n ↔ (Has first n ⊎ IsNearByAny separation left right n c.ranges-more_words.result.1) =
    λ n. elim c.match-more_words.branch [
      | in-Some+in_ok-add_near-2 w ↦
          subst (λ (more : Option Words). Has all n ↔ (Has first n ⊎ IsNearByAny separation left right n more)) (sym w.in-Some.is)
          (subst (λ (v : Vec ℕ Global). Has v.items n ↔ (Has first n ⊎ IsNearBy separation.ordered w.in-Some.more_words left right n)) (sym w.numbers-is) (w.in_ok-add_near-2.ensures up down n))
      | in_default w ↦
          subst (λ (more : Option Words). Has all n ↔ (Has first n ⊎ IsNearByAny separation left right n more)) (sym w.in_default.is)
          (subst (λ (v : Vec ℕ Global). Has v.items n ↔ (Has first n ⊎ IsNearByAny separation left right n None)) (sym w.numbers-is) (λ h. inl h, λ h. elim h [ inl there ↦ there | inr none ↦ absurd none ]))
    ] in
    near_numbers separation left right c.ranges-more_words.result.0 c.ranges-more_words.result.1 c.ranges-more_words.ensures
    c.new-numbers.result.items first all c.in_order.result.items c.new-numbers.ensures.items (c.in_ok-add_near.ensures up down) second c.in_order.ensures

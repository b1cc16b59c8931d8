use Rattle.zeb_profile.proofs.Cited.{◌≡◌, ◌+◌, ◌∷◌, ◌++◌, [], List, ℕ, true, None, Some, refl, ap, sym, subst, ◌∙◌, drop, map, append_assoc, arith, string_bytes, is_some, list_any, get_by_text, Register, Target, pair_of, name_key, same_name}
use Rattle.zeb_profile.proofs.NamesByNumber.{drop-next, has_number, pair_numbered}
use Rattle.zeb_profile.proofs.resolved.pairs_of.Goals.{in-Some+in_ok-push, in_default}
use Rattle.zeb_profile.proofs.resolved.pairs_of.Goals as goal

pub overflow_cast-number : goal.overflow_cast-number
overflow_cast-number c =
    let keyed : string_bytes c.in_ok-key.key ≡ name_key c.target-item.result.name = c.in_ok-key.ensures in
    let found : get_by_text c.args.indexes.now.numbers (name_key c.target-item.result.name) ≡ Some c.in-Some.number.now =
    rw (← keyed, ← c.as_str.ensures.value, ← c.get.ensures.value, c.in-Some.is) refl in
    omega (arith, (pair_numbered c.args.indexes.now.numbers c.args.indexes.now.names.items c.target-item.result c.in-Some.number.now c.requires.numbers found).1, c.requires.few)

pub loop-target-preserved : goal.loop-target-preserved
loop-target-preserved c =
    let names = c.args.indexes.now.names.items in
    let target = c.target-item.result in
    let pairs = c.loop-target.pairs.items in
    let rest = map (pair_of names) (drop (c.loop-target.target-index + 1) c.args.targets.now) in
    let keyed : string_bytes c.in_ok-key.key ≡ name_key target.name = c.in_ok-key.ensures in
    elim c.match-get.branch [
      | in-Some+in_ok-push w ↦
          let next : drop c.loop-target.target-index c.args.targets.now ≡ target ∷ drop (c.loop-target.target-index + 1) c.args.targets.now =
          drop-next c.args.targets.now c.loop-target.target-index target c.loop-target-test.true c.target-item.is in
          let found : get_by_text c.args.indexes.now.numbers (name_key target.name) ≡ Some w.in-Some.number.now =
          rw (← keyed, ← c.as_str.ensures.value, ← c.get.ensures.value, w.in-Some.is) refl in
          let grown : c.match-get.pairs.items ≡ pairs ++ (w.in-Some.number.now, target.register) ∷ [] = rw w.pairs-is w.in_ok-push.ensures.items in
          ap (λ (front : List (ℕ × Register)). front ++ rest) grown
          ∙ append_assoc pairs ((w.in-Some.number.now, target.register) ∷ []) rest
          ∙ ap (λ (pair : ℕ × Register). pairs ++ pair ∷ rest) (pair_numbered c.args.indexes.now.numbers names target w.in-Some.number.now c.requires.numbers found).0
          ∙ ap (λ (left : List Target). pairs ++ map (pair_of names) left) (sym next) ∙ c.loop-target.invariant
      | in_default w ↦
          let known : list_any (same_name target.name) names ≡ true =
          subst (λ (target : Target). list_any (same_name target.name) names ≡ true) (sym c.target-item.is)
          (c.requires.known c.loop-target.target-index c.target-item.result c.loop-target-test.true) in
          let none : get_by_text c.args.indexes.now.numbers (name_key target.name) ≡ None =
          rw (← keyed, ← c.as_str.ensures.value, ← c.get.ensures.value, w.in_default.is) refl in
          let never = ap is_some (sym none) ∙ has_number c.args.indexes.now.numbers names target.name c.requires.numbers ∙ known in
          absurd (cc)
    ]

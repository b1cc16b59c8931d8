-- Three tables are emptied, one after the other.
use Rattle.zeb_register.proofs.Cited.{◌∙◌, State, Alters, Empties, GoesOn, IsStore, KeepsLists, LacksRegisters, arith}
use Rattle.zeb_register.specs.Store.{LacksLists}
use Rattle.zeb_register.proofs.Calls.{goes_then}

pub lists_wiped : (a b c d : State) → Alters 0 Empties a b → Alters 2 Empties b c → Alters 4 Empties c d → GoesOn a d × (IsStore a → IsStore d × LacksLists d.now.trees)
lists_wiped a b c d one two three = (
  goes_then a b d one.on (goes_then b c d two.on three.on),
  λ store.
      let first = one.rows store in
      let second = two.rows first.layout in
      let last = three.rows second.layout in (
        last.layout,
        (
          last.others.0 (λ e. absurd (omega (arith, e))) ∙ second.others.0 (λ e. absurd (omega (arith, e))) ∙ first.rows,
          last.others.1.0 (λ e. absurd (omega (arith, e))) ∙ second.rows,
          last.rows,
        ),
      ),
)

pub registers_wiped : (a b c d : State) → Alters 7 Empties a b → Alters 9 Empties b c → Alters 11 Empties c d → GoesOn a d × (IsStore a → IsStore d × LacksRegisters d.now.trees × KeepsLists a.now.trees d.now.trees)
registers_wiped a b c d one two three = (
  goes_then a b d one.on (goes_then b c d two.on three.on),
  λ store.
      let first = one.rows store in
      let second = two.rows first.layout in
      let last = three.rows second.layout in (
        last.layout,
        (
          last.others.1.1.1.0 (λ e. absurd (omega (arith, e))) ∙ second.others.1.1.1.0 (λ e. absurd (omega (arith, e))) ∙ first.rows,
          last.others.1.1.1.1.0 (λ e. absurd (omega (arith, e))) ∙ second.rows,
          last.rows,
        ),
        (
          last.others.0 (λ e. absurd (omega (arith, e))) ∙ second.others.0 (λ e. absurd (omega (arith, e))) ∙ first.others.0 (λ e. absurd (omega (arith, e))),
          last.others.1.0 (λ e. absurd (omega (arith, e))) ∙ second.others.1.0 (λ e. absurd (omega (arith, e))) ∙ first.others.1.0 (λ e. absurd (omega (arith, e))),
          last.others.1.1.0 (λ e. absurd (omega (arith, e))) ∙ second.others.1.1.0 (λ e. absurd (omega (arith, e))) ∙ first.others.1.1.0 (λ e. absurd (omega (arith, e))),
        ),
      ),
)

use Rattle.zeb_text.proofs.Cited.{◌≡◌, Bool, true, false, ◌||◌, sym, ◌∙◌}
use Rattle.zeb_text.specs.Words.{is_word_character}
use Rattle.zeb_text.proofs.cutting.is_word_char.Goals as goal
use Rattle.zeb_text.proofs.cutting.is_word_char.Goals.{then-contains, else-contains}

or-first : (a b c v : Bool) → a ≡ true → v ≡ true → v ≡ (a || b || c)
or-first true b c v h k = k
or-first false b c v h k = cc

or-second : (a b c v : Bool) → b ≡ true → v ≡ true → v ≡ (a || b || c)
or-second true b c v h k = k
or-second false true c v h k = k
or-second false false c v h k = cc

or-third : (a b c v : Bool) → a ≡ false → b ≡ false → v ≡ c → v ≡ (a || b || c)
or-third true b c v h k e = cc
or-third false true c v h k e = cc
or-third false false c v h k e = e

pub returns-then-contains-2 : goal.returns-then-contains-2
unfolding is_word_character
returns-then-contains-2 c =
    let category = c.for_char-category.ensures in
    elim c.if-contains.branch [
      | then-contains w ↦ rw (← category) (or-first _ _ _ _ (sym c.contains.ensures ∙ w.if-contains.true) c.if-contains-2.true)
      | else-contains w ↦ rw (← category) (or-second _ _ _ _ (sym w.contains-else-contains.ensures ∙ sym w.value-is ∙ c.if-contains-2.true) c.if-contains-2.true)
    ]

pub returns-else-contains-2 : goal.returns-else-contains-2
unfolding is_word_character
returns-else-contains-2 c =
    let category = c.for_char-category.ensures in
    elim c.if-contains.branch [
      | then-contains w ↦ cc
      | else-contains w ↦ rw (← category) (or-third _ _ _ _ (sym c.contains.ensures ∙ w.if-contains.false) (sym w.contains-else-contains.ensures ∙ sym w.value-is ∙ c.if-contains-2.false) c.contains-else-contains-2.ensures)
    ]

use Rattle.zeb_extract.proofs.Cited.{◌≡◌, ◌++◌, map, numbers_left}
use Rattle.zeb_text.specs.Numbers.{number_key}
use Rattle.zeb_extract.proofs.entries.number_terms.Given as goal

abbrev pub invariant-loop-number : goal.invariant-loop-number
invariant-loop-number l =
    l.terms.items ++ map number_key (numbers_left l.number-iterator) ≡ map number_key (numbers_left l.initial.number-iterator)

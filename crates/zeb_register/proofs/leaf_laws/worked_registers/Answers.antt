-- Each example by the definitions.
use Rattle.zeb_register.proofs.Cited.{refl}
use Rattle.zeb_register.proofs.WorkedRegisters.{counts_a, counts_b, counts_c, counts_d, first_covers_a, first_covers_b, reads_a, reads_b, reads_c, reads_d, second_covers_b, second_covers_c, stray_beside}
use Rattle.zeb_register.specs.Worked.{first_leaf, second_leaf, stray_leaf}
use Rattle.zeb_register.proofs.leaf_laws.worked_registers.Goals as goal

pub returns-clause-covered : goal.returns-clause-covered
returns-clause-covered c = (
  (first_covers_a first_leaf second_leaf refl refl 0, (first_covers_a first_leaf second_leaf refl refl 7, (first_covers_b first_leaf second_leaf refl refl, tt))),
  (second_covers_b first_leaf second_leaf refl refl 0, (second_covers_b first_leaf second_leaf refl refl 1, (second_covers_c first_leaf second_leaf refl refl 0, tt))),
)

pub returns-clause-read : goal.returns-clause-read
returns-clause-read c = λ block. (reads_a second_leaf refl block, reads_b block, reads_c first_leaf refl block, reads_d first_leaf refl block)

pub returns-clause-counted : goal.returns-clause-counted
returns-clause-counted c = (counts_a second_leaf refl, counts_b, counts_c first_leaf refl, counts_d)

pub returns-clause-stray : goal.returns-clause-stray
returns-clause-stray c = (reads_c stray_leaf refl 0, counts_c stray_leaf refl, stray_beside)

-- Each example by the definitions.
use Rattle.zeb_register.proofs.Cited.{refl, inl}
use Rattle.zeb_register.proofs.WorkedRegisters.{counts_a, cut_lacks_b, cut_lacks_c, miscounted_a, no_text_lacks, reads_b_first, uncovered_a}
use Rattle.zeb_register.specs.Worked.{cut_leaf}
use Rattle.zeb_register.proofs.leaf_laws.worked_damage.Goals as goal

pub returns-clause-cut : goal.returns-clause-cut
returns-clause-cut c = (inl cut_lacks_b, inl cut_lacks_c, (1, cut_lacks_b), reads_b_first cut_leaf refl, counts_a cut_leaf refl)

pub returns-clause-no_text : goal.returns-clause-no_text
returns-clause-no_text c = inl no_text_lacks

pub returns-clause-uncovered : goal.returns-clause-uncovered
returns-clause-uncovered c = inl uncovered_a

pub returns-clause-miscounted : goal.returns-clause-miscounted
returns-clause-miscounted c = miscounted_a

-- The bytes are a function of the entries, and the entries are told by their bytes.
use Rattle.zeb_leaf.proofs.Cited.{◌∙◌, sym, refl, first_place}
use Rattle.zeb_leaf.proofs.Walked.{leaf_spells, same_list}
use Rattle.zeb_leaf.proofs.laws.bytes_and_entries_are_one_to_one.Goals as goal

pub returns-clause-spelled : goal.returns-clause-spelled
returns-clause-spelled c = λ list some up each. record { some = some; rising = up; each = each; spelled = refl }

pub returns-clause-one_spelling : goal.returns-clause-one_spelling
returns-clause-one_spelling c = λ list one other first second. first.spelled ∙ sym second.spelled

pub returns-clause-one_list : goal.returns-clause-one_list
returns-clause-one_list c = λ bytes one other first second. same_list first_place bytes one other (leaf_spells bytes one first) (leaf_spells bytes other second)

use Rattle.zeb_lower_laws.proofs.SampleAnswers.{faulty_first, left_over, second_faulty, three_accepted, too_many, unnamed}
use Rattle.zeb_lower_laws.proofs.analysis.analyses_at_examples.Goals as goal

pub returns : goal.returns
returns c = record { accepted = three_accepted; limit = too_many; stream = left_over; record_fault = second_faulty; unnamed = (unnamed, faulty_first) }

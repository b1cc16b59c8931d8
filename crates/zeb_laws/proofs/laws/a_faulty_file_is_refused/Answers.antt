use Rattle.zeb_laws.proofs.Cited.{refused, faulty, book_conditions, no_books, one_book, step_is}
use Rattle.zeb_change.specs.declared.faults.RecordFault.TheVariants as fault
use Rattle.zeb_laws.proofs.WorkedAnswers.{refused_new, refused_old}
use Rattle.zeb_laws.proofs.laws.a_faulty_file_is_refused.Goals as goal

pub returns-clause-refused : goal.returns-clause-refused
returns-clause-refused c version limits command by answer later = step_is answer later (book_conditions version limits) command (no_books version) (refused (faulty 1 2 fault.LengthDigits), no_books version) (refused_new version limits command by)

pub returns-clause-refused_again : goal.returns-clause-refused_again
returns-clause-refused_again c version limits command by answer later = step_is answer later (book_conditions version limits) command (one_book version) (refused (faulty 1 2 fault.LengthDigits), one_book version) (refused_old version limits command by)

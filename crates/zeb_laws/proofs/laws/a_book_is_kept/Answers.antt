use Rattle.zeb_laws.proofs.Cited.{Init, done, changed, book_conditions, no_books, one_book, step_is}
use Rattle.zeb_laws.proofs.WorkedAnswers.{begun, kept, again}
use Rattle.zeb_laws.proofs.WorkedRun.{run}
use Rattle.zeb_laws.proofs.laws.a_book_is_kept.Goals as goal

pub returns-clause-begun : goal.returns-clause-begun
returns-clause-begun c version limits before answer later = step_is answer later (book_conditions version limits) Init before (done, no_books version) (begun version limits before)

pub returns-clause-kept : goal.returns-clause-kept
returns-clause-kept c version limits command by answer later = step_is answer later (book_conditions version limits) command (no_books version) (changed 1 0 0, one_book version) (kept version limits command by)

pub returns-clause-again : goal.returns-clause-again
returns-clause-again c version limits command by answer later = step_is answer later (book_conditions version limits) command (one_book version) (changed 0 1 0, one_book version) (again version limits command by)

pub returns-clause-run : goal.returns-clause-run
returns-clause-run c = run

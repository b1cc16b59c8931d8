use Rattle.zeb_program.proofs.Cited.{Err, ap}
use Rattle.zeb_program.proofs.FileLemmas.{unread_content}
use Rattle.zeb_program.proofs.files.content_from.Goals as goal

pub returns-in-Err-clause-read : goal.returns-in-Err-clause-read
returns-in-Err-clause-read g c = λ sound.
    unread_content (g.R.Source.remaining c.args.source.now) c.args.path c.in-Err.fault c.unread.result c.unread.ensures.path c.unread.ensures.memory
    (λ is. c.in-Err.ensures.unreadable (ap Err is) sound)

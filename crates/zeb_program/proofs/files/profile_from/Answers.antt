use Rattle.zeb_program.proofs.Cited.{◌≡◌, Err, Ok, ap, refl, string_bytes, subst, profile_of}
use Rattle.zeb_profile.specs.Outcomes.{FailsPlaced}
use Rattle.zeb_program.proofs.FileLemmas.{profile_text, unread_profile}
use Rattle.zeb_program.proofs.files.profile_from.Goals as goal

pub returns-in-Err-clause-read : goal.returns-in-Err-clause-read
returns-in-Err-clause-read g c = λ sound.
    unread_profile (g.R.Source.remaining c.args.source.now) c.args.file c.in-Err.fault c.unread.result c.unread.ensures.path c.unread.ensures.memory
    (λ is. c.in-Err.ensures.unreadable (ap Err is) sound)

pub returns-in-Ok-read-clause-read : goal.returns-in-Ok-read-clause-read
returns-in-Ok-read-clause-read g c = λ _. (
  string_bytes c.in-Ok.text,
  profile_text (g.R.Source.remaining c.args.source.now) c.in-Ok.text c.in-Ok.ensures.text.1 c.in-Ok.ensures.text.0,
  subst (λ text. profile_of text ≡ Ok c.in-Ok-read.profile) c.as_str.ensures.value c.in-Ok-read.ensures,
)

pub returns-in-Err-read-clause-read : goal.returns-in-Err-read-clause-read
returns-in-Err-read-clause-read g c = λ _. (
  refl,
  string_bytes c.in-Ok.text,
  profile_text (g.R.Source.remaining c.args.source.now) c.in-Ok.text c.in-Ok.ensures.text.1 c.in-Ok.ensures.text.0,
  subst (λ text. FailsPlaced c.in-Err-read.fault (profile_of text)) c.as_str.ensures.value c.in-Err-read.ensures,
)

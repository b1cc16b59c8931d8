use Rattle.zeb_program.proofs.FormLemmas.{told_form}
use Rattle.zeb_program.proofs.forms.form_at.Goals as goal

pub returns : goal.returns
returns g c =
    told_form _ _ _ c.form_from.result c.reader-source.ensures.bytes c.reader-source.ensures.able c.form_from.ensures

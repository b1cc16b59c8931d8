use Rattle.zeb_program.proofs.Cited.{◌≡◌, arith, rules, subst, sym}
use Rattle.zeb_program.specs.Forms.{IsFormOf, form_of}
use Rattle.zeb_program.proofs.FormLemmas.{read_form}
use Rattle.zeb_program.proofs.forms.form_from.Goals as goal

pub returns-in-Ok : goal.returns-in-Ok
returns-in-Ok g c = λ _.
    let told = g.R.Source.remaining c.args.source.now in
    let same : c.deref.result.now ≡ c.in-Ok.bytes.items = search rules in
    subst (IsFormOf told) (sym c.form_of.ensures) (subst (λ bytes. IsFormOf told (form_of bytes)) (sym same)
    (read_form told (g.R.Source.remaining c.read_bytes.new.source) c.in-Ok.bytes.items c.in-Ok.ensures.taken (λ few. c.in-Ok.ensures.end (omega (arith, few, c.in-Ok.bytes.ok.0)))))

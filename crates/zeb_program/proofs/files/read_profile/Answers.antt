use Rattle.zeb_program.proofs.Cited.{◌≡◌, ◌∙◌, ap, refl, rules, subst, string_bytes, ReadsProfile}
use Rattle.zeb_program.proofs.FileLemmas.{read_as_told}
use Rattle.zeb_program.proofs.files.read_profile.Goals as goal

pub returns : goal.returns
returns g c =
    let tells = g.P.Paths.tells c.args.paths.now in
    let same : string_bytes c.in_ok-clone.field-0 ≡ string_bytes c.args.file = search rules in
    read_as_told (λ told. ReadsProfile told c.args.file) c.args.file (refl, tt) (tells (string_bytes c.args.file)) _ _ _ c.profile_from.result
    (subst (λ bytes. g.P.Reader.Source.remaining c.reader-source.result ≡ tells bytes) same c.reader-source.ensures.bytes) (λ bytes told. c.reader-source.ensures.able bytes (ap tells same ∙ told))
    c.profile_from.ensures.able c.profile_from.ensures.read c.profile_from.ensures.failed

use Rattle.zeb_program.proofs.Cited.{◌≡◌, ◌∙◌, ap, refl, rules, subst, string_bytes, ReadsContent}
use Rattle.zeb_program.proofs.FileLemmas.{read_as_told}
use Rattle.zeb_program.proofs.files.content_of.Goals as goal

pub returns : goal.returns
returns g c =
    let tells = g.P.Paths.tells c.args.paths.now in
    let same : string_bytes c.in_ok-clone.field-0 ≡ string_bytes c.args.path = search rules in
    read_as_told (λ told. ReadsContent told c.args.path) c.args.path (refl, tt) (tells (string_bytes c.args.path)) _ _ _ c.content_from.result
    (subst (λ bytes. g.P.Reader.Source.remaining c.reader-source.result ≡ tells bytes) same c.reader-source.ensures.bytes) (λ bytes told. c.reader-source.ensures.able bytes (ap tells same ∙ told))
    c.content_from.ensures.able c.content_from.ensures.read c.content_from.ensures.failed

use Rattle.zeb_profile.proofs.Cited.{◌≡◌, ◌++◌, drop, string_bytes, canonical_text, directives_in}
use Rattle.zeb_profile.proofs.canonical.canonical.Given as goal

abbrev pub invariant-loop-line : goal.invariant-loop-line
invariant-loop-line l = string_bytes l.text ++ canonical_text (directives_in (drop l.line-index l.placed)) ≡ canonical_text (directives_in l.placed)

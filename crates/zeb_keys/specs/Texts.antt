-- Where a term keeps its text, which only the model of a term speaks of (this project's own).
use Rattle.std.specs.Prelude.{ℕ, List, string_bytes}
use Rattle.zeb_keys.specs.declared.terms.Text.{Text}
use Rattle.zeb_keys.specs.declared.terms.Text.TheVariants.{Short, Long}

-- the text's bytes, wherever they lie
abbrev pub text_bytes : Text → List ℕ
text_bytes (Short text) = text.bytes
text_bytes (Long text) = string_bytes text

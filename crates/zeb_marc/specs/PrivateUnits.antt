-- What only the contracts of private functions speak of; no public clause reaches it.
-- Units as contracts see them: without where their bytes lie.
use Rattle.std.specs.Prelude.{ℕ, List, Some}
use Rattle.zeb_marc.specs.declared.units.Content.{Content as MarcContent}
use Rattle.zeb_marc.specs.Contents.{Content}

abbrev pub content_of : MarcContent → Content
content_of c = record { tag = c.tag; code = c.code; text = c.bytes.now }

abbrev pub subfield_content : List ℕ → ℕ → List ℕ → Content
subfield_content tag code text = record { tag = tag; code = Some code; text = text }

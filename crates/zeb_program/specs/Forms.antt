-- What a file is that begins with no record, as far as its first bytes say (this program's own).
use Rattle.std.specs.Prelude.{◌≡◌, ◌==◌, ℕ, Bool, List, [], ◌∷◌, Option, None, Some, IfSome, codes, if◌then◌else◌}
use Rattle.std.specs.List.{starts_with}
use Rattle.zeb_program.specs.declared.forms.Form.{Form}
use Rattle.zeb_program.specs.declared.forms.Form.TheVariants.{Marked, Packed, Xml}

-- the words for a form, and what to do
abbrev pub form_text : Form → List ℕ
form_text Marked = codes "begins with a byte order mark, which no record has: tail -c +4 leaves it out"
form_text Packed = codes "packed by gzip: gunzip unpacks it"
form_text Xml = codes "XML: yaz-marcdump -i marcxml -o marc makes ISO 2709 of MARCXML"

-- these bytes begin with those
abbrev pub begins_with : List ℕ → List ℕ → Bool
begins_with bytes first = starts_with (λ a b. a == b) bytes first

-- the form of a file with these bytes, where its first ones tell one: the byte order mark of UTF-8, the mark of gzip, and `<`
abbrev pub form_of : List ℕ → Option Form
form_of bytes =
    if begins_with bytes (0xef ∷ 0xbb ∷ 0xbf ∷ []) then Some Marked
    else if begins_with bytes (0x1f ∷ 0x8b ∷ []) then Some Packed
    else if begins_with bytes (0x3c ∷ []) then Some Xml else None

-- this is the form of a file of which these bytes are told, if any
abbrev pub IsFormOf : Option (List ℕ) → Option Form → Type 0
IsFormOf told form = IfSome told (λ bytes. form ≡ form_of bytes)

-- What only the contracts of private functions speak of; no public clause reaches it.
-- Where the truncation of a term puts stars (Z39.50, Bib-1 attribute type 5). Bib-1 speaks of a term as a whole: whether the stars
-- stand at the ends of the term or at each of its words is this project's own rule.
use Rattle.std.specs.Prelude.{Bool, true, false, List, [], ◌∷◌, if◌then◌else◌}
use Rattle.zeb_text.specs.declared.truncation.Cut.{Cut}
use Rattle.zeb_text.specs.declared.truncation.Cut.TheVariants.{Left, Right, Both}
use Rattle.zeb_text.specs.declared.truncation.Spread.{Spread}
use Rattle.zeb_text.specs.declared.truncation.Spread.TheVariants.{Each}
use Rattle.zeb_text.specs.Symbols.{Symbol, Star}

abbrev pub cuts_left : Cut → Bool
cuts_left Left = true
cuts_left Both = true
cuts_left _ = false

abbrev pub cuts_right : Cut → Bool
cuts_right Right = true
cuts_right Both = true
cuts_right _ = false

abbrev pub cuts_each : Spread → Bool
cuts_each Each = true
cuts_each _ = false

-- one star, or nothing
abbrev pub star_if : Bool → List Symbol
star_if is_there = if is_there then Star ∷ [] else []

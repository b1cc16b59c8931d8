-- The number and the letter of a register (this project's own).
use Rattle.std.specs.Prelude.{ℕ, List, codes}
use Rattle.zeb_keys.specs.declared.registers.Register.{Register}
use Rattle.zeb_keys.specs.declared.registers.Register.TheVariants.{Word, Phrase, Number}

-- the number of each register, by which registers are ordered and tables know them: words 0, phrases 1, numbers 2
abbrev pub register_code : Register → ℕ
register_code Word = 0
register_code Phrase = 1
register_code Number = 2

-- a register as a profile spells it
abbrev pub register_text : Register → List ℕ
register_text Word = codes "w"
register_text Phrase = codes "p"
register_text Number = codes "n"

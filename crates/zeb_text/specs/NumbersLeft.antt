-- What an iterator of numbers has yet to give. It is kept over the bytes of UTF-8, whose runs of ASCII digits are those of
-- the characters.
use Rattle.std.specs.Prelude.{ℕ, List}
use Rattle.zeb_text.specs.declared.digits.Numbers.{Numbers}
use Rattle.zeb_text.specs.Numbers.{numbers_of}

-- the numbers that an iterator has yet to give
abbrev pub numbers_left : Numbers → List ℕ
numbers_left numbers = numbers_of numbers.rest.now

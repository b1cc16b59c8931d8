-- The order of occurrences: by index, register (word, phrase, number), term by its UTF-8 bytes, unit and place (this project's
-- own).
use Rattle.std.specs.Prelude.{◌≡◌, List}
use Rattle.std.specs.declared.cmp.Ordering.{Ordering}
use Rattle.std.specs.declared.cmp.Ordering.TheVariants.{Equal}
use Rattle.std.specs.Ordering.{nat_cmp, ordering_then}
use Rattle.std.specs.Cmp.Lexicographic.{slice_cmp}
use Rattle.std.specs.List.Sorted.{IsStrictlySortedBy}
use Rattle.zeb_keys.specs.Registers.{register_code}
use Rattle.zeb_keys.specs.declared.keys.Key.{Key}
use Rattle.zeb_keys.specs.declared.keys.Occurrence.{Occurrence}

-- index, then register, then term
abbrev pub key_order : Key → Key → Ordering
key_order a b =
    ordering_then (nat_cmp a.index b.index)
    (ordering_then (nat_cmp (register_code a.register) (register_code b.register)) (slice_cmp nat_cmp a.term b.term))

-- key, then `seq`, then `pos`
abbrev pub occurrence_order : Occurrence → Occurrence → Ordering
occurrence_order a b =
    ordering_then (key_order a.key b.key) (ordering_then (nat_cmp a.seq b.seq) (nat_cmp a.pos b.pos))

-- an order takes only equal ones as equal
abbrev pub TellsApart : {K : Type 0} → (K → K → Ordering) → Type 0
TellsApart {K} R = (x y : K) → R x y ≡ Equal → x ≡ y

-- each occurrence stands before all later ones, so none is there twice
abbrev pub IsRising : List Occurrence → Type 0
IsRising xs = IsStrictlySortedBy occurrence_order xs

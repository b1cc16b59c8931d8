-- The greater of two statuses.
use Rattle.zeb_program.proofs.Cited.{◌≡◌, Bool, true, false, inl, inr, refl, greater, Status, Answered, Refused, Misused, Failed, if◌then◌else◌, Closed, IsFaultStatus, closing_status}
use Rattle.std.specs.Ordering.{ord_max}
use Rattle.zeb_program.specs.contracts.statuses.StatusOrd.TheImpl.{cmp-value}

pub greater_least : (a : Status) → greater a Answered ≡ a
greater_least Answered = refl
greater_least _ = refl

pub greater_regroup : (a b c : Status) → greater a (greater b c) ≡ greater (greater a b) c
greater_regroup Refused Refused Answered = refl
greater_regroup Refused Misused Answered = refl
greater_regroup Misused Refused Answered = refl
greater_regroup Misused Misused Answered = refl
greater_regroup _ _ _ = refl

-- what `max` gives
pub max_greater : (a b : Status) → ord_max cmp-value.it a b ≡ greater a b
max_greater Answered Answered = refl
max_greater Refused Answered = refl
max_greater Misused Answered = refl
max_greater Failed Answered = refl
max_greater _ _ = refl

-- behind a fault the status stays one of a fault
pub fault_greater : (first : Status) (closed : Closed) → IsFaultStatus first → IsFaultStatus (greater first (closing_status closed))
fault_greater first closed is = go first closed.is_whole is
  where
    go : (first : Status) (whole : Bool) → IsFaultStatus first → IsFaultStatus (greater first (if whole then Answered else Failed))
    go Refused true is = inl refl
    go Refused false is = inr refl
    go Failed whole is = inr refl
    go Answered whole (inl is) = absurd (cc is)
    go Answered whole (inr is) = absurd (cc is)
    go Misused whole (inl is) = absurd (cc is)
    go Misused whole (inr is) = absurd (cc is)

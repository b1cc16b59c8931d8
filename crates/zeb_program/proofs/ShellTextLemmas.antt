-- What is said of the lines of a shell at its end.
use Rattle.zeb_program.proofs.Cited.{AllocError, Closed, ClosesBelow, ◌≡◌, ◌++◌, ap, ◌⊎◌, ◌↔◌, inl, inr, ℕ, Bool, true, false, List, [], refl, subst, sym, ⊤, Option, Some, None, Result, Ok, Err, IfSome, IsAtEnd, Held, Ghosts, Conditions, Format, is_failed_read, LongLine, FailedRead, LineFault, Unreadable, Status, Failed, Tells, RunsText, ServesText, StopsText, all_served, first_served, unread_lines}
use Rattle.zeb_program.specs.PrivateShell.{ComesTo}
use Rattle.zeb_program.specs.declared.line_input.InputCause.{InputCause}

module _ {S : Type 0} (g : Ghosts S) (at : Tells) (format : Format) (c : Conditions) (bytes : List ℕ) where
  pub served_all : (first left : Option (List ℕ)) (failed output_failed : Bool) (old new : Held S) (told : List ℕ) (status : Status)
      → IfSome first (λ text. RunsText g at format c 0 text bytes status old new) → ((status ≡ Failed) × (output_failed ≡ true)) ⊎ IsAtEnd left → output_failed ≡ false → failed ≡ false → told ≡ []
      → IfSome first (λ text. ServesText g at format c text left failed bytes told status old new)
  served_all None left failed output_failed old new told status runs whole sound read quiet = tt
  served_all (Some text) left failed output_failed old new told status runs (inl other) sound read quiet = absurd cc
  served_all (Some text) left failed output_failed old new told status runs (inr end) sound read quiet = all_served runs end read quiet

  pub served_part : (cause : InputCause) (first left : Option (List ℕ)) (failed : Bool) (old new : Held S) (told : List ℕ)
      → IfSome first (λ text. StopsText g at format c (Unreadable cause) text left bytes old new) → failed ≡ is_failed_read cause → told ≡ unread_lines cause
      → IfSome first (λ text. ServesText g at format c text left failed bytes told Failed old new)
  served_part cause None left failed old new told stops is grew = tt
  served_part cause (Some text) left failed old new told stops is grew = first_served cause stops is grew refl

-- how it was closed is told below that
pub closes_below : {S : Type 0} (g : Ghosts S) (leaves : Closed → S → Type 0) (last : Held S) (first more : List ℕ) (ended r : Result Status AllocError) → ClosesBelow g leaves last [] more ended r → ClosesBelow g leaves last first (first ++ more) ended r
closes_below g leaves last first more (Ok top) r (closed, is, (closes, told)) = (closed, is, (closes, ap (λ it. first ++ it) told))
closes_below g leaves last first more (Err e) r (closed, is, (closes, told)) = (closed, is, (closes, ap (λ it. first ++ it) told))

-- it is so of a fault that is given
pub stops_line : (Line : Status → Type 0) (End : Type 0) (Stop : LineFault → Type 0) (r : Result (Option Status) LineFault) (why : LineFault) → r ≡ Err why → Stop why → ComesTo Line End Stop r
stops_line Line End Stop r why is stop = subst (ComesTo Line End Stop) (sym is) stop

-- and of a line that was found, or none
pub found_line : (Line : Status → Type 0) (End : Type 0) (found : Option Status) (status : Status) → found ≡ Some status → ComesTo Line End (λ why. ⊤) (Ok found) → Line status
found_line Line End found status is comes = subst (λ f. ComesTo Line End (λ why. ⊤) (Ok f)) is comes

pub found_end : (Line : Status → Type 0) (End : Type 0) (found : Option Status) → found ≡ None → ComesTo Line End (λ why. ⊤) (Ok found) → End
found_end Line End found is comes = subst (λ f. ComesTo Line End (λ why. ⊤) (Ok f)) is comes

-- whether a read failed, by what is answered
pub read_sound : {T : Type 0} (failed : Bool) (r : Result T LineFault) (value : T) → (r ≡ Err (Unreadable FailedRead)) ↔ (failed ≡ true) → r ≡ Ok value → failed ≡ false
read_sound false r value same is = refl
read_sound true r value same is = let other = same.1 refl in absurd cc

pub read_by : {T : Type 0} (failed : Bool) (r : Result T LineFault) (cause : InputCause) → (r ≡ Err (Unreadable FailedRead)) ↔ (failed ≡ true) → r ≡ Err (Unreadable cause) → failed ≡ is_failed_read cause
read_by failed r FailedRead same is = same.0 is
read_by false r LongLine same is = refl
read_by true r LongLine same is = let other = same.1 refl in absurd cc

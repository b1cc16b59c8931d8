-- The program with a command more, where there was memory for both.
use Rattle.zeb_words.proofs.Cited.{◌≡◌, ◌∙◌, ap, ap₂, subst, Result, Ok, Err, and_sub}
use Rattle.std.specs.Prelude.{IfOk}
use Rattle.std.specs.Result.{IsOkAnd}
use Rattle.clap.specs.Simple.{App}

pub with_this : {C E : Type 0} (app_of : C → App) (program command result : Result C E) (whole added : App)
    → IfOk program (λ it. app_of it ≡ whole) → IfOk command (λ it. app_of it ≡ added)
    → IfOk result (λ it. IsOkAnd program (λ one. IsOkAnd command (λ other. app_of it ≡ and_sub (app_of one) (app_of other))))
    → IfOk result (λ it. app_of it ≡ and_sub whole added)
with_this app_of program command (Err e) whole added is adds said = said
with_this app_of (Ok one) (Ok other) (Ok it) whole added is adds said = said ∙ ap₂ and_sub is adds
with_this app_of (Ok one) (Err e) (Ok it) whole added is adds said = absurd said
with_this app_of (Err e) command (Ok it) whole added is adds said = absurd said

pub with_other : {C E : Type 0} (app_of : C → App) (program result : Result C E) (whole added : App) → IfOk program (λ it. app_of it ≡ whole) → IfOk result (λ it. IsOkAnd program (λ one. app_of it ≡ and_sub (app_of one) added))
    → IfOk result (λ it. app_of it ≡ and_sub whole added)
with_other app_of program (Err e) whole added is said = said
with_other app_of (Ok one) (Ok it) whole added is said = said ∙ ap (λ app. and_sub app added) is
with_other app_of (Err e) (Ok it) whole added is said = absurd said

-- the command that is added is known by its name
pub added_by : {C E : Type 0} (app_of : C → App) (program result : Result C E) (other : C) (added : App) → app_of other ≡ added → IfOk result (λ it. IsOkAnd program (λ one. app_of it ≡ and_sub (app_of one) (app_of other)))
    → IfOk result (λ it. IsOkAnd program (λ one. app_of it ≡ and_sub (app_of one) added))
added_by app_of program result other added is said = subst (λ app. IfOk result (λ it. IsOkAnd program (λ one. app_of it ≡ and_sub (app_of one) app))) is said

-- The lines of a failure, one below the other.
use Rattle.zeb_program.proofs.Cited.{◌≡◌, ◌∙◌, ℕ, Bool, true, false, List, [], ◌∷◌, ◌++◌, ap, append_assoc, refl, subst, sym, option_map, option_map_or, Global, StoreCause, KnownSink, Sends, Sent, IsCauseOf, TellsCaused, TellsFault, TellsNamed, NamesRegister, register_lines, cause_lines, Cause, Fault, Status}
use Rattle.std.specs.Prelude.{Option, Some, String, codes, if◌then◌else◌}
use Rattle.std.specs.Fmt.{decimal}
use Rattle.zeb_program.specs.declared.failures.Cause.TheVariants.{Store}
use Rattle.zeb_program.specs.Diagnostics.{is_placed, meaning_lines, meaning_of}
use Rattle.zeb_program.proofs.SinkLemmas.{sent_none, sent_then}

module _ {W : Type 0} (old mid new : KnownSink W) where
  pub failure_lines : (why : Fault) (status : Status) (cause : Option Cause) → Sends old mid (λ line. TellsFault why line status) → IsCauseOf why cause → Sent mid new (cause_lines cause)
      → Sends old new (λ bytes. TellsCaused why cause bytes status)
  failure_lines why status cause wrote fits more =
      (wrote.0 ++ cause_lines cause, (wrote.0, wrote.1, fits, refl), sent_then old mid new wrote.0 (cause_lines cause) wrote.2 more)

  -- and below them the path of a register
  pub placed_lines : (told : Option (List ℕ)) (config : String Global) (why : Fault) (status : Status) (cause : Option Cause) (register : Option (String Global)) → NamesRegister told config why register
      → Sends old mid (λ bytes. TellsCaused why cause bytes status) → Sent mid new (register_lines register) → Sends old new (λ bytes. TellsNamed told config why cause bytes status)
  placed_lines told config why status cause register names wrote more =
      (wrote.0 ++ register_lines register, (register, names, (wrote.0, wrote.1, refl)), sent_then old mid new wrote.0 (register_lines register) wrote.2 more)

  -- a line, and below it why the store failed
  pub line_so : (line : List ℕ) (met : Option StoreCause) (cause : Option Cause) → cause ≡ option_map Store met → Sent old mid line → Sent mid new (cause_lines cause) → Sent old new (line ++ cause_lines (option_map Store met))
  line_so line met cause is wrote more = sent_then old mid new line (cause_lines (option_map Store met)) wrote (subst (λ it. Sent mid new (cause_lines it)) is more)

module _ {W : Type 0} (old new : KnownSink W) where
  -- what is told of how a store was closed
  pub part_told : (whole : Bool) (lines : List ℕ) → whole ≡ false → Sent old new lines → Sent old new (if whole then [] else lines)
  part_told whole lines is wrote = subst (λ it. Sent old new (if it then [] else lines)) (sym is) wrote

pub whole_told : {W : Type 0} (old : KnownSink W) (whole : Bool) (lines : List ℕ) → whole ≡ true → Sent old old (if whole then [] else lines)
whole_told old whole lines is = subst (λ it. Sent old old (if it then [] else lines)) (sym is) (sent_none old)

-- ---- the meaning of a diagnostic

abbrev lines_of : Option (List ℕ) → Bool → ℕ → List ℕ
lines_of found placed place = option_map_or (λ meaning. codes "zebraidx: cause: " ++ meaning ++ (if placed then codes ", at byte " ++ decimal place ++ codes " of the query" else []) ++ 10 ∷ []) found []

lines_so : (number place : ℕ) (meaning : List ℕ) (placed : Bool) → meaning_of number ≡ Some meaning → is_placed number ≡ placed → lines_of (Some meaning) placed place ≡ meaning_lines number place
lines_so number place meaning placed is at = ap (λ found. lines_of found placed place) (sym is) ∙ ap (λ p. lines_of (meaning_of number) p place) (sym at)

-- the parts of a line, as they are written and as they are said
five : (a b c d e : List ℕ) → (a ++ (b ++ (c ++ (d ++ e)))) ++ 10 ∷ [] ≡ a ++ b ++ (c ++ d ++ e) ++ 10 ∷ []
five a b c d e = simp append_assoc

two : (a b : List ℕ) → (a ++ b) ++ 10 ∷ [] ≡ a ++ b ++ [] ++ 10 ∷ []
two a b = simp append_assoc

pub placed_meaning : (number place : ℕ) (meaning : List ℕ) → meaning_of number ≡ Some meaning → is_placed number ≡ true
    → (codes "zebraidx: cause: " ++ (meaning ++ (codes ", at byte " ++ (decimal place ++ codes " of the query")))) ++ 10 ∷ [] ≡ meaning_lines number place
placed_meaning number place meaning is at = five (codes "zebraidx: cause: ") meaning (codes ", at byte ") (decimal place) (codes " of the query") ∙ lines_so number place meaning true is at

pub bare_meaning : (number place : ℕ) (meaning : List ℕ) → meaning_of number ≡ Some meaning → is_placed number ≡ false → (codes "zebraidx: cause: " ++ meaning) ++ 10 ∷ [] ≡ meaning_lines number place
bare_meaning number place meaning is at = two (codes "zebraidx: cause: ") meaning ∙ lines_so number place meaning false is at

-- The answers of a script, at each of its ends.
use Rattle.zeb_program.proofs.Cited.{◌≡◌, ◌≤◌, length, ℕ, Bool, false, true, List, [], ◌∷◌, inl, inr, refl, sym, ap, subst, ◌∙◌, arith, Option, Some, None, Result, Ok, Err, IfNone, IfSome, IsOk, MatchResult, string_bytes, string_len, IsUtf8-string_bytes, AllocError, file_state, over_files, Conditions, nothing_yet, Refusal, Directive, IsInput, DividesAt, HasNoDivider, Shows, ShowsBatch, Status, EndsWith, fault_status, refusal_status, status_code, Failed, IsUtf8-nil, ◌⊎◌, ◌==◌, ⊤, Tells, profile_of, IsOpeningFailure, expected_line, starved_line, unreadable_line, refusal_line, packed_blocks, AnswersAs, TellsEnd}
use Rattle.std.specs.declared.string.String.{String}
use Rattle.zeb_program.specs.declared.input.TheConstants.{GREATEST_INPUT}
use Rattle.zeb_profile.specs.declared.faults.ProfileFault.{ProfileFault}
use Rattle.zeb_profile.specs.Outcomes.{FailsPlaced}
use Rattle.zeb_program.specs.declared.script.Batch.{Batch}
use Rattle.zeb_program.specs.declared.program.ScriptEnd.{ScriptEnd}
use Rattle.zeb_program.specs.ScriptAnswers.{AnswersScript, EndsEarly, EndsScript, unreadable, faulty, ran, stopped, AreScriptConditions, AnswersOpened, AnswersStopped, HoldsNothing, MemoryConnection, PartFromNothing, RunsFromNothing, IsUnopened, IsProfileOf, TellsAtMost, fault_line, hint_of}
use Rattle.zeb_program.proofs.ShownLemmas.{runs_text, stops_part}

unopened : (refusal : Refusal) (bytes : List ℕ) (status : Status) → IsOpeningFailure refusal → (bytes ≡ refusal_line refusal) × (status ≡ refusal_status refusal) → IsUnopened bytes status
unopened refusal bytes status (inl is) said = (inl (said.0 ∙ ap refusal_line is), said.1 ∙ ap refusal_status is)
unopened refusal bytes status (inr is) said = (inr (said.0 ∙ ap refusal_line is), said.1 ∙ ap refusal_status is)

-- no register is opened for the lines
pub refused_opening : (at : Tells) (directives : List Directive) (n : ℕ) (batch bytes : List ℕ) (refusal : Refusal) (r : Result Status AllocError) → IsOpeningFailure refusal
    → Shows (λ line status. (line ≡ refusal_line refusal) × (status ≡ refusal_status refusal)) ⊤ bytes r → MatchResult r (AnswersOpened at directives n batch bytes) (λ error. AnswersStopped at directives n batch bytes)
refused_opening at directives n batch bytes refusal (Ok status) is said = inr (unopened refusal bytes status is said)
refused_opening at directives n batch bytes refusal (Err e) is (silent, _) = inr silent

-- a register that holds nothing yet answers the lines
module _ (at : Tells) (c : Conditions) (directives : List Directive) (first last : MemoryConnection) (n : ℕ) (batch bytes : List ℕ) (under : AreScriptConditions directives c) (empty : HoldsNothing (file_state first)) where
  pub run_from_nothing : (status : Status) → ShowsBatch over_files at packed_blocks c n batch first last bytes (Ok status) → RunsFromNothing at directives n batch bytes status
  run_from_nothing status lines =
      let runs = runs_text over_files at packed_blocks c first bytes n batch last status lines in
      let held = runs.answers (Some nothing_yet) empty.1 in
      record {
        c = c;
        under = under;
        first = first;
        last = last;
        empty = empty;
        each = runs.over;
        answers = (held.0, held.2);
      }

  pub part_from_nothing : (e : AllocError) → ShowsBatch over_files at packed_blocks c n batch first last bytes (Err e) → PartFromNothing at directives n batch bytes
  part_from_nothing e lines =
      let part = stops_part over_files at packed_blocks c first bytes n batch last lines in
      let held = part.first.answers (Some nothing_yet) empty.1 in
      record {
        c = c;
        under = under;
        first = first;
        last = part.last;
        empty = empty;
        each = (part.first.over.0, part.rest, part.some, part.first.over.1);
        answers = (held.0, part.rest, held.1, part.some, held.2);
      }

  pub opened_batch : (r : Result Status AllocError) → ShowsBatch over_files at packed_blocks c n batch first last bytes r → MatchResult r (AnswersOpened at directives n batch bytes) (λ error. AnswersStopped at directives n batch bytes)
  opened_batch (Ok status) lines = inl (run_from_nothing status lines)
  opened_batch (Err e) lines = inl (part_from_nothing e lines)

-- a string that isn't too long is an input
pub text_input : {Z : Type 0} (text : String Z) → string_len text ≤ GREATEST_INPUT → IsInput (string_bytes text)
text_input text short = (omega (arith, short, text.bytes.ok.0), IsUtf8-string_bytes text)

pub faulty_script : (at : Tells) (text profile : List ℕ) (fault : ProfileFault) (status : Status) → IsInput text → IsProfileOf text profile
    → FailsPlaced fault (profile_of profile) → status ≡ fault_status fault.kind → AnswersScript at text (fault_line fault) status
faulty_script at text profile fault status input is fails e = subst (AnswersScript at text (fault_line fault)) (sym e) (faulty fault input is fails)

-- what is given is there
pub is_given : {A E : Type 0} (said : Result A E) (x : A) → said ≡ Ok x → IsOk said
is_given said x e = rw e refl

-- a script that is cut shows its profile
pub cut_profile : (cut : Option Batch) (text profile : List ℕ) → IfNone cut (HasNoDivider text × (profile ≡ text)) → IfSome cut (λ batch. DividesAt batch.lines_before text profile batch.text.now) → IsProfileOf text profile
cut_profile None text profile uncut divides = inl uncut
cut_profile (Some batch) text profile uncut divides = inr (batch.lines_before, batch.text.now, divides)

pub ran_script : (at : Tells) (text profile batch bytes : List ℕ) (directives : List Directive) (n : ℕ) (r : Result Status AllocError)
    → IsInput text → DividesAt n text profile batch → profile_of profile ≡ Ok directives
    → MatchResult r (AnswersOpened at directives n batch bytes) (λ error. AnswersStopped at directives n batch bytes) → MatchResult r (AnswersScript at text bytes) (λ error. EndsEarly at text bytes)
ran_script at text profile batch bytes directives n (Ok status) input divides given answers = ran input divides given answers
ran_script at text profile batch bytes directives n (Err e) input divides given answers = stopped input divides given answers

-- an input that is too long or no text has a byte
unread_is_long : (text : List ℕ) → ¬ IsInput text → false ≡ (length text == 0)
unread_is_long [] long = absurd (long (omega arith, IsUtf8-nil))
unread_is_long (byte ∷ text) long = grind arith

pub unread_script : (at : Tells) (told : Option (List ℕ)) (end : ScriptEnd) → end ≡ record { status = Failed; is_empty = false } → IfSome told (λ text. ¬ IsInput text)
    → IfSome told (λ text. AnswersAs at text unreadable_line (Ok end))
unread_script at None end is h = tt
unread_script at (Some text) end is h = subst (λ it. AnswersAs at text unreadable_line (Ok it)) (sym is) (unreadable h, unread_is_long text h)

-- of an input that tells its bytes
pub told_text : (given : Option (List ℕ)) (P : List ℕ → Type 0) → ((text : List ℕ) → P text) → IfSome given P
told_text None P so = tt
told_text (Some text) P so = so text

-- a script is answered where the program has an answer, and ends early where it has none
pub ended_script : (at : Tells) (given : Option (List ℕ)) (bytes told : List ℕ) (r : Result ScriptEnd AllocError) (status : Status) (code : ℕ)
    → IfSome given (λ text. AnswersAs at text bytes r) → TellsEnd r told status → code ≡ status_code status → IfSome given (λ text. EndsWith code (EndsScript at text bytes told))
ended_script at None bytes told r status code answers tells is = tt
ended_script at (Some text) bytes told (Ok end) status code answers tells is =
    (status, is, inl (subst (AnswersScript at text bytes) (sym tells.0) answers.0, subst (λ empty. told ≡ hint_of empty) answers.1 tells.1))
ended_script at (Some text) bytes told (Err e) status code ends tells is = (status, is, inr (ends, tells.1, tells.0))

-- whatever the input
hint_is : (empty : Bool) → (hint_of empty ≡ []) ⊎ (hint_of empty ≡ starved_line) ⊎ (hint_of empty ≡ expected_line)
hint_is false = inl refl
hint_is true = inr (inr refl)

pub tells_at_most : (r : Result ScriptEnd AllocError) (told : List ℕ) (status : Status) → TellsEnd r told status → TellsAtMost told
tells_at_most (Ok end) told status tells = subst TellsAtMost (sym tells.1) (hint_is end.is_empty)
tells_at_most (Err e) told status tells = inr (inl tells.1)

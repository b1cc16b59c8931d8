-- What is read of a profile's file (this program's own).
use Rattle.std.specs.Prelude.{◌≡◌, ⊤, ℕ, List, Option, IfSome, Result, Ok, Err, String}
use Rattle.std.specs.declared.alloc.Global.{Global}
use Rattle.zeb_profile.specs.declared.directives.Directive.{Directive}
use Rattle.zeb_profile.specs.Outcomes.{FailsPlaced}
use Rattle.zeb_profile.specs.Profiles.{profile_of}
use Rattle.zeb_program.specs.declared.faults.Fault.{Fault}
use Rattle.zeb_program.specs.declared.faults.Fault.TheVariants.{Profile, Unreadable, Refused, Memory}
use Rattle.zeb_program.specs.Inputs.{IsTextWithin}

-- this may be the text of a profile's file: it has at most 1,048,576 bytes of UTF-8, and where the file's bytes are told, it is these
abbrev pub IsProfileText : Option (List ℕ) → List ℕ → Type 0
IsProfileText told text = IsTextWithin 1048576 text × IfSome told (λ bytes. text ≡ bytes)

-- What is answered where the profile at a path is read, of whose file these bytes are told, if any: the profile of such a text, or the fault
-- of one with the path; or the path can't be read, where bytes that are told are too many or no text; or memory ran out.
abbrev pub ReadsProfile : Option (List ℕ) → String Global → Result (List Directive) Fault → Type 0
ReadsProfile told path (Ok profile) = (text : List ℕ) × IsProfileText told text × (profile_of text ≡ Ok profile)
ReadsProfile told path (Err (Profile file fault)) = (file ≡ path) × (text : List ℕ) × IsProfileText told text × FailsPlaced fault (profile_of text)
ReadsProfile told path (Err (Unreadable file)) = (file ≡ path) × IfSome told (λ bytes. ¬ IsTextWithin 1048576 bytes)
ReadsProfile told path (Err (Refused refusal)) = ⊥
ReadsProfile told path (Err Memory) = ⊤

-- What is answered where the profile in a file is read.
use Rattle.zeb_program.proofs.Cited.{◌≡◌, ◌≤◌, ℕ, Bool, true, false, List, Vec, arith, refl, subst, sym, Option, Some, None, Result, Ok, Err, IfOk, IfSome, String, string_bytes, string_len, Global, IsUtf8-string_bytes, IsShort, IsTextWithin, Fault, ReadsContent, IsProfileText, ReadsProfile}
use Rattle.zeb_program.specs.declared.faults.Fault.TheVariants as fault
use Rattle.zeb_program.specs.declared.input.SourceFault.{SourceFault}
use Rattle.zeb_program.specs.declared.input.SourceFault.TheVariants.{Unreadable, Memory}

-- the text that was read may be the file's
pub profile_text : (told : Option (List ℕ)) (text : String Global) → IfSome told (λ bytes. string_bytes text ≡ bytes) → string_len text ≤ 1048576 → IsProfileText told (string_bytes text)
profile_text told text is short = ((omega (arith, short, text.bytes.ok.0), IsUtf8-string_bytes text), is)

-- it wasn't read
pub unread_profile : (told : Option (List ℕ)) (path : String Global) (why : SourceFault) (given : Fault) → (why ≡ Unreadable → given ≡ fault.Unreadable path) → (why ≡ Memory → given ≡ fault.Memory)
    → (why ≡ Unreadable → IfSome told (λ bytes. ¬ IsTextWithin 1048576 bytes)) → ReadsProfile told path (Err given)
unread_profile told path Unreadable given at memory bytes = subst (λ it. ReadsProfile told path (Err it)) (sym (at refl)) (refl, bytes refl)
unread_profile told path Memory given at memory bytes = subst (λ it. ReadsProfile told path (Err it)) (sym (memory refl)) tt

-- the same of a file that is read whole
pub unread_content : (told : Option (List ℕ)) (path : String Global) (why : SourceFault) (given : Fault) → (why ≡ Unreadable → given ≡ fault.Unreadable path) → (why ≡ Memory → given ≡ fault.Memory)
    → (why ≡ Unreadable → IfSome told (λ bytes. ¬ IsShort bytes)) → ReadsContent told path (Err given)
unread_content told path Unreadable given at memory bytes = subst (λ it. ReadsContent told path (Err it)) (sym (at refl)) (refl, bytes refl)
unread_content told path Memory given at memory bytes = subst (λ it. ReadsContent told path (Err it)) (sym (memory refl)) tt

-- ---- by the reader of a path

-- What is said where no read failed is said of what the paths tell: where they tell the bytes no read fails, and a file that can't be read is
-- told by its path.
module _ {X : Type 0} (Reads : Option (List ℕ) → Result X Fault → Type 0) (path : String Global) (unread : Reads None (Err (fault.Unreadable path))) where
  pub read_as_told : (told left : Option (List ℕ)) (may failed : Bool) (result : Result X Fault) → left ≡ told → ((bytes : List ℕ) → told ≡ Some bytes → may ≡ false) → (may ≡ false → failed ≡ false)
      → (failed ≡ false → Reads left result) → (failed ≡ true → result ≡ Err (fault.Unreadable path)) → Reads told result
  read_as_told told left may false result same sure able reads never = subst (λ given. Reads given result) same (reads refl)
  read_as_told None left may true result same sure able reads never = subst (Reads None) (sym (never refl)) unread
  read_as_told (Some bytes) left may true result same sure able reads never = let sound : true ≡ false = able (sure bytes refl) in absurd cc

-- ---- what comes of a content

-- told bytes are these
pub content_told : (path : String Global) (file : List ℕ) (told : Option (List ℕ)) (result : Result (Vec ℕ Global) Fault) → ReadsContent told path result → told ≡ Some file → IfOk result (λ content. content.items ≡ file)
content_told path file told (Err why) reads is = tt
content_told path file told (Ok content) reads is = let of = subst (λ given. IfSome given (λ bytes. content.items ≡ bytes)) is reads.1 in of

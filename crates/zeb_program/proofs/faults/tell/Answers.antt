use Rattle.zeb_program.proofs.Cited.{◌≡◌, ℕ, List, [], ◌∷◌, ◌++◌, append_assoc, refl, string_bytes, subst, sym, codes, Sends, Sent, Fault, Failed, TellsFault, profile_line, unreadable_path}
use Rattle.zeb_profile.specs.Faults.{fault_text}
use Rattle.zeb_program.proofs.faults.tell.Goals as goal

-- the parts of a line, as they are written and as they are said
nested : (a b c d : List ℕ) → (a ++ (b ++ (c ++ d))) ++ 10 ∷ [] ≡ a ++ b ++ c ++ d ++ 10 ∷ []
nested a b c d = simp append_assoc

pub returns-in-Profile-clause-told : goal.returns-in-Profile-clause-told
returns-in-Profile-clause-told g c =
    let same = nested (codes "zebraidx: ") (string_bytes c.in-Profile.file) (codes " ") (fault_text c.in-Profile.fault) in
    subst (λ (f : Fault). Sends c.args.output.now c.write_line.new.self (λ line. TellsFault f line c.of_profile.result)) (sym c.in-Profile.is)
    (profile_line (string_bytes c.in-Profile.file) c.in-Profile.fault, (refl, c.of_profile.ensures.status), subst (Sent c.args.output.now c.write_line.new.self) same c.write_line.ensures.sent)

pub returns-in-Unreadable-clause-told : goal.returns-in-Unreadable-clause-told
returns-in-Unreadable-clause-told g c =
    subst (λ (f : Fault). Sends c.args.output.now c.write_line-in-Unreadable.new.self (λ line. TellsFault f line Failed)) (sym c.in-Unreadable.is)
    (unreadable_path (string_bytes c.in-Unreadable.path), (refl, refl), c.write_line-in-Unreadable.ensures.sent)

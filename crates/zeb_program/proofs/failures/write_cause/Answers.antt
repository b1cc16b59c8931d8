use Rattle.zeb_program.proofs.Cited.{◌≡◌, ℕ, List, [], ◌∷◌, ◌++◌, append_assoc, string_bytes, subst, sym, Sent, codes, cause_line, file_line, file_lines}
use Rattle.std.specs.Fmt.{decimal}
use Rattle.zeb_program.proofs.SinkLemmas.{sent_then}
use Rattle.zeb_program.proofs.failures.write_cause.Goals as goal

-- the parts of a line, as they are written and as they are said
nested : (a b c d : List ℕ) → (a ++ (b ++ (c ++ d))) ++ 10 ∷ [] ≡ a ++ b ++ c ++ d ++ 10 ∷ []
nested a b c d = simp append_assoc

pub returns-in-Path : goal.returns-in-Path
returns-in-Path g c = subst (λ cause. Sent c.args.output.now c.write_met.new.output (cause_line cause)) (sym c.in-Path.is) c.write_met.ensures

pub returns-in-Store : goal.returns-in-Store
returns-in-Store g c = subst (λ cause. Sent c.args.output.now c.write_line.new.self (cause_line cause)) (sym c.in-Store.is) c.write_line.ensures.sent

pub returns-in-Query : goal.returns-in-Query
returns-in-Query g c = subst (λ cause. Sent c.args.output.now c.write_meaning.new.output (cause_line cause)) (sym c.in-Query.is) c.write_meaning.ensures

pub returns-in-Input : goal.returns-in-Input
returns-in-Input g c = subst (λ cause. Sent c.args.output.now c.write_line-in-Input.new.self (cause_line cause)) (sym c.in-Input.is) c.write_line-in-Input.ensures.sent

pub returns-in-Text : goal.returns-in-Text
returns-in-Text g c = subst (λ cause. Sent c.args.output.now c.write_line-in-Text.new.self (cause_line cause)) (sym c.in-Text.is) c.write_line-in-Text.ensures.sent

pub returns-in-File : goal.returns-in-File
returns-in-File g c =
    let old = c.args.output.now in
    let mid = c.write_line-in-File.new.self in
    let new = c.tell_met.new.output in
    let same = nested (codes "zebraidx: file ") (decimal c.in-File.number) (codes " is ") (string_bytes c.in-File.path) in
    subst (λ cause. Sent old new (cause_line cause)) (sym c.in-File.is)
    (sent_then old mid new (file_line c.in-File.number (string_bytes c.in-File.path)) (file_lines c.in-File.met)
    (subst (Sent old mid) same c.write_line-in-File.ensures.sent) c.tell_met.ensures)

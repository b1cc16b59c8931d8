use Rattle.zeb_packed.proofs.Cited.{string_bytes, IsUtf8-string_bytes}
use Rattle.zeb_packed.proofs.packed.count_of.Goals as goal

pub returns-clause-sound : goal.returns-clause-sound
returns-clause-sound c =
    let term = c.in_ok-term.term in
    let number = c.in_ok-records.ensures.ok in
    (string_bytes term, c.in_ok-term.ensures.ok, IsUtf8-string_bytes term, (c.in_ok-records.records, number.0, number.1, number.2))

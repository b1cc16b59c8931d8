use Rattle.zeb_register.proofs.Cited.{string_bytes, IsUtf8-string_bytes}
use Rattle.zeb_register.proofs.PlainTerms.{some_column}
use Rattle.zeb_register.proofs.terms.occurrence_of.Goals as goal

pub returns-clause-occurs : goal.returns-clause-occurs
returns-clause-occurs c =
    let term = c.in_ok-term.term in (
      some_column c.args.row.now (string_bytes term) c.in_ok-term.ensures.ok,
      string_bytes term,
      record { sysno = c.in_ok-sysno.sysno; seq = c.in_ok-read_number.field-0; pos = c.in_ok-read_number-2.field-0 },
      c.in_ok-term.ensures.ok,
      (c.in_ok-sysno.ensures.ok, c.in_ok-read_number.ensures.ok, c.in_ok-read_number-2.ensures.ok),
      IsUtf8-string_bytes term,
    )

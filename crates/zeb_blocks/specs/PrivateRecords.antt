-- What only the contracts of private functions speak of; no public clause reaches it.
-- Counting the records of postings, one posting after the other.
use Rattle.std.specs.Prelude.{ℕ, ◌+◌, ◌==◌, if◌then◌else◌}

-- how many records so many are with that of one posting more, where the posting before it is of the record with the number `newest`
abbrev pub records_after : ℕ → ℕ → ℕ → ℕ
records_after records newest sysno = if records == 0 then 1 else (if sysno == newest then records else records + 1)

-- The place that was found, or the length.
use Rattle.zeb_marc.proofs.Cited.{◌==◌}
use Rattle.zeb_marc.proofs.Pieces.{unwrap_or-position, position_or_len-le}
use Rattle.zeb_marc.proofs.units.delimiter_place.Goals as goal

pub returns-clause-place : goal.returns-clause-place
returns-clause-place c = rw (c.unwrap_or.ensures, c.find_delimiter.ensures) (unwrap_or-position (λ byte. byte == 31) c.args.bytes.now)

pub returns-clause-bound : goal.returns-clause-bound
returns-clause-bound c = rw (c.unwrap_or.ensures, c.find_delimiter.ensures, unwrap_or-position) (position_or_len-le (λ byte. byte == 31) c.args.bytes.now)

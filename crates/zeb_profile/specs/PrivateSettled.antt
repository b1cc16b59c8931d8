-- What only the contracts of private functions speak of; no public clause reaches it.
-- What the lines of a profile that lacks nothing settle together.
use Rattle.std.specs.Prelude.{◌≡◌, ◌<◌, ◌^◌, List, length, Some, None}
use Rattle.zeb_profile.specs.declared.directives.Placed.{Placed}
use Rattle.zeb_profile.specs.declared.reading.Settled.{Settled}
use Rattle.zeb_profile.specs.Indexes.{identifier_pattern, index_names, store_path}
use Rattle.zeb_profile.specs.Profiles.{directives_in, lack_of}

pub record Settles (placed : List Placed) (settled : Settled) : Type 0 where
  pub whole : lack_of placed ≡ None
  pub identifier : identifier_pattern (directives_in placed) ≡ Some settled.identifier
  pub store : store_path (directives_in placed) ≡ Some settled.store.now
  pub few : length (index_names (directives_in placed)) < 2 ^ 32

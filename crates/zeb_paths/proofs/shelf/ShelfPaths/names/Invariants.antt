use Rattle.std.proofs.Common.{map, string_bytes, take}
use Rattle.zeb_paths.specs.Told.{AreNames, names_in}
use Rattle.zeb_paths.proofs.shelf.ShelfPaths.names.Given as goal

-- the names of the files so far are there
abbrev pub invariant-loop-file : goal.invariant-loop-file
invariant-loop-file g l = AreNames (names_in (take l.file-index l.file-items) l.path) (map string_bytes l.names.items)

use Rattle.zeb_engine.proofs.Cited.{◌≡◌, ◌≤◌, length, map, take, vec_capacity}
use Rattle.zeb_engine.proofs.registers.Session.change.Given as goal

abbrev pub invariant-loop-file : goal.invariant-loop-file
invariant-loop-file g l = record {
  count : length l.readers.items ≡ l.file-index;
  room : length l.files ≤ vec_capacity l.readers;
  texts : l.readers.items ≡ map (λ file. file.items) (take l.file-index l.files);
}

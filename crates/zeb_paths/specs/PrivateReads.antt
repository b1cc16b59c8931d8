-- What only the contracts of private functions speak of; no public clause reaches it.
-- What a read of a file answers, by how far the file has been read.
use Rattle.std.specs.Prelude.{◌≡◌, ℕ, List, Result, Ok, IsErr}
use Rattle.zeb_marc.specs.declared.sources.ReadFailed.{ReadFailed}
use Rattle.zeb_paths.specs.declared.disk.Progress.{Progress}
use Rattle.zeb_paths.specs.declared.disk.Progress.TheVariants.{Unopened, Open, Ended}

-- What is open is asked once, and what it answers is the answer, so its error is one. Where nothing is open the read fails, and behind the end it
-- gives no byte.
abbrev pub AsksOpen : {R : Type 0} → (R → Result ℕ ReadFailed → List ℕ → R → Type 0) → Progress R → Result ℕ ReadFailed → List ℕ → Progress R → Type 0
AsksOpen asks Unopened result bytes new = IsErr result × (new ≡ Unopened)
AsksOpen asks (Open reader) result bytes (Open after) = asks reader result bytes after
AsksOpen asks (Open reader) result bytes other = ⊥
AsksOpen asks Ended result bytes new = (result ≡ Ok 0) × (new ≡ Ended)

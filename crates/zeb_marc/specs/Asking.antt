-- How a source asks a reader of std (this project's own rule): once for each read, and no more once it has failed.
use Rattle.std.specs.Prelude.{◌≡◌, ℕ, Bool, true, false, List, Result, IsErr}
use Rattle.zeb_marc.specs.declared.sources.ReadFailed.{ReadFailed}

-- Whether the reader has failed before, what it was, what is answered, the buffer's bytes behind that, and what the reader is then: a
-- reader that has failed stays as it is, and what another answers to one question is the answer.
abbrev pub AsksOnce : {R : Type 0} → (R → Result ℕ ReadFailed → List ℕ → R → Type 0) → Bool → R → Result ℕ ReadFailed → List ℕ → R → Type 0
AsksOnce asks true old result bytes new = IsErr result × (new ≡ old)
AsksOnce asks false old result bytes new = asks old result bytes new

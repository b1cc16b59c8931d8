use Rattle.zeb_change.proofs.Cited.{◌≡◌, ◌+◌, ℤ, [], length, IsRising, Content, HasRisingLists, ArePostingsOf, LeadsTo, noted_count}
use Rattle.zeb_change.proofs.ChangeKeysContent.{moved}
use Rattle.zeb_change.proofs.noting.note_keys.Given as goal

abbrev pub invariant-loop-changed : goal.invariant-loop-changed
invariant-loop-changed l = record {
  leads : IsRising l.elder → IsRising l.newer → (db : ℤ) (behind before : Content) → LeadsTo db l.fn.pending behind before → HasRisingLists before → ArePostingsOf l.sysno l.elder (before db)
      → LeadsTo db l.pending behind (moved db l.sysno l.yielded before);
  idle : l.yielded ≡ [] → l.pending ≡ l.fn.pending;
  count : noted_count l.pending ≡ noted_count l.fn.pending + length l.yielded;
}

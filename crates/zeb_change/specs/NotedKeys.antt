-- What is noted of the keys of one record (see Noted for the notes themselves).
use Rattle.std.specs.Prelude.{◌≡◌, ◌+◌, ℕ, ℤ, List}
use Rattle.std.specs.List.{Contains}
use Rattle.zeb_keys.specs.declared.keys.Occurrence.{Occurrence}
use Rattle.zeb_register.specs.Content.{Content, HasRisingLists}
use Rattle.zeb_change.specs.declared.pending.Pending.{Pending}
use Rattle.zeb_change.specs.Costs.{IsRecordCost}
use Rattle.zeb_change.specs.Noted.{LeadsTo, noted_count}
use Rattle.zeb_change.specs.Reposted.{ArePostingsOf, AreTheSame, IsReposted}

-- one change of each key is noted whose places differ between these occurrences of the record with this number, and nothing else
pub record NotesKeys (sysno : ℕ) (elder newer : List Occurrence) (old new : Pending) : Type 0 where
  pub moved : (db : ℤ) (behind before after : Content) → LeadsTo db old behind before → HasRisingLists before
      → ArePostingsOf sysno elder (before db) → IsReposted db sysno newer before after → LeadsTo db new behind after
  pub idle : AreTheSame elder newer → new ≡ old
  pub cost : (n : ℕ) × IsRecordCost (Contains elder) (Contains newer) n × (noted_count new ≡ noted_count old + n)

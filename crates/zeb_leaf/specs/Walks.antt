-- Where a walk over a leaf stands, and which entries may come there.
use Rattle.std.specs.Prelude.{◌≡◌, ℕ, ◌+◌, ◌≤◌, ◌⊎◌, List, [], ◌∷◌, ◌++◌}
use Rattle.std.specs.declared.cmp.Ordering.TheVariants.{Less}
use Rattle.std.specs.Ordering.{nat_cmp}
use Rattle.std.specs.Cmp.Lexicographic.{slice_cmp}
use Rattle.zeb_leaf.specs.Order.{IsEntry}
use Rattle.zeb_leaf.specs.Leaves.{entry_bytes, leaf_bytes}
use Rattle.zeb_leaf.specs.declared.entries.Entry.{Entry}

-- a place between entries: the term of the entry before it, and the least block that this term may have behind it
pub record Place : Type 0 where
  pub term : List ℕ
  pub least : ℕ

-- before the first entry any entry may come
abbrev pub first_place : Place
first_place = record { term = []; least = 0 }

-- the place right behind an entry
abbrev pub behind_entry : Entry → Place
behind_entry e = record { term = e.term; least = e.block + 1 }

-- the place behind the last of some entries, or the one given where there are none
abbrev pub last_place : Place → List Entry → Place
last_place place [] = place
last_place place (e ∷ entries) = last_place (behind_entry e) entries

-- an entry that may come at the place: its term is above, or it is the same and its block is no less than the least
pub record Follows (place : Place) (e : Entry) : Type 0 where
  pub above : (slice_cmp nat_cmp place.term e.term ≡ Less) ⊎ ((place.term ≡ e.term) × (place.least ≤ e.block))
  pub sound : IsEntry e

-- a walk: its place, and the bytes that are left
pub record Walk : Type 0 where
  pub place : Place
  pub left : List ℕ

-- one step of it, over an entry
pub record Steps (old : Walk) (e : Entry) (new : Walk) : Type 0 where
  pub follows : Follows old.place e
  pub spelled : old.left ≡ entry_bytes old.place.term e ++ new.left
  pub place : new.place ≡ behind_entry e

-- no entry stands at the front of what is left, and that isn't because nothing is
pub record IsStuck (walk : Walk) : Type 0 where
  pub some : ¬ (walk.left ≡ [])
  pub none : (e : Entry) (new : Walk) → ¬ Steps walk e new

-- a leaf that is being written: the place behind its last entry, and its bytes so far
pub record Draft : Type 0 where
  pub place : Place
  pub bytes : List ℕ

-- that of these entries
abbrev pub draft_of : List Entry → Draft
draft_of entries = record { place = last_place first_place entries; bytes = leaf_bytes entries }

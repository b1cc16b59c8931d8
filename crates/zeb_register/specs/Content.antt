-- What the registers hold: for each database's id and each key a list of postings, each the number of a record and a place in it.
-- `Content` asks for no order. Tables hold only a content whose lists rise (`HasRisingLists`), by number, unit and place.
use Rattle.std.specs.Prelude.{◌≡◌, ◌≢◌, ◌↔◌, ◌≤◌, ◌<◌, ◌^◌, ◌==◌, ℕ, ℤ, List, [], ◌∷◌, filter, map, IsUtf8}
use Rattle.std.specs.List.{AllByRecursion}
use Rattle.std.specs.List.Sorted.{IsStrictlySortedBy}
use Rattle.std.specs.declared.cmp.Ordering.{Ordering}
use Rattle.std.specs.Ordering.{nat_cmp, ordering_then}
use Rattle.sqlite.specs.State.{State}
use Rattle.sqlite_rules.specs.Lists.{Has}
pub use Rattle.zeb_blocks.specs.declared.postings.Posting.{Posting}
pub use Rattle.zeb_blocks.specs.Order.{posting_cmp}
use Rattle.zeb_keys.specs.declared.keys.Key.{Key}
use Rattle.zeb_keys.specs.declared.keys.Occurrence.{Occurrence}
use Rattle.zeb_register.specs.declared.registers.Place.{Place}
use Rattle.zeb_register.specs.declared.registers.RecordChange.{RecordChange}
use Rattle.zeb_register.specs.Sql.{Loses}
use Rattle.zeb_register.specs.Store.{IsStore, meta_tree, databases_tree, records_tree, TakesDatabase, IsOfDatabase, postings_tree, blocks_tree, dict_tree}

-- for each database's id and each key a list of postings; tables hold only one whose lists rise by system number, then by place
abbrev pub Content : Type 0
Content = ℤ → Key → List Posting

-- places by the number of the unit, then by that of the word in it
abbrev pub place_cmp : Place → Place → Ordering
place_cmp p q = ordering_then (nat_cmp p.seq q.seq) (nat_cmp p.pos q.pos)

-- each list of a content rises
abbrev pub HasRisingLists : Content → Type 0
HasRisingLists content = (db : ℤ) (key : Key) → IsStrictlySortedBy posting_cmp (content db key)

-- a database's postings as a set of occurrences: the record of a number has an occurrence where it is posted
abbrev pub posted : Content → ℤ → ℕ → Occurrence → Type 0
posted content db n o = Has (content db o.key) (record { sysno = n; seq = o.seq; pos = o.pos })

abbrev pub posting_at : ℕ → Place → Posting
posting_at sysno place = record { sysno = sysno; seq = place.seq; pos = place.pos }

-- the places of a record in a list of postings
abbrev pub places_in : ℕ → List Posting → List Place
places_in sysno list = map (λ p. record { seq = p.seq; pos = p.pos }) (filter (λ p. p.sysno == sysno) list)

-- these are the places of the key in the record
abbrev pub ArePlacesOf : ℕ → List Place → List Posting → Type 0
ArePlacesOf sysno places list = (place : Place) → Has places place ↔ Has list (posting_at sysno place)

-- a posting that every layout can store under the key
pub record IsStorablePosting (key : Key) (p : Posting) : Type 0 where
  pub text : IsUtf8 key.term
  pub sysno : (1 ≤ p.sysno) × (p.sysno ≤ 999999999)
  pub seq : 1 ≤ p.seq
  pub pos : 1 ≤ p.pos

-- the term of each posting's key is UTF-8, its system number is one of 1 to 999,999,999, and both numbers of its place are 1 or more
abbrev pub IsStorable : Content → Type 0
IsStorable content = (db : ℤ) (key : Key) (p : Posting) → Has (content db key) p → IsStorablePosting key p

-- a place whose numbers a column stores, and of which none is 0
pub record IsStorablePlace (place : Place) : Type 0 where
  pub seq : (1 ≤ place.seq) × (place.seq < 2 ^ 63)
  pub pos : (1 ≤ place.pos) × (place.pos < 2 ^ 63)

-- such places, rising
abbrev pub AreStorablePlaces : List Place → Type 0
AreStorablePlaces places = IsStrictlySortedBy place_cmp places × AllByRecursion IsStorablePlace places

-- one record's part of one list is changed to these places, and nothing else is changed
pub record IsChangedAt (db : ℤ) (key : Key) (sysno : ℕ) (places : List Place) (old new : Content) : Type 0 where
  pub rising : HasRisingLists new
  pub part : ArePlacesOf sysno places (new db key)
  pub others : (d : ℤ) (k : Key) (p : Posting) → ¬ ((d ≡ db) × (k ≡ key) × (p.sysno ≡ sysno)) → Has (new d k) p ↔ Has (old d k) p

-- one record's part of a list of postings is changed to these places, and nothing else is changed
pub record IsListChanged (sysno : ℕ) (places : List Place) (old new : List Posting) : Type 0 where
  pub rising : IsStrictlySortedBy posting_cmp new
  pub part : ArePlacesOf sysno places new
  pub others : (p : Posting) → p.sysno ≢ sysno → Has new p ↔ Has old p

-- changes of one list in turn, each of which says what stood there
abbrev pub AreListChanges : List RecordChange → List Posting → List Posting → Type 0
AreListChanges [] old new = new ≡ old
AreListChanges (change ∷ changes) old new =
    (next : List Posting) × ArePlacesOf change.sysno change.old.now old
    × IsListChanged change.sysno change.new.now old next × AreListChanges changes next new

-- the places that changes say stood there rise, in each of them
abbrev pub OldsRise : List RecordChange → Type 0
OldsRise changes = AllByRecursion (λ (change : RecordChange). IsStrictlySortedBy place_cmp change.old.now) changes

-- a key's list in one database is changed by these changes in turn, and no other list is
pub record AreChangedAt (db : ℤ) (key : Key) (changes : List RecordChange) (old new : Content) : Type 0 where
  pub list : AreListChanges changes (old db key) (new db key)
  pub others : (d : ℤ) (k : Key) → ¬ ((d ≡ db) × (k ≡ key)) → new d k ≡ old d k

-- the lists of one database are taken, and nothing else is changed
pub record IsWithout (db : ℤ) (old new : Content) : Type 0 where
  pub rising : HasRisingLists new
  pub left : (d : ℤ) (k : Key) (p : Posting) → Has (new d k) p ↔ (Has (old d k) p × (d ≢ db))

-- a database is taken with its records and its rows in the tables of the registers, and no other database, record, row or text is changed
pub record TakesWhole (db : ℤ) (old new : State) : Type 0 where
  pub store : IsStore new
  pub databases : TakesDatabase db databases_tree old.now.trees new.now.trees
  pub records : Loses (IsOfDatabase db) records_tree old.now.trees new.now.trees
  pub postings : Loses (IsOfDatabase db) postings_tree old.now.trees new.now.trees
  pub blocks : Loses (IsOfDatabase db) blocks_tree old.now.trees new.now.trees
  pub dict : Loses (IsOfDatabase db) dict_tree old.now.trees new.now.trees
  pub texts : new.now.trees meta_tree ≡ old.now.trees meta_tree

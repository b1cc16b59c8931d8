-- What the tables know of a name, and the database that a change begins with.
use Rattle.zeb_engine.proofs.Cited.{◌≡◌, ◌≢◌, ℕ, pos, List, Option, Some, None, Ok, Err, refl, subst, State, HasDatabase, Kind, Update, BeginsWith, MayBeginUnder, Conditions, Holdings, Base, IsImage, no_database, start_of, ready}
use Rattle.zeb_register.specs.declared.catalog.Database.{Database}
use Rattle.zeb_engine.proofs.ListedDatabases.{none_named, row_named}
use Rattle.zeb_engine.proofs.ReadyImages.{image_some}

-- there is no database to begin with
pub none_starts : (kind : Kind) (name : List ℕ) → kind ≢ Update → start_of kind name None ≡ Err (no_database name)
none_starts Update name other = absurd (other refl)
none_starts _ name other = refl

-- what the rows tell is told of the image
pub may_begin : (c : Conditions) (s : State) (before : Holdings) (bases : List Base) → ready c before ≡ Ok bases → IsImage s.now.trees before → (kind : Kind) (name : List ℕ) (found : Option Database)
    → BeginsWith kind s.now.trees name found → MayBeginUnder kind name found c s.now.trees before
may_begin c s before bases is image kind name None begins =
    let all = image_some c s.now.trees before bases is image in
    (bases, is, none_named s.now.trees bases all.1.image.lists.id_of all.1.image.lists.listed name begins.0, begins.1)
may_begin c s before bases is image kind name (Some found) row =
    let all = image_some c s.now.trees before bases is image in
    let base = row_named s.now.trees bases all.1.image.lists.id_of all.1.image.lists.listed all.0 all.1.are found.id.0 name found.last row in
    let there = subst (λ n. HasDatabase s.now.trees found.id.0 n (pos base.0.last)) base.3 (subst (λ (l : ℕ). HasDatabase s.now.trees found.id.0 name (pos l)) base.4 row) in
    (bases, base.0, is, base.1, there, base.4)

-- What a walk has left, where steps are put behind the others, turned round, and taken off.
use Rattle.std.proofs.Common.{◌≡◌, ◌≤◌, ◌<◌, ◌+◌, ◌-◌, ◌*◌, ◌^◌, ℕ, Bool, true, false, List, [], ◌∷◌, ◌++◌, arith, inl, inr, map, nat_eq, reverse, suc, refl, ap, sym, subst, ◌∙◌}
use Rattle.std.specs.Prelude.{◌⊎◌, Contains, IfErr, IfOk, IfSome, Option, None, Some, Result, Ok, Err, String, codes, string_bytes}
use Rattle.std.specs.List.{ends_with}
use Rattle.std.specs.declared.alloc.Global.{Global}
use Rattle.std.proofs.Math.Nat.{mul-add, mul-lt-mul_of_pos_left, mul-one, one-le-pow, pow-suc}
use Rattle.std.proofs.lemmas.List.Sums.{sum_by-append}
use Rattle.std.proofs.lemmas.List.{append-nil, append_assoc, map-append, reverse-append, reverse-reverse}
use Rattle.zeb_paths.specs.declared.walk.Step.{Step}
use Rattle.zeb_paths.specs.PrivateWalks.{Sees}
use Rattle.zeb_paths.specs.Walks.{AreUnder, Due, GivesFile, GivesUnder, IsBelow, IsEntered, IsFaultUnder, IsFaultUntold, IsRefused, IsUnder, IsUntold, MayStand, Tells, WalksOn, due, due_of, dues_in, dues_left, fault_at, level_weight, paths_left, slashed, step_path, step_weight, walk_weight}
use Rattle.zeb_paths.specs.Walks.{at_end, at_fault, at_file, at_folder, not_given, not_there, too_deep}
use Rattle.zeb_paths.specs.declared.causes.PathCause.{PathCause}
use Rattle.zeb_paths.specs.declared.causes.PathCause.TheVariants as cause
use Rattle.zeb_paths.specs.declared.paths.PathKind.{PathKind}
use Rattle.zeb_paths.specs.declared.paths.PathKind.TheVariants as kind
use Rattle.zeb_paths.specs.declared.walk.WalkFault.{WalkFault}
use Rattle.zeb_paths.specs.declared.walk.WalkFault.TheVariants.{Memory, Unreadable}

map_reversed : {X Y : Type 0} (f : X → Y) (xs : List X) → map f (reverse xs) ≡ reverse (map f xs)
map_reversed f [] = refl
map_reversed f (x ∷ xs) =
    ap (map f) (reverse-append (x ∷ []) xs) ∙ map-append f (reverse xs) (x ∷ []) ∙ ap (λ front. front ++ f x ∷ []) (map_reversed f xs) ∙ sym (reverse-append (f x ∷ []) (map f xs))

turned_back : {X Y : Type 0} (f : X → Y) (xs turned : List X) → turned ≡ reverse xs → reverse (map f turned) ≡ map f xs
turned_back f xs turned e = ap (λ all. reverse (map f all)) e ∙ ap reverse (map_reversed f xs) ∙ reverse-reverse (map f xs)

-- steps that are turned round have their paths left from the left
pub left_turned : (steps turned : List Step) → turned ≡ reverse steps → paths_left turned ≡ map step_path steps
left_turned = turned_back step_path

pub dues_turned : (steps turned : List Step) → turned ≡ reverse steps → dues_left turned ≡ map due_of steps
dues_turned = turned_back due_of

last_first : {X Y : Type 0} (f : X → Y) (xs : List X) (last : X) → reverse (map f (xs ++ last ∷ [])) ≡ f last ∷ reverse (map f xs)
last_first f xs last = ap reverse (map-append f xs (last ∷ [])) ∙ reverse-append (map f xs) (f last ∷ [])

pub dues_last : (before after : List Step) (last : Step) → before ≡ after ++ last ∷ [] → dues_left before ≡ due_of last ∷ dues_left after
dues_last before after last e = ap dues_left e ∙ last_first due_of after last

due_path : Due → List ℕ
due_path here = here.path

paths_same : (steps : List Step) → map due_path (map due_of steps) ≡ map step_path steps
unfolding due_path
paths_same [] = refl
paths_same (step ∷ steps) = ap (λ rest. step_path step ∷ rest) (paths_same steps)

-- the paths of what is left
paths_of_dues : (steps : List Step) → map due_path (dues_left steps) ≡ paths_left steps
paths_of_dues steps = map_reversed due_path (map due_of steps) ∙ ap reverse (paths_same steps)

parts : (a b : List ℕ) (xs ys : List (List ℕ)) → a ∷ xs ≡ b ∷ ys → (a ≡ b) × (xs ≡ ys)
parts a b xs ys e = (cc, cc)

-- what stands below a folder's path stands below what the folder stands below
slashed_on : (folder behind : List ℕ) → (more : List ℕ) × (slashed folder ++ behind ≡ folder ++ more)
slashed_on folder behind = by_slash (ends_with nat_eq folder (codes "/")) refl
  where
    by_slash : (ends : Bool) → ends_with nat_eq folder (codes "/") ≡ ends → (more : List ℕ) × (slashed folder ++ behind ≡ folder ++ more)
    by_slash true e = (behind, rw e refl)
    by_slash false e = (codes "/" ++ behind, rw e (append_assoc folder (codes "/") behind))

pub slash_none : (folder between : List ℕ) → ends_with nat_eq folder (codes "/") ≡ true → between ≡ [] → slashed folder ≡ folder ++ between
slash_none folder between e is = rw e (sym (ap (λ rest. folder ++ rest) is ∙ append-nil folder))

pub slash_some : (folder between : List ℕ) → ends_with nat_eq folder (codes "/") ≡ false → between ≡ codes "/" → slashed folder ≡ folder ++ between
slash_some folder between e is = rw e (ap (λ rest. folder ++ rest) (sym is))

below_below : (one folder path : List ℕ) → IsBelow one folder → IsBelow folder path → IsBelow one path
below_below one folder path (front, is) (behind, same) =
    let on = slashed_on folder behind in
    (front ++ on.0, same ∙ on.1 ∙ ap (λ start. start ++ on.0) is ∙ append_assoc (slashed one) front on.0)

-- what stands below such a folder stands below one of these
pub under_below : (named : List (List ℕ)) (folder path : List ℕ) → IsBelow folder path → IsUnder named folder → IsUnder named path
under_below named folder path below (one, has, inl same) = (one, has, inr (subst (λ f. IsBelow f path) same below))
under_below named folder path below (one, has, inr under) = (one, has, inr (below_below one folder path under below))

-- ---- what is seen

-- what may stand at a path that is shown
pub may_stand : (at : Tells) (path shown : List ℕ) (found met : Result PathKind PathCause) → found ≡ met → shown ≡ path → ((bytes : List ℕ) → at.bytes shown ≡ Some bytes → found ≡ Ok kind.File)
    → IfSome (at.stands shown) (λ told. found ≡ told) → MayStand at path met
may_stand at path shown found met is same file stands = subst (MayStand at path) is (subst (λ p. MayStand at p found) same (file, stands))

pub starved_anyway : (told : Option (List (List ℕ))) → IfSome told (λ names. (cause.Memory ≡ cause.Memory) ⊎ Contains names [])
starved_anyway None = tt
starved_anyway (Some names) = inl refl

-- a folder whose names aren't given, or not put in
pub names_refused : (at : Tells) (here : Due) (shown : List ℕ) (why : PathCause) (r : Result PathKind PathCause) (left later : List Due) → MayStand at here.path (Ok kind.Folder) → shown ≡ here.path
    → IfSome (at.names shown) (λ told. (why ≡ cause.Memory) ⊎ Contains told []) → r ≡ Err why → Sees at here r left later
names_refused at here shown why r left later stands same refused is =
    subst (λ r. Sees at here r left later) (sym is) (not_given stands (subst (λ path. IfSome (at.names path) (λ told. (why ≡ cause.Memory) ⊎ Contains told [])) same refused))

-- a folder's names are put before what is left, the last one first
pub entered_on : (folder : Due) (names : List (String Global)) (name : String Global) (before after : List Step) (last : Step) → after ≡ before ++ last ∷ []
    → due_of last ≡ due (slashed folder.path ++ string_bytes name) (folder.level + 1)
    → dues_in folder (map string_bytes names) ++ dues_left after ≡ dues_in folder (map string_bytes (names ++ name ∷ [])) ++ dues_left before
entered_on folder names name before after last e is =
    let place = λ (n : List ℕ). due (slashed folder.path ++ n) (folder.level + 1) in
    let split : dues_in folder (map string_bytes (names ++ name ∷ [])) ≡ dues_in folder (map string_bytes names) ++ place (string_bytes name) ∷ [] =
    ap (map place) (map-append string_bytes names (name ∷ [])) ∙ map-append place (map string_bytes names) (string_bytes name ∷ []) in
    ap (λ left. dues_in folder (map string_bytes names) ++ left) (dues_last after before last e ∙ ap (λ first. first ∷ dues_left before) is)
    ∙ sym (append_assoc (dues_in folder (map string_bytes names)) (place (string_bytes name) ∷ []) (dues_left before)) ∙ ap (λ front. front ++ dues_left before) (sym split)

-- ---- a walk

walked_from : (at : Tells) (before after : List Step) (last : Step) (result : Result (Option (String Global)) WalkFault) (later : List Due) → before ≡ after ++ last ∷ []
    → WalksOn at (due_of last ∷ dues_left after) result later → WalksOn at (dues_left before) result later
walked_from at before after last result later e on = subst (λ left. WalksOn at left result later) (sym (dues_last before after last e)) on

pub sees_folder : (at : Tells) (before after : List Step) (last : Step) (next : List Due) (found : PathKind) (result : Result (Option (String Global)) WalkFault) (later : List Due) → before ≡ after ++ last ∷ []
    → found ≡ kind.Folder → Sees at (due_of last) (Ok found) (dues_left after) next → WalksOn at next result later → WalksOn at (dues_left before) result later
sees_folder at before after last next kind.Folder result later e found (names, entered, is) on =
    walked_from at before after last result later e (at_folder entered (subst (λ left. WalksOn at left result later) is on))
sees_folder at before after last next kind.File result later e found sees on = absurd cc

pub sees_file : (at : Tells) (before after : List Step) (last : Step) (next : List Due) (found : PathKind) → before ≡ after ++ last ∷ [] → found ≡ kind.File → Sees at (due_of last) (Ok found) (dues_left after) next
    → WalksOn at (dues_left before) (Ok (Some last.path)) next
sees_file at before after last next kind.Folder e found sees = absurd cc
sees_file at before after last next kind.File e found (stands, is) =
    walked_from at before after last (Ok (Some last.path)) next e (subst (λ left. WalksOn at (due_of last ∷ dues_left after) (Ok (Some last.path)) left) (sym is) (at_file stands refl))

pub sees_end : (at : Tells) (before after : List Step) → before ≡ [] → after ≡ [] → WalksOn at (dues_left before) (Ok None) (dues_left after)
sees_end at before after none still = rw (none, still) at_end

pub sees_fault : (at : Tells) (before after : List Step) (last : Step) (next : List Due) (why : PathCause) (met : WalkFault) → before ≡ after ++ last ∷ []
    → Sees at (due_of last) (Err why) (dues_left after) next → met ≡ fault_at last.path why → WalksOn at (dues_left before) (Err met) next
sees_fault at before after last next why met e refused is = walked_from at before after last (Err met) next e (at_fault last.path why refused refl is)

-- at a refused path no file's bytes are told
refused_untold : (at : Tells) (here : Due) (why : PathCause) → IsRefused at here why → IsUntold at.bytes here.path
refused_untold at here why (not_there stands) bytes told = let both = stands.0 bytes told in absurd cc
refused_untold at here why (too_deep stands below) bytes told = let both = stands.0 bytes told in absurd cc
refused_untold at here why (not_given stands refuses) bytes told = let both = stands.0 bytes told in absurd cc

entered_untold : (at : Tells) (here : Due) (names : List (List ℕ)) → IsEntered at here names → IsUntold at.bytes here.path
entered_untold at here names entered bytes told = let both = entered.0.0 bytes told in absurd cc

first_told : (at : Tells) (dues : List Due) (result : Result (Option (String Global)) WalkFault) (later : List Due) → WalksOn at dues result later → (path bytes : List ℕ) (rest : List (List ℕ))
    → map due_path dues ≡ path ∷ rest → at.bytes path ≡ Some bytes → GivesFile path result × (map due_path later ≡ rest)
unfolding due_path
first_told at dues result later at_end path bytes rest is told = absurd cc
first_told at dues result later (at_file {here = here} {rest = others} {given = given} stands same) path bytes rest is told =
    let both = parts here.path path (map due_path others) rest is in
    (same ∙ both.0, both.1)
first_told at dues result later (at_folder {here = here} {rest = others} {names = names} entered on) path bytes rest is told =
    let both = parts here.path path (map due_path others) rest is in
    absurd (entered_untold at here names entered bytes (ap at.bytes both.0 ∙ told))
first_told at dues result later (at_fault {here = here} {rest = others} given why refused same met) path bytes rest is told =
    let both = parts here.path path (map due_path others) rest is in
    absurd (refused_untold at here why refused bytes (ap at.bytes both.0 ∙ told))

pub walks_told : (at : Tells) (steps later : List Step) (result : Result (Option (String Global)) WalkFault) → WalksOn at (dues_left steps) result (dues_left later) → (path bytes : List ℕ) (rest : List (List ℕ))
    → paths_left steps ≡ path ∷ rest → at.bytes path ≡ Some bytes → GivesFile path result × (paths_left later ≡ rest)
walks_told at steps later result on path bytes rest is told =
    let met = first_told at (dues_left steps) result (dues_left later) on path bytes rest (paths_of_dues steps ∙ is) told in
    (met.0, sym (paths_of_dues later) ∙ met.1)

none_ended : (at : Tells) (dues : List Due) (result : Result (Option (String Global)) WalkFault) (later : List Due) → WalksOn at dues result later → map due_path dues ≡ [] → result ≡ Ok None
unfolding due_path
none_ended at dues result later at_end none = refl
none_ended at dues result later (at_file stands same) none = absurd cc
none_ended at dues result later (at_folder entered on) none = absurd cc
none_ended at dues result later (at_fault given why refused same met) none = absurd cc

pub walks_ended : (at : Tells) (steps later : List Step) (result : Result (Option (String Global)) WalkFault) → WalksOn at (dues_left steps) result (dues_left later) → paths_left steps ≡ [] → result ≡ Ok None
walks_ended at steps later result on none = none_ended at (dues_left steps) result (dues_left later) on (paths_of_dues steps ∙ none)

-- the fault of a path names it, or is want of memory
by_fault : (P : WalkFault → Type 0) (given : String Global) (why : PathCause) → P (Unreadable given) → P Memory → P (fault_at given why)
by_fault P given cause.Absent named starved = named
by_fault P given cause.Forbidden named starved = named
by_fault P given cause.Neither named starved = named
by_fault P given cause.Folder named starved = named
by_fault P given cause.TooDeep named starved = named
by_fault P given cause.TooLong named starved = named
by_fault P given cause.NoText named starved = named
by_fault P given cause.NoRecord named starved = named
by_fault P given cause.Name named starved = named
by_fault P given cause.Failed named starved = named
by_fault P given cause.Memory named starved = starved

-- a fault is of a path that isn't told
pub walks_untold : (at : Tells) (dues : List Due) (result : Result (Option (String Global)) WalkFault) (later : List Due) → WalksOn at dues result later → IfErr result (IsFaultUntold at.bytes)
walks_untold at dues result later at_end = tt
walks_untold at dues result later (at_file stands same) = tt
walks_untold at dues result later (at_folder {here = here} {rest = others} {names = names} entered on) = walks_untold at (dues_in here names ++ others) result later on
walks_untold at dues result later (at_fault {here = here} given why refused same met) =
    subst (IsFaultUntold at.bytes) (sym met) (by_fault (IsFaultUntold at.bytes) given why (subst (IsUntold at.bytes) (sym same) (refused_untold at here why refused)) tt)

pub stops_untold : (at : Tells) (left later : List Due) (result : Result (Option (String Global)) WalkFault) → WalksOn at left result later → IfErr result (IsFaultUntold at.bytes)
stops_untold at left later result on = walks_untold at left result later on

-- what stands in a folder stands below what the folder stands below
names_under : (named : List (List ℕ)) (folder : Due) (names : List (List ℕ)) (rest : List Due) → IsUnder named folder.path → AreUnder named (map due_path rest) → AreUnder named (map due_path (dues_in folder names ++ rest))
unfolding due_path
names_under named folder [] rest one all = all
names_under named folder (name ∷ names) rest one all =
    (under_below named folder.path (slashed folder.path ++ name) (name, refl) one, names_under named folder names rest one all)

under_dues : (at : Tells) (named : List (List ℕ)) (left : List Due) (result : Result (Option (String Global)) WalkFault) (later : List Due) → WalksOn at left result later → AreUnder named (map due_path left)
    → GivesUnder named result × IfOk result (λ _. AreUnder named (map due_path later))
unfolding due_path
under_dues at named left result later at_end all = (tt, tt)
under_dues at named left result later (at_file stands same) all = (subst (IsUnder named) (sym same) all.0, all.1)
under_dues at named left result later (at_folder {here = here} {rest = others} {names = names} entered on) all =
    under_dues at named (dues_in here names ++ others) result later on (names_under named here names others all.0 all.1)
under_dues at named left result later (at_fault given why refused same met) all =
    (subst (IsFaultUnder named) (sym met) (by_fault (IsFaultUnder named) given why (subst (IsUnder named) (sym same) all.0) tt), tt)

-- what a walk gives, and what it leaves, stands below the paths that it is of
pub walks_under : (at : Tells) (steps later : List Step) (result : Result (Option (String Global)) WalkFault) → WalksOn at (dues_left steps) result (dues_left later) → (named : List (List ℕ)) → AreUnder named (paths_left steps)
    → GivesUnder named result × IfOk result (λ _. AreUnder named (paths_left later))
walks_under at steps later result on named all =
    let met = under_dues at named (dues_left steps) result (dues_left later) on (subst (AreUnder named) (sym (paths_of_dues steps)) all) in
    (met.0, subst (λ paths. IfOk result (λ _. AreUnder named paths)) (paths_of_dues later) met.1)

-- ---- weights

pub weight_last : (before after : List Step) (last : Step) → before ≡ after ++ last ∷ [] → walk_weight before ≡ walk_weight after + step_weight last
weight_last before after last e =
    let one : walk_weight (last ∷ []) ≡ step_weight last = omega arith in
    omega (arith, ap walk_weight e, sum_by-append step_weight after (last ∷ []), one)

pub weighs : (step : Step) → 0 < step_weight step
weighs step = omega (arith, one-le-pow (33 - step.level) 18446744073709551616 (omega arith))

-- a name that is put in weighs what a step below its folder does
pub weight_more : (w n m heavy new : ℕ) → new ≡ w + heavy → m ≡ n + 1 → new + heavy * n ≡ w + heavy * m
weight_more w n m heavy new grew more =
    let split : heavy * m ≡ heavy * n + heavy * 1 = ap (λ k. heavy * k) more ∙ mul-add heavy n 1 in
    let one : heavy * 1 ≡ heavy = mul-one heavy in
    omega (arith, grew, split, one)

-- a folder weighs more than its names
pub folder_heavier : (level n : ℕ) → level ≤ 32 → n < 9223372036854775808 → level_weight (level + 1) * n < level_weight level
folder_heavier level n deep few =
    let k = 33 - (level + 1) in
    let deeper : 33 - level ≡ suc k = omega arith in
    let whole : level_weight level ≡ 18446744073709551616 ^ k * 18446744073709551616 = ap (λ e. 18446744073709551616 ^ e) deeper ∙ pow-suc 18446744073709551616 k in
    let heavy : 0 < 18446744073709551616 ^ k = omega (arith, one-le-pow k 18446744073709551616 (omega arith)) in
    let fewer : n < 18446744073709551616 = omega arith in
    subst (λ w. level_weight (level + 1) * n < w) (sym whole) (mul-lt-mul_of_pos_left fewer heavy)

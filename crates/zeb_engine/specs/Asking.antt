-- What is said of the database of a name: of one that is there by its number, or that none has the name.
use Rattle.sqlite.specs.State.{State}
use Rattle.sqlite.specs.Tree.{Trees}
use Rattle.std.specs.Prelude.{◌≡◌, ◌⊎◌, [], List, None, OnOk, Result, ℕ, ℤ}
use Rattle.zeb_change.specs.Refused.{diagnostic}
use Rattle.zeb_change.specs.declared.refusals.Refusal.{Refusal}
use Rattle.zeb_engine.specs.Answers.{Answer, answer_of, no_database, refused}
use Rattle.zeb_engine.specs.declared.replies.Reply.{Reply}
use Rattle.zeb_query.specs.Places.{IsFaulty, IsReadable}
use Rattle.zeb_register.specs.Catalog.{IsDatabaseOf}
use Rattle.zeb_register.specs.Content.{Content}
use Rattle.zeb_register.specs.Formats.{Format, holds_in}
use Rattle.zeb_register.specs.Store.{HasDatabase, IsStore}

-- what may be answered of a database, by its number and the last system number that it gave
abbrev pub OfDatabase : Type 1
OfDatabase = ℤ → ℤ → Answer → Type 0

-- the same by the tables and the content that they hold
abbrev pub Said : Type 1
Said = Trees → Content → OfDatabase

-- there is a database of this name, and the answer is one of it
abbrev pub IsSaid : OfDatabase → List ℕ → Trees → Answer → Type 0
IsSaid Says name trees answer = (id : ℤ) × (last : ℤ) × HasDatabase trees id name last × Says id last answer

-- on the tables of a store that hold a content, an answer that is no refusal is so
abbrev pub Alone : Format → Said → List ℕ → State → Result Reply Refusal → Type 0
Alone format Says name s result =
    IsStore s → (content : Content) → holds_in format s.now.trees content → OnOk result (IsSaid (Says s.now.trees content) name s.now.trees (answer_of result))

-- no database has the name, and the answer tells so; or it is what is said of the database that has it
abbrev pub IsSaidOrMissed : OfDatabase → List ℕ → Trees → Answer → Type 0
IsSaidOrMissed Says name trees answer =
    (IsDatabaseOf trees name None × (answer ≡ refused (no_database name))) ⊎ IsSaid Says name trees answer

-- By the first refusal of the definition: the query's fault; that no database has the name; or what is said of the database that has it.
abbrev pub IsAsked : OfDatabase → (name text : List ℕ) → Trees → Answer → Type 0
IsAsked Says name text trees answer =
    (IsReadable text × IsSaidOrMissed Says name trees answer)
    ⊎ ((number : ℕ) × (place : ℕ) × IsFaulty text number place × (answer ≡ refused (diagnostic number place [])))

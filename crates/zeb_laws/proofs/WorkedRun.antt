-- A register is begun, a record is kept in it, and is found.
use Rattle.zeb_laws.proofs.Cited.{◌≡◌, ℕ, List, [], ◌∷◌, Some, refl, inl, codes, worked_record, Command, Init, Change, Find, Update, Delete, Adelete, Limits, Answer, done, changed, Conditions, Holdings, nothing_yet, Outcome, Run, Step, outcome, step_is, book_conditions, no_books, one_book, IsFindBy, IsUpdateBy}
use Rattle.zeb_laws.proofs.WorkedAnswers.{begun, kept, one_found}
use Rattle.zeb_laws.proofs.WorkedQuery.{asked}

module _ (c : Conditions) (before : Holdings) (commands : List Command) (answers : List Answer) (last : Holdings) where
  begins : (o : Outcome) → outcome c Init before ≡ Some o → Run c o.1 commands answers last → Run c before (Init ∷ commands) (o.0 ∷ answers) last
  begins o is rest = (o.1, inl ((step_is o.0 o.1 c Init before o is).1 (refl, refl)), rest)

  updates : (texts : List (List ℕ)) (o : Outcome) (command : Command) → IsUpdateBy texts command → outcome c command before ≡ Some o → Run c o.1 commands answers last → Run c before (command ∷ commands) (o.0 ∷ answers) last
  updates texts o (Change Update name files) by is rest = (o.1, inl ((step_is o.0 o.1 c (Change Update name files) before o is).1 (refl, refl)), rest)
  updates texts o (Change Delete name files) by is rest = absurd by
  updates texts o (Change Adelete name files) by is rest = absurd by
  updates texts o Init by is rest = absurd by
  updates texts o _ by is rest = absurd by

  finds : (text : List ℕ) (answer : Answer) (command : Command) → IsFindBy text command → Step c command before answer before → Run c before commands answers last → Run c before (command ∷ commands) (answer ∷ answers) last
  finds text answer (Find name query first count) by is rest = (before, inl is, rest)
  finds text answer _ by is rest = absurd by

pub run : (version : List ℕ) (limits : Limits) (update ask : Command) → IsUpdateBy (worked_record ∷ []) update → IsFindBy (codes "@attr 1=4 whale") ask
    → Run (book_conditions version limits) nothing_yet (Init ∷ update ∷ ask ∷ []) (done ∷ changed 1 0 0 ∷ one_found ∷ []) (one_book version)
run version limits update ask by asks =
    let c = book_conditions version limits in
    let found_it = finds c (one_book version) [] [] (one_book version) (codes "@attr 1=4 whale") one_found ask asks ((asked version limits one_found (one_book version) ask asks).1 (refl, refl)) refl in
    let kept_it = updates c (no_books version) (ask ∷ []) (one_found ∷ []) (one_book version) (worked_record ∷ []) (changed 1 0 0, one_book version) update by (kept version limits update by) found_it in
    begins c nothing_yet (update ∷ ask ∷ []) (changed 1 0 0 ∷ one_found ∷ []) (one_book version) (done, no_books version) (begun version limits nothing_yet) kept_it

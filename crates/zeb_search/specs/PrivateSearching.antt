-- What only the contracts of private functions speak of; no public clause reaches it.
-- What the steps of a search do: what each finds, whatever rows the tables have, why it is refused, and what it counts.
use Rattle.std.specs.Prelude.{◌≡◌, ◌≤◌, ℕ, ℤ, pos, IsTrue, List, Result, Vec, length}
use Rattle.std.specs.declared.alloc.Global.{Global}
use Rattle.std.specs.List.Sorted.{IsStrictlySortedBy}
use Rattle.sqlite.specs.State.{State}
use Rattle.sqlite.specs.Tree.{Trees}
use Rattle.zeb_text.specs.Symbols.{Symbol}
use Rattle.zeb_keys.specs.declared.Register.{Register}
use Rattle.zeb_keys.specs.declared.Register.TheVariants as register
use Rattle.zeb_keys.specs.declared.keys.Key.{Key}
use Rattle.zeb_query.specs.Plans.{TermPlanValue}
use Rattle.zeb_register.specs.declared.faults.RegFault.{RegFault}
use Rattle.zeb_register.specs.declared.registers.RegisterOf.{RegisterOf}
use Rattle.zeb_register.specs.declared.registers.TermCount.{TermCount}
use Rattle.zeb_register.specs.declared.registers.Work.{Work}
use Rattle.zeb_register.specs.Answers.{LooksInto}
use Rattle.zeb_register.specs.Content.{Posting, posting_cmp}
use Rattle.zeb_register.specs.Formats.{Format}
use Rattle.zeb_register.specs.Kept.{AreReadableIdents}
use Rattle.zeb_register.specs.Terms.{HidesSome}
use Rattle.zeb_search.specs.declared.keys.FoundKeys.{FoundKeys}
use Rattle.zeb_search.specs.declared.terms.Wanted.{Wanted}
use Rattle.zeb_search.specs.DictRows.{EntryDict, RegisterDict, TermDict, WordDict}
use Rattle.zeb_search.specs.Finds.{FindsEntries, HidesEntries, HidesWord, HidesWords, ReadsWord, TermFinds, TermHides}
use Rattle.zeb_search.specs.Holds.{Fits}
use Rattle.zeb_search.specs.ListRows.{EntryRows, TermRows, WordRows, rows_under}
use Rattle.zeb_search.specs.Lists.{AreNumbers}
use Rattle.zeb_search.specs.Registers.{is_kept_in}
use Rattle.zeb_search.specs.SearchCounts.{CountsAtMost, CountsRows, HasNoStar}
use Rattle.zeb_search.specs.Searching.{Searches}
use Rattle.zeb_search.specs.PrivateFinds.{HidesKeys, ListsKeys, PlacesFound}
use Rattle.zeb_search.specs.PrivateMet.{AreKeysIn, AreMet, HasMet}
use Rattle.zeb_search.specs.PrivateTerms.{AreFound, AreRun, NamesEntry}

-- no row of a list is read
abbrev pub NoRows : ℕ → Type 0
NoRows n = n ≡ 0

-- the record of a number, which counts nothing
abbrev pub LooksForRecord : ℤ → ℕ → (old new : State) → Result (Vec ℕ Global) RegFault → Type 0
LooksForRecord db number = LooksInto (λ trees. ¬ AreReadableIdents trees db (pos number))
    (λ (trees : Trees) (hits : Vec ℕ Global). AreNumbers (λ n. (n ≡ number) × is_kept_in trees db n) hits.items)

module _ (format : Format) (row_work : ℕ) where
  -- terms of a register, among which are those that are asked for
  abbrev pub SearchesTerms : RegisterOf → Wanted → (old new : State) → (before after : Work) → Result (Vec TermCount Global) RegFault → Type 0
  SearchesTerms of wanted = Searches format row_work (λ trees. HidesSome format trees of.db.0 of.index of.register)
      (λ (trees : Trees) (terms : Vec TermCount Global). HasMet format trees of.db.0 of.index of.register wanted terms.items)
      (λ content. CountsRows (RegisterDict row_work content of.db.0 of.index of.register) NoRows)

  -- their keys; no count is read of an entry that is asked for by its name
  abbrev pub SearchesKeys : RegisterOf → Wanted → (old new : State) → (before after : Work) → Result FoundKeys RegFault → Type 0
  SearchesKeys of wanted = Searches format row_work (λ trees. (¬ NamesEntry wanted) × HidesSome format trees of.db.0 of.index of.register)
      (λ (trees : Trees) (found : FoundKeys). AreMet format trees of wanted found)
      (λ content. CountsRows (EntryDict row_work content of.db.0 (NamesEntry wanted) of.index of.register) NoRows)

  -- `rows` says how many rows of `blocks` a list has
  module _ (rows : List Posting → ℕ) where
    -- the postings of keys of a register that are read at once
    abbrev pub SearchesRun : RegisterOf → List Key → (old new : State) → (before after : Work) → Result (Vec Posting Global) RegFault → Type 0
    SearchesRun of run = Searches format row_work (λ trees. AreKeysIn of run → HidesKeys format trees of run (2 ≤ length run))
        (λ (trees : Trees) (list : Vec Posting Global). AreKeysIn of run → ListsKeys format trees of run (2 ≤ length run) list.items)
        (λ content. λ before after. AreRun content of run → CountsAtMost 0 (rows_under rows content of.db.0 run) before after)

    -- those of some of the keys that were found
    abbrev pub SearchesSome : RegisterOf → FoundKeys → List Key → (old new : State) → (before after : Work) → Result (Vec Posting Global) RegFault → Type 0
    SearchesSome of found keys = Searches format row_work (λ trees. AreKeysIn of found.keys.items → HidesKeys format trees of keys (IsTrue found.are_neighbours))
        (λ (trees : Trees) (list : Vec Posting Global). AreKeysIn of found.keys.items → ListsKeys format trees of keys (IsTrue found.are_neighbours) list.items)
        (λ content. λ before after. AreFound content of found → CountsAtMost 0 (rows_under rows content of.db.0 keys) before after)

    -- those of all of them
    abbrev pub SearchesFound : RegisterOf → FoundKeys → (old new : State) → (before after : Work) → Result (Vec Posting Global) RegFault → Type 0
    SearchesFound of found = SearchesSome of found found.keys.items

    -- ---- in a database

    module _ (db : ℤ) where
      -- the records that have an entry of a register which is P; it may be asked for by its name
      abbrev pub SearchesEntry : (IsNamed : Type 0) → ℕ → Register → (P : List ℕ → Type 0) → (old new : State) → (before after : Work) → Result (Vec ℕ Global) RegFault → Type 0
      SearchesEntry IsNamed index register P = Searches format row_work (λ trees. HidesEntries format trees db IsNamed index register P)
          (λ (trees : Trees) (hits : Vec ℕ Global). FindsEntries format trees db IsNamed index register P hits.items)
          (λ content. CountsRows (EntryDict row_work content db IsNamed index register) (EntryRows rows content db index register P))

      -- those that have a word which a pattern matches
      abbrev pub SearchesWord : ℕ → List Symbol → (old new : State) → (before after : Work) → Result (Vec ℕ Global) RegFault → Type 0
      SearchesWord index pattern = SearchesEntry (HasNoStar pattern) index register.Word (Fits pattern)

      -- the places of such words, rising
      abbrev pub SearchesPlaces : ℕ → List Symbol → (old new : State) → (before after : Work) → Result (Vec Posting Global) RegFault → Type 0
      SearchesPlaces index pattern = Searches format row_work (λ trees. HidesWord format trees db index pattern)
          (λ (trees : Trees) (list : Vec Posting Global). ReadsWord format trees db index pattern list.items × IsStrictlySortedBy posting_cmp list.items)
          (λ content. CountsRows (EntryDict row_work content db (HasNoStar pattern) index register.Word) (EntryRows rows content db index register.Word (Fits pattern)))

      -- the places of the first words of phrases
      abbrev pub SearchesPhrases : ℕ → List (List Symbol) → (old new : State) → (before after : Work) → Result (Vec Posting Global) RegFault → Type 0
      SearchesPhrases index patterns = Searches format row_work (λ trees. HidesWords format trees db index patterns)
          (λ (trees : Trees) (places : Vec Posting Global). PlacesFound format trees db index patterns places.items)
          (λ content. CountsRows (WordDict row_work content db index patterns) (WordRows rows content db index patterns))

      -- the records on which one term of a plan holds
      abbrev pub SearchesTerm : TermPlanValue → (old new : State) → (before after : Work) → Result (Vec ℕ Global) RegFault → Type 0
      SearchesTerm plan = Searches format row_work (λ trees. TermHides format trees db plan)
          (λ (trees : Trees) (hits : Vec ℕ Global). TermFinds format trees db plan hits.items)
          (λ content. CountsRows (TermDict row_work content db plan) (TermRows rows content db plan))

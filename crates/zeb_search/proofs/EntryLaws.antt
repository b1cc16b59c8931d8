-- What a step of a search reads, where the tables hold a content: the postings of the entries that it asks for. And what it has met on any tables.
use Rattle.zeb_search.proofs.Cited.{◌≡◌, ◌↔◌, ◌∙◌, ◌∷◌, ◌≤◌, ℕ, ℤ, List, ap, drop, inl, inr, refl, subst, Text, Row, column, Trees, Has, Symbol, Register, Key, Occurrence, Content, IsStorable, posted, Posting, Format, packed_blocks, packed_leaves, plain_rows, holds_in, key_in, register_front, Fits, HasEntry, HasNoStar, HasWord, AreNumbers, AreEntriesSound, FindsEntries, HasAll, HasPosting, HidesEntries, IsReached, Occurs, ReadsEntries, ReadsWord}
use Rattle.zeb_keys.specs.declared.Register.TheVariants as register
use Rattle.zeb_register.specs.LeafUnits.{IsLeafOf}
use Rattle.zeb_register.specs.Occurring.{HasKey}
use Rattle.zeb_register.specs.Sound.{IsTermSound}
use Rattle.zeb_register.specs.Store.{IsRest, dict_tree}
use Rattle.zeb_register.specs.Terms.{shows_count}
use Rattle.zeb_register.proofs.BetweenRows.{begins}
use Rattle.zeb_register.proofs.CountLemmas.{counted_none, some_count}
use Rattle.zeb_register.proofs.CountLists.{held_shows}
use Rattle.zeb_register.proofs.KeyLists.{count_held, held_listing, held_whole, whole_list, whole_sound}
use Rattle.zeb_register.proofs.LeafSums.{entry_counted}
use Rattle.zeb_search.proofs.JustLemmas.{just_same}
use Rattle.zeb_search.proofs.UnitLemmas.{of_list, on_list}

-- ---- rows, whatever they hold

-- a count that can be shown is that of a row, or of leaves, and where it is of some record the list is sound
shown_sound : (format : Format) (trees : Trees) (db : ℤ) (index : ℕ) (register : Register) (term : List ℕ) (list : List Posting) (records : ℕ) → shows_count format trees db (key_in index register term) records
    → (1 ≤ records → HasAll format trees db (key_in index register term) list) → IsTermSound format trees db (key_in index register term)
shown_sound plain_rows trees db index register term list records shows all = tt
shown_sound packed_blocks trees db index register term list records shows all = λ row there shown.
    let is : row ≡ Text term ∷ drop 1 row = begins row (Text term) shown (λ none. cc) in
    let said = shows.0.said (drop 1 row) (subst (IsRest dict_tree (register_front db index register) trees) is there) in
    ((term, shown, shows.1 said.0, (records, ap (λ (r : Row). column r 1) is ∙ said.2, said.0, said.1)), (all said.0).whole)
shown_sound packed_leaves trees db index register term list records shows all = (
  (records, shows.0),
  λ e is. (let some = entry_counted (IsLeafOf trees db (key_in index register term)) term e records is shows.0 in (shows.1 some, (all some).whole)),
)

module _ (format : Format) (trees : Trees) (db : ℤ) (IsNamed : Type 0) (index : ℕ) (register : Register) (P : List ℕ → Type 0) where
  abbrev named : List ℕ → Key
  named = key_in index register

  -- all rows that are asked for are sound
  pub read_sound : (list : List Posting) → ReadsEntries format trees db IsNamed index register P list → AreEntriesSound format trees db IsNamed index register P
  read_sound list reads term asked = elim reads.asked [
    | inl name ↦ (λ _. whole_list format trees db (named term) (name.1 term asked).whole, λ unnamed. absurd (unnamed name.0))
    | inr counts ↦ (λ name. absurd (counts.0 name), λ _. (let it = counts.1 term asked in shown_sound format trees db index register term list it.0 it.1 it.2))
  ]

  -- ---- tables that hold a content

  module _ (content : Content) (holds : holds_in format trees content) where
    abbrev O : ℕ → Occurrence → Type 0
    O = posted content db

    held_on : (key : Key) (p : Posting) → Occurs format trees db key p → Has (content db key) p
    held_on key = on_list format trees db key (content db key) (held_listing format trees db key content holds)

    held_of : (key : Key) (p : Posting) → Has (content db key) p → Occurs format trees db key p
    held_of key = of_list format trees db key (content db key) (held_listing format trees db key content holds)

    -- the record of a posting has the key
    has_key : (key : Key) (p : Posting) → Has (content db key) p → HasKey O key p.sysno
    has_key key p here = (record { key = key; seq = p.seq; pos = p.pos }, here, refl)

    -- of the entries that are reached those with a posting are asked for
    wanted_of : (term : List ℕ) (p : Posting) → IsReached format trees db IsNamed index register P term → Has (content db (named term)) p → P term
    wanted_of term p (inl name) here = name.1
    wanted_of term p (inr counts) here = elim counts.1 [
      | inl shown ↦ shown.0
      | inr stray ↦ absurd (counted_none (HasKey O (named term)) 0 p.sysno (count_held format trees content holds db (named term) 0 stray.0) refl (has_key (named term) p here))
    ]

    module _ (list : List Posting) (reads : ReadsEntries format trees db IsNamed index register P list) where
      pub read_of : (p : Posting) → Has list p → (term : List ℕ) × Has (content db (named term)) p × P term
      read_of p here =
          let it = reads.each p here in
          let has = held_on (named it.0) p it.2 in
          (it.0, has, wanted_of it.0 p it.1 has)

      pub read_on : (p : Posting) (term : List ℕ) → Has (content db (named term)) p → P term → Has list p
      read_on p term has asked = elim reads.asked [
        | inl name ↦ (name.1 term asked).has p (held_of (named term) p has)
        | inr counts ↦ (
            let it = counts.1 term asked in
            (it.2 (some_count (HasKey O (named term)) it.0 p.sysno (count_held format trees content holds db (named term) it.0 it.1.0) (has_key (named term) p has))).has p (held_of (named term) p has)
            )
      ]

      pub entry_numbers : (n : ℕ) → HasPosting list n ↔ HasEntry O index register P n
      entry_numbers n = (
        λ posting.
            let it = read_of posting.0 posting.1 in
            (it.0, subst (HasKey O (named it.0)) posting.2 (has_key (named it.0) posting.0 it.1), it.2),
        λ entry.
            let p : Posting = record { sysno = n; seq = entry.1.0.seq; pos = entry.1.0.pos } in
            (p, read_on p entry.0 (subst (λ (k : Key). Has (content db k) p) entry.1.2 entry.1.1) entry.2, refl),
      )

    pub entries_held : (hits : List ℕ) → FindsEntries format trees db IsNamed index register P hits → AreNumbers (HasEntry O index register P) hits
    entries_held hits finds = just_same (HasPosting finds.0) (HasEntry O index register P) hits (entry_numbers finds.0 finds.1) finds.2

    -- and nothing is hidden of a content that can be stored
    pub none_hidden : IsStorable content → HidesEntries format trees db IsNamed index register P → ⊥
    none_hidden storable (inl counts) = held_shows format trees db index register content holds storable counts.1.0 counts.1.1
    none_hidden storable (inr bad) = whole_sound format trees db (named bad.0) (held_whole format trees content holds db (named bad.0)) bad.2

-- the places of words
pub word_held : (format : Format) (trees : Trees) (db : ℤ) (index : ℕ) (pattern : List Symbol) (content : Content) → holds_in format trees content → (list : List Posting) → ReadsWord format trees db index pattern list
    → (p : Posting) → Has list p ↔ HasWord (posted content db) index pattern p.sysno p.seq p.pos
word_held format trees db index pattern content holds list reads p = (
  read_of format trees db (HasNoStar pattern) index register.Word (Fits pattern) content holds list reads p,
  λ word. read_on format trees db (HasNoStar pattern) index register.Word (Fits pattern) content holds list reads p word.0 word.1 word.2,
)

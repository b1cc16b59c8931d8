-- What the lists of keys that were found tell of the entries that a step of a search asks for.
use Rattle.zeb_search.proofs.Cited.{◌↔◌, ◌⊎◌, ◌≤◌, ℕ, ℤ, zero, suc, List, IsTrue, Register, arith, inl, inr, subst, Trees, Has, Key, RegisterOf, Posting, Format, key_in, Wanted, AreMet, FoundKeys, HidesEntries, HidesKeys, IsCounted, IsReached, IsReachedBy, IsShown, IsStray, IsWanted, ListsKeys, MeetsCounts, NamesEntry, ReadsEntries, IsBetween, shows_count}
use Rattle.zeb_search.proofs.NeighbourLemmas.{never_lower}
use Rattle.zeb_search.proofs.UnitLemmas.{all_more}

module _ (format : Format) (trees : Trees) (of : RegisterOf) (wanted : Wanted) (found : FoundKeys) (met : AreMet format trees of wanted found) where
  abbrev named : List ℕ → Key
  named = key_in of.index of.register

  abbrev Shown : List ℕ → Type 0
  Shown = IsShown format trees of.db.0 (NamesEntry wanted) of.index of.register (IsWanted wanted)

  abbrev Stray : List ℕ → Type 0
  Stray = IsStray format trees of.db.0 (NamesEntry wanted) of.index of.register (IsWanted wanted)

  abbrev Reached : List ℕ → Type 0
  Reached = IsReached format trees of.db.0 (NamesEntry wanted) of.index of.register (IsWanted wanted)

  -- a key is that of an entry that is shown
  key_shown : MeetsCounts format trees of wanted found → (key : Key) → Has found.keys.items key → Shown key.term
  key_shown counts key here = (met.asked key here, subst (IsCounted format trees of.db.0) (met.are.each key here) (counts.counted key here))

  -- what stands between two of the keys is shown or stray
  shown_or : MeetsCounts format trees of wanted found → (first last : Key) → Has found.keys.items first → Has found.keys.items last → (term : List ℕ) → IsBetween first.term last.term term
      → (records : ℕ) → shows_count format trees of.db.0 (named term) records → (1 ≤ records → Has found.keys.items (named term)) → Shown term ⊎ Stray term
  shown_or counts first last one two term between zero shows here = inr (shows.0, first.term, last.term, key_shown counts first one, key_shown counts last two, between)
  shown_or counts first last one two term between (suc n) shows here = inl (key_shown counts (named term) (here (omega arith)))

  reached : (term : List ℕ) → IsReachedBy format trees of found.keys.items (IsTrue found.are_neighbours) term → Reached term
  reached term (inl here) = elim met.met [
    | inl name ↦ inl (name.0, met.asked (named term) here)
    | inr counts ↦ inr (counts.0, inl (key_shown counts.1 (named term) here))
  ]
  reached term (inr within) = elim met.met [
    | inl name ↦ absurd (name.1.alone within.0)
    | inr counts ↦ (
        let it = counts.1.neighbours within.0 within.1 within.2 within.3 within.4 term (never_lower term within.1.term within.5.0, never_lower within.2.term term within.5.1) in
        inr (counts.0, shown_or counts.1 within.1 within.2 within.3 within.4 term within.5 it.0 it.1 it.2)
        )
  ]

  pub entries_read : (list : List Posting) → ListsKeys format trees of found.keys.items (IsTrue found.are_neighbours) list
      → ReadsEntries format trees of.db.0 (NamesEntry wanted) of.index of.register (IsWanted wanted) list
  entries_read list lists = record {
    asked = elim met.met [
      | inl name ↦ inl (name.0, λ term asked. lists.all (named term) (name.1.each term asked))
      | inr counts ↦ inr (counts.0, λ term asked. let it = counts.1.each term asked in (it.0, it.1, λ has. lists.all (named term) (it.2 has)))
    ];
    each = λ p here. let it = lists.each p here in (it.0, reached it.0 it.1, it.2);
  }

  pub entries_hidden : HidesKeys format trees of found.keys.items (IsTrue found.are_neighbours) → HidesEntries format trees of.db.0 (NamesEntry wanted) of.index of.register (IsWanted wanted)
  entries_hidden bad = inr (bad.0, reached bad.0 bad.1, bad.2)

-- the same postings in another order
pub reads_same : (format : Format) (trees : Trees) (db : ℤ) (IsNamed : Type 0) (index : ℕ) (register : Register) (P : List ℕ → Type 0) (list other : List Posting) → ((p : Posting) → Has other p ↔ Has list p)
    → ReadsEntries format trees db IsNamed index register P list → ReadsEntries format trees db IsNamed index register P other
reads_same format trees db IsNamed index register P list other same reads = record {
  asked = elim reads.asked [
    | inl name ↦ inl (name.0, λ term asked. all_more format trees db (key_in index register term) list other (λ p h. (same p).1 h) (name.1 term asked))
    | inr counts ↦ inr (
      counts.0,
      λ term asked. (let it = counts.1 term asked in (it.0, it.1, λ has. all_more format trees db (key_in index register term) list other (λ p h. (same p).1 h) (it.2 has))),
    )
  ];
  each = λ p here. reads.each p ((same p).0 here);
}

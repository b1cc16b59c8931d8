-- The counts of a register's terms that a search has met, page by page.
use Rattle.zeb_search.proofs.Cited.{◌≡◌, ◌≢◌, ◌⊎◌, ◌∙◌, ◌<◌, ◌≤◌, ℕ, ℤ, List, [], ◌∷◌, ◌++◌, length, refl, sym, ap, subst, inl, inr, Less, Ordering, None, Some, String, string_bytes, Global, nat_cmp, slice_cmp, append_assoc, Trees, Has, has_either, has_left, has_right, Register, TermCount, Content, posted, Format, holds_in, TermIn, key_in, Precedes, Wanted, HasMet, IsShownWith, BeginsAt, IsAmong, IsWanted, LeadsTo, TermsRise, Comes, IsNearest, ListsAll, ListsFrom, counts_as, asked_shown, count_held}
use Rattle.zeb_register.proofs.BlockContents.{some_counted}
use Rattle.zeb_search.proofs.Comparisons.{below_next, below_others, none_between, precedes_then}
use Rattle.zeb_search.proofs.RisingTexts.{before_last_text, joined_rise, none_rises, terms_rise}

-- terms that rise are below the text right above the last one
pub below_above : (terms front : List TermCount) (last : TermCount) → terms ≡ front ++ last ∷ [] → TermsRise terms → (t : TermCount) → Has terms t → Precedes t.term (last.term ++ 0 ∷ [])
below_above terms front last is up t there = elim (has_either front (last ∷ []) t (subst (λ (l : List TermCount). Has l t) is there)) [
  | inl before ↦ precedes_then t.term last.term (last.term ++ 0 ∷ []) (before_last_text (λ (u : TermCount). u.term) front last (subst TermsRise is up) t before) (below_next last.term)
  | inr end ↦ elim end [ inl same ↦ subst (λ (u : TermCount). Precedes u.term (last.term ++ 0 ∷ [])) (sym same) (below_next last.term) | inr none ↦ absurd none ]
]

-- a text stands behind all of a page, or one of its terms doesn't come before it
behind_or : (page : List TermCount) (term : List ℕ) → ((t : TermCount) → Has page t → Precedes t.term term) ⊎ ((t : TermCount) × Has page t × ¬ Precedes t.term term)
behind_or [] term = inl (λ t h. absurd h)
behind_or (t ∷ page) term = by (slice_cmp nat_cmp t.term term) refl (behind_or page term)
  where
    by : (o : Ordering) → slice_cmp nat_cmp t.term term ≡ o → ((u : TermCount) → Has page u → Precedes u.term term) ⊎ ((u : TermCount) × Has page u × ¬ Precedes u.term term)
        → ((u : TermCount) → Has (t ∷ page) u → Precedes u.term term) ⊎ ((u : TermCount) × Has (t ∷ page) u × ¬ Precedes u.term term)
    by Less is (inl all) = inl (λ u h. elim h [ inl same ↦ subst (λ (v : TermCount). Precedes v.term term) (sym same) is | inr later ↦ all u later ])
    by Less is (inr it) = inr (it.0, inr it.1, it.2)
    by o is rest = inr (t, inl refl, λ low. (let e : Less ≡ o = sym low ∙ is in cc))

module _ (format : Format) (trees : Trees) (db : ℤ) (index : ℕ) (register : Register) (wanted : Wanted) where
  abbrev IsTold : List TermCount → List ℕ → Type 0
  IsTold terms term = IsShownWith format trees db (key_in index register term) (IsAmong terms term)

  -- all terms at once
  pub all_met : (terms : List TermCount) → ListsAll format trees db index register terms → HasMet format trees db index register wanted terms
  all_met terms lists = record {
    of = λ t h. let it = lists.each t h in (it.1, it.2.0);
    rising = terms_rise terms lists.rising;
    each = λ term asked. shown term;
    whole = λ one two first last term within. shown term;
  }
    where
      shown : (term : List ℕ) → IsTold terms term
      shown term = asked_shown format trees db index register (λ _. Unit {0}) terms lists term tt

  -- where the tables hold a content, some record has each
  pub met_of : (t : TermCount) → (1 ≤ t.records) × counts_as format trees db (key_in index register t.term) t.records → (content : Content) → holds_in format trees content → (n : ℕ) × TermIn (posted content db) index register t.term n
  met_of t it content holds = some_counted (TermIn (posted content db) index register t.term) t.records (count_held format trees content holds db (key_in index register t.term) t.records it.1) it.0

  -- The terms so far rise, each with its count, and are below the next page's start. An entry that is asked for is told by them, or isn't
  -- below the start; so is each that isn't below one of them.
  pub record MetUpTo (terms : List TermCount) (start : List ℕ) : Type 0 where
    pub of : (t : TermCount) → Has terms t → (1 ≤ t.records) × counts_as format trees db (key_in index register t.term) t.records
    pub rising : TermsRise terms
    pub below : (t : TermCount) → Has terms t → Precedes t.term start
    pub each : (term : List ℕ) → IsWanted wanted term → IsTold terms term ⊎ (¬ Precedes term start)
    pub whole : (s : TermCount) → Has terms s → (term : List ℕ) → ¬ Precedes term s.term → IsTold terms term ⊎ (¬ Precedes term start)

  pub none_met : (start : List ℕ) → BeginsAt wanted start → MetUpTo [] start
  none_met start begins = record {
    of = λ t there. absurd there;
    rising = none_rises (λ (t : TermCount). t.term);
    below = λ t there. absurd there;
    each = λ term asked. inr (begins term asked);
    whole = λ s here. absurd here;
  }

  -- ---- page after page

  module _ (start : List ℕ) (n : ℕ) (some : 0 < n) (terms page : List TermCount) (lists : ListsFrom format trees db index register start n page) (before : MetUpTo terms start) where
    -- an entry that isn't below the page's start is told there, or stands behind all of the page
    page_has : (term : List ℕ) → (¬ Precedes term start) → IsTold page term ⊎ ((page ≢ []) × ((t : TermCount) → Has page t → Precedes t.term term))
    page_has term low = elim (behind_or page term) [
      | inr it ↦ inl (shown (inr it))
      | inl all ↦ from page refl all
    ]
      where
        shown : (length page < n) ⊎ ((t : TermCount) × Has page t × ¬ Precedes t.term term) → IsTold page term
        shown reached = asked_shown format trees db index register (IsNearest format trees db index register (λ u. ¬ Comes u start) Comes n page) page lists.are term (low, reached)

        from : (ts : List TermCount) → page ≡ ts → ((t : TermCount) → Has page t → Precedes t.term term) → IsTold page term ⊎ ((page ≢ []) × ((t : TermCount) → Has page t → Precedes t.term term))
        from [] is all = inl (shown (inl (subst (λ (ts : List TermCount). length ts < n) (sym is) some)))
        from (t ∷ ts) is all = inr (λ none. (let e : t ∷ ts ≡ [] = sym is ∙ none in cc), all)

    told_left : (term : List ℕ) → IsTold terms term → IsTold (terms ++ page) term
    told_left term it = (it.0, it.1, λ has. let among = it.2 has in (among.0, has_left terms page among.0 among.1, among.2))

    -- what isn't below the start is told, or stands behind all of the page
    told_from : (term : List ℕ) → (¬ Precedes term start) → IsTold (terms ++ page) term ⊎ ((page ≢ []) × ((t : TermCount) → Has page t → Precedes t.term term))
    told_from term low = elim (page_has term low) [
      | inl it ↦ inl (it.0, it.1, λ has. let among = it.2 has in (among.0, has_right terms page among.0 among.1, among.2))
      | inr behind ↦ inr behind
    ]

    after_page : (term : List ℕ) → IsWanted wanted term → IsTold (terms ++ page) term ⊎ ((page ≢ []) × ((t : TermCount) → Has page t → Precedes t.term term))
    after_page term asked = elim (before.each term asked) [ inl met ↦ inl (told_left term met) | inr low ↦ told_from term low ]

    -- so does what isn't below one of the terms
    after_whole : (s : TermCount) → Has (terms ++ page) s → (term : List ℕ) → (¬ Precedes term s.term)
        → IsTold (terms ++ page) term ⊎ ((¬ Precedes term start) × ((t : TermCount) → Has page t → Precedes t.term term))
    after_whole s here term up = elim (has_either terms page s here) [
      | inl sooner ↦ elim (before.whole s sooner term up) [ inl met ↦ inl (told_left term met) | inr low ↦ behind low ]
      | inr late ↦ behind (λ low. up (below_others term s.term start low (lists.are.each s late).0.0))
    ]
      where
        behind : ¬ Precedes term start → IsTold (terms ++ page) term ⊎ ((¬ Precedes term start) × ((t : TermCount) → Has page t → Precedes t.term term))
        behind low = elim (told_from term low) [ inl met ↦ inl met | inr past ↦ inr (low, past.1) ]

    pub more_of : (t : TermCount) → Has (terms ++ page) t → (1 ≤ t.records) × counts_as format trees db (key_in index register t.term) t.records
    more_of t there = elim (has_either terms page t there) [ inl sooner ↦ before.of t sooner | inr here ↦ (let it = lists.are.each t here in (it.1, it.2.0)) ]

    pub more_rises : TermsRise (terms ++ page)
    more_rises = joined_rise (λ (t : TermCount). t.term) terms page before.rising (terms_rise page lists.are.rising) (λ t u here there. below_others t.term u.term start (before.below t here) (lists.are.each u there).0.0)

    -- with the last page all are met
    pub last_met : LeadsTo wanted page None → HasMet format trees db index register wanted (terms ++ page)
    last_met ends = record {
      of = more_of;
      rising = more_rises;
      each = λ term asked. elim (after_page term asked) [
        | inl met ↦ met
        | inr behind ↦ absurd (elim ends [ inl none ↦ behind.0 none | inr last ↦ last.2 term asked (behind.1 last.0 last.1) ])
      ];
      whole = λ one two first last term within. elim (after_whole one first term within.0) [
        | inl met ↦ met
        | inr behind ↦ absurd (within.1 (elim (has_either terms page two last) [
          | inl sooner ↦ below_others two.term term start (before.below two sooner) behind.0
          | inr here ↦ behind.1 two here
        ]))
      ];
    }

    module _ (front : List TermCount) (last : TermCount) (is_page : page ≡ front ++ last ∷ []) (next : List ℕ) (is_next : next ≡ last.term ++ 0 ∷ []) where
      last_there : Has page last
      last_there = subst (λ (l : List TermCount). Has l last) (sym is_page) (has_right front (last ∷ []) last (inl refl))

      past : (term : List ℕ) → Precedes last.term term → ¬ Precedes term next
      past term up = subst (λ (l : List ℕ). ¬ Precedes term l) (sym is_next) (none_between last.term term up)

      pub met_behind : MetUpTo (terms ++ page) next
      met_behind = record {
        of = more_of;
        rising = more_rises;
        below = λ t there. subst (Precedes t.term) (sym is_next)
            (below_above (terms ++ page) (terms ++ front) last (ap (λ (l : List TermCount). terms ++ l) is_page ∙ sym (append_assoc terms front (last ∷ []))) more_rises t there);
        each = λ term asked. elim (after_page term asked) [ inl met ↦ inl met | inr behind ↦ inr (past term (behind.1 last last_there)) ];
        whole = λ s here term up. elim (after_whole s here term up) [ inl met ↦ inl met | inr behind ↦ inr (past term (behind.1 last last_there)) ];
      }

    pub next_met : (next : String Global) → LeadsTo wanted page (Some next) → MetUpTo (terms ++ page) (string_bytes next)
    next_met next leads = met_behind leads.0 leads.1 leads.2 (string_bytes next) leads.3

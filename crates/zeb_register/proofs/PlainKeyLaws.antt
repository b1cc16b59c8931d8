-- What follows of changes of a key's units in plain rows: for tables that hold a content, and for rows whatever they say.
use Rattle.zeb_register.proofs.Cited.{◌≤◌, IsPlaceIn, drop, ◌≡◌, ◌≢◌, ◌↔◌, ◌∙◌, ◌++◌, ℕ, ℤ, pos, List, refl, sym, ap, ap₂, subst, inl, inr, AllByRecursion, Int, Row, Trees, Has, Posting, Key, Place, RecordChange, AreChangedAt, ArePlacesOf, Content, IsStorable, plain_rows, HasRow, HoldsRows, key_row, posting_row, postings_tree, posting_at, KeepsMalformed, KeepsRowsBeside, OldsRise, places_in, IsPostingRow, RowsRead, ShowsPosting, units_of, AllowsChanges, IsChanged, IsStorableChange, KeyUnits, PutsUnits}
use Rattle.zeb_register.proofs.ContentChanges.{told_spot, with_list}
use Rattle.zeb_register.proofs.ContentLemmas.{told_apart}
use Rattle.zeb_register.proofs.ContentTurns.{AreUnitsIn, InRange, list_kept, list_there, list_turned, units_turned}
use Rattle.zeb_register.proofs.KeyPlaces.{place_in, place_of, placed_at}
use Rattle.zeb_register.proofs.ListChanges.{content_changed, content_rises}
use Rattle.zeb_register.proofs.Malformed.{key_begins, malformed_same, table_same}
use Rattle.zeb_register.proofs.PlainTurns.{changed}
use Rattle.zeb_register.proofs.RowUnits.{held_rows, one_posting, one_rows_read}
use Rattle.zeb_register.proofs.TermsAmong.{records_count, records_of}

-- ---- rows of the key, and others

module _ (db : ℤ) (key : Key) (changes : List RecordChange) (old new : Trees) (puts : PutsUnits plain_rows db key changes old new) where
  pub rows_beside : KeepsRowsBeside (key_row db key) old new
  rows_beside = record {
    postings = λ row apart. (
      λ h. elim (puts.rows.postings.comes row h) [ inl was ↦ was.0 | inr own ↦ absurd (apart (posting_row (posting_at own.0 own.1)) own.3) ],
      λ h. puts.rows.postings.stays row (λ among. let it = key_begins db key row among.2.0 among.2.1 among.2.2 among.2.3 in apart it.0 it.1) h,
    );
    blocks = table_same (key_row db key) 9 old new puts.rows.blocks;
    dict = table_same (key_row db key) 11 old new puts.rows.dict;
  }

  pub malformed_kept : KeepsMalformed old new
  malformed_kept = malformed_same plain_rows old new puts.rows.blocks puts.rows.dict

-- ---- tables that hold a content

module _ (db : ℤ) (key : Key) (changes : List RecordChange) (old : Trees) (content : Content) (holds : HoldsRows old content) where
  abbrev list : List Posting
  list = content db key

  -- a unit reads as the places of the content
  places_of : (n : ℕ) (places : List Place) → RowsRead old db key n places → ArePlacesOf n places list
  places_of n places reads place =
      let its : places ≡ places_in n list = one_rows_read old db key n places (places_in n list) reads (held_rows old content holds db key n) in (
        λ h. placed_at n list place (subst (λ l. Has l place) its h),
        λ h. subst (λ l. Has l place) (sym its) (place_in list (posting_at n place) h),
      )

  pub allows_held : IsStorable content → AllByRecursion IsStorableChange changes → OldsRise changes → (after : Content) → AreChangedAt db key changes content after → (were : KeyUnits) × (are : KeyUnits) × AllowsChanges plain_rows db key changes old were are
  allows_held storable stored rise after change =
      let range : InRange list = λ n has. subst (λ m. (1 ≤ m) × (m ≤ 999999999)) has.2 (storable db key has.0 has.1).sysno in
      let turns = units_turned plain_rows changes list (after db key) (records_of list) stored rise range (holds.rising db key) (records_count list) change.list in
      (units_of list (records_of list), turns.0, record { count = tt; found = λ n it. held_rows old content holds db key n; turns = turns.1 })

  module _ (new : Trees) (puts : PutsUnits plain_rows db key changes old new) where
    abbrev In : ℕ → Type 0
    In n = IsChanged changes n

    are_in_list : AreUnitsIn In puts.were list
    are_in_list n it = places_of n (puts.were.places n) (puts.allowed.found n it)

    pub change_there : (after : Content) × AreChangedAt db key changes content after
    change_there =
        let made = list_there plain_rows In changes puts.were puts.are list (λ change here. (change, here, refl)) (holds.rising db key) puts.allowed.turns are_in_list in
        (with_list db key made.0 content, content_changed db key changes content made.0 made.1)

    module _ (after : Content) (change : AreChangedAt db key changes content after) where
      abbrev then' : List Posting
      then' = after db key

      next : AreUnitsIn In puts.are then'
      next = list_turned plain_rows In changes puts.were puts.are list then' puts.allowed.turns change.list are_in_list

      -- what is of no changed record stays in the list
      still : (p : Posting) → ¬ In p.sysno → Has then' p ↔ Has list p
      still p none = list_kept changes list then' change.list p (λ x here same. none (x, here, same))

      -- a row of a posting that stood there, and is of no changed record
      stays_in : (row : Row) → HasRow old postings_tree row → ((n : ℕ) → In n → (place : Place) → row ≢ key_row db key ++ posting_row (posting_at n place)) → IsPostingRow after row
      stays_in row was others =
          let it = (holds.each row).0 was in
          (it.0, it.1, it.2, here it.0 it.1 it.2 it.3 it.4, it.4)
        where
          here : (d : ℤ) (k : Key) (p : Posting) → Has (content d k) p → row ≡ key_row d k ++ posting_row p → Has (after d k) p
          here d k p has is = elim (told_spot d db k key) [
            | inr other ↦ subst (λ l. Has l p) (sym (change.others d k other)) has
            | inl same ↦
                let own : Has list p = subst (λ l. Has l p) (ap₂ content same.0 same.1) has in
                let at : row ≡ key_row db key ++ posting_row p = is ∙ ap₂ (λ e l. key_row e l ++ posting_row p) same.0 same.1 in
                subst (λ l. Has l p) (sym (ap₂ after same.0 same.1)) ((still p (λ in_it. others p.sysno in_it (place_of p) at)).1 own)
          ]

      row_after : (row : Row) → HasRow new postings_tree row → IsPostingRow after row
      row_after row there = elim (puts.rows.postings.comes row there) [
        | inl was ↦ stays_in row was.0 (λ n in_it place is. was.1 (n, in_it, subst (IsPlaceIn db key n) (sym is) (refl, refl, refl, refl, refl)))
        | inr own ↦
            let n = own.0 in
            let p = posting_at n own.1 in
            let shown = (puts.put n own.2).shown (posting_row p) (subst (HasRow new postings_tree) own.3 there, refl) in
            let same : own.1 ≡ shown.0 = ap place_of (one_posting (posting_row p) p (posting_at n shown.0) (refl, refl, refl) shown.2) in
            (db, key, p, (next n own.2 own.1).0 (subst (Has (puts.are.places n)) (sym same) shown.1), own.3)
      ]

      own_row : (p : Posting) → Has then' p → HasRow new postings_tree (key_row db key ++ posting_row p)
      own_row p here = elim (changed changes p.sysno) [
        | inr none ↦
            puts.rows.postings.stays (key_row db key ++ posting_row p) (λ among. none (subst In (one_pos among.0 p.sysno (sym among.2.4)) among.1))
            ((holds.each (key_row db key ++ posting_row p)).1 (db, key, p, (still p none).0 here, refl))
        | inl it ↦
            let row = (puts.put p.sysno it).there (place_of p) ((next p.sysno it (place_of p)).1 here) in
            elim (puts.rows.postings.comes (key_row db key ++ row.0) row.1) [
              | inl was ↦ absurd (was.1 (p.sysno, it, (refl, refl, refl, refl, row.2.0)))
              | inr own ↦
                  let q = posting_at own.0 own.1 in
                  let is : row.0 ≡ posting_row q = ap (λ (r : Row). drop 4 r) own.3 in
                  let same : q ≡ p = one_posting (posting_row q) q p (refl, refl, refl) (subst (λ (r : Row). ShowsPosting r p) is row.2) in
                  subst (λ (x : Posting). HasRow new postings_tree (key_row db key ++ posting_row x)) same (subst (λ (r : Row). HasRow new postings_tree (key_row db key ++ r)) is row.1)
            ]
      ]
        where
          one_pos : (m n : ℕ) → Int (pos m) ≡ Int (pos n) → m ≡ n
          one_pos m n same = cc

      row_before : (row : Row) → IsPostingRow after row → HasRow new postings_tree row
      row_before row it = elim (told_spot it.0 db it.1 key) [
        | inl same ↦
            let own : Has then' it.2 = subst (λ l. Has l it.2) (ap₂ after same.0 same.1) it.3 in
            subst (HasRow new postings_tree) (sym (it.4 ∙ ap₂ (λ d k. key_row d k ++ posting_row it.2) same.0 same.1)) (own_row it.2 own)
        | inr other ↦
            puts.rows.postings.stays row (λ among.
            let begins = key_begins db key row among.2.0 among.2.1 among.2.2 among.2.3 in
            let apart = told_apart db it.0 key it.1 (posting_row it.2) begins.0 (sym it.4 ∙ begins.1) in
            other (sym apart.0, sym apart.1)) ((holds.each row).1 (it.0, it.1, it.2, subst (λ l. Has l it.2) (change.others it.0 it.1 other) it.3, it.4))
      ]

      pub content_held : HoldsRows new after
      content_held = record {
        rising = content_rises db key changes content after holds.rising change;
        each = λ row. (row_after row, row_before row);
        alone = (puts.rows.blocks ∙ holds.alone.0, puts.rows.dict ∙ holds.alone.1);
      }

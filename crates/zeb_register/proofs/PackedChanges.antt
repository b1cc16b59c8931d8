-- Changes of a key's list in packed tables: what is held of one block, and the rows that are written of it.
use Rattle.zeb_register.proofs.Cited.{◌≡◌, ◌≢◌, ◌↔◌, ◌⊎◌, ◌∙◌, ◌+◌, ℕ, ℤ, pos, List, [], ◌∷◌, refl, sym, ap, ap₂, subst, inl, inr, arith, nat_cmp_total, Int, Text, Row, Trees, Has, Posting, Key, register_code, numbers_apart, Place, RecordChange, AreChangedAt, ArePlacesOf, Content, IsListChanged, posted, posting_at, HasKey, IsCount, HoldsBlocks, IsDictRow, dict_row, HoldsBlockRows, IsInRecord, HasRow, dict_tree, postings_tree, IsDictIn, CountsOn, PutsCount}
use Rattle.zeb_register.proofs.ContentChanges.{told_spot}
use Rattle.zeb_register.proofs.ContentLemmas.{same_key}
use Rattle.zeb_register.proofs.CountLemmas.{count_none, count_so, counted_none, one_count}
use Rattle.zeb_register.proofs.ListChanges.{place_of, posting_is}
use Rattle.zeb_register.proofs.OccurringLemmas.{key_posted}
use Rattle.zeb_register.proofs.PackedLemmas.{keys_as, not_empty}
use Rattle.zeb_register.proofs.TermsAmong.{records_count, records_of}
use Rattle.zeb_register.proofs.RisingLists.{one_has, one_longer, one_rises, told_by, with_one}

-- ---- counts

-- a number that wasn't counted
pub count_with : (P Q : ℕ → Type 0) (count n : ℕ) → IsCount P count → ¬ P n → ((m : ℕ) → Q m ↔ (P m ⊎ (m ≡ n))) → IsCount Q (count + 1)
count_with P Q count n it out means = record {
  numbers = with_one nat_cmp_total numbers_apart n it.numbers;
  rising = one_rises nat_cmp_total numbers_apart n it.numbers it.rising;
  each = λ m.
      let one = one_has nat_cmp_total numbers_apart n it.numbers m in (
        λ h. (means m).1 (elim (one.0 h) [ inl there ↦ inl ((it.each m).0 there) | inr same ↦ inr same ]),
        λ q. one.1 (elim ((means m).0 q) [ inl p ↦ inl ((it.each m).1 p) | inr same ↦ inr same ]),
      );
  count_is = omega (arith, it.count_is, one_longer nat_cmp_total numbers_apart n it.numbers (λ h. out ((it.each n).0 h)));
}

-- ---- one record's part of a list

pub in_record : (list : List Posting) (places : List Place) (sysno : ℕ) (q : Place) → ArePlacesOf sysno places list → Has places q → IsInRecord list sysno
in_record list places sysno q are here = (posting_at sysno q, (are q).0 here, refl)

pub no_record : (list : List Posting) (sysno : ℕ) → ArePlacesOf sysno [] list → ¬ IsInRecord list sysno
no_record list sysno are it = (are (place_of it.0)).1 (subst (Has list) (posting_is it.0 sysno it.2) it.1)

pub some_of : (list : List Posting) → list ≢ [] → (p : Posting) × Has list p
some_of [] some = absurd (some refl)
some_of (p ∷ list) some = (p, inl refl)

-- ---- the list after one change

module _ (sysno : ℕ) (places : List Place) (before after : List Posting) (change : IsListChanged sysno places before after) where
  -- the records that have the key
  record_stays : (n : ℕ) → n ≢ sysno → IsInRecord after n ↔ IsInRecord before n
  record_stays n differs = (
    λ h. (h.0, (change.others h.0 (λ it. differs (sym h.2 ∙ it))).0 h.1, h.2),
    λ h. (h.0, (change.others h.0 (λ it. differs (sym h.2 ∙ it))).1 h.1, h.2),
  )

  records_same : (IsInRecord after sysno ↔ IsInRecord before sysno) → (n : ℕ) → IsInRecord before n ↔ IsInRecord after n
  records_same here n = elim (told_by nat_cmp_total numbers_apart n sysno) [
    | inl same ↦ subst (λ m. IsInRecord before m ↔ IsInRecord after m) (sym same) (here.1, here.0)
    | inr differs ↦ ((record_stays n differs).1, (record_stays n differs).0)
  ]

  records_more : (one two : List Posting) → ((n : ℕ) → n ≢ sysno → IsInRecord two n ↔ IsInRecord one n) → IsInRecord two sysno → (m : ℕ) → IsInRecord two m ↔ (IsInRecord one m ⊎ (m ≡ sysno))
  records_more one two stays here m = elim (told_by nat_cmp_total numbers_apart m sysno) [
    | inl same ↦ (λ h. inr same, λ h. subst (IsInRecord two) (sym same) here)
    | inr differs ↦ (λ h. inl ((stays m differs).0 h), λ h. elim h [ inl was ↦ (stays m differs).1 was | inr same ↦ absurd (differs same) ])
  ]

  abbrev counted : List Posting → ℕ → Type 0
  counted list = IsCount (IsInRecord list)

  pub count_changed : (old new : List Place) (was records : ℕ) → ArePlacesOf sysno old before → ArePlacesOf sysno new after → CountsOn old new was records → counted before was → counted after records
  count_changed [] [] was records from to is count =
      subst (counted after) (sym is) (count_so (IsInRecord before) (IsInRecord after) was
      (records_same (λ h. absurd (no_record after sysno to h), λ h. absurd (no_record before sysno from h))) count)
  count_changed [] (q ∷ new) was records from to is count =
      subst (counted after) (sym is) (count_with (IsInRecord before) (IsInRecord after) was sysno count (no_record before sysno from)
      (records_more before after record_stays (in_record after (q ∷ new) sysno q to (inl refl))))
  count_changed (p ∷ old) [] was records from to is count =
      let now = records_count after in
      let one = count_with (IsInRecord after) (IsInRecord before) (records_of after) sysno now (no_record after sysno to)
      (records_more after before (λ n differs. ((record_stays n differs).1, (record_stays n differs).0)) (in_record before (p ∷ old) sysno p from (inl refl))) in
      let same = one_count (IsInRecord before) (records_of after + 1) was one count in
      subst (counted after) (omega (arith, same, is)) now
  count_changed (p ∷ old) (q ∷ new) was records from to is count =
      subst (counted after) (sym is) (count_so (IsInRecord before) (IsInRecord after) was
      (records_same (λ h. in_record before (p ∷ old) sysno p from (inl refl), λ h. in_record after (q ∷ new) sysno q to (inl refl))) count)

-- ---- the rows after the changes

pub told_apart_key : (d db : ℤ) (k key : Key) (records : ℕ) (row : Row) → row ≡ dict_row d k records → IsDictIn db key row → (d ≡ db) × (k ≡ key)
told_apart_key d db k key records row is in_it =
    let at = subst (IsDictIn db key) is in_it in
    let one : Int d ≡ Int db = at.0 in
    let two : Int (pos k.index) ≡ Int (pos key.index) = at.1 in
    let three : Int (pos (register_code k.register)) ≡ Int (pos (register_code key.register)) = at.2 in
    let four : Text k.term ≡ Text key.term = at.3 in
    ((let e : d ≡ db = cc in e), same_key k key (cc) (cc) (cc))

pub dict_in : (d db : ℤ) (k key : Key) (records : ℕ) (row : Row) → row ≡ dict_row d k records → (d ≡ db) × (k ≡ key) → IsDictIn db key row
dict_in d db k key records row is same = subst (IsDictIn db key) (sym is) (
  ap Int same.0,
  ap (λ (x : Key). Int (pos x.index)) same.1,
  ap (λ (x : Key). Int (pos (register_code x.register))) same.1,
  ap (λ (x : Key). Text x.term) same.1,
)

-- the row of `dict` written behind the blocks
module _ (db : ℤ) (key : Key) (changes : List RecordChange) (before after : Content) (change : AreChangedAt db key changes before after) (records : ℕ) (count : IsCount (IsInRecord (after db key)) records)
    (a b : Trees) (holds : HoldsBlocks a before) (puts : PutsCount db key records dict_tree a b) where
  counted_key : IsCount (HasKey (posted after db) key) records
  counted_key = count_so (IsInRecord (after db key)) (HasKey (posted after db) key) records (λ n. ((key_posted after db key n).1, (key_posted after db key n).0)) count

  dict_then : (row : Row) → HasRow b dict_tree row ↔ IsDictRow after row
  dict_then row = (
    λ h. elim ((puts row).0 h) [
      | inl was ↦
          let it = (holds.dict row).0 was.0 in
          let same = change.others it.0 it.1 (λ at. was.1 (dict_in it.0 db it.1 key it.2 row it.5 at)) in
          (it.0, it.1, it.2, (λ none. it.3 (sym same ∙ none)), count_so (HasKey (posted before it.0) it.1) (HasKey (posted after it.0) it.1) it.2 (keys_as before after it.0 it.1 (sym same)) it.4, it.5)
      | inr put ↦ (db, key, records, (λ none. put.0 (no_count none)), counted_key, put.1)
    ],
    λ it. (puts row).1 (elim (told_spot it.0 db it.1 key) [
      | inl same ↦
          let some : after db key ≢ [] = λ none. it.3 (ap₂ after same.0 same.1 ∙ none) in
          let counted : IsCount (HasKey (posted after db) key) it.2 = subst (λ k. IsCount (HasKey (posted after db) k) it.2) same.1 (subst (λ d. IsCount (HasKey (posted after d) it.1) it.2) same.0 it.4) in
          let number : it.2 ≡ records = one_count (HasKey (posted after db) key) it.2 records counted counted_key in
          let p = some_of (after db key) some in
          inr (
            (λ none. counted_none (IsInRecord (after db key)) records p.0.sysno count none (p.0, p.1, refl)),
            it.5 ∙ ap₂ (λ d k. dict_row d k it.2) same.0 same.1 ∙ ap (dict_row db key) number,
          )
      | inr differs ↦
          let same = change.others it.0 it.1 differs in
          inl (
            (holds.dict row).1 (it.0, it.1, it.2, (λ none. it.3 (same ∙ none)), count_so (HasKey (posted after it.0) it.1) (HasKey (posted before it.0) it.1) it.2 (keys_as after before it.0 it.1 same) it.4, it.5),
            λ in_it. differs (told_apart_key it.0 db it.1 key it.2 row it.5 in_it),
          )
    ]),
  )
    where
      no_count : after db key ≡ [] → records ≡ 0
      no_count none = one_count (IsInRecord (after db key)) records 0 count (count_none (IsInRecord (after db key)) (λ n h. not_empty (after db key) h.0 h.1 none))

  pub blocks_changed : HoldsBlockRows b after → b postings_tree ≡ a postings_tree → HoldsBlocks b after
  blocks_changed rows alone = record { rising = rows.rising; numbered = rows.numbered; blocks = rows.blocks; dict = dict_then; alone = alone ∙ holds.alone }

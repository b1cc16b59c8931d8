-- What is expected of whole tables, put together of what is said table by table, in either format.
use Rattle.zeb_register.proofs.Cited.{Row, column, State, Trees, Int, Text, Blob, all_has, has_filtered, has_kept, has_mapped, mapped_has, Has, ◌≡◌, ◌↔◌, ◌∙◌, ℕ, ℤ, pos, Bool, true, false, cond, List, [], ◌∷◌, map, filter, string_bytes, refl, sym, ap, ap₂, subst, inl, inr, Ordering, Less, Equal, nat_cmp, is_eq, Decides-int_eq, tied_itself, IsTotalOrder, on_total, then_total, slice_cmp, nat_list_cmp_total, int_eq, ordering_reverse, ordering_then, Posting, Key, key_order, key_total, keys_apart, ListedDatabase, Expected, ExpectedDatabase, KeyPosting, AreDatabases, Content, HasRisingLists, posting_cmp, AreExpected, IsExpectedAs, IsOrdered, IsPostingExpected, key_posting_order, Format, holds_in, record_shown, IsThere, ListsAgree, list_under, with_key, HasRow, HasDatabase, IsStore, records_tree}
use Rattle.std.specs.List.Sorted.{IsStrictlySortedBy}
use Rattle.zeb_register.proofs.ContentChanges.{posting_total}
use Rattle.zeb_register.proofs.DatabaseStatements.{one_name}
use Rattle.zeb_register.proofs.RecordStatements.{record_rest}
use Rattle.zeb_register.proofs.RisingLists.{kept_rises, same_list}
use Rattle.zeb_register.proofs.RowLemmas.{same_bytes}
use Rattle.zeb_register.proofs.RowsAreLists.{one_last}
use Rattle.zeb_register.proofs.Scans.{strictly_mapped, tied}

-- of a list that rises two members that tie are one
pub only_one : {K : Type 0} {R : K → K → Ordering} (o : IsTotalOrder R) (xs : List K) (x y : K) → IsStrictlySortedBy R xs → Has xs x → Has xs y → R x y ≡ Equal → x ≡ y
unfolding IsStrictlySortedBy
only_one o [] x y up here there tie = absurd here
only_one o (z ∷ xs) x y up (inl one) (inl two) tie = one ∙ sym two
only_one {R = R} o (z ∷ xs) x y up (inl one) (inr later) tie =
    let low : R x y ≡ Less = subst (λ w. R w y ≡ Less) (sym one) (all_has (λ w. R z w ≡ Less) xs y up.0 later) in
    absurd (let e : Less ≡ Equal = sym low ∙ tie in cc)
only_one {R = R} o (z ∷ xs) x y up (inr later) (inl two) tie =
    let low : R y x ≡ Less = subst (λ w. R w x ≡ Less) (sym two) (all_has (λ w. R z w ≡ Less) xs x up.0 later) in
    absurd (let e : Less ≡ Equal = sym low ∙ o.antisymm y x ∙ ap ordering_reverse tie in cc)
only_one o (z ∷ xs) x y up (inr one) (inr two) tie = only_one o xs x y up.1 one two tie

-- ---- the postings of a key

pub under_has : (key : Key) (postings : List KeyPosting) (p : Posting) → Has (list_under key postings) p ↔ Has postings (with_key key p)
under_has key postings p = (
  λ h.
      let q = has_mapped (λ (x : KeyPosting). x.posting) (filter (λ (x : KeyPosting). is_eq (key_order x.key key)) postings) p h in
      let found = has_filtered (λ (x : KeyPosting). is_eq (key_order x.key key)) postings q.0 q.1 in
      let same : q.0.key ≡ key = keys_apart q.0.key key (tied (key_order q.0.key key) found.1) in
      subst (Has postings) (ap₂ with_key same (sym q.2)) found.0,
  λ h.
      mapped_has (λ (x : KeyPosting). x.posting) (filter (λ (x : KeyPosting). is_eq (key_order x.key key)) postings) (with_key key p)
      (has_kept (λ (x : KeyPosting). is_eq (key_order x.key key)) postings (with_key key p) h (ap is_eq (tied_itself key_total key))),
)

pub key_posting_total : IsTotalOrder key_posting_order
key_posting_total = then_total (on_total (λ (x : KeyPosting). x.key) key_total) (on_total (λ (x : KeyPosting). x.posting) posting_total)

pub under_rises : (key : Key) (postings : List KeyPosting) → IsStrictlySortedBy key_posting_order postings → IsStrictlySortedBy posting_cmp (list_under key postings)
under_rises key postings up =
    strictly_mapped key_posting_order posting_cmp (λ (x : KeyPosting). x.posting) (filter (λ (x : KeyPosting). is_eq (key_order x.key key)) postings) (λ a b here there less.
    let one = keys_apart a.key key (tied (key_order a.key key) (has_filtered (λ (x : KeyPosting). is_eq (key_order x.key key)) postings a here).1) in
    let two = keys_apart b.key key (tied (key_order b.key key) (has_filtered (λ (x : KeyPosting). is_eq (key_order x.key key)) postings b there).1) in
    let tie : key_order a.key b.key ≡ Equal = ap (key_order a.key) (two ∙ sym one) ∙ tied_itself key_total a.key in
    sym (ap (λ o. ordering_then o (posting_cmp a.posting b.posting)) tie) ∙ less) (kept_rises key_posting_total (λ (x : KeyPosting). is_eq (key_order x.key key)) postings up)

-- ---- ids by names

pub id_in : List ListedDatabase → List ℕ → ℤ
id_in [] name = pos 0
id_in (l ∷ listed) name = cond (is_eq (slice_cmp nat_cmp (string_bytes l.name) name)) l.id.0 (id_in listed name)

id_some : (listed : List ListedDatabase) (name : List ℕ) (l : ListedDatabase) → Has listed l → string_bytes l.name ≡ name → (m : ListedDatabase) × Has listed m × (string_bytes m.name ≡ name) × (id_in listed name ≡ m.id.0)
unfolding id_in
id_some [] name l here is = absurd here
id_some (x ∷ listed) name l here is = from (is_eq (slice_cmp nat_cmp (string_bytes x.name) name)) refl here (λ later. id_some listed name l later is)
  where
    from : (b : Bool) → is_eq (slice_cmp nat_cmp (string_bytes x.name) name) ≡ b → Has (x ∷ listed) l
        → (Has listed l → (m : ListedDatabase) × Has listed m × (string_bytes m.name ≡ name) × (id_in listed name ≡ m.id.0))
        → (m : ListedDatabase) × Has (x ∷ listed) m × (string_bytes m.name ≡ name) × (cond (is_eq (slice_cmp nat_cmp (string_bytes x.name) name)) x.id.0 (id_in listed name) ≡ m.id.0)
    from true test any rest = (x, inl refl, same_bytes (string_bytes x.name) name (tied _ test), ap (λ b. cond b x.id.0 (id_in listed name)) test)
    from false test (inl same) rest =
        let tie : is_eq (slice_cmp nat_cmp (string_bytes x.name) name) ≡ true = ap (λ (n : List ℕ). is_eq (slice_cmp nat_cmp n name)) (ap (λ (d : ListedDatabase). string_bytes d.name) (sym same) ∙ is) ∙ ap is_eq (tied_itself nat_list_cmp_total name) in
        absurd (let e : false ≡ true = sym test ∙ tie in cc)
    from false test (inr later) rest = let it = rest later in (it.0, inr it.1, it.2, ap (λ b. cond b x.id.0 (id_in listed name)) test ∙ it.3)

-- ---- the content that is expected

content_of : (List ℕ → ℤ) → List ExpectedDatabase → Content
content_of id_of [] id key = []
content_of id_of (d ∷ databases) id key = cond (int_eq (id_of (string_bytes d.name)) id) (list_under key d.postings.items) (content_of id_of databases id key)

-- the list of a key is that of the one database with the id
content_is : (id_of : List ℕ → ℤ) (databases : List ExpectedDatabase) (d : ExpectedDatabase) (key : Key) → Has databases d
    → ((x : ExpectedDatabase) → Has databases x → id_of (string_bytes x.name) ≡ id_of (string_bytes d.name) → x ≡ d) → content_of id_of databases (id_of (string_bytes d.name)) key ≡ list_under key d.postings.items
unfolding content_of
content_is id_of [] d key here one = absurd here
content_is id_of (x ∷ databases) d key here one = from (int_eq (id_of (string_bytes x.name)) (id_of (string_bytes d.name))) refl here (λ later. content_is id_of databases d key later (λ y h e. one y (inr h) e))
  where
    from : (b : Bool) → int_eq (id_of (string_bytes x.name)) (id_of (string_bytes d.name)) ≡ b → Has (x ∷ databases) d
        → (Has databases d → content_of id_of databases (id_of (string_bytes d.name)) key ≡ list_under key d.postings.items)
        → cond (int_eq (id_of (string_bytes x.name)) (id_of (string_bytes d.name))) (list_under key x.postings.items) (content_of id_of databases (id_of (string_bytes d.name)) key) ≡ list_under key d.postings.items
    from true test any rest = ap (λ b. cond b (list_under key x.postings.items) (content_of id_of databases (id_of (string_bytes d.name)) key)) test ∙ ap (λ (y : ExpectedDatabase). list_under key y.postings.items) (one x (inl refl) ((Decides-int_eq _ _).0 test))
    from false test (inl same) rest =
        let tie : int_eq (id_of (string_bytes x.name)) (id_of (string_bytes d.name)) ≡ true = (Decides-int_eq _ _).1 (ap (λ (y : ExpectedDatabase). id_of (string_bytes y.name)) (sym same)) in
        absurd (let e : false ≡ true = sym test ∙ tie in cc)
    from false test (inr later) rest =
        ap (λ b. cond b (list_under key x.postings.items) (content_of id_of databases (id_of (string_bytes d.name)) key)) test ∙ rest later

content_rises : (id_of : List ℕ → ℤ) (databases : List ExpectedDatabase) → ((d : ExpectedDatabase) → Has databases d → IsStrictlySortedBy key_posting_order d.postings.items) → HasRisingLists (content_of id_of databases)
unfolding content_of IsStrictlySortedBy
content_rises id_of [] up id key = tt
content_rises id_of (x ∷ databases) up id key =
    elim (int_eq (id_of (string_bytes x.name)) id) as (λ b. IsStrictlySortedBy posting_cmp (cond b (list_under key x.postings.items) (content_of id_of databases id key))) [
      | true ↦ under_rises key x.postings.items (up x (inl refl))
      | false ↦ content_rises id_of databases (λ d h. up d (inr h)) id key
    ]

-- a posting of the content is one of a database with the id
content_from : (id_of : List ℕ → ℤ) (databases : List ExpectedDatabase) (id : ℤ) (key : Key) (p : Posting) → Has (content_of id_of databases id key) p
    → (d : ExpectedDatabase) × Has databases d × (id ≡ id_of (string_bytes d.name)) × Has d.postings.items (with_key key p)
unfolding content_of
content_from id_of [] id key p here = absurd here
content_from id_of (x ∷ databases) id key p here = from (int_eq (id_of (string_bytes x.name)) id) refl here (content_from id_of databases id key p)
  where
    from : (b : Bool) → int_eq (id_of (string_bytes x.name)) id ≡ b → Has (cond (int_eq (id_of (string_bytes x.name)) id) (list_under key x.postings.items) (content_of id_of databases id key)) p
        → (Has (content_of id_of databases id key) p → (d : ExpectedDatabase) × Has databases d × (id ≡ id_of (string_bytes d.name)) × Has d.postings.items (with_key key p))
        → (d : ExpectedDatabase) × Has (x ∷ databases) d × (id ≡ id_of (string_bytes d.name)) × Has d.postings.items (with_key key p)
    from true test h rest =
        let it : Has (list_under key x.postings.items) p = subst (λ b. Has (cond b (list_under key x.postings.items) (content_of id_of databases id key)) p) test h in
        (x, inl refl, sym ((Decides-int_eq _ _).0 test), (under_has key x.postings.items p).0 it)
    from false test h rest =
        let it : Has (content_of id_of databases id key) p = subst (λ b. Has (cond b (list_under key x.postings.items) (content_of id_of databases id key)) p) test h in
        let d = rest it in
        (d.0, inr d.1, d.2, d.3)

module _ (s : State) (store : IsStore s) (expected : Expected) (ordered : IsOrdered expected) where
  abbrev databases : List ExpectedDatabase
  databases = expected.databases.items

  abbrev trees : Trees
  trees = s.now.trees

  abbrev There : ℤ → ExpectedDatabase → Type 0
  There = IsThere trees databases

  -- of one name there is one
  same_database : (d e : ExpectedDatabase) → Has databases d → Has databases e → string_bytes d.name ≡ string_bytes e.name → d ≡ e
  same_database d e here there same =
      only_one (on_total (λ (x : ExpectedDatabase). string_bytes x.name) nat_list_cmp_total) databases d e ordered.names here there
      (ap (slice_cmp nat_cmp (string_bytes d.name)) (sym same) ∙ tied_itself nat_list_cmp_total (string_bytes d.name))

  -- ---- where the tables are as expected

  module _ (format : Format) (are : AreExpected format trees expected) where
    pub id_is : (id : ℤ) (d : ExpectedDatabase) → There id d → id ≡ are.id_of (string_bytes d.name)
    id_is id d there = let it = (are.listed id (string_bytes d.name) (pos d.last)).0 there.1 in it.1.1 ∙ ap are.id_of (sym it.2)

    pub there_is : (id : ℤ) (d : ExpectedDatabase) → IsExpectedAs expected are.id_of id d → There id d
    there_is id d it = (it.0, (are.listed id (string_bytes d.name) (pos d.last)).1 (d, it, refl, refl))

    pub one_of : (id : ℤ) (d e : ExpectedDatabase) → There id d → IsExpectedAs expected are.id_of id e → e ≡ d
    one_of id d e there it = same_database e d it.0 there.0 (are.distinct e d it.0 there.0 (sym it.1 ∙ id_is id d there))

    -- the list of a key in a database is that of the database's postings
    pub content_at : HasRisingLists are.content → (id : ℤ) (d : ExpectedDatabase) (key : Key) → There id d → are.content id key ≡ list_under key d.postings.items
    content_at up id d key there = same_list posting_total (are.content id key) (list_under key d.postings.items) (up id key) (under_rises key d.postings.items (ordered.postings d there.0))
        (λ p h.
        let it = (are.posted id key p).0 h in
        (under_has key d.postings.items p).1 (subst (λ (e : ExpectedDatabase). Has e.postings.items (with_key key p)) (one_of id d it.0 there it.1) it.2))
        (λ p h. (are.posted id key p).1 (d, (there.0, id_is id d there), (under_has key d.postings.items p).0 h))

    pub lists_agree : ListsAgree trees expected
    lists_agree = record {
      texts = are.texts;
      names = λ name last. (
        λ h. let it = (are.listed h.0 name last).0 h.1 in (it.0, it.1.0, it.2, it.3),
        λ h. (are.id_of (string_bytes h.0.name), (are.listed (are.id_of (string_bytes h.0.name)) name last).1 (h.0, (h.1, refl), h.2, h.3)),
      );
      records = (
        λ id d there row. (
          λ h.
              let r = record_rest s id row store h in
              let kept = subst (λ (x : Row). HasRow trees records_tree (Int id ∷ x)) r.3 h in
              let it = (are.kept id r.0 r.1 r.2).0 kept in
              let here : Has d.records.items it.1 = subst (λ (e : ExpectedDatabase). Has e.records.items it.1) (one_of id d it.0 there it.2) it.3 in
              let same : row ≡ record_shown it.1 = r.3 ∙ ap₂ (λ n t. Int n ∷ Text t ∷ Blob r.2 ∷ []) it.4 it.5 ∙ ap (λ b. Int (pos it.1.sysno) ∷ Text (string_bytes it.1.ident) ∷ Blob b ∷ []) it.6 in
              subst (Has (map record_shown d.records.items)) (sym same) (mapped_has record_shown d.records.items it.1 here),
          λ h.
              let r = has_mapped record_shown d.records.items row h in
              let kept = (are.kept id (pos r.0.sysno) (string_bytes r.0.ident) r.0.bytes.items).1 (d, r.0, (there.0, id_is id d there), r.1, refl, refl, refl) in
              subst (λ (x : Row). HasRow trees records_tree (Int id ∷ x)) (sym r.2) kept,
        ),
        λ id owns.
            let r = record_rest s id owns.0 store owns.1 in
            let it = (are.kept id r.0 r.1 r.2).0 (subst (λ (x : Row). HasRow trees records_tree (Int id ∷ x)) r.3 owns.1) in
            (it.0, there_is id it.0 it.2),
      );
    }

  -- ---- where they agree table by table

  module _ (listed : List ListedDatabase) (are : AreDatabases trees listed) (lists : ListsAgree trees expected) where
    abbrev pub id_of : List ℕ → ℤ
    id_of = id_in listed

    pub content : Content
    content = content_of id_of databases

    id_by : (id : ℤ) (name : List ℕ) (last : ℤ) → HasDatabase trees id name last → id ≡ id_of name
    id_by id name last there =
        let l = (are.each id name last).0 there in
        let m = id_some listed name l.0 l.1 (sym l.3) in
        let other : HasDatabase trees m.0.id.0 name (pos m.0.last) = (are.each m.0.id.0 name (pos m.0.last)).1 (m.0, m.1, refl, sym m.2, refl) in
        one_name s id m.0.id.0 name last (pos m.0.last) store there other ∙ sym m.3

    pub there_of : (id : ℤ) (d : ExpectedDatabase) → IsExpectedAs expected id_of id d → There id d
    there_of id d it =
        let has = (lists.names (string_bytes d.name) (pos d.last)).1 (d, it.0, refl, refl) in
        (it.0, subst (λ (i : ℤ). HasDatabase trees i (string_bytes d.name) (pos d.last)) (id_by has.0 (string_bytes d.name) (pos d.last) has.1 ∙ sym it.1) has.1)

    pub as_expected : (id : ℤ) (d : ExpectedDatabase) → There id d → IsExpectedAs expected id_of id d
    as_expected id d there = (there.0, id_by id (string_bytes d.name) (pos d.last) there.1)

    distinct : (one two : ExpectedDatabase) → Has databases one → Has databases two → id_of (string_bytes one.name) ≡ id_of (string_bytes two.name) → string_bytes one.name ≡ string_bytes two.name
    distinct one two here there same =
        let first = there_of (id_of (string_bytes one.name)) one (here, refl) in
        let second = there_of (id_of (string_bytes one.name)) two (there, same) in
        (one_last s store (id_of (string_bytes one.name)) (string_bytes one.name) (string_bytes two.name) (pos one.last) (pos two.last) first.1 second.1).0

    alone_of : (d : ExpectedDatabase) → Has databases d → (x : ExpectedDatabase) → Has databases x → id_of (string_bytes x.name) ≡ id_of (string_bytes d.name) → x ≡ d
    alone_of d here x there same = same_database x d there here (distinct x d there here same)

    pub content_there : (id : ℤ) (d : ExpectedDatabase) (key : Key) → There id d → content id key ≡ list_under key d.postings.items
    unfolding content
    content_there id d key there = ap (λ (i : ℤ). content_of id_of databases i key) (as_expected id d there).1 ∙ content_is id_of databases d key there.0 (alone_of d there.0)

    pub content_up : HasRisingLists content
    unfolding content
    content_up = content_rises id_of databases ordered.postings

    pub posted_as : (id : ℤ) (key : Key) (p : Posting) → Has (content id key) p ↔ IsPostingExpected expected id_of id key p
    unfolding content
    posted_as id key p = (
      λ h. let d = content_from id_of databases id key p h in (d.0, (d.1, d.2), d.3),
      λ h. subst (λ l. Has l p) (sym (content_there id h.0 key (there_of id h.0 h.1))) ((under_has key h.0.postings.items p).1 h.2),
    )

    pub put_together : (format : Format) → holds_in format trees content → AreExpected format trees expected
    put_together format holds = record {
      texts = lists.texts;
      id_of = id_of;
      distinct = distinct;
      listed = λ id name last. (
        λ h. let d = (lists.names name last).0 (id, h) in (d.0, (d.1, id_by id name last h ∙ ap id_of d.2), d.2, d.3),
        λ h.
            let there = there_of id h.0 h.1 in
            subst (λ (l : ℤ). HasDatabase trees id name l) (sym h.3) (subst (λ (n : List ℕ). HasDatabase trees id n (pos h.0.last)) (sym h.2) there.1),
      );
      kept = λ id sysno ident bytes. (
        λ h.
            let row : Row = Int sysno ∷ Text ident ∷ Blob bytes ∷ [] in
            let d = lists.records.1 id (row, h) in
            let r = has_mapped record_shown d.0.records.items row ((lists.records.0 id d.0 d.1 row).0 h) in
            let one : Int sysno ≡ Int (pos r.0.sysno) = ap (λ (x : Row). column x 0) r.2 in
            let two : Text ident ≡ Text (string_bytes r.0.ident) = ap (λ (x : Row). column x 1) r.2 in
            let three : Blob bytes ≡ Blob r.0.bytes.items = ap (λ (x : Row). column x 2) r.2 in
            (d.0, r.0, as_expected id d.0 d.1, r.1, (let e : sysno ≡ pos r.0.sysno = cc in e), (let e : ident ≡ string_bytes r.0.ident = cc in e), (let e : bytes ≡ r.0.bytes.items = cc in e)),
        λ h.
            let there = there_of id h.0 h.2 in
            let row = (lists.records.0 id h.0 there (record_shown h.1)).1 (mapped_has record_shown h.0.records.items h.1 h.3) in
            let same : record_shown h.1 ≡ Int sysno ∷ Text ident ∷ Blob bytes ∷ [] = ap₂ (λ n t. Int n ∷ Text t ∷ Blob h.1.bytes.items ∷ []) (sym h.4) (sym h.5) ∙ ap (λ b. Int sysno ∷ Text ident ∷ Blob b ∷ []) (sym h.6) in
            subst (λ (x : Row). HasRow trees records_tree (Int id ∷ x)) same row,
      );
      content = content;
      held = holds;
      posted = posted_as;
    }

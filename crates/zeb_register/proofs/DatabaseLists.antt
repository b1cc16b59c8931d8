-- The statement that lists all databases, and its rows as the list of them.
use Rattle.zeb_register.proofs.Cited.{Row, column, row_cmp, State, Null, Int, Text, all_from, all_has, has_mapped, mapped_has, Has, row_cmp_total, value_cmp-Text, ◌≡◌, ◌∙◌, ℕ, pos, true, false, List, [], ◌∷◌, map, codes, refl, sym, ap, ap₂, subst, inl, inr, Ordering, Less, Equal, Greater, nat_cmp, string_bytes, arith, slice_cmp, ordering_then, LISTED, ListedDatabase, AreDatabases, AreReadableDatabases, listed_order, listed_row, first_three, IsDatabaseShown, IsListedRow, IsListOf, HasDatabase, IsStore, store_schema}
use Rattle.sqlite.specs.Listing.{understood}
use Rattle.sqlite.specs.State.{Shown}
use Rattle.sqlite_tied.specs.Compute.{everything}
use Rattle.std.specs.List.Sorted.{IsStrictlySortedBy}
use Rattle.zeb_register.proofs.DatabaseStatements.{database_row, databases, databases_keys, databases_static, one_name}
use Rattle.zeb_register.proofs.PrefixSelects.{first_lower}
use Rattle.zeb_register.proofs.Refusals.{IsQuery}
use Rattle.zeb_register.proofs.RisingLists.{never_itself}
use Rattle.zeb_register.proofs.RowLemmas.{same_bytes}
use Rattle.zeb_register.proofs.RowsAreLists.{one_last}
use Rattle.zeb_register.proofs.Selects.{IsSelected, selects, list_so}
use Rattle.zeb_register.proofs.StatementForms.{rising, shows, no_limit}
use Rattle.zeb_register.proofs.Writes.{codes_there}

-- ---- the statement

abbrev pub list_text : List ℕ
list_text = LISTED.now

abbrev list_shows : List ℕ
list_shows = 2 ∷ 0 ∷ 3 ∷ []

abbrev list_names : List (List ℕ)
list_names = codes "name" ∷ codes "id" ∷ codes "last" ∷ []

pub list_query : IsQuery list_text [] 2 [] (shows list_shows) (rising (2 ∷ [])) no_limit list_names
unfolding understood everything
list_query = record { is = refl; plain = (refl, refl); unlisted = refl; silent = λ schema base. refl; whole = (omega arith, refl); fit = λ trees mistyped. absurd (let t : true ≡ false = mistyped in cc) }

pub lists_databases : (old new : State) (rows : List Row) → IsStore old → Shown list_text [] old new rows → IsListOf (IsListedRow old.now.trees) rows
lists_databases old new rows store shown =
    let db = old.now.trees 2 in
    let P = IsSelected db [] [] list_shows in
    let got = selects store_schema 1 databases databases_static _ databases_keys list_text [] [] list_shows (2 ∷ []) no_limit list_names list_query.is list_query.plain list_query.unlisted refl refl refl (λ r s lower. first_lower _ _ lower) old new rows store shown in
    list_so P (IsListedRow old.now.trees) rows (λ x. (
      λ h.
          let was = database_row h.0 (codes_there store_schema 1 databases databases_static old h.0 store h.1) in
          (was.1, was.0, was.2, h.3 ∙ ap (λ (r : Row). column r 2 ∷ column r 0 ∷ column r 3 ∷ []) was.3, subst (Has db) was.3 h.1),
      λ h. (Int h.1 ∷ Null ∷ Text h.0 ∷ Int h.2 ∷ [], h.4, tt, h.3),
    )) (subst (IsListOf P) (sym got.2) got.1)

-- ---- its rows

sorted_from : {X Y : Type 0} (R : X → X → Ordering) (S : Y → Y → Ordering) (f : X → Y) (xs : List X) → ((a b : X) → Has xs a → Has xs b → S (f a) (f b) ≡ Less → R a b ≡ Less) → IsStrictlySortedBy S (map f xs)
    → IsStrictlySortedBy R xs
unfolding IsStrictlySortedBy
sorted_from R S f [] so up = tt
sorted_from R S f (x ∷ xs) so up = (
  all_from (λ z. R x z ≡ Less) xs (λ z h. so x z (inl refl) (inr h) (all_has (λ y. S (f x) y ≡ Less) (map f xs) (f z) up.0 (mapped_has f xs z h))),
  sorted_from R S f xs (λ a b h k. so a b (inr h) (inr k)) up.1,
)

module _ (s : State) (store : IsStore s) (rows : List Row) (are : IsListOf (IsListedRow s.now.trees) rows) where
  three_same : (some : List Row) → ((r : Row) → Has some r → IsListedRow s.now.trees r) → map first_three some ≡ some
  three_same [] known = refl
  three_same (r ∷ some) known = let it = known r (inl refl) in ap₂ (λ a as'. a ∷ as') (ap first_three it.3 ∙ sym it.3) (three_same some (λ x h. known x (inr h)))

  pub database_shown : AreReadableDatabases s.now.trees → (row : Row) → Has rows row → IsDatabaseShown row
  database_shown readable row here =
      let it = (are.each row).0 here in
      let able = readable it.1 it.0 it.2 it.4 in
      (it.0, it.1, able.0.0, it.3 ∙ ap (λ n. Text it.0 ∷ Int it.1 ∷ Int n ∷ []) able.0.1, able.1)

  module _ (list : List ListedDatabase) (shown : map listed_row list ≡ map first_three rows) where
    same_rows : map listed_row list ≡ rows
    same_rows = shown ∙ three_same rows (λ r h. (are.each r).0 h)

    -- a database of the list is there
    there : (d : ListedDatabase) → Has list d → HasDatabase s.now.trees d.id.0 (string_bytes d.name) (pos d.last)
    there d here =
        let it = (are.each (listed_row d)).0 (subst (λ l. Has l (listed_row d)) same_rows (mapped_has listed_row list d here)) in
        let name : it.0 ≡ string_bytes d.name = let e : Text (string_bytes d.name) ≡ Text it.0 = ap (λ (r : Row). column r 0) it.3 in cc in
        let id : it.1 ≡ d.id.0 = let e : Int d.id.0 ≡ Int it.1 = ap (λ (r : Row). column r 1) it.3 in cc in
        let last : it.2 ≡ pos d.last = let e : Int (pos d.last) ≡ Int it.2 = ap (λ (r : Row). column r 2) it.3 in cc in
        subst (λ l. HasDatabase s.now.trees d.id.0 (string_bytes d.name) l) last (subst (λ n. HasDatabase s.now.trees d.id.0 n it.2) name (subst (λ i. HasDatabase s.now.trees i it.0 it.2) id it.4))

    -- of two databases whose rows rise the names rise, since no two have one name
    names_rise : (a b : ListedDatabase) → Has list a → Has list b → row_cmp (listed_row a) (listed_row b) ≡ Less → listed_order a b ≡ Less
    names_rise a b here too less = from (slice_cmp nat_cmp (string_bytes a.name) (string_bytes b.name)) refl
      where
        rest : Ordering
        rest = row_cmp (Int a.id.0 ∷ Int (pos a.last) ∷ []) (Int b.id.0 ∷ Int (pos b.last) ∷ [])

        whole : row_cmp (listed_row a) (listed_row b) ≡ ordering_then (slice_cmp nat_cmp (string_bytes a.name) (string_bytes b.name)) rest
        whole = ap (λ o. ordering_then o rest) (value_cmp-Text (string_bytes a.name) (string_bytes b.name))

        from : (o : Ordering) → slice_cmp nat_cmp (string_bytes a.name) (string_bytes b.name) ≡ o → listed_order a b ≡ Less
        from Less is = is
        from Greater is = absurd (let e : Less ≡ Greater = sym less ∙ whole ∙ ap (λ o. ordering_then o rest) is in cc)
        from Equal is =
            let name = same_bytes (string_bytes a.name) (string_bytes b.name) is in
            let second = subst (λ n. HasDatabase s.now.trees b.id.0 n (pos b.last)) (sym name) (there b too) in
            let id = one_name s a.id.0 b.id.0 (string_bytes a.name) (pos a.last) (pos b.last) store (there a here) second in
            let same : Has (s.now.trees 2) (Int a.id.0 ∷ Null ∷ Text (string_bytes a.name) ∷ Int (pos b.last) ∷ []) = subst (λ i. HasDatabase s.now.trees i (string_bytes a.name) (pos b.last)) (sym id) second in
            let last = (one_last s store a.id.0 (string_bytes a.name) (string_bytes a.name) (pos a.last) (pos b.last) (there a here) same).1 in
            let row : listed_row b ≡ listed_row a = ap₂ (λ n i. Text n ∷ Int i ∷ Int (pos b.last) ∷ []) (sym name) (sym id) ∙ ap (λ l. Text (string_bytes a.name) ∷ Int a.id.0 ∷ Int l ∷ []) (sym last) in
            absurd (never_itself row_cmp_total (listed_row a) (subst (λ r. row_cmp (listed_row a) r ≡ Less) row less))

    pub databases_listed : AreDatabases s.now.trees list
    databases_listed = record {
      each = λ id name last. (
        λ has.
            let row : Row = Text name ∷ Int id ∷ Int last ∷ [] in
            let here = subst (λ l. Has l row) (sym same_rows) ((are.each row).1 (name, id, last, refl, has)) in
            let d = has_mapped listed_row list row here in
            let one : Text name ≡ Text (string_bytes d.0.name) = ap (λ (r : Row). column r 0) d.2 in
            let two : Int id ≡ Int d.0.id.0 = ap (λ (r : Row). column r 1) d.2 in
            let three : Int last ≡ Int (pos d.0.last) = ap (λ (r : Row). column r 2) d.2 in
            (d.0, d.1, (let e : id ≡ d.0.id.0 = cc in e), (let e : name ≡ string_bytes d.0.name = cc in e), (let e : last ≡ pos d.0.last = cc in e)),
        λ it.
            let d = it.0 in
            subst (λ l. HasDatabase s.now.trees id name l) (sym it.4) (subst (λ n. HasDatabase s.now.trees id n (pos d.last)) (sym it.3) (subst (λ i. HasDatabase s.now.trees i (string_bytes d.name) (pos d.last)) (sym it.2) (there d it.1))),
      );
      rising = sorted_from listed_order row_cmp listed_row list names_rise (subst (IsStrictlySortedBy row_cmp) (sym same_rows) are.rising);
    }

-- What is read of the first row of an answer, as it stands in the tables.
use Rattle.zeb_register.proofs.Cited.{Row, column, Trees, Int, Text, Blob, Has, ◌≡◌, ℕ, ℤ, pos, List, [], ◌∷◌, length, arith, Option, Some, None, String, string_bytes, inl, refl, sym, ap, subst, ◌∙◌, IsListOf, HasRow, AreReadableTexts, HasDatabase, HasRecord, IsValueRow, IsDatabaseRow, IsElderRow, IsIdentRow, AreCountedDatabases, AreNumbered, AreReadableIdents, entry, meta_tree, Global, IsDatabaseOf, IsElderOf, IsIdentOf, IsIdOf, IsValueOf}
use Rattle.zeb_register.specs.declared.catalog.Database.{Database}
use Rattle.zeb_register.specs.declared.catalog.DatabaseId.{DatabaseId}
use Rattle.zeb_register.specs.declared.kept.Elder.{Elder}
use Rattle.zeb_register.specs.PrivateFirstRows.{ShowsFound, AreShown, ShowsElder, IsElderShown, ShowsText, IsTextShown, ShowsDatabase, IsCountedRow, ShowsId, BeginsWithId}

-- rows under two numbers of an answer are those under the numbers that were meant
pub list_is : (P : ℤ → ℤ → Row → Type 0) {column stored db number : ℤ} {rows items : List Row} → column ≡ db → stored ≡ number → rows ≡ items → IsListOf (P column stored) items → IsListOf (P db number) rows
list_is P {column} {stored} {db} {number} {rows} {items} known is same list =
    subst (λ l. IsListOf (P db number) l) (sym same) (subst (λ n. IsListOf (P db n) items) is (subst (λ d. IsListOf (P d stored) items) known list))

module _ {A : Type 0} (P : Row → Type 0) (Shows : Row → A → Type 0) {rows : List Row} (list : IsListOf P rows) where
  first_is : (found : A) (it : ShowsFound Shows rows (Some found)) → P it.0
  first_is found it = (list.each it.0).0 (subst (λ l. Has l it.0) (sym it.2) (inl refl))

  none_is : (row : Row) → rows ≡ [] → ¬ P row
  none_is row none is = subst (λ l. Has l row) none ((list.each row).1 is)

-- ---- texts

module _ (trees : Trees) (name : List ℕ) {rows : List Row} (list : IsListOf (IsValueRow trees name) rows) where
  pub text_told : (found : Option (String Global)) → ShowsFound ShowsText rows found → IsValueOf trees name found
  text_told None none = λ value there. none_is (IsValueRow trees name) ShowsText list (Text value ∷ []) none (value, refl, there)
  text_told (Some text) it =
      let is = first_is (IsValueRow trees name) ShowsText list text it in
      let same : is.0 ≡ string_bytes text = let e : Text is.0 ≡ Text (string_bytes text) = ap (λ (r : Row). column r 0) (sym is.1) ∙ it.3 in cc in
      subst (λ v. HasRow trees meta_tree (entry name v)) same is.2

  pub texts_shown : AreReadableTexts trees name → AreShown IsTextShown rows
  texts_shown readable row here = let is = (list.each row).0 here in (omega (arith, ap length is.1), (is.0, ap (λ (r : Row). column r 0) is.1, readable is.0 is.2))

-- ---- databases

module _ (trees : Trees) (name : List ℕ) {rows : List Row} (list : IsListOf (IsDatabaseRow trees name) rows) where
  no_database : rows ≡ [] → (id last : ℤ) → ¬ HasDatabase trees id name last
  no_database none id last there = none_is (IsDatabaseRow trees name) ShowsDatabase list (Int id ∷ Int last ∷ []) none (id, last, refl, there)

  pub id_found : (found : Option DatabaseId) → ShowsFound ShowsId rows found → IsIdOf trees name found
  id_found None none = no_database none
  id_found (Some id) it =
      let is = first_is (IsDatabaseRow trees name) ShowsId list id it in
      let same : is.0 ≡ id.0 = let e : Int is.0 ≡ Int id.0 = ap (λ (r : Row). column r 0) (sym is.2) ∙ it.3 in cc in
      (is.1, subst (λ i. HasDatabase trees i name is.1) same is.3)

  pub database_told : (found : Option Database) → ShowsFound ShowsDatabase rows found → IsDatabaseOf trees name found
  database_told None none = no_database none
  database_told (Some found) it =
      let is = first_is (IsDatabaseRow trees name) ShowsDatabase list found it in
      let same : is.0 ≡ found.id.0 = let e : Int is.0 ≡ Int found.id.0 = ap (λ (r : Row). column r 0) (sym is.2) ∙ it.3.0 in cc in
      let after : is.1 ≡ pos found.last = let e : Int is.1 ≡ Int (pos found.last) = ap (λ (r : Row). column r 1) (sym is.2) ∙ it.3.1 in cc in
      subst (λ l. HasDatabase trees found.id.0 name l) after (subst (λ i. HasDatabase trees i name is.1) same is.3)

  pub ids_shown : AreShown BeginsWithId rows
  ids_shown row here = let is = (list.each row).0 here in (is.0, ap (λ (r : Row). column r 0) is.2)

  pub databases_shown : AreCountedDatabases trees name → AreShown IsCountedRow rows
  databases_shown counted row here =
      let is = (list.each row).0 here in
      let number = counted is.0 is.1 is.3 in
      (is.0, number.0, is.2 ∙ ap (λ n. Int is.0 ∷ Int n ∷ []) number.1)

-- ---- records

module _ (trees : Trees) (db : ℤ) (ident : List ℕ) {rows : List Row} (list : IsListOf (IsElderRow db ident trees) rows) where
  pub elder_told : (found : Option Elder) → ShowsFound ShowsElder rows found → IsElderOf trees db ident found
  elder_told None none = λ sysno bytes there. none_is (IsElderRow db ident trees) ShowsElder list (Int sysno ∷ Blob bytes ∷ []) none (sysno, bytes, refl, there)
  elder_told (Some found) it =
      let is = first_is (IsElderRow db ident trees) ShowsElder list found it in
      let same : is.0 ≡ pos found.sysno = let e : Int is.0 ≡ Int (pos found.sysno) = ap (λ (r : Row). column r 0) (sym is.2) ∙ it.3.0 in cc in
      let after : is.1 ≡ found.bytes.items = let e : Blob is.1 ≡ Blob found.bytes.items = ap (λ (r : Row). column r 1) (sym is.2) ∙ it.3.1 in cc in
      subst (λ b. HasRecord trees db (pos found.sysno) ident b) after (subst (λ n. HasRecord trees db n ident is.1) same is.3)

  pub elders_shown : AreNumbered trees db ident → AreShown IsElderShown rows
  elders_shown numbered row here =
      let is = (list.each row).0 here in
      let number = numbered is.0 is.1 is.3 in
      (number.0, is.1, is.2 ∙ ap (λ n. Int n ∷ Blob is.1 ∷ []) number.1)

module _ (trees : Trees) (db sysno : ℤ) {rows : List Row} (list : IsListOf (IsIdentRow db sysno trees) rows) where
  pub ident_told : (found : Option (String Global)) → ShowsFound ShowsText rows found → IsIdentOf trees db sysno found
  ident_told None none = λ ident bytes there. none_is (IsIdentRow db sysno trees) ShowsText list (Text ident ∷ []) none (ident, bytes, refl, there)
  ident_told (Some text) it =
      let is = first_is (IsIdentRow db sysno trees) ShowsText list text it in
      let same : is.0 ≡ string_bytes text = let e : Text is.0 ≡ Text (string_bytes text) = ap (λ (r : Row). column r 0) (sym is.2) ∙ it.3 in cc in
      (is.1, subst (λ i. HasRecord trees db sysno i is.1) same is.3)

  pub idents_shown : AreReadableIdents trees db sysno → AreShown IsTextShown rows
  idents_shown readable row here = let is = (list.each row).0 here in (omega (arith, ap length is.2), (is.0, ap (λ (r : Row). column r 0) is.2, readable is.0 is.1 is.3))

-- Whole tables beside what is expected of them: they are the image of what they hold just where they hold what is expected.
use Rattle.zeb_image.proofs.Cited.{◌≡◌, ◌≢◌, ◌∙◌, ◌≤◌, ℕ, ℤ, pos, List, [], ◌∷◌, map, Ordering, Less, refl, sym, ap, ap₂, subst, string_bytes, arith, slice_cmp, nat_cmp, ordering_then, Int, Text, Blob, Row, column, row_cmp, State, Has, has_contained, has_mapped, mapped_has, Directive, ListedDatabase, ExpectedDatabase, Record, listed_order, name_order, number_order, record_shown, HasDatabase, HasRecord, IsStore, less_is, never_itself, row_cmp_total, one_ident, one_number, strictly_mapped, int_at, up_to, Base, Kept, IsBase, IsKept, AreMade, IsMadeOf, kept_of, IsStrictlySortedBy}
use Rattle.zeb_image.proofs.CheckedLists.{rises_before, zip_left, zip_right, zip_rises}
use Rattle.zeb_image.proofs.CheckedRecords.{number_inside}

-- ---- one database

int_inside : (a b : ℤ) → Int a ≡ Int b → a ≡ b
int_inside a b same = cc

text_inside : (a b : List ℕ) → Text a ≡ Text b → a ≡ b
text_inside a b same = cc

blob_inside : (a b : List ℕ) → Blob a ≡ Blob b → a ≡ b
blob_inside a b same = cc

pub same_kept : (one other : Kept) → one.sysno ≡ other.sysno → one.ident ≡ other.ident → one.bytes ≡ other.bytes → one ≡ other
same_kept one other number name text = λ i. record { sysno = number i; ident = name i; bytes = text i }

-- what is made of a database that is expected
abbrev pub base_of : ExpectedDatabase → Base
base_of d = record { name = string_bytes d.name; last = d.last; records = map kept_of d.records.items }

module _ (profile : List Directive) (s : State) (store : IsStore s) (l : ListedDatabase) (d : ExpectedDatabase) (made : IsMadeOf profile s.now.trees l d) where
  -- its records are the rows
  pub row_there : (r : Record) → Has d.records.items r → HasRecord s.now.trees l.id.0 (pos r.sysno) (string_bytes r.ident) r.bytes.items
  row_there r there = (made.records.each (record_shown r)).0 (mapped_has record_shown d.records.items r there)

  pub record_there : (sysno : ℤ) (ident bytes : List ℕ) → HasRecord s.now.trees l.id.0 sysno ident bytes
      → (r : Record) × Has d.records.items r × (sysno ≡ pos r.sysno) × (ident ≡ string_bytes r.ident) × (bytes ≡ r.bytes.items)
  record_there sysno ident bytes row =
      let shown : Row = Int sysno ∷ Text ident ∷ Blob bytes ∷ [] in
      let z = has_mapped record_shown d.records.items shown ((made.records.each shown).1 row) in (
        z.0,
        z.1,
        int_inside sysno (pos z.0.sysno) (ap (λ (r : Row). column r 0) z.2),
        text_inside ident (string_bytes z.0.ident) (ap (λ (r : Row). column r 1) z.2),
        blob_inside bytes z.0.bytes.items (ap (λ (r : Row). column r 2) z.2),
      )

  lower : (a b : Record) → Has d.records.items a → Has d.records.items b → row_cmp (record_shown a) (record_shown b) ≡ Less → nat_cmp a.sysno b.sysno ≡ Less
  lower a b here there less =
      let rest : Ordering = row_cmp (Text (string_bytes a.ident) ∷ Blob a.bytes.items ∷ []) (Text (string_bytes b.ident) ∷ Blob b.bytes.items ∷ []) in
      let told : ordering_then (nat_cmp a.sysno b.sysno) rest ≡ Less = ap (λ o. ordering_then o rest) (sym (int_at a.sysno b.sysno)) ∙ less in
      let upto = up_to a.sysno b.sysno rest told in
      let differs : a.sysno ≢ b.sysno = λ same.
      let one = row_there a here in
      let two = row_there b there in
      let both = one_number s store l.id.0 (pos b.sysno) (string_bytes a.ident) (string_bytes b.ident) a.bytes.items b.bytes.items (subst (λ (n : ℕ). HasRecord s.now.trees l.id.0 (pos n) (string_bytes a.ident) a.bytes.items) same one) two in
      let shown : record_shown a ≡ record_shown b = λ i. Int (pos (same i)) ∷ Text (both.0 i) ∷ Blob (both.1 i) ∷ [] in
      never_itself row_cmp_total (record_shown b) (subst (λ (r : Row). row_cmp r (record_shown b) ≡ Less) shown less) in
      less_is a.sysno b.sysno (omega (arith, upto, differs))

  -- their numbers rise
  pub numbers_rise : IsStrictlySortedBy number_order d.records.items
  numbers_rise = rises_before row_cmp number_order record_shown d.records.items lower made.records.rising

  -- it can be held
  pub made_base : IsBase profile (base_of d)
  made_base = record {
    rising = strictly_mapped number_order (λ (a b : Kept). nat_cmp a.sysno b.sysno) kept_of d.records.items (λ a b here there less. less) numbers_rise;
    from_one = λ k there. (let z = has_mapped kept_of d.records.items k (has_contained (map kept_of d.records.items) k there) in subst (λ (x : Kept). 1 ≤ x.sysno) (sym z.2) (made.sound z.0 z.1).from_one);
    to_last = λ k there. (let z = has_mapped kept_of d.records.items k (has_contained (map kept_of d.records.items) k there) in subst (λ (x : Kept). x.sysno ≤ d.last) (sym z.2) (made.sound z.0 z.1).to_last);
    few = made.few;
    single = λ a b here there same.
        let y = has_mapped kept_of d.records.items a (has_contained (map kept_of d.records.items) a here) in
        let z = has_mapped kept_of d.records.items b (has_contained (map kept_of d.records.items) b there) in
        let named : string_bytes y.0.ident ≡ string_bytes z.0.ident = ap (λ (k : Kept). k.ident) (sym y.2) ∙ same ∙ ap (λ (k : Kept). k.ident) z.2 in
        let both = one_ident s store l.id.0 (pos y.0.sysno) (pos z.0.sysno) (string_bytes z.0.ident) y.0.bytes.items z.0.bytes.items
        (subst (λ (n : List ℕ). HasRecord s.now.trees l.id.0 (pos y.0.sysno) n y.0.bytes.items) named (row_there y.0 y.1)) (row_there z.0 z.1) in
        y.2 ∙ same_kept (kept_of y.0) (kept_of z.0) (number_inside y.0.sysno z.0.sysno both.0) named both.1 ∙ sym z.2;
    sound = λ k there. (let z = has_mapped kept_of d.records.items k (has_contained (map kept_of d.records.items) k there) in subst (IsKept profile) (sym z.2) (made.sound z.0 z.1).is);
  }

-- ---- all databases

module _ (profile : List Directive) (s : State) (made : List ExpectedDatabase) (are : AreMade profile s.now.trees made) where
  -- each is listed
  pub listed_there : (d : ExpectedDatabase) → Has made d → (l : ListedDatabase) × IsMadeOf profile s.now.trees l d × HasDatabase s.now.trees l.id.0 (string_bytes d.name) (pos d.last)
  listed_there d there =
      let it = zip_right (IsMadeOf profile s.now.trees) are.listed made are.each d there in
      (it.0, it.2, (are.are.each it.0.id.0 (string_bytes d.name) (pos d.last)).1 (it.0, it.1, refl, it.2.name, ap pos it.2.last))

  -- and of each row one is expected
  pub made_there : (id : ℤ) (name : List ℕ) (last : ℤ) → HasDatabase s.now.trees id name last
      → (d : ExpectedDatabase) × (l : ListedDatabase) × Has made d × IsMadeOf profile s.now.trees l d × (id ≡ l.id.0) × (name ≡ string_bytes d.name) × (last ≡ pos d.last)
  made_there id name last row =
      let l = (are.are.each id name last).0 row in
      let it = zip_left (IsMadeOf profile s.now.trees) are.listed made are.each l.0 l.1 in
      (it.0, l.0, it.1, it.2, l.2, l.3 ∙ sym it.2.name, l.4 ∙ ap pos (sym it.2.last))

  pub names_rise : IsStrictlySortedBy name_order made
  names_rise = zip_rises (IsMadeOf profile s.now.trees) listed_order name_order
      (λ a c b d one two less. ap₂ (slice_cmp nat_cmp) one.name two.name ∙ less) are.listed made are.each are.are.rising

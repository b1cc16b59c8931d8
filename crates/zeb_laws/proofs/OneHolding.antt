-- Tables are the image of one holding at most.
use Rattle.zeb_laws.proofs.Cited.{◌≡◌, ◌∙◌, ℕ, pos, List, [], codes, inl, inr, refl, sym, ap, subst, Contains, on_total, Trees, has_contained, contains_had, Directive, Format, HasDatabase, HasRecord, meta_tree, same_list, Base, Kept, Holdings, nothing_yet, under, AreBases, IsImage, IsImageOf, IsImageUnder, IsBase, under_other, none_there, profile_is, version_is}
use Rattle.std.proofs.lemmas.Cmp.{nat_cmp_total, nat_list_cmp_total}

same_record : (one other : Kept) → one.sysno ≡ other.sysno → one.ident ≡ other.ident → one.bytes ≡ other.bytes → one ≡ other
same_record one other number name text = λ i. record { sysno = number i; ident = name i; bytes = text i }

same_base : (one other : Base) → one.name ≡ other.name → one.last ≡ other.last → one.records ≡ other.records → one ≡ other
same_base one other name last records = λ i. record { name = name i; last = last i; records = records i }

number_inside : (m n : ℕ) → pos m ≡ pos n → m ≡ n
number_inside m n same = cc

module _ (profile : List Directive) (trees : Trees) where
  -- a record of the one database is one of the other
  kept_in : (f g : Format) (xs ys : List Base) (one : IsImageOf f profile trees xs) (other : IsImageOf g profile trees ys) (a b : Base) → Contains xs a → Contains ys b
      → one.lists.id_of a.name ≡ other.lists.id_of b.name → (k : Kept) → Contains a.records k → Contains b.records k
  kept_in f g xs ys one other a b in_one in_other same k here =
      let id = one.lists.id_of a.name in
      let there : Contains (one.lists.records_of id) k = subst (λ (l : List Kept). Contains l k) (sym (one.lists.of_base a in_one)) here in
      let row : HasRecord trees id (pos k.sysno) k.ident k.bytes = (one.lists.kept id (pos k.sysno) k.ident k.bytes).1 (k, there, refl, refl, refl) in
      let found = (other.lists.kept id (pos k.sysno) k.ident k.bytes).0 row in
      let is : k ≡ found.0 = same_record k found.0 (number_inside k.sysno found.0.sysno found.2) found.3 found.4 in
      let its : other.lists.records_of id ≡ b.records = ap other.lists.records_of same ∙ other.lists.of_base b in_other in
      subst (Contains b.records) (sym is) (subst (λ (l : List Kept). Contains l found.0) its found.1)

  -- a database of the one is one of the other
  base_in : (f g : Format) (xs ys : List Base) → AreBases profile xs → AreBases profile ys → (one : IsImageOf f profile trees xs) (other : IsImageOf g profile trees ys)
      → (a : Base) → Contains xs a → Contains ys a
  base_in f g xs ys are_one are_other one other a in_one =
      let id = one.lists.id_of a.name in
      let row : HasDatabase trees id a.name (pos a.last) = (one.lists.listed id a.name (pos a.last)).1 (a, in_one, refl, refl, refl) in
      let found = (other.lists.listed id a.name (pos a.last)).0 row in
      let b = found.0 in
      let left : IsBase profile a = are_one.each a in_one in
      let right : IsBase profile b = are_other.each b found.1 in
      let records : a.records ≡ b.records =
      same_list (on_total (λ (k : Kept). k.sysno) nat_cmp_total) a.records b.records left.rising right.rising
      (λ k h. has_contained b.records k (kept_in f g xs ys one other a b in_one found.1 found.2 k (contains_had a.records k h)))
      (λ k h. has_contained a.records k (kept_in g f ys xs other one b a found.1 in_one (sym found.2) k (contains_had b.records k h))) in
      subst (Contains ys) (sym (same_base a b found.3 (number_inside a.last b.last found.4) records)) found.1

  same_bases : (f g : Format) (xs ys : List Base) → AreBases profile xs → AreBases profile ys → IsImageOf f profile trees xs → IsImageOf g profile trees ys → xs ≡ ys
  same_bases f g xs ys are_one are_other one other =
      same_list (on_total (λ (b : Base). b.name) nat_list_cmp_total) xs ys are_one.rising are_other.rising
      (λ b h. has_contained ys b (base_in f g xs ys are_one are_other one other b (contains_had xs b h)))
      (λ b h. has_contained xs b (base_in g f ys xs are_other are_one other one b (contains_had ys b h)))

-- tables whose texts have a row hold something
no_text : (trees : Trees) (profile : List Directive) (version text : List ℕ) (bases : List Base) → trees meta_tree ≡ [] → IsImageUnder profile trees version text bases → ⊥
no_text trees profile version text bases none at = none_there trees (codes "version") version none ((at.texts.each (codes "version") version).1 (inl (refl, refl)))

pub one_holding : (trees : Trees) (one other : Holdings) → IsImage trees one → IsImage trees other → one ≡ other
one_holding trees nothing_yet nothing_yet left right = refl
one_holding trees nothing_yet (under version text bases) left right = absurd (no_text trees right.0 version text bases left.0.0 right.1)
one_holding trees (under version text bases) nothing_yet left right = absurd (no_text trees left.0 version text bases right.0.0 left.1)
one_holding trees (under version text bases) (under other said others) left right =
    let at = left.1 in
    let same_version : other ≡ version = version_is trees version text at.pattern at.texts other ((right.1.texts.each (codes "version") other).1 (inl (refl, refl))) in
    let same_text : said ≡ text = profile_is trees version text at.pattern at.texts said ((right.1.texts.each (codes "profile") said).1 (inr (inl (refl, refl)))) in
    let so = under_other right.0 left.0 at.sound trees other said others (same_text ∙ at.text_is) right.1 in
    let same : bases ≡ others = same_bases left.0 trees at.format so.format bases others at.are so.are at.image so.image in
    λ i. under (sym same_version i) (sym same_text i) (same i)

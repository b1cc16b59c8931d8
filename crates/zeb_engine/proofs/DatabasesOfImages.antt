-- What the tables of an image hold of one database: its records, and in the registers the occurrences of these.
use Rattle.zeb_engine.proofs.Cited.{◌≡◌, ◌≢◌, ◌↔◌, ◌⊎◌, ◌∙◌, ℕ, ℤ, pos, true, false, List, [], ◌∷◌, find, Option, Some, refl, sym, ap, subst, inl, inr, nat_eq, Contains, option_map, cases_Bool, Decides-eqb, Trees, Has, has_contained, contains_had, Directive, Occurrence, Content, IsStorable, posted, Format, holds_in, HasDatabase, HasRecord, has_ident_in, has_name, occurs, Base, Kept, IsBase, AreBases, IsImageOf, HaveSystemNumbers, base_numbered, one_number, told_id, posted_storable}

-- ---- numbers

-- which database has the id
abbrev HasId : (List ℕ → ℤ) → ℤ → List Base → Type 0
HasId id_of id bases = ((base : Base) × Has bases base × (id ≡ id_of base.name)) ⊎ ((base : Base) → Has bases base → id ≢ id_of base.name)

base_of_id : (id_of : List ℕ → ℤ) (id : ℤ) (bases : List Base) → HasId id_of id bases
base_of_id id_of id [] = inr (λ base there same. there)
base_of_id id_of id (first ∷ rest) = elim (told_id id (id_of first.name)) [
  | inl same ↦ inl (first, inl refl, same)
  | inr differs ↦ elim (base_of_id id_of id rest) [
    | inl later ↦ inl (later.0, inr later.1, later.2)
    | inr none ↦ inr (λ base there. elim there [ inl is ↦ subst (λ (b : Base). id ≢ id_of b.name) (sym is) differs | inr later ↦ none base later ])
  ]
]

pub image_numbered : (format : Format) (profile : List Directive) (trees : Trees) (bases : List Base) → AreBases profile bases → (image : IsImageOf format profile trees bases) → HaveSystemNumbers image.lists.records_of
image_numbered format profile trees bases are image id kept there = elim (base_of_id image.lists.id_of id bases) [
  | inl it ↦
      let among = contains_had bases it.0 it.1 in
      base_numbered profile it.0 (are.each it.0 among) kept (subst (λ (l : List Kept). Contains l kept) (ap image.lists.records_of it.2 ∙ image.lists.of_base it.0 among) there)
  | inr none ↦ absurd (image.lists.of_none id (λ base among. none base (has_contained bases base among)) kept there)
]

-- ---- one database

pub record IsHeld (format : Format) (profile : List Directive) (trees : Trees) (id : ℤ) (base : Base) : Type 0 where
  pub content : Content
  pub held : holds_in format trees content
  pub storable : IsStorable content
  pub occurring : (n : ℕ) (o : Occurrence) → posted content id n o ↔ occurs profile base.records n o
  pub kept : (sysno : ℤ) (ident bytes : List ℕ) → HasRecord trees id sysno ident bytes
      ↔ ((k : Kept) × Contains base.records k × (sysno ≡ pos k.sysno) × (ident ≡ k.ident) × (bytes ≡ k.bytes))
  pub sound : IsBase profile base

pub base_held : (format : Format) (profile : List Directive) (trees : Trees) (bases : List Base) → AreBases profile bases → (image : IsImageOf format profile trees bases)
    → (id : ℤ) (base : Base) → Contains bases base → HasDatabase trees id base.name (pos base.last) → IsHeld format profile trees id base
base_held format profile trees bases are image id base there row =
    let of = (image.lists.listed id base.name (pos base.last)).0 row in
    let same : image.lists.records_of id ≡ base.records = ap image.lists.records_of (of.2 ∙ ap image.lists.id_of (sym of.3)) ∙ image.lists.of_base base there in
    record {
      content = image.content;
      held = image.held;
      storable = posted_storable profile image.lists.records_of (image_numbered format profile trees bases are image) image.content image.posted;
      occurring = λ n o. subst (λ (records : List Kept). posted image.content id n o ↔ occurs profile records n o) same (image.posted.each id n o);
      kept = λ sysno ident bytes. subst (λ (records : List Kept). HasRecord trees id sysno ident bytes
          ↔ ((k : Kept) × Contains records k × (sysno ≡ pos k.sysno) × (ident ≡ k.ident) × (bytes ≡ k.bytes))) same (image.lists.kept id sysno ident bytes);
      sound = are.each base there;
    }

-- ---- identifiers

-- a kept record is the first of its number
first_found : (n : ℕ) (records : List Kept) (k : Kept) → Has records k → k.sysno ≡ n → ((a : Kept) → Has records a → a.sysno ≡ n → a ≡ k) → find (λ (kept : Kept). nat_eq kept.sysno n) records ≡ Some k
first_found n [] k there is one = absurd there
first_found n (first ∷ rest) k there is one = elim (cases_Bool (nat_eq first.sysno n)) [
  | inl passes ↦ rw passes (ap Some (one first (inl refl) ((Decides-eqb first.sysno n).0 passes)))
  | inr fails ↦ elim there [
    | inl same ↦ absurd (let e : true ≡ false = sym ((Decides-eqb first.sysno n).1 (ap (λ (x : Kept). x.sysno) (sym same) ∙ is)) ∙ fails in cc)
    | inr later ↦ rw fails (first_found n rest k later is (λ a h. one a (inr h)))
  ]
]

-- an identifier in the tables is the kept record's
pub named_as_kept : (format : Format) (profile : List Directive) (trees : Trees) (id : ℤ) (base : Base) → IsHeld format profile trees id base → (n : ℕ) (ident : List ℕ)
    → has_ident_in trees id n ident → has_name base.records n ident
named_as_kept format profile trees id base held n ident row =
    let of = (held.kept (pos n) ident row.0).0 row.1 in
    let number : of.0.sysno ≡ n = (let e = of.2 in cc) in
    let there = has_contained base.records of.0 of.1 in
    let found = first_found n base.records of.0 there number (λ a h same. one_number base.records held.sound.rising a of.0 h there (same ∙ sym number)) in
    ap (option_map (λ (kept : Kept). kept.ident)) found ∙ ap Some (sym of.3)

-- who has a name is kept under it
found_there : (n : ℕ) (records : List Kept) (ident : List ℕ) → has_name records n ident → (k : Kept) × Has records k × (k.sysno ≡ n) × (k.ident ≡ ident)
found_there n [] ident is = cc
found_there n (first ∷ rest) ident is = elim (cases_Bool (nat_eq first.sysno n)) [
  | inl passes ↦ (let named : ◌≡◌ {A = Option (List ℕ)} (Some first.ident) (Some ident) = rw passes at is in (first, inl refl, (Decides-eqb first.sysno n).0 passes, cc))
  | inr fails ↦ (let later = found_there n rest ident (rw fails at is) in (later.0, inr later.1, later.2, later.3))
]

pub kept_as_named : (format : Format) (profile : List Directive) (trees : Trees) (id : ℤ) (base : Base) → IsHeld format profile trees id base → (n : ℕ) (ident : List ℕ)
    → has_name base.records n ident → has_ident_in trees id n ident
kept_as_named format profile trees id base held n ident is =
    let of = found_there n base.records ident is in
    (of.0.bytes, (held.kept (pos n) ident of.0.bytes).1 (of.0, contains_had base.records of.0 of.1, ap pos (sym of.2), sym of.3, refl))

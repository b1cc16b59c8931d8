-- Records that are read one after the other, on any tables: what has been read of them up to a number.
use Rattle.zeb_engine.proofs.Cited.{◌≡◌, ◌∙◌, ◌++◌, ◌+◌, ◌<◌, ◌≤◌, ◌^◌, ℕ, ℤ, pos, nat_lt, List, [], ◌∷◌, Some, None, Option, string_bytes, refl, sym, ap, ap₂, subst, inl, inr, arith, append-nil, cases_Bool, nat_tests, flat_map-append, Trees, Has, has_either, has_left, has_right, Record, IsFirstFrom, IsNumberOf, HasRecord, less_is, Kept, AreRisingKept, push_rises, JoinsRecords}
use Rattle.std.specs.List.Sorted.{IsStrictlySortedBy}
use Rattle.zeb_engine.proofs.DumpAnswers.{bytes_in}

module _ (trees : Trees) (db : ℤ) where
  -- the bytes are those of the records below a number
  pub record ReadTo (next : ℕ) (bytes : List ℕ) : Type 0 where
    pub records : List Kept
    pub rising : AreRisingKept records
    pub kept : (k : Kept) → Has records k → HasRecord trees db (pos k.sysno) k.ident k.bytes
    pub below : (k : Kept) → Has records k → next < 2 ^ 63 → k.sysno < next
    pub each : (n : ℕ) → n < next → n < 2 ^ 63 → IsNumberOf trees db (pos n) → (k : Kept) × Has records k × (k.sysno ≡ n)
    pub are : bytes ≡ bytes_in records

  pub read_none : ReadTo 0 []
  unfolding IsStrictlySortedBy
  read_none = record {
    records = [];
    rising = tt;
    kept = λ k there. absurd there;
    below = λ k there. absurd there;
    each = λ n low. absurd (omega (arith, low));
    are = refl;
  }

  -- a number under which a record is found is one that a column stores
  pub read_stored : (next : ℕ) (found : Option Record) (it : Record) → found ≡ Some it → (2 ^ 63 ≤ next → found ≡ None) → next < 2 ^ 63
  read_stored next found it is large = elim (cases_Bool (nat_lt next (2 ^ 63))) [
    | inl less ↦ grind (arith, nat_tests)
    | inr more ↦ absurd (let none : found ≡ None = large (grind (arith, nat_tests)) in cc)
  ]

  -- one record more
  pub read_next : (next later : ℕ) (bytes : List ℕ) (it : Record) → next < 2 ^ 63 → later ≤ it.sysno + 1 → (later < 2 ^ 63 → later ≡ it.sysno + 1) → ReadTo next bytes → IsFirstFrom trees db next (Some it)
      → ReadTo later (bytes ++ it.bytes.items)
  read_next next later bytes it small most is before first =
      let last : Kept = record { sysno = it.sysno; ident = string_bytes it.ident; bytes = it.bytes.items } in
      record {
        records = before.records ++ last ∷ [];
        rising = push_rises before.records last before.rising (λ k there. less_is k.sysno it.sysno (omega (arith, before.below k there small, first.1)));
        kept = λ k there. elim (has_either before.records (last ∷ []) k there) [
          | inl early ↦ before.kept k early
          | inr end ↦ elim end [ inl same ↦ subst (λ (x : Kept). HasRecord trees db (pos x.sysno) x.ident x.bytes) (sym same) first.0 | inr none ↦ absurd none ]
        ];
        below = λ k there stored. elim (has_either before.records (last ∷ []) k there) [
          | inl early ↦ omega (arith, before.below k early small, first.1, is stored)
          | inr end ↦ elim end [ inl same ↦ (let number : k.sysno ≡ it.sysno = ap (λ (x : Kept). x.sysno) same in omega (arith, number, is stored)) | inr none ↦ absurd none ]
        ];
        each = λ n low stored there. elim (cases_Bool (nat_lt n next)) [
          | inl less ↦ (let early = before.each n (grind (arith, nat_tests)) stored there in (early.0, has_left before.records (last ∷ []) early.0 early.1, early.2))
          | inr more ↦
              let from : next ≤ n = grind (arith, nat_tests) in
              let least = first.2 n there from in
              (last, has_right before.records (last ∷ []) last (inl refl), omega (arith, least, low, most))
        ];
        are = ap₂ (λ (a b : List ℕ). a ++ b) before.are (sym (append-nil it.bytes.items)) ∙ sym (flat_map-append (λ (x : Kept). x.bytes) before.records (last ∷ []));
      }

  -- where there is none from the number on they are all
  pub read_whole : (next : ℕ) (bytes : List ℕ) → ReadTo next bytes → ((n : ℕ) → n < 2 ^ 63 → IsNumberOf trees db (pos n) → n < next) → JoinsRecords trees db bytes
  read_whole next bytes before whole = (before.records, record { rising = before.rising; kept = before.kept; each = λ n stored there. before.each n (whole n stored there) stored there }, before.are)

  -- none is there from a number on, which a column stores, or doesn't
  pub none_left : (next n : ℕ) (found : Option Record) → found ≡ None → (next < 2 ^ 63 → IsFirstFrom trees db next found) → n < 2 ^ 63 → IsNumberOf trees db (pos n) → n < next
  none_left next n found is value stored there = elim (cases_Bool (nat_lt next (2 ^ 63))) [
    | inl less ↦ (let none : IsFirstFrom trees db next None = subst (IsFirstFrom trees db next) is (value (grind (arith, nat_tests))) in none n there)
    | inr more ↦ grind (arith, nat_tests)
  ]

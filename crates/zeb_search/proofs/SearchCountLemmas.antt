-- What calls count, one after the other.
use Rattle.zeb_search.proofs.Cited.{◌≡◌, ◌+◌, ◌*◌, ◌≤◌, ℕ, ℤ, Result, Ok, Err, Vec, IfOk, OnOk, arith, inl, length, refl, Global, State, HasCleanDisk, Register, TermCount, Work, Content, posted, Format, holds_in, AreTermsOf, IsStore, OnStore, Rises, Works, CountsAtMost, CountsRows, NoRows, RegisterDict}

same_count : (a b : ℕ) → b ≡ a → Rises 0 a b
same_count a b is = inl (omega (arith, is))

rises_then : (a b c : ℕ) → Rises 0 a b → Rises 0 b c → Rises 0 a c
rises_then a b c one two = grind arith

at_most : (by old new : ℕ) → Rises by old new → new ≤ old + by
at_most by old new rises = grind arith

pub counts_still : (w : Work) → CountsAtMost 0 0 w w
counts_still w = record {
  no_term = same_count w.dict_written w.dict_written refl;
  no_block = same_count w.block_written w.block_written refl;
  terms = omega arith;
  blocks = omega arith;
}

pub counts_then : (k l m n : ℕ) (a b c : Work) → CountsAtMost k m a b → CountsAtMost l n b c → CountsAtMost (k + l) (m + n) a c
counts_then k l m n a b c one two = record {
  no_term = rises_then a.dict_written b.dict_written c.dict_written one.no_term two.no_term;
  no_block = rises_then a.block_written b.block_written c.block_written one.no_block two.no_block;
  terms = omega (arith, one.terms, two.terms);
  blocks = omega (arith, one.blocks, two.blocks);
}

pub counts_within : (k l m : ℕ) (a b : Work) → k ≤ l → CountsAtMost k m a b → CountsAtMost l m a b
counts_within k l m a b fewer counts = record { no_term = counts.no_term; no_block = counts.no_block; terms = omega (arith, fewer, counts.terms); blocks = counts.blocks }

-- ---- calls of the register

-- postings of a key
pub list_counts : (rows : ℕ) (a b : Work) → Works 0 0 rows 0 a b → CountsAtMost 0 rows a b
list_counts rows a b works = record {
  no_term = works.writes_terms;
  no_block = works.writes_blocks;
  terms = at_most 0 a.dict_read b.dict_read works.reads_terms;
  blocks = at_most rows a.block_read b.block_read works.reads_blocks;
}

-- terms
pub terms_count : (terms : ℕ) (a b : Work) → Works terms 0 0 0 a b → CountsAtMost terms 0 a b
terms_count terms a b works = record {
  no_term = works.writes_terms;
  no_block = works.writes_blocks;
  terms = at_most terms a.dict_read b.dict_read works.reads_terms;
  blocks = at_most 0 a.block_read b.block_read works.reads_blocks;
}

-- ---- by bounds that are told

-- one call, and then another
pub rows_then : (D E T F G H : ℕ → Type 0) (a b c : Work) → ((m n : ℕ) → D m → E n → T (m + n)) → ((m n : ℕ) → F m → G n → H (m + n)) → CountsRows D F a b → CountsRows E G b c → CountsRows T H a c
rows_then D E T F G H a b c joins_terms joins x y = (x.0 + y.0, x.1 + y.1, joins_terms x.0 y.0 x.2 y.2, joins x.1 y.1 x.3 y.3, counts_then x.0 y.0 x.1 y.1 a b c x.4 y.4)

-- the same rows as another definition says it
pub rows_for : (D E F : ℕ → Type 0) (a b : Work) → ((n : ℕ) → D n → E n) → CountsRows D F a b → CountsRows E F a b
rows_for D E F a b told x = (x.0, x.1, told x.0 x.2, x.3, x.4)

-- no more rows of `dict` than so many
pub rows_within : (D E F : ℕ → Type 0) (a b : Work) → ((n : ℕ) → D n → (most : ℕ) × (n ≤ most) × E most) → CountsRows D F a b → CountsRows E F a b
rows_within D E F a b within x = let y = within x.0 x.2 in (y.0, x.1, y.2, x.3, counts_within x.0 y.0 x.1 a b y.1 x.4)

-- nothing is read
pub rows_still : (D F : ℕ → Type 0) (w : Work) → D 0 → F 0 → CountsRows D F w w
rows_still D F w no_terms none = (0, 0, no_terms, none, counts_still w)

-- whatever is answered
pub always_counted : {A E : Type 0} (r : Result A E) {Counted : Type 0} → Counted → OnOk r Counted
always_counted (Ok x) counted = counted
always_counted (Err e) counted = tt

-- all terms of a register
pub if_ok_counted : {E : Type 0} (r : Result (Vec TermCount Global) E) (format : Format) (row_work : ℕ) (db : ℤ) (index : ℕ) (register : Register) (s0 s1 : State) (a b : Work)
    → (HasCleanDisk s1 → IsStore s0 → IfOk r (λ list. (content : Content) → holds_in format s0.now.trees content → AreTermsOf (posted content db) index register list.items))
    → IfOk r (λ list. Works (row_work * length list.items) 0 0 0 a b)
    → OnOk r (OnStore s0 s1 (λ trees. (content : Content) → holds_in format trees content → CountsRows (RegisterDict row_work content db index register) NoRows a b))
if_ok_counted (Ok x) format row_work db index register s0 s1 a b are told =
    λ clean store content has. (row_work * length x.items, 0, (x.items, are clean store content has, refl), refl, terms_count (row_work * length x.items) a b told)
if_ok_counted (Err e) format row_work db index register s0 s1 a b are told = tt

-- Units that a change in leaves keeps: where nothing changes, where more is changed, and over two changes in turn.
use Rattle.zeb_register.proofs.Cited.{inl, inr, ◌≡◌, ◌∙◌, ◌∷◌, [], ℕ, ℤ, pos, refl, sym, subst, Int, Trees, Key, register_code, KeepsRowsBeside, postings_tree, dict_tree, AreLeavesAlone, HasKeyUnit, HasUnit, KeepsUnits}
use Rattle.zeb_register.proofs.Malformed.{table_same}

pub kept_itself : (db : ℤ) (Changed : Key → ℕ → Type 0) (trees : Trees) → KeepsUnits db Changed trees trees
kept_itself db Changed trees = record {
  reads = λ d key n other places. (λ h. h, λ h. h);
  malformed = λ d key n other. (λ h. h, λ h. h);
  counts = λ d key other records. (λ h. h, λ h. h);
  miscounted = λ d key other. (λ h. h, λ h. h);
  alone = λ d key alone. alone;
  shaped = λ row there. inl there;
  blocks = λ row other. (λ h. h, λ h. h);
  postings = refl;
  dict = refl;
}

-- each table is as it was
pub kept_same : (db : ℤ) (Changed : Key → ℕ → Type 0) (old new : Trees) → ((tree : ℕ) → new tree ≡ old tree) → KeepsUnits db Changed old new
kept_same db Changed old new same =
    let whole : old ≡ new = λ i tree. sym (same tree) i in
    subst (λ (trees : Trees). KeepsUnits db Changed old trees) whole (kept_itself db Changed old)

-- two changes in turn, of units that are among others
module _ (db : ℤ) (One Two Both : Key → ℕ → Type 0) (first : (key : Key) (n : ℕ) → One key n → Both key n) (second : (key : Key) (n : ℕ) → Two key n → Both key n) (a b c : Trees) (one : KeepsUnits db One a b) (two : KeepsUnits db Two b c) where
  not_one : (d : ℤ) (key : Key) (n : ℕ) → ¬ HasUnit db Both d key n → ¬ HasUnit db One d key n
  not_one d key n other it = other (it.0, first key n it.1)

  not_two : (d : ℤ) (key : Key) (n : ℕ) → ¬ HasUnit db Both d key n → ¬ HasUnit db Two d key n
  not_two d key n other it = other (it.0, second key n it.1)

  key_not_one : (d : ℤ) (key : Key) → ¬ HasKeyUnit db Both d key → ¬ HasKeyUnit db One d key
  key_not_one d key other it = other (it.0, (it.1.0, first key it.0 it.1.1))

  key_not_two : (d : ℤ) (key : Key) → ¬ HasKeyUnit db Both d key → ¬ HasKeyUnit db Two d key
  key_not_two d key other it = other (it.0, (it.1.0, second key it.0 it.1.1))

  pub kept_then : KeepsUnits db Both a c
  kept_then = record {
    reads = λ d key n other places.
        let front = one.reads d key n (not_one d key n other) places in
        let back = two.reads d key n (not_two d key n other) places in
        (λ h. back.0 (front.0 h), λ h. front.1 (back.1 h));
    malformed = λ d key n other.
        let front = one.malformed d key n (not_one d key n other) in
        let back = two.malformed d key n (not_two d key n other) in
        (λ h. back.0 (front.0 h), λ h. front.1 (back.1 h));
    counts = λ d key other records.
        let front = one.counts d key (key_not_one d key other) records in
        let back = two.counts d key (key_not_two d key other) records in
        (λ h. back.0 (front.0 h), λ h. front.1 (back.1 h));
    miscounted = λ d key other.
        let front = one.miscounted d key (key_not_one d key other) in
        let back = two.miscounted d key (key_not_two d key other) in
        (λ h. back.0 (front.0 h), λ h. front.1 (back.1 h));
    alone = λ d key alone. two.alone d key (one.alone d key alone);
    shaped = λ row there. elim (two.shaped row there) [ inl mid ↦ one.shaped row mid | inr leaf ↦ inr leaf ];
    blocks = λ row other.
        let front = one.blocks row (λ it. other (it.0, it.1, first it.0 it.1 it.2, it.3, it.4, it.5, it.6)) in
        let back = two.blocks row (λ it. other (it.0, it.1, second it.0 it.1 it.2, it.3, it.4, it.5, it.6)) in
        (λ h. front.0 (back.0 h), λ h. back.1 (front.1 h));
    postings = two.postings ∙ one.postings;
    dict = two.dict ∙ one.dict;
  }

-- a change of some units is one of these and others
pub kept_wider : (db : ℤ) (One Both : Key → ℕ → Type 0) → ((key : Key) (n : ℕ) → One key n → Both key n) → (a b : Trees) → KeepsUnits db One a b → KeepsUnits db Both a b
kept_wider db One Both first a b one = kept_then db One Both Both first (λ key n h. h) a b b one (kept_itself db Both b)

-- where nothing stood beside in any register, nothing does
pub alone_kept : (db : ℤ) (Changed : Key → ℕ → Type 0) (old new : Trees) → KeepsUnits db Changed old new → AreLeavesAlone old → AreLeavesAlone new
alone_kept db Changed old new kept alone = record {
  blocks = λ row there. elim (kept.shaped row there) [ inl was ↦ alone.blocks row was | inr leaf ↦ leaf ];
  leaves = λ d key. kept.alone d key (alone.leaves d key);
  alone = (kept.postings ∙ alone.alone.0, kept.dict ∙ alone.alone.1);
}

-- rows of other databases are as they were
pub kept_beside : (db : ℤ) (Changed : Key → ℕ → Type 0) (old new : Trees) → KeepsUnits db Changed old new → KeepsRowsBeside (Int db ∷ []) old new
kept_beside db Changed old new kept = record {
  postings = table_same (Int db ∷ []) postings_tree old new kept.postings;
  blocks = λ row other. kept.blocks row (λ it. other (Int (pos it.0.index) ∷ Int (pos (register_code it.0.register)) ∷ it.3) it.5);
  dict = table_same (Int db ∷ []) dict_tree old new kept.dict;
}

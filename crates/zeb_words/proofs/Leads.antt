-- A walk goes on over the first words of a list, and some kinds of fault may come of them.
use Rattle.zeb_words.proofs.Cited.{◌≡◌, ◌∙◌, refl, sym, ap, ap₂, List, [], ◌∷◌, fold, Names, Walk, Shape, Kinds, or_else, turn_fault, walked}
use Rattle.clap.specs.Faults.{walk_fault}
use Rattle.zeb_words.specs.Grammar.{Text}

pub else_none : (a : Kinds) → or_else a [] ≡ a
else_none [] = refl
else_none (k ∷ ks) = refl

pub else_joined : (a b c : Kinds) → or_else (or_else a b) c ≡ or_else a (or_else b c)
else_joined [] b c = refl
else_joined (k ∷ ks) b c = refl

pub none_of_both : (a b : Kinds) → or_else a b ≡ [] → (a ≡ []) × (b ≡ [])
none_of_both [] b e = (refl, e)
none_of_both (k ∷ ks) b e = cc

module _ (s : Shape) (names : Names) where
  -- the walk's end
  abbrev pub at_end : Walk → List Text → Walk
  at_end w words = fold (walked s.rules names) w words

  -- the walk over the words is the walk over the rest from another place, after these faults
  pub record Leads (w : Walk) (words : List Text) (after : Walk) (rest : List Text) (faults : Kinds) : Type 0 where
    pub fault : walk_fault s names w words ≡ or_else faults (walk_fault s names after rest)
    pub end : at_end w words ≡ at_end after rest

  pub stays : (w : Walk) (words : List Text) → Leads w words w words []
  stays w words = record { fault = refl; end = refl }

  pub goes : (w : Walk) (word : Text) (rest : List Text) (after : Walk) (faults : Kinds) → turn_fault s names w word ≡ faults → walked s.rules names w word ≡ after
      → Leads w (word ∷ rest) after rest faults
  unfolding walk_fault
  goes w word rest after faults f e = record {
    fault = ap₂ (λ a b. or_else a (walk_fault s names b rest)) f e;
    end = ap (λ b. at_end b rest) e;
  }

  pub goes_on : {w x y : Walk} {words more rest : List Text} {f g : Kinds} → Leads w words x more f → Leads x more y rest g → Leads w words y rest (or_else f g)
  goes_on {x = x} {y = y} {more = more} {rest = rest} {f = f} {g = g} a b = record {
    fault = a.fault ∙ ap (or_else f) b.fault ∙ sym (else_joined f g (walk_fault s names y rest));
    end = a.end ∙ b.end;
  }

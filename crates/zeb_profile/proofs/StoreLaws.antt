-- What a `store` line doesn't touch.
use Rattle.zeb_profile.proofs.Cited.{◌≡◌, ℕ, List, [], ◌∷◌, ◌++◌, map, Option, None, unwrap_or, refl, ap, sym, ◌∙◌, if◌then◌else◌, Directive, Store, Identifier, Att, Melm, Target, flat_map, position, option_and_then, option_or, canonical_line, canonical_text, all_line_targets, all_told, first_spelling, first_told, further_pairs, identifier_told, index_by_name, index_names, is_control, melm_targets, melm_told, name_told, names_in, pair_of, use_name, SaysTheSame, without_store, Register, same_name, all_targets, targets_in}
use Rattle.zeb_profile.specs.declared.directives.Directive.TheVariants.{All}

-- a function that goes over a list and passes over `store` lines
pub stays : {A : Type 0} (f : List Directive → A) (g : Directive → A → A) (step : (d : Directive) (ds : List Directive) → f (d ∷ ds) ≡ g d (f ds))
    (over : (path : List ℕ) (a : A) → g (Store path) a ≡ a) → (ds : List Directive) → f (without_store ds) ≡ f ds
stays f g step over [] = refl
stays f g step over (Store path ∷ ds) = stays f g step over ds ∙ sym (step (Store path) ds ∙ over path (f ds))
stays f g step over (Identifier p ∷ ds) = step (Identifier p) (without_store ds) ∙ ap (g (Identifier p)) (stays f g step over ds) ∙ sym (step (Identifier p) ds)
stays f g step over (Att n m ∷ ds) = step (Att n m) (without_store ds) ∙ ap (g (Att n m)) (stays f g step over ds) ∙ sym (step (Att n m) ds)
stays f g step over (Melm p ts ∷ ds) = step (Melm p ts) (without_store ds) ∙ ap (g (Melm p ts)) (stays f g step over ds) ∙ sym (step (Melm p ts) ds)
stays f g step over (All ts ∷ ds) = step (All ts) (without_store ds) ∙ ap (g (All ts)) (stays f g step over ds) ∙ sym (step (All ts) ds)

stays_flat : {B : Type 0} (k : Directive → List B) → ((path : List ℕ) → k (Store path) ≡ []) → (ds : List Directive) → flat_map k (without_store ds) ≡ flat_map k ds
stays_flat k none ds = stays (flat_map k) (λ d rest. k d ++ rest) (λ d rest. refl) (λ path rest. ap (λ front. front ++ rest) (none path)) ds

pub canonical_text-without_store : (ds : List Directive) → canonical_text (without_store ds) ≡ canonical_text ds
canonical_text-without_store ds = stays_flat canonical_line (λ path. refl) ds

pub all_targets-without_store : (ds : List Directive) → all_targets (without_store ds) ≡ all_targets ds
all_targets-without_store ds = stays_flat targets_in (λ path. refl) ds

spellings-without_store : (ds : List Directive) → flat_map names_in (without_store ds) ≡ flat_map names_in ds
spellings-without_store ds = stays_flat names_in (λ path. refl) ds

-- what the first directive tells doesn't depend on lines that tell nothing
first_told-without_store : {A : Type 0} (told : Directive → Option A) → ((path : List ℕ) → told (Store path) ≡ None)
    → (ds : List Directive) → first_told told (without_store ds) ≡ first_told told ds
first_told-without_store told none ds =
    stays (first_told told) (λ d rest. option_or (told d) rest) (λ d rest. refl) (λ path rest. ap (λ first. option_or first rest) (none path)) ds

index_names-without_store : (ds : List Directive) → index_names (without_store ds) ≡ index_names ds
index_names-without_store ds = rw (spellings-without_store ds, all_targets-without_store ds, first_spelling) refl

-- the targets of a unit, by the names of the indexes and the two lists of targets
abbrev targets_by : List ℕ → List (List ℕ) → List Target → List Target → List (ℕ × Register)
targets_by tag names melm all =
    map (pair_of names) melm ++ further_pairs (map (pair_of names) melm) (map (pair_of names) (if is_control tag then [] else all))

says_the_same : (ds : List Directive) → SaysTheSame (without_store ds) ds
says_the_same ds =
    let names = index_names-without_store ds in
    record {
      names = names;
      uses = λ number. ap (λ known. option_and_then (λ name. position (same_name name) known) (use_name number (without_store ds))) names
          ∙ ap (option_and_then (index_by_name ds)) (first_told-without_store (name_told number) (λ path. refl) ds);
      pairs = ap (λ known. map (pair_of known) (all_targets (without_store ds))) names ∙ ap (map (pair_of (index_names ds))) (all_targets-without_store ds);
      targets = λ tag code. ap (λ known. targets_by tag known (melm_targets tag code (without_store ds)) (all_line_targets (without_store ds))) names
          ∙ ap (λ melm. targets_by tag (index_names ds) melm (all_line_targets (without_store ds))) (ap (λ told. unwrap_or told []) (first_told-without_store (melm_told tag code) (λ path. refl) ds))
          ∙ ap (targets_by tag (index_names ds) (melm_targets tag code ds)) (ap (λ told. unwrap_or told []) (first_told-without_store all_told (λ path. refl) ds));
      identifier = first_told-without_store identifier_told (λ path. refl) ds;
    }

pub store_says_nothing_else : (ds : List Directive) → (canonical_text (without_store ds) ≡ canonical_text ds) × SaysTheSame (without_store ds) ds
store_says_nothing_else ds = (canonical_text-without_store ds, says_the_same ds)

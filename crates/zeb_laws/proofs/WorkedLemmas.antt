-- An update by one file whose one record has no fault and an identifier.
use Rattle.zeb_laws.proofs.Cited.{◌≡◌, ◌∙◌, ℕ, false, List, [], ◌∷◌, None, Some, Ok, Err, nat_le, refl, ap, bytes_eq-Decides, canonical_text, MarcFault, Update, Inserted, Updated, Why, why_of, changed, refused, Conditions, Changed, Progress, at_first, counted, updated, files_folded, ident_in, splits_of, Base, Kept, kept_as, with_new, with_bytes, base_named, marc_refusal, holding, start_of, named_record, folded_ok, step_changed, step_unchanged, first_fault, split_of, record_folded, with_base, turned, changed_by_files}
use Rattle.zeb_change.specs.Folding.{file_folded}
use Rattle.zeb_engine.specs.Steps.{ready}

-- what is held under these conditions is ready under them
pub ready_held : (c : Conditions) (bases : List Base) → ready c (holding c bases) ≡ Ok bases
unfolding ready
ready_held c bases = rw ((bytes_eq-Decides c.version c.version).1 refl, (bytes_eq-Decides (canonical_text c.profile) (canonical_text c.profile)).1 refl) refl

module _ (c : Conditions) (bytes ident : List ℕ) (base : Base) (room : nat_le c.limits.records 0 ≡ false) (whole : first_fault bytes ≡ None) (named : ident_in c.profile bytes ≡ Ok ident) where
  one_folded : (is : Changed) → updated c ident bytes base (kept_as ident base) ≡ Ok is → record_folded c Update 1 1 bytes (at_first base) ≡ Ok (counted is.0 (at_first base) is.1)
  one_folded is said = folded_ok c Update 1 1 bytes (at_first base) room is (named_record c Update 1 1 bytes base ident whole named ∙ said)

  pub new_folded : nat_le c.limits.numbers base.last ≡ false → kept_as ident base ≡ None → record_folded c Update 1 1 bytes (at_first base) ≡ Ok (counted (with_new ident bytes base) (at_first base) Inserted)
  new_folded space none =
      let said : updated c ident bytes base None ≡ Ok (with_new ident bytes base, Inserted) = rw space refl in
      one_folded (with_new ident bytes base, Inserted) (ap (updated c ident bytes base) none ∙ said)

  pub old_folded : (kept : Kept) → kept_as ident base ≡ Some kept → record_folded c Update 1 1 bytes (at_first base) ≡ Ok (counted (with_bytes ident bytes base) (at_first base) Updated)
  old_folded kept some = one_folded (with_bytes ident bytes base, Updated) (ap (updated c ident bytes base) some)

-- the file is folded where its record is; a fault behind the record refuses it
module _ (c : Conditions) (bytes text : List ℕ) (p q : Progress) (one : record_folded c Update 1 1 bytes p ≡ Ok q) where
  pub whole_file : split_of text ≡ record { slices = bytes ∷ []; fault = None } → files_folded c Update 1 (splits_of (text ∷ [])) p ≡ Ok q
  unfolding file_folded
  whole_file split = rw (split, one) refl

  pub faulty_file : (fault : MarcFault) → split_of text ≡ record { slices = bytes ∷ []; fault = Some fault } → files_folded c Update 1 (splits_of (text ∷ [])) p ≡ Err (why_of (marc_refusal 1 2 fault))
  unfolding file_folded
  faulty_file fault split = rw (split, one) refl

-- the update, from there on
module _ (c : Conditions) (name : List ℕ) (texts : List (List ℕ)) (bases : List Base) (start : Base) (starts : start_of Update name (base_named name bases) ≡ Ok start) where
  pub update_done : (p : Progress) → files_folded c Update 1 (splits_of texts) (at_first start) ≡ Ok p
      → turned c (changed_by_files c Update name (splits_of texts)) (holding c bases) ≡ (changed p.inserted p.updated p.deleted, holding c (with_base p.base bases))
  update_done p folds = step_changed c (holding c bases) name bases (ready_held c bases) Update (splits_of texts) start starts p folds

  pub update_refused : (why : Why) → files_folded c Update 1 (splits_of texts) (at_first start) ≡ Err why
      → turned c (changed_by_files c Update name (splits_of texts)) (holding c bases) ≡ (refused why, holding c bases)
  update_refused why folds = step_unchanged c (holding c bases) name bases (ready_held c bases) Update (splits_of texts) start starts why folds

-- A change of a database, from its first write to its last: what the tables hold on the way, and what the definition says of it.
use Rattle.zeb_engine.proofs.Cited.{◌≡◌, ◌⊎◌, ◌∙◌, ℕ, ℤ, pos, List, Option, Some, None, Result, Ok, Err, refl, sym, ap, subst, inl, inr, arith, Contains, option_map, Trees, State, contains_had, Split, canonical_text, pattern_text, identifier_pattern, PutsDatabase, Content, IsStore, Changes, HasDatabase, KeepsRegisters, databases_tree, Fold, Kind, Refusal, Why, why_of, Meets, changed, refused, reply_answer, IsFailure, MayBeginUnder, last_of, Conditions, AreSessions, IsDatabaseName, Progress, at_first, files_folded, Holdings, new_base, base_named, Base, AreBases, HasTexts, IsImage, IsImageOf, start_of, IsFolded, IsUnderWay, named_found, Format, holds_in, with_base, changed_by_files, ready, turned}
use Rattle.zeb_register.specs.declared.catalog.Database.{Database}
use Rattle.zeb_engine.specs.declared.replies.Reply.TheVariants as reply
use Rattle.zeb_engine.proofs.DatabasesOfImages.{image_numbered}
use Rattle.zeb_engine.proofs.Beginning.{texts_still}
use Rattle.zeb_engine.proofs.Creating.{with_new_base, created_image, new_base_in}
use Rattle.zeb_engine.proofs.FoldNames.{files_named}
use Rattle.zeb_engine.proofs.ReadyImages.{image_ready, ready_image}
use Rattle.zeb_engine.proofs.DatabaseInPlace.{base_twice, bases_with, image_with, next_in, stored_at_first}
use Rattle.zeb_engine.proofs.TurnedOutcomes.{Leads, step_changed, step_unchanged}

-- a row tells the id of its database
row_id : (format : Format) (profile : List _) (trees : Trees) (bases : List Base) (image : IsImageOf format profile trees bases) (id : ℤ) (name : List ℕ) (last : ℤ) → HasDatabase trees id name last → id ≡ image.lists.id_of name
row_id format profile trees bases image id name last row = let found = (image.lists.listed id name last).0 row in found.2 ∙ ap image.lists.id_of (sym found.3)

-- a row of databases is written, and nothing else
pub kept_registers : (id : ℤ) (name : List ℕ) (last : ℤ) (old new : State) → Changes databases_tree (PutsDatabase id name last) old new → KeepsRegisters old.now.trees new.now.trees
kept_registers id name last old new put =
    (put.others.1.1.1.0 (λ e. absurd (omega (arith, e))), put.others.1.1.1.1.0 (λ e. absurd (omega (arith, e))), put.others.1.1.1.1.1.0 (λ e. absurd (omega (arith, e))))

pub kept_records : (id : ℤ) (name : List ℕ) (last : ℤ) (old new : State) → Changes databases_tree (PutsDatabase id name last) old new → new.now.trees 4 ≡ old.now.trees 4
kept_records id name last old new put = put.others.1.1.0 (λ e. absurd (omega (arith, e)))

pub kept_texts : (id : ℤ) (name : List ℕ) (last : ℤ) (old new : State) → Changes databases_tree (PutsDatabase id name last) old new → new.now.trees 0 ≡ old.now.trees 0
kept_texts id name last old new put = put.others.0 (λ e. absurd (omega (arith, e)))

-- the register as the records begin to be folded in: the database is there, under this id and with this last number
pub record IsBegun (format : Format) (c : Conditions) (kind : Kind) (name : List ℕ) (before : Holdings) (id : ℤ) (last : ℕ) (mid : State) : Type 0 where
  pub bases : List Base
  pub start : Base
  pub is_ready : ready c before ≡ Ok bases
  pub starts : start_of kind name (base_named name bases) ≡ Ok start
  pub named : start.name ≡ name
  pub last_is : last ≡ start.last
  pub store : IsStore mid
  pub pattern : List ℕ
  pub pattern_is : option_map pattern_text (identifier_pattern c.profile) ≡ Some pattern
  pub texts : HasTexts mid.now.trees c.version (canonical_text c.profile) pattern
  pub are : AreBases c.profile (with_base start bases)
  pub there : Contains (with_base start bases) start
  pub image : IsImageOf format c.profile mid.now.trees (with_base start bases)
  pub its_id : id ≡ image.lists.id_of start.name

module _ (format : Format) (stays : (a b : Trees) (content : Content) → KeepsRegisters a b → holds_in format a content → holds_in format b content) (c : Conditions) (session : AreSessions format c) (kind : Kind) (name : List ℕ) (is_name : IsDatabaseName name)
    (before : Holdings) where
  module _ (old mid : State) (image : IsImage old.now.trees before) (id : ℤ) where
    begun_new : MayBeginUnder kind name None c old.now.trees before → Changes databases_tree (PutsDatabase id name (pos 0)) old mid → IsBegun format c kind name before id 0 mid
    begun_new fits put =
        let at = image_ready format c session old.now.trees before fits.0 fits.1 image in
        let records = kept_records id name (pos 0) old mid put in
        let made = created_image format stays c.profile old.now.trees mid.now.trees name fits.0 at.image at.are fits.2 id put.rows records (kept_registers id name (pos 0) old mid put) in
        record {
          bases = fits.0;
          start = new_base name;
          is_ready = fits.1;
          starts = ap (start_of kind name) fits.2 ∙ ap (λ (k : Kind). start_of k name None) fits.3;
          named = refl;
          last_is = refl;
          store = put.layout;
          pattern = at.pattern;
          pattern_is = at.pattern_is;
          texts = texts_still old.now.trees mid.now.trees _ _ at.pattern (kept_texts id name (pos 0) old mid put) at.texts;
          are = with_new_base c.profile name is_name fits.0 at.are;
          there = new_base_in c.profile name fits.0 at.are;
          image = made;
          its_id = row_id format c.profile mid.now.trees (with_base (new_base name) fits.0) made id name (pos 0) ((put.rows.each id name (pos 0)).1 (inr (refl, refl, refl)));
        }

    begun_there : (found : Database) → MayBeginUnder kind name (Some found) c old.now.trees before → Changes databases_tree (PutsDatabase id name (pos found.last)) old mid → IsBegun format c kind name before id found.last mid
    begun_there found fits put =
        let bases = fits.0 in
        let base = fits.1 in
        let at = image_ready format c session old.now.trees before bases fits.2 image in
        let it = named_found name bases base fits.3 in
        let there = contains_had bases base it.0 in
        let registers = kept_registers id name (pos found.last) old mid put in
        let records = kept_records id name (pos found.last) old mid put in
        let rows : PutsDatabase id base.name (pos base.last) databases_tree old.now.trees mid.now.trees =
        subst (λ n. PutsDatabase id n (pos base.last) databases_tree old.now.trees mid.now.trees) it.1 (subst (λ (l : ℕ). PutsDatabase id name (pos l) databases_tree old.now.trees mid.now.trees) fits.5 put.rows) in
        let was = at.image.lists.id_of base.name in
        let stored = stored_at_first format c.profile bases base there old.now.trees at.image was refl in
        let made = image_with format c.profile bases base there at.are base refl stays old.now.trees old.now.trees mid.now.trees at.image was refl stored refl id rows records registers in
        record {
          bases = bases;
          start = base;
          is_ready = fits.2;
          starts = ap (start_of kind name) fits.3;
          named = sym it.1;
          last_is = fits.5;
          store = put.layout;
          pattern = at.pattern;
          pattern_is = at.pattern_is;
          texts = texts_still old.now.trees mid.now.trees _ _ at.pattern (kept_texts id name (pos found.last) old mid put) at.texts;
          are = bases_with format c.profile bases base there at.are base refl (at.are.each base there);
          there = next_in format c.profile bases base there at.are base refl;
          image = made;
          its_id = row_id format c.profile mid.now.trees (with_base base bases) made id base.name (pos base.last) ((rows.each id base.name (pos base.last)).1 (inr (refl, refl, refl)));
        }

    pub begun : (found : Option Database) → MayBeginUnder kind name found c old.now.trees before → Changes databases_tree (PutsDatabase id name (pos (last_of found))) old mid → IsBegun format c kind name before id (last_of found) mid
    begun None fits put = begun_new fits put
    begun (Some found) fits put = begun_there found fits put

  module _ (mid : State) (id : ℤ) (last : ℕ) (b : IsBegun format c kind name before id last mid) where
    pub first_way : IsUnderWay format c.profile id b.image.lists.records_of mid b.start
    first_way = (
      b.store,
      stored_at_first format c.profile (with_base b.start b.bases) b.start b.there mid.now.trees b.image id b.its_id,
      b.are.each b.start b.there,
      image_numbered format c.profile mid.now.trees (with_base b.start b.bases) b.are b.image,
    )

    module _ (splits : List Split) where
      -- the fold was refused
      pub fold_refused : (refusal : Refusal) {X : Type 0} (Good : Progress → X → Type 0) → Meets Good (files_folded c kind 1 splits (at_first b.start)) (Err refusal)
          → IsFailure (refused (why_of refusal)) ⊎ (turned c (changed_by_files c kind name splits) before ≡ (refused (why_of refusal), before))
      fold_refused refusal {X} Good met = by (files_folded c kind 1 splits (at_first b.start)) refl met
        where
          refused_so : files_folded c kind 1 splits (at_first b.start) ≡ Err (why_of refusal) → turned c (changed_by_files c kind name splits) before ≡ (refused (why_of refusal), before)
          refused_so is = step_unchanged c before name b.bases b.is_ready kind splits b.start b.starts (why_of refusal) is

          by : (said : Result Progress Why) → files_folded c kind 1 splits (at_first b.start) ≡ said → Meets Good said (Err refusal)
              → IsFailure (refused (why_of refusal)) ⊎ (turned c (changed_by_files c kind name splits) before ≡ (refused (why_of refusal), before))
          by (Ok p) is (inl failed) = inl failed
          by (Ok p) is (inr said) = inr (refused_so (is ∙ said))
          by (Err why) is (inl failed) = inl failed
          by (Err why) is (inr said) = inr (refused_so (is ∙ said))

      -- the fold was done: how far the definition has come
      pub fold_done : {X : Type 0} (Good : Progress → X → Type 0) (x : X) → Meets Good (files_folded c kind 1 splits (at_first b.start)) (Ok x) → (p : Progress) × (files_folded c kind 1 splits (at_first b.start) ≡ Ok p) × Good p x
      fold_done {X} Good x met = by (files_folded c kind 1 splits (at_first b.start)) refl met
        where
          by : (said : Result Progress Why) → files_folded c kind 1 splits (at_first b.start) ≡ said → Meets Good said (Ok x) → (p : Progress) × (files_folded c kind 1 splits (at_first b.start) ≡ Ok p) × Good p x
          by (Ok p) is met = (p, is, met)
          by (Err why) is met = absurd met

      -- and the last number is written
      module _ (p : Progress) (folds : files_folded c kind 1 splits (at_first b.start) ≡ Ok p) (now new : State) (fold : Fold) (folded : IsFolded format c.profile id b.image.lists.records_of mid now fold p)
          (put_id : ℤ) (put : Changes databases_tree (PutsDatabase put_id name (pos fold.progress.last)) now new) where
        same_name : p.base.name ≡ b.start.name
        same_name = files_named c kind 1 splits (at_first b.start) p folds

        rows_put : PutsDatabase put_id p.base.name (pos p.base.last) databases_tree now.now.trees new.now.trees
        rows_put = subst (λ n. PutsDatabase put_id n (pos p.base.last) databases_tree now.now.trees new.now.trees) (sym (same_name ∙ b.named))
            (subst (λ (l : ℕ). PutsDatabase put_id name (pos l) databases_tree now.now.trees new.now.trees) folded.stands.last put.rows)

        image_then : IsImageOf format c.profile new.now.trees (with_base p.base b.bases)
        image_then = subst (IsImageOf format c.profile new.now.trees) (base_twice p.base b.start same_name b.bases)
            (image_with format c.profile (with_base b.start b.bases) b.start b.there b.are p.base same_name stays mid.now.trees now.now.trees new.now.trees b.image id b.its_id folded.under_way.1 folded.names.1 put_id rows_put
            (kept_records put_id name (pos fold.progress.last) now new put) (kept_registers put_id name (pos fold.progress.last) now new put))

        bases_then : AreBases c.profile (with_base p.base b.bases)
        bases_then = subst (AreBases c.profile) (base_twice p.base b.start same_name b.bases) (bases_with format c.profile (with_base b.start b.bases) b.start b.there b.are p.base same_name folded.under_way.2)

        texts_then : HasTexts new.now.trees c.version (canonical_text c.profile) b.pattern
        texts_then = texts_still mid.now.trees new.now.trees c.version (canonical_text c.profile) b.pattern (kept_texts put_id name (pos fold.progress.last) now new put ∙ folded.names.0) b.texts

        counts : changed p.inserted p.updated p.deleted ≡ reply_answer (reply.Changed fold.tally.inserted fold.tally.updated fold.tally.deleted)
        counts =
            ap (λ n. changed n p.updated p.deleted) (sym folded.stands.inserted) ∙ ap (λ n. changed fold.tally.inserted n p.deleted) (sym folded.stands.updated)
            ∙ ap (λ n. changed fold.tally.inserted fold.tally.updated n) (sym folded.stands.deleted)

        pub change_leads : Leads new (reply.Changed fold.tally.inserted fold.tally.updated fold.tally.deleted) (turned c (changed_by_files c kind name splits) before)
        change_leads = subst (Leads new (reply.Changed fold.tally.inserted fold.tally.updated fold.tally.deleted)) (sym (step_changed c before name b.bases b.is_ready kind splits b.start b.starts p folds))
            (counts, put.layout, ready_image format c session new.now.trees (with_base p.base b.bases) (record { pattern = b.pattern; pattern_is = b.pattern_is; texts = texts_then; are = bases_then; image = image_then }))

use Rattle.zeb_packed.proofs.Cited.{◌≡◌, ◌∙◌, ◌*◌, ◌++◌, [], ◌∷◌, ℕ, List, length, take, refl, sym, ap, subst, inl, inr, true, arith, take_all, sum_by, state, Posting, TermCount, Work, key_in, HasMalformed, ListsUnits, packed_blocks, blocks_of, Rises, has_at, rises_last, rises_then, AreListed, ListsAll}
use Rattle.zeb_register.proofs.CountLists.{one_all, one_listed, some_uncounted}
use Rattle.zeb_register.proofs.LooksInTurn.{looks_behind, looks_handed, looks_handed_behind, looks_so}
use Rattle.zeb_packed.proofs.PackedTotals.{lists_more, lists_summed, sums_up}
use Rattle.zeb_packed.proofs.blocks.BlocksLayout.totals.Goals as goal

pub returns-in_err-terms-clause-units : goal.returns-in_err-terms-clause-units
returns-in_err-terms-clause-units g c = looks_handed _ _ _ c.from_residual.result _ _ _ _ c.in_err-terms.ensures.units c.from_residual.ensures.1 (λ store hides. (hides.0, inl hides.1))

pub loop-term-init : goal.loop-term-init
loop-term-init g c =
    let at = c.args.at in
    record {
      looks = looks_so _ _ _ true _ _ _ _ c.in_ok-terms.ensures.units (λ store all. record {
        all = subst (ListsAll packed_blocks (state g.S.Store c.args.conn.now).now.trees at.db.0 at.index at.register) (sym c.deref-term-items.ensures.value) all;
        lists = [];
        listed = tt;
        postings = refl;
        blocks = inl (omega arith);
      });
      others = refl;
      fits = inl refl;
    }

pub returns-in_err-more-clause-units : goal.returns-in_err-more-clause-units
returns-in_err-more-clause-units g c =
    let trees = (state g.S.Store c.args.conn.now).now.trees in
    let at = c.args.at in
    let items = c.deref-term-items.result.now in
    let item = c.term-item.result in
    looks_handed_behind _ _ _ _ _ _ _ _ _ _ c.loop-term.invariant.looks _ c.from_residual-in_err-more.result c.in_err-more.ensures.finds c.from_residual-in_err-more.ensures.1 (λ store over bad. (
      item.term,
      inr (
        some_uncounted packed_blocks trees at.db.0 at.index at.register items over.all item (has_at items c.loop-term.term-index item c.term-item.is c.loop-term-test.true),
        subst (λ (term : List ℕ). HasMalformed trees at.db.0 (key_in at.index at.register term)) c.as_str.ensures bad,
      ),
    ))

pub loop-term-preserved : goal.loop-term-preserved
loop-term-preserved g c =
    let inv = c.loop-term.invariant in
    let trees = (state g.S.Store c.args.conn.now).now.trees in
    let at = c.args.at in
    let item = c.term-item.result in
    record {
      looks = looks_behind _ _ _ _ _ _ _ _ _ _ inv.looks _ true c.in_ok-more.ensures.finds (λ store over more.
          let own = subst (λ (term : List ℕ). ListsUnits packed_blocks trees at.db.0 (key_in at.index at.register term) more.0) c.as_str.ensures more.1 in
          record {
            all = over.all;
            lists = over.lists ++ more.0 ∷ [];
            listed = lists_more trees at.db.0 at.index at.register c.deref-term-items.result.now c.loop-term.term-index item c.loop-term-test.true c.term-item.is over.lists more.0 over.listed own;
            postings = omega (arith, c.saturating_add-occurrences.ensures, over.postings, more.2, lists_summed length over.lists more.0);
            blocks = subst (λ (k : ℕ). Rises k c.terms_of.new.work.block_read c.term_postings.new.work.block_read) (sym (lists_summed blocks_of over.lists more.0))
                (rises_then _ _ c.terms_of.new.work.block_read c.loop-term.work.block_read c.term_postings.new.work.block_read c.in_ok-more.ensures.fits over.blocks more.3);
          });
      others = c.term_postings.ensures.others ∙ ap (λ (w : Work). record w { block_read = c.term_postings.new.work.block_read }) inv.others;
      fits = inr c.in_ok-more.ensures.fits;
    }

pub returns-clause-units : goal.returns-clause-units
returns-clause-units g c =
    let at = c.args.at in
    let items = c.deref-term-items.result.now in
    let trees = (state g.S.Store c.args.conn.now).now.trees in
    looks_so _ _ _ _ _ _ _ _ c.loop-term.invariant.looks (λ store over.
    sums_up trees at.db.0 at.index at.register items over.lists over.all (subst (λ (l : List TermCount). AreListed packed_blocks trees at.db.0 at.index at.register l over.lists) (take_all _ _ c.loop-term-test.false) over.listed) _
    (omega (arith, c.len.ensures, c.in_ok-terms.terms.ok.0, ap length c.deref-term-items.ensures.value)) over.postings)

pub returns-clause-work : goal.returns-clause-work
returns-clause-work g c clean store terms given all listed =
    let inv = c.loop-term.invariant in
    let at = c.args.at in
    let trees = (state g.S.Store c.args.conn.now).now.trees in
    let items = c.deref-term-items.result.now in
    let over = inv.looks.finds clean store in
    let same : items ≡ terms = one_all packed_blocks trees at.db.0 at.index at.register items terms over.all all in
    let whole : take c.loop-term.term-index items ≡ terms = take_all _ _ c.loop-term-test.false ∙ same in
    let also : over.lists ≡ given = one_listed packed_blocks trees at.db.0 at.index at.register terms over.lists given (subst (λ (l : List TermCount). AreListed packed_blocks trees at.db.0 at.index at.register l over.lists) whole over.listed) listed in
    let first = c.in_ok-terms.ensures.work in
    let blocks = subst (λ (l : List (List Posting)). Rises (sum_by blocks_of l) c.terms_of.new.work.block_read c.loop-term.work.block_read) also over.blocks in
    record {
      reads_terms = subst (λ (w : Work). Rises (1 * length terms) c.args.work.now.dict_read w.dict_read) (sym inv.others) (subst (λ (l : List TermCount). Rises (1 * length l) c.args.work.now.dict_read c.terms_of.new.work.dict_read) (sym c.deref-term-items.ensures.value ∙ same) first.reads_terms);
      writes_terms = subst (λ (w : Work). Rises 0 c.args.work.now.dict_written w.dict_written) (sym inv.others) first.writes_terms;
      reads_blocks = rises_last (sum_by blocks_of given) c.args.work.now.block_read c.terms_of.new.work.block_read c.loop-term.work.block_read inv.fits first.reads_blocks blocks;
      writes_blocks = subst (λ (w : Work). Rises 0 c.args.work.now.block_written w.block_written) (sym inv.others) first.writes_blocks;
    }

use Rattle.zeb_engine.proofs.Cited.{rules, ◌++◌, ◌∷◌, [], ℤ, List, arith, get_or, subst, sym, take, state, Trees, Word, Directive, Format, SumsUp, take_whole, Holding, extent_of, IsSummedUp, Paired, Target, has_at, get_or_default, take_more}
use Rattle.zeb_search.proofs.SearchesInTurn.{as_searched, searches_behind, searches_failed_behind, searches_handed_behind, searches_so, searches_starved, searches_still}
use Rattle.zeb_engine.proofs.AskingInTurn.{Uncounted}
use Rattle.zeb_engine.proofs.StatAnswers.{paired_more}
use Rattle.zeb_engine.proofs.stat.holdings_of.Goals as goal

abbrev IsSummedHolding : Format → List Directive → Trees → ℤ → Target → Holding → Type 0
IsSummedHolding format profile trees db target holding = IsSummedUp format profile trees db target (extent_of holding)

pub returns-in_err-holdings : goal.returns-in_err-holdings
returns-in_err-holdings g c = searches_starved c.from_residual.ensures.1

pub loop-target-init : goal.loop-target-init
loop-target-init g c = record { count = search rules; room = search rules; searched = searches_still (λ store. search rules) (λ content has. tt) }

pub loop-target-preserved : goal.loop-target-preserved
loop-target-preserved g c =
    let format = g.L.Layout.format in
    let trees = (state g.S.Store c.args.connection.now).now.trees in
    let targets = c.args.targets.now in
    let index = c.loop-target.target-index in
    let target : Target = get_or targets index (0, Word) in
    let Summed = IsSummedHolding format c.args.profile.now trees c.args.database.0 in
    record {
      count = search rules;
      room = search rules;
      searched = searches_behind c.loop-target.invariant.searched (as_searched {C = Uncounted} c.in_ok-totals.ensures.units c.totals.ensures.no_work (λ clean store content has. tt)) (λ store before sums.
          let is : Summed target c.in_ok-holding_of.field-0 = record {
            under = record { name = c.in_ok-holding_of.ensures.name; register = c.in_ok-holding_of.ensures.register };
            sums = subst (SumsUp format trees c.args.database.0 target.0 target.1) (sym c.in_ok-holding_of.ensures.totals) sums;
          } in
          let more = paired_more Summed (take index targets) c.loop-target.holdings.items target c.in_ok-holding_of.field-0 before is in
          subst (λ (l : List Target). Paired Summed l c.push_reserved.new.self.items) (sym (take_more targets index (0, Word) c.loop-target-test.true))
          (subst (Paired Summed (take index targets ++ target ∷ [])) (sym c.push_reserved.ensures.items) more)) (λ content has before sums counts more. tt);
    }

pub returns : goal.returns
returns g c =
    let whole = take_whole c.args.targets.now c.loop-target.target-index (omega (arith, c.loop-target-test.false)) in
    let Summed = IsSummedHolding g.L.Layout.format c.args.profile.now (state g.S.Store c.args.connection.now).now.trees c.args.database.0 in
    searches_so c.loop-target.invariant.searched (λ store told. subst (λ (l : List Target). Paired Summed l c.loop-target.holdings.items) whole told) (λ content has told counts. tt)

pub returns-in_err-totals : goal.returns-in_err-totals
returns-in_err-totals g c =
    let targets = c.args.targets.now in
    let index = c.loop-target.target-index in
    let target : Target = get_or targets index (0, Word) in
    let there = has_at targets index target c.loop-target-test.true (get_or_default targets index (0, Word) target c.loop-target-test.true) in
    searches_handed_behind c.loop-target.invariant.searched (as_searched {C = Uncounted} c.in_err-totals.ensures.units c.totals.ensures.no_work tt) c.from_residual-in_err-totals.ensures.1 (λ store told hidden. (target, there, hidden))

pub returns-in_err-holding_of : goal.returns-in_err-holding_of
returns-in_err-holding_of g c =
    searches_failed_behind c.loop-target.invariant.searched (as_searched {C = Uncounted} c.in_ok-totals.ensures.units c.totals.ensures.no_work (λ clean store content has. tt)) c.from_residual-in_err-holding_of.ensures.1

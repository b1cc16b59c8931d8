use Rattle.zeb_engine.proofs.Cited.{◌≡◌, ◌∙◌, ◌+◌, ◌<◌, ◌≤◌, ◌^◌, ◌++◌, ℕ, ℤ, State, Ok, Vec, Global, arith, ap, subst, sym, state, AreReadable, JoinsRecords, LooksThrough, IsFirstFrom}
use Rattle.zeb_search.proofs.SearchesInTurn.{searches_behind, searches_failed_behind, searches_handed_behind, searches_so, searches_still}
use Rattle.zeb_engine.proofs.AskingInTurn.{looks_uncounted, searched_through}
use Rattle.zeb_engine.proofs.ReadingOn.{ReadTo, none_left, read_next, read_none, read_stored, read_whole}
use Rattle.zeb_engine.proofs.dump.bytes_of.Goals as goal
use Rattle.zeb_engine.proofs.dump.bytes_of.Goals.{else-loop-turn-test, then-loop-turn-test+in_ok-record+in_default}

-- what is joined of the records
abbrev Joined : State → State → ℤ → Vec ℕ Global → Type 0
Joined old new db bytes = LooksThrough {A = Vec ℕ Global} old new (Ok bytes) (λ trees. ¬ AreReadable trees db) (λ trees joined. JoinsRecords trees db joined.items)

pub loop-turn-init : goal.loop-turn-init
loop-turn-init g c =
    let trees = (state g.S.Store c.args.connection.now).now.trees in
    record { searched = searches_still (λ store. (omega arith, subst (ReadTo trees c.args.database.0 0) (sym c.new-bytes.ensures.items) (read_none trees c.args.database.0))) (λ content has. tt) }

pub loop-turn-preserved : goal.loop-turn-preserved
loop-turn-preserved g c =
    let trees = (state g.S.Store c.args.connection.now).now.trees in
    let db = c.args.database.0 in
    let next = c.loop-turn.next in
    record {
      searched = searches_behind c.loop-turn.invariant.searched (looks_uncounted _ c.in_ok-record.ensures) (λ store before value.
          let small = read_stored trees db next c.in_ok-record.field-0 c.in-Some.record c.in-Some.is value.large in
          let found = subst (IsFirstFrom trees db next) c.in-Some.is (value.small small) in
          let most : c.saturating_add-next.result ≤ c.in-Some.record.sysno + 1 = omega (arith, c.saturating_add-next.ensures) in
          let up : c.saturating_add-next.result < 2 ^ 63 → c.saturating_add-next.result ≡ c.in-Some.record.sysno + 1 = λ less. omega (arith, less, c.saturating_add-next.ensures) in
          let more = read_next trees db next c.saturating_add-next.result c.loop-turn.bytes.items c.in-Some.record small most up before.1 found in (
            omega (arith, before.0, found.1, small, c.saturating_add-next.ensures),
            subst (ReadTo trees db c.saturating_add-next.result) (sym (c.in_ok-extend_from_slice.ensures.items ∙ ap (λ l. c.loop-turn.bytes.items ++ l) c.deref.ensures.value)) more,
          )) (λ content has before value counts more. tt);
    }

pub returns : goal.returns
returns g c =
    let old = state g.S.Store c.args.connection.now in
    let trees = old.now.trees in
    let db = c.args.database.0 in
    let next = c.loop-turn.next in
    elim c.loop-turn-test.branch [
      | else-loop-turn-test w ↦ subst (λ k. Joined old (state g.S.Store k) db c.loop-turn.bytes) (sym w.connection-is) (searched_through (searches_so c.loop-turn.invariant.searched (λ store before.
          read_whole trees db next c.loop-turn.bytes.items before.1 (λ n stored there. omega (arith, before.0, stored, w.loop-turn-test.false))) (λ content has before counts. tt)))
      | then-loop-turn-test+in_ok-record+in_default w ↦ subst (λ k. Joined old (state g.S.Store k) db c.loop-turn.bytes) (sym w.connection-is) (searched_through (searches_behind c.loop-turn.invariant.searched (looks_uncounted _ w.in_ok-record.ensures) (λ store before value.
          read_whole trees db next c.loop-turn.bytes.items before.1 (λ n stored there. none_left trees db next n w.in_ok-record.field-0 w.in_default.is value.small stored there)) (λ content has before value counts more. tt)))
    ]

pub returns-in_err-record : goal.returns-in_err-record
returns-in_err-record g c = searched_through (searches_handed_behind c.loop-turn.invariant.searched (looks_uncounted _ c.in_err-record.ensures) c.from_residual.ensures.1 (λ store before hidden. hidden))

pub returns-in_err-extend_from_slice : goal.returns-in_err-extend_from_slice
returns-in_err-extend_from_slice g c = searched_through (searches_failed_behind c.loop-turn.invariant.searched (looks_uncounted _ c.in_ok-record.ensures) c.from_residual-in_err-extend_from_slice.ensures.1)

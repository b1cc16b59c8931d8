use Rattle.zeb_profile.proofs.Cited.{◌≡◌, ◌+◌, Some, true, false, not, refl, ap, sym, ◌∙◌, drop, find, option_map, string_bytes, is_some, get_by_text, name_key, ties_unknown, directives_in}
use Rattle.zeb_profile.proofs.Lacks.{no_tie}
use Rattle.zeb_profile.proofs.NamesByNumber.{drop-next, index_known}
use Rattle.zeb_profile.proofs.reading.unknown_use.Goals.{in-Att+in_ok-key+else-not-contains_key, in_default}
use Rattle.zeb_profile.proofs.reading.unknown_use.Goals as goal

pub returns-then-not-contains_key : goal.returns-then-not-contains_key
returns-then-not-contains_key c =
    let directives = directives_in c.args.placed.now in
    let next = drop-next c.args.placed.now c.loop-line.line-index c.line-item.result c.loop-line-test.true c.line-item.is in
    let keyed : string_bytes c.in_ok-key.key ≡ name_key c.in-Att.name = c.in_ok-key.ensures in
    let none : is_some (get_by_text c.args.indexes.now.numbers (name_key c.in-Att.name)) ≡ false =
    rw (← keyed, ← c.as_str.ensures.value, ← c.contains_key.ensures) c.if-not-contains_key.true in
    let unknown : ties_unknown directives c.line-item.result.directive ≡ true =
    rw c.in-Att.is (ap not (sym (index_known c.args.indexes.now directives c.in-Att.name c.requires) ∙ none)) in
    let here : find (λ line. ties_unknown directives line.directive) (drop c.loop-line.line-index c.args.placed.now) ≡ Some c.line-item.result = rw (next, unknown) refl in
    ap (option_map (λ line. line.line)) (sym here ∙ c.loop-line.invariant)

pub loop-line-preserved : goal.loop-line-preserved
loop-line-preserved c =
    let directives = directives_in c.args.placed.now in
    let next = drop-next c.args.placed.now c.loop-line.line-index c.line-item.result c.loop-line-test.true c.line-item.is in
    let tied : ties_unknown directives c.line-item.result.directive ≡ false = elim c.match-line.branch [
      | in-Att+in_ok-key+else-not-contains_key w ↦
          let keyed : string_bytes w.in_ok-key.key ≡ name_key w.in-Att.name = w.in_ok-key.ensures in
          let known : is_some (get_by_text c.args.indexes.now.numbers (name_key w.in-Att.name)) ≡ true =
          rw (← keyed, ← w.as_str.ensures.value, ← w.contains_key.ensures) w.if-not-contains_key.false in
          rw w.in-Att.is (ap not (sym (index_known c.args.indexes.now directives w.in-Att.name c.requires) ∙ known))
      | in_default w ↦ no_tie directives c.line-item.result.directive w.in_default.not-Att
    ] in
    let passed : find (λ line. ties_unknown directives line.directive) (drop c.loop-line.line-index c.args.placed.now) ≡ find (λ line. ties_unknown directives line.directive) (drop (c.loop-line.line-index + 1) c.args.placed.now) = rw (next, tied) refl in
    sym passed ∙ c.loop-line.invariant

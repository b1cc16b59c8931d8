use Rattle.zeb_profile.proofs.Cited.{◌≡◌, ◌<◌, ◌^◌, length, Some, Ok, ap, refl, ◌∙◌, subst, sym, ℕ, List, Placed, canonical_text, AreIndexes, index_names, directives_on, line_value, resolved, Settles, FailsPlaced, directives_in, lack_of, placed_lines, profile_of, unless, map}
use Rattle.zeb_profile.proofs.Lacks.{fault_given, lack_of_text}
use Rattle.zeb_profile.proofs.ResolvedLines.{resolved-directives}
use Rattle.zeb_profile.proofs.lookups.Profile.read.Goals as goal

pub invariant_of-result : goal.invariant_of-result
invariant_of-result c =
    let placed = c.in_ok-placed.placed.items in
    let directives = directives_in placed in
    let settled : Settles placed c.in_ok-settled.settled = subst (λ (lines : List Placed). Settles lines c.in_ok-settled.settled) c.deref-2.ensures.value c.in_ok-settled.ensures.settled in
    let said : profile_of c.args.text.now ≡ Ok directives = rw (c.in_ok-placed.ensures, settled.whole) refl in
    let are : AreIndexes c.in_ok-indexes.indexes directives = subst (λ (lines : List Placed). AreIndexes c.in_ok-indexes.indexes (directives_in lines)) c.deref.ensures.value c.in_ok-indexes.ensures in
    let names : c.in_ok-indexes.indexes.names.items ≡ index_names directives = are.names in
    let lines : map line_value c.in_ok-lines.lines.items ≡ map (resolved c.in_ok-indexes.indexes.names.items) directives = c.in_ok-lines.ensures in
    let same : directives_on c.in_ok-lines.lines.items ≡ directives = resolved-directives _ _ _ lines in
    rw same (
      names,
      subst (λ (names : List (List ℕ)). length names < 2 ^ 32) (sym names) settled.few,
      lines,
      settled.identifier,
      settled.store ∙ ap Some (sym c.in_ok-store.ensures.ok),
      c.in_ok-text.ensures ∙ ap (λ lines. canonical_text (directives_in lines)) c.deref-3.ensures.value,
      ∣ record { text = c.args.text.now; reads = said } ∣₁,
    )

pub returns-in_err-settled : goal.returns-in_err-settled
returns-in_err-settled c =
    let placed = c.in_ok-placed.placed.items in
    let fault = c.in_err-settled.field-0.0 in
    let read : placed_lines c.args.text.now ≡ Ok placed = c.in_ok-placed.ensures in
    let lacks : FailsPlaced fault (unless (lack_of placed) placed) =
    subst (λ (lines : List Placed). FailsPlaced fault (unless (lack_of lines) lines)) c.deref-2.ensures.value c.in_err-settled.ensures.lacks in
    fault_given (λ profile. profile) c.from_residual-in_err-settled.result fault (profile_of c.args.text.now) c.from_residual-in_err-settled.ensures (lack_of_text fault c.args.text.now placed read lacks)

pub returns : goal.returns
returns c =
    let placed = c.in_ok-placed.placed.items in
    let directives = directives_in placed in
    let settled : Settles placed c.in_ok-settled.settled = subst (λ (lines : List Placed). Settles lines c.in_ok-settled.settled) c.deref-2.ensures.value c.in_ok-settled.ensures.settled in
    let said : profile_of c.args.text.now ≡ Ok directives = rw (c.in_ok-placed.ensures, settled.whole) refl in
    let lines : map line_value c.in_ok-lines.lines.items ≡ map (resolved c.in_ok-indexes.indexes.names.items) directives = c.in_ok-lines.ensures in
    let same : directives_on c.in_ok-lines.lines.items ≡ directives = resolved-directives _ _ _ lines in
    said ∙ ap Ok (sym same)

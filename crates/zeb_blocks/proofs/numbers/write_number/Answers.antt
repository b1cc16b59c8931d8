-- The lowest group is put, and then the rest of the number is left.
use Rattle.zeb_blocks.proofs.Cited.{◌<◌, ◌^◌, ◌%◌, ◌+◌, ◌/◌, ◌++◌, ◌∷◌, [], ℕ, List, ◌∙◌, ap, arith, append_assoc}
use Rattle.zeb_blocks.specs.Numbers.{uleb}
use Rattle.zeb_blocks.proofs.Bytes.{uleb-low, uleb-high}
use Rattle.zeb_blocks.proofs.numbers.write_number.Goals as goal

pub loop-left-preserved : goal.loop-left-preserved
loop-left-preserved c =
    let left = c.loop-left.left in
    let fits : left < 2 ^ 64 = omega arith in
    let before = rw (uleb-high left c.loop-left-test.true fits) at c.loop-left.invariant.spelled in
    let so_far = c.loop-left.invariant.begun in
    let put = c.in_ok-push.ensures.items in
    record {
      spelled = rw (put, append_assoc c.loop-left.out.items ((left % 128 + 128) ∷ []) (uleb (left / 128))) before;
      begun = (so_far.0 ++ (left % 128 + 128) ∷ [], put ∙ ap (λ (bytes : List ℕ). bytes ++ (left % 128 + 128) ∷ []) so_far.1 ∙ append_assoc c.args.out.now.items so_far.0 ((left % 128 + 128) ∷ []));
    }

pub returns-clause-ok : goal.returns-clause-ok
returns-clause-ok c =
    let before = rw (uleb-low c.loop-left.left c.loop-left-test.false) at c.loop-left.invariant.spelled in
    c.in_ok-push-2.ensures.items ∙ before

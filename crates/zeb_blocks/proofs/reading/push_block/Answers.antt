-- The postings that were put there are those of the block, or there are none.
use Rattle.zeb_blocks.proofs.Cited.{◌≢◌, ◌/◌, ◌∙◌, inl, inr, length, sym, ap, arith, common_steps, Posting, start_of}
use Rattle.zeb_blocks.specs.Records.{record_count}
use Rattle.zeb_blocks.proofs.Lists.{same_list}
use Rattle.zeb_blocks.proofs.Taking.{no_list, no_start, outside, spells_start}
use Rattle.zeb_blocks.proofs.Walking.{block_spelled, nothing_spelled}
use Rattle.zeb_blocks.proofs.reading.push_block.Goals as goal

pub returns-in_default-clause-damaged : goal.returns-in_default-clause-damaged
returns-in_default-clause-damaged c = no_start c.args.block c.args.bytes.now c.in_default.ensures

pub returns-in_default-2-clause-damaged : goal.returns-in_default-2-clause-damaged
returns-in_default-2-clause-damaged c =
    let none = rw (c.in_default-2.is, c.in-Some.ensures.1) at c.in_ok-last.ensures.found in
    no_list c.args.block c.args.bytes.now none

pub returns-then-is_empty-clause-damaged : goal.returns-then-is_empty-clause-damaged
returns-then-is_empty-clause-damaged c =
    let found = rw (c.in-Some-2.is, c.in-Some.ensures.1) at c.in_ok-last.ensures.found in
    elim c.then-is_empty.either [
      | inl empty ↦ nothing_spelled c.args.block c.args.bytes.now (grind (arith, common_steps, empty))
      | inr far ↦ outside c.args.block c.args.bytes.now found.0 found.1 (λ inside. far.1 (ap (λ (p : Posting). p.sysno / 256) (sym found.2) ∙ inside))
    ]

pub returns-clause-spelled : goal.returns-clause-spelled
returns-clause-spelled c =
    let found = rw (c.in-Some-2.is, c.in-Some.ensures.1) at c.in_ok-last.ensures.found in
    let inside = ap (λ (p : Posting). p.sysno / 256) found.2 ∙ c.if-not-is_inside.false in
    let some : length c.args.bytes.now ≢ 0 = λ none. grind (arith, common_steps, none) in
    (found.0, block_spelled c.args.block found.0 c.args.bytes.now found.1 some inside, found.4)

pub returns-clause-counted : goal.returns-clause-counted
returns-clause-counted c =
    let found = rw (c.in-Some-2.is, c.in-Some.ensures.1) at c.in_ok-last.ensures.found in
    λ list spells. found.3 ∙ ap record_count (same_list (start_of c.args.block) c.args.bytes.now found.0 list found.1 (spells_start c.args.block list c.args.bytes.now spells))

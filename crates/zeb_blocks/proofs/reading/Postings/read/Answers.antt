-- The postings that were counted are those of the block, or there are none.
use Rattle.zeb_blocks.proofs.Cited.{◌/◌, ◌∙◌, sym, ap, subst, BlockSpells, Posting}
use Rattle.zeb_blocks.specs.Left.{postings_at}
use Rattle.zeb_blocks.proofs.Lists.{length-postings_at}
use Rattle.zeb_blocks.proofs.Taking.{no_start, no_list, empty_block, outside, postings_at-none, whole_block}
use Rattle.zeb_blocks.proofs.reading.Postings.read.Goals as goal
use Rattle.zeb_blocks.proofs.reading.Postings.read.Goals.{then-count-eq0-via-then-count-eq0, then-count-eq0-via-else-count-eq0+then-last-block}

pub returns-in_default-clause-damaged : goal.returns-in_default-clause-damaged
returns-in_default-clause-damaged c = no_start c.args.block c.args.bytes.now c.in_default.ensures

pub returns-in_default-count_postings-clause-damaged : goal.returns-in_default-count_postings-clause-damaged
returns-in_default-count_postings-clause-damaged c =
    let none = rw c.in-Some.ensures.1 at c.in_default-count_postings.ensures in
    no_list c.args.block c.args.bytes.now none

pub returns-then-count-eq0-clause-damaged : goal.returns-then-count-eq0-clause-damaged
returns-then-count-eq0-clause-damaged c =
    let counted = rw c.in-Some.ensures.1 at c.in-Some-count_postings.ensures in
    elim c.then-count-eq0.branch [
      | then-count-eq0-via-then-count-eq0 w ↦
          let none = rw (postings_at-none _ c.args.bytes.now c.in-Some-count_postings.count w.if-count-eq0.true) at counted.0 in
          empty_block c.args.block c.args.bytes.now none
      | then-count-eq0-via-else-count-eq0+then-last-block w ↦
          outside c.args.block c.args.bytes.now _ counted.0 (λ inside. w.if-last-block.true (ap (λ (p : Posting). p.sysno / 256) (sym counted.1) ∙ inside))
    ]

pub returns-clause-spelled : goal.returns-clause-spelled
returns-clause-spelled c =
    let counted = rw c.in-Some.ensures.1 at c.in-Some-count_postings.ensures in
    let inside = ap (λ (p : Posting). p.sysno / 256) counted.1 ∙ c.if-last-block.false in
    let whole = whole_block c.args.block c.args.bytes.now c.in-Some-count_postings.count counted.0 c.if-count-eq0.false inside in
    subst (λ (start : Posting). BlockSpells c.args.block (postings_at c.in-Some-count_postings.count start c.args.bytes.now) c.args.bytes.now) (sym c.in-Some.ensures.1) whole

pub returns-clause-few : goal.returns-clause-few
returns-clause-few c = rw (length-postings_at c.in-Some-count_postings.count c.in-Some.start c.args.bytes.now) c.in-Some-count_postings.ensures.2

-- The posting follows the last one, and its bytes stand behind those so far.
use Rattle.zeb_blocks.proofs.Cited.{refl, arith}
use Rattle.zeb_blocks.proofs.Pushing.{pushed_follows, pushed_list, pushed_written, written_count}
use Rattle.zeb_blocks.proofs.writing.BlockWriter.push.Goals as goal

pub between-requires : goal.between-requires
between-requires c =
    let lies = rw (← c.self.view_is) at c.requires in
    pushed_follows c.self.inside.block _ c.self.inside.last c.args.posting c.self.invariant.last lies

pub overflow_add-self : goal.overflow_add-self
overflow_add-self c =
    let few = written_count c.self.inside.block c.self.inside.count c.self.inside.last c.self.inside.bytes.items c.self.invariant in
    omega arith

pub invariant_of-self-2 : goal.invariant_of-self-2
invariant_of-self-2 c =
    let lies = rw (← c.self.view_is) at c.requires in
    let put = rw c.between.ensures at c.in_default.ensures.ok in
    pushed_written c.self.inside.block c.self.inside.count c.self.inside.last c.args.posting c.self.inside.bytes.items c.write.new.out.items c.self.invariant lies put

pub returns-clause-ok : goal.returns-clause-ok
returns-clause-ok c =
    let lies = rw (← c.self.view_is) at c.requires in
    let put = rw c.between.ensures at c.in_default.ensures.ok in
    let list = pushed_list c.self.inside.block c.self.inside.count c.self.inside.last c.args.posting c.self.inside.bytes.items c.self.invariant lies in
    rw (← c.self.view_is, put, list) refl

-- One leaf is cut off after the other.
use Rattle.zeb_leaf.proofs.Cited.{◌≡◌, length, arith, common_steps, bytes_above}
use Rattle.zeb_leaf.proofs.CutLists.{all_cut, cut_more, cut_off, front_up, rest_sound, rest_up}
use Rattle.zeb_leaf.proofs.parting.leaves_of.Goals as goal

pub new_leaf-requires-clause-rising : goal.new_leaf-requires-clause-rising
new_leaf-requires-clause-rising c = front_up c.loop-rest.rest.now c.split_at.result.0.now c.fitting.result c.split_at.ensures.front c.loop-rest.invariant.rising

pub loop-rest-preserved : goal.loop-rest-preserved
loop-rest-preserved c =
    let list = c.loop-rest.rest.now in
    let n = c.fitting.result in
    let own = c.split_at.result.0.now in
    let rest = c.split_at.result.1.now in
    let above = bytes_above c.args.filling in
    let leaf = c.in_ok-leaf.leaf in
    let off = cut_off list own rest n above c.share-most.result leaf c.split_at.ensures.front c.split_at.ensures.back c.fitting.ensures.some.1 c.share-most.ensures.0 c.share-most.ensures.1 c.fitting.ensures.fits c.fitting.ensures.full c.in_ok-leaf.ensures.0 c.in_ok-leaf.ensures.1 in
    record {
      rising = rest_up list rest n c.split_at.ensures.back c.loop-rest.invariant.rising;
      each = rest_sound list rest n c.split_at.ensures.back c.loop-rest.invariant.each;
      leads = λ more cut. cut_more above leaf c.loop-rest.leaves.items c.push.new.self.items more c.args.entries.now list own rest n c.split_at.ensures.front c.split_at.ensures.back c.in_ok-push.ensures.items off c.loop-rest.invariant.leads cut;
    }

pub returns : goal.returns
returns c =
    let none : length c.loop-rest.rest.now ≡ 0 = grind (arith, common_steps) in
    all_cut (bytes_above c.args.filling) c.loop-rest.leaves.items c.args.entries.now c.loop-rest.rest.now none c.loop-rest.invariant.leads

use Rattle.zeb_engine.proofs.Cited.{arith, refl, subst, state, HasCleanDisk, canonical_text, PutsTexts, version_of}
use Rattle.zeb_engine.proofs.Beginning.{begun_image}
use Rattle.zeb_engine.proofs.writes.init.Goals as goal

pub returns-clause-begins : goal.returns-clause-begins
returns-clause-begins g c clean inside store =
    let mid = state g.S.Store c.wipe.new.tx.conn.now in
    let new = state g.S.Store c.put_texts.new.tx.conn.now in
    let pattern = c.args.pattern.now in
    let first : HasCleanDisk mid = omega (arith, c.put_texts.ensures.call.does.crash.clean) in
    let wiped = c.in_ok-wipe.ensures.call.does.ok first inside in
    let empty = wiped.1 store in
    let put = c.in_ok-put_texts.ensures.put clean wiped.0.mode empty.0 empty.2.0 in
    let said = subst (λ v. PutsTexts v (canonical_text c.args.profile.now) pattern mid new) c.version.ensures (subst (λ t. PutsTexts c.version.result.now t pattern mid new) c.text.ensures put) in
    record {
      store = record { is = said.store.is; sound = said.store.sound; keyed = said.store.keyed };
      image = λ k of. begun_image g.L.Layout.format (version_of g.L.Layout.format) refl c.args.profile.now pattern mid new empty said k of;
    }

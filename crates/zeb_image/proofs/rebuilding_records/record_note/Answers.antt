use Rattle.zeb_image.proofs.Cited.{◌≤◌, ℕ, List, arith, subst, sym, AreOccurrencesOf, none_rise}
use Rattle.zeb_image.proofs.PostedOccurrences.{will_post}
use Rattle.zeb_image.proofs.rebuilding_records.record_note.Goals as goal

pub returns-clause-posted : goal.returns-clause-posted
returns-clause-posted c format trees id before will storable lacks =
    let profile = c.args.profile.now in
    let kept = c.args.kept.now in
    let found = c.deref-2.result.now in
    let of_bytes = subst (λ (bytes : List ℕ). AreOccurrencesOf profile bytes c.in_ok-found.found.items) c.deref.ensures.value c.in_ok-found.ensures.found in
    let are : AreOccurrencesOf profile kept.bytes.items found = subst (AreOccurrencesOf profile kept.bytes.items) (sym c.deref-2.ensures.value) of_bytes in
    let number : (1 ≤ kept.sysno) × (kept.sysno ≤ 999999999) = (omega (arith, c.if-kept-lt1.false), omega (arith, c.if-kept.false)) in
    will_post profile kept found are number id c.args.pending.now c.note_keys.new.pending ((c.in_ok-note_keys.ensures none_rise are.rising).moved id) format trees before will storable lacks

use Rattle.zeb_register.proofs.Cited.{◌≡◌, ◌==◌, ◌&&◌, Decides, true, false, ap, sym, ap₂, ◌∙◌, ℕ, Decides-eqb, Place, Decides-and, slice_eq-Decides}
use Rattle.zeb_register.proofs.record_parts.are_same.Goals as goal

place_by : ℕ → ℕ → Place
place_by seq place = record { seq = seq; pos = place }

Decides-place : (p q : Place) → Decides ((p.seq == q.seq) && (p.pos == q.pos)) (p ≡ q)
unfolding place_by
Decides-place p q =
    let both = Decides-and (p.seq == q.seq) (p.pos == q.pos) (Decides-eqb p.seq q.seq) (Decides-eqb p.pos q.pos) in
    (λ h. let it = both.0 h in ap₂ place_by it.0 it.1, λ same. both.1 (ap (λ (r : Place). r.seq) same, ap (λ (r : Place). r.pos) same))

pub returns-clause-same : goal.returns-clause-same
returns-clause-same c is = (slice_eq-Decides Decides-place c.args.one.now c.args.two.now c.eq.result c.eq.ensures).0 is

pub returns-clause-other : goal.returns-clause-other
returns-clause-other c is same = let t = (slice_eq-Decides Decides-place c.args.one.now c.args.two.now c.eq.result c.eq.ensures).1 same in absurd (let e : true ≡ false = sym t ∙ is in cc)

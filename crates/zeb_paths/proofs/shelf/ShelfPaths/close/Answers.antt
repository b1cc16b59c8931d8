use Rattle.std.proofs.Common.{arith, inl, refl}
use Rattle.zeb_paths.proofs.shelf.ShelfPaths.close.Goals as goal

pub returns : goal.returns
returns g c = record {
  left = (
    c.args._store,
    refl,
    record { shield = λ h. h; clean = omega (arith); counts = omega (arith); closes = λ _ still. inl still; outcomes = λ db may. may },
    λ part clean was_open. absurd cc,
  );
}

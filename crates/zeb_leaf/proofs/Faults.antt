-- Why a call isn't done, passed on by the call above it.
use Rattle.zeb_leaf.proofs.Cited.{IsTold}
use Rattle.zeb_leaf.specs.declared.entries.LeafFault.{LeafFault}
use Rattle.zeb_leaf.specs.declared.entries.LeafFault.TheVariants.{Malformed, Memory}

pub told_worse : (Bad Worse : Type 0) (fault : LeafFault) → (Bad → Worse) → IsTold Bad fault → IsTold Worse fault
told_worse Bad Worse Malformed worse bad = worse bad
told_worse Bad Worse Memory worse bad = tt

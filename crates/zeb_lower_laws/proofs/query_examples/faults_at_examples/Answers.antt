use Rattle.zeb_query.proofs.Cited.{refl, is_long}
use Rattle.std.specs.Str.{chars, is_utf8}
use lib.Utf8.{encode}
use Rattle.zeb_query.specs.Grammar.{kind_and_value}
use Rattle.zeb_query.proofs.TextFaults.{readable, stands}
use Rattle.zeb_lower_laws.proofs.query_examples.faults_at_examples.Goals as goal

pub returns : goal.returns
unfolding chars is_utf8 encode kind_and_value
returns c = record {
  due = (
    stands _ _ _ refl,
    stands _ _ _ refl,
    stands _ _ _ refl,
  );
  words = (
    stands _ _ _ refl,
    stands _ _ _ refl,
    stands _ _ _ refl,
    stands _ _ _ refl,
  );
  specs = (
    stands _ _ _ refl,
    stands _ _ _ refl,
  );
  at_sign = readable _ refl;
  limits = (
    stands _ _ _ refl,
    λ text long. is_long long,
  );
}

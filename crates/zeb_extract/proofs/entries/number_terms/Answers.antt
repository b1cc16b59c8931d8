use Rattle.zeb_extract.proofs.Cited.{◌<◌, ◌^◌, All-head, numbers_below}
use Rattle.zeb_extract.proofs.entries.number_terms.Goals as goal

pub key_of_number-requires : goal.key_of_number-requires
key_of_number-requires c =
    All-head (λ n. n < 10 ^ 18) _ _ (rw c.in-Some.ensures.steps at (numbers_below c.loop-number.number-iterator.rest.now))

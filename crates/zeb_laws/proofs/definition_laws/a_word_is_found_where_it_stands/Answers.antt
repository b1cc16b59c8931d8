use Rattle.zeb_laws.proofs.Cited.{plain_word, IsNamed, has_name, occurs}
use Rattle.zeb_laws.proofs.definition_laws.a_word_is_found_where_it_stands.Goals as goal

pub returns : goal.returns
returns c profile records index word n utf8 = plain_word (occurs profile records) (IsNamed (occurs profile records) (has_name records)) index word utf8 n

-- What is told by units and counts, of tables that hold a content.
use Rattle.zeb_register.proofs.Cited.{List, ℕ, Has, inl, inr, subst, sym, IsBetween, term_list, key_in}
use Rattle.zeb_register.proofs.CountLists.{all_held, before_held, from_held, held_shows, totals_held}
use Rattle.zeb_register.proofs.KeyLists.{held_listing, held_whole, one_listing, whole_sound}
use Rattle.zeb_register.proofs.laws.calls_tell_of_the_content.Goals as goal

pub returns-clause-list : goal.returns-clause-list
returns-clause-list c = λ format trees db key content holds. (
  λ list lists. one_listing format trees db key list (content db key) lists (held_listing format trees db key content holds),
  λ storable bad. whole_sound format trees db key (held_whole format trees content holds db key) bad,
)

pub returns-clause-between : goal.returns-clause-between
returns-clause-between c = λ format trees at first last content holds. (
  λ list are p.
      let same = λ (term : List ℕ) (between : IsBetween first last term).
      one_listing format trees at.db.0 (key_in at.index at.register term) (are.lists term) (term_list content at term) (are.units term between)
      (held_listing format trees at.db.0 (key_in at.index at.register term) content holds) in (
        λ here. let it = (are.each p).0 here in (it.0, it.1, subst (λ l. Has l p) (same it.0 it.1) it.2),
        λ of. (are.each p).1 (of.0, of.1, subst (λ l. Has l p) (sym (same of.0 of.1)) of.2),
      ),
  λ storable bad.
      let key = key_in at.index at.register bad.0 in
      whole_sound format trees at.db.0 key (held_whole format trees content holds at.db.0 key) bad.2,
)

pub returns-clause-terms : goal.returns-clause-terms
returns-clause-terms c = λ format trees db index register content holds. (
  λ list lists. all_held format trees db index register content holds list lists,
  λ storable bad. held_shows format trees db index register content holds storable bad.0 bad.1,
)

pub returns-clause-from : goal.returns-clause-from
returns-clause-from c = λ format trees db index register start n content holds. (
  λ list lists. from_held format trees db index register content holds start n list lists,
  λ storable bad. held_shows format trees db index register content holds storable bad.term bad.hidden,
)

pub returns-clause-before : goal.returns-clause-before
returns-clause-before c = λ format trees db index register start n content holds. (
  λ list lists. before_held format trees db index register content holds start n list lists,
  λ storable bad. held_shows format trees db index register content holds storable bad.term bad.hidden,
)

pub returns-clause-totals : goal.returns-clause-totals
returns-clause-totals c = λ format trees db index register content holds. (
  λ totals sums. totals_held format trees db index register content holds totals sums,
  λ storable bad. elim bad.1 [
    | inl hidden ↦ held_shows format trees db index register content holds storable bad.0 hidden
    | inr malformed ↦ (let key = key_in index register bad.0 in whole_sound format trees db key (held_whole format trees content holds db key) malformed.1)
  ],
)

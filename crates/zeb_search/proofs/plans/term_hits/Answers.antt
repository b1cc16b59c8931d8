use Rattle.zeb_search.proofs.Cited.{◌≡◌, refl, sym, subst, AreNumbers, StandsInOrder, EntryDict, RegisterDict, EntryRows}
use Rattle.zeb_search.proofs.DictCounts.{unnamed}
use Rattle.zeb_search.proofs.JustLemmas.{just_none}
use Rattle.zeb_search.proofs.SearchCountLemmas.{always_counted, rows_for, rows_still}
use Rattle.zeb_search.proofs.SearchesInTurn.{looks_searched, searches_as, searches_still}
use Rattle.zeb_search.proofs.plans.term_hits.Goals as goal

pub returns-in-RecordNumber : goal.returns-in-RecordNumber
returns-in-RecordNumber g c =
    let work = c.args.work.now in
    rw c.in-RecordNumber.is (looks_searched c.record_hits.ensures (λ none. refl) (always_counted c.record_hits.result (λ clean store content has. rows_still (λ n. n ≡ 0) (λ n. n ≡ 0) work refl refl)) (λ store hidden. hidden) (λ store hits found. found))

pub returns-in-NoWords : goal.returns-in-NoWords
returns-in-NoWords g c =
    rw c.in-NoWords.is (searches_still (λ store. subst (AreNumbers (λ _. ⊥)) (sym c.new.ensures.items) (just_none (λ _. ⊥) (λ n none. none))) (λ content has. rows_still (λ n. n ≡ 0) (λ n. n ≡ 0) c.args.work.now refl refl))

pub returns-in-Always : goal.returns-in-Always
returns-in-Always g c =
    let row_work = g.L.Layout.row_work in
    let db = c.args.db.0 in
    let index = c.in-Always.index in
    let register = c.in-Always.register in
    rw c.in-Always.is (searches_as (rw (c.register-of.ensures, c.new-in-Always.ensures) at c.numbers_wanted.ensures) (λ store hidden. hidden) (λ store hits found. found)
    (λ content. rows_for (EntryDict row_work content db ⊥ index register) (RegisterDict row_work content db index register) (EntryRows g.L.Layout.block_rows content db index register (λ _. Unit {0}))
    c.args.work.now c.numbers_wanted.new.work (unnamed row_work content db index register)))

pub returns-in-Number : goal.returns-in-Number
returns-in-Number g c = rw c.in-Number.is (rw (c.register-of-in-Number.ensures, c.new-in-Number.ensures) at c.numbers_wanted-in-Number.ensures)

pub returns-in-Ordered : goal.returns-in-Ordered
returns-in-Ordered g c =
    let row_work = g.L.Layout.row_work in
    let db = c.args.db.0 in
    let index = c.in-Ordered.index in
    let register = c.in-Ordered.register in
    rw (c.in-Ordered.is, ← c.deref.ensures) (searches_as (rw (c.register-of-in-Ordered.ensures, c.new-in-Ordered.ensures) at c.numbers_wanted-in-Ordered.ensures) (λ store hidden. hidden) (λ store hits found. found)
    (λ content. rows_for (EntryDict row_work content db ⊥ index register) (RegisterDict row_work content db index register)
    (EntryRows g.L.Layout.block_rows content db index register (λ term. StandsInOrder c.in-Ordered.relation term c.deref.result.now)) c.args.work.now c.numbers_wanted-in-Ordered.new.work (unnamed row_work content db index register)))

pub returns-in-Complete : goal.returns-in-Complete
returns-in-Complete g c = rw c.in-Complete.is (rw (c.register-of-in-Complete.ensures, c.new-in-Complete.ensures) at c.numbers_wanted-in-Complete.ensures)

pub returns-in-Phrase : goal.returns-in-Phrase
returns-in-Phrase g c = rw (c.in-Phrase.is, ← c.deref-in-Phrase.ensures.value) (rw c.new-of.ensures at c.phrase_hits.ensures)

pub returns-in-AllWords : goal.returns-in-AllWords
returns-in-AllWords g c = rw (c.in-AllWords.is, ← c.deref-in-AllWords.ensures.value) (rw c.new-in-AllWords.ensures at c.all_words_hits.ensures)

pub returns-in-AnyWord : goal.returns-in-AnyWord
returns-in-AnyWord g c = rw (c.in-AnyWord.is, ← c.deref-in-AnyWord.ensures.value) (rw c.new-in-AnyWord.ensures at c.any_word_hits.ensures)

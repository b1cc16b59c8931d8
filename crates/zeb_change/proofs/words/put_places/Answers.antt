use Rattle.zeb_change.proofs.Cited.{◌∙◌, ◌++◌, List, ℕ, ap, sym, take, slice_index_or, append_assoc, take_more, Place, number_words, place_words}
use Rattle.zeb_change.proofs.NoteWords.{no_places, places_more}
use Rattle.zeb_change.proofs.words.put_places.Goals as goal

pub loop-place-init : goal.loop-place-init
loop-place-init c = record { so_far = no_places c.args.words.now.items }

pub loop-place-preserved : goal.loop-place-preserved
loop-place-preserved c =
    let all = c.args.places.now in
    let index = c.loop-place.place-index in
    let place : Place = slice_index_or all index (record { seq = 0; pos = 0 }) in
    let words = c.args.words.now.items in
    let before = place_words (take index all) in
    let one = c.in_ok-put_number.ensures ∙ ap (λ (l : List ℕ). l ++ number_words place.seq) c.loop-place.invariant.so_far ∙ append_assoc words before (number_words place.seq) in
    let two = c.in_ok-put_number-2.ensures ∙ ap (λ (l : List ℕ). l ++ number_words place.pos) one ∙ append_assoc words (before ++ number_words place.seq) (number_words place.pos) in
    let more = ap place_words (take_more all index (record { seq = 0; pos = 0 }) c.loop-place-test.true) ∙ places_more (take index all) place in
    record { so_far = two ∙ ap (λ (l : List ℕ). words ++ l) (sym more) }

-- The list that was written is the front of the whole.
use Rattle.zeb_blocks.proofs.Cited.{◌≡◌, ◌<◌, ◌++◌, ◌∷◌, [], List, length, suc, take, drop, slice_index_or, ◌∙◌, ap, sym, subst, arith, take-suc, take-append-drop, Posting, LiesIn}
use Rattle.zeb_blocks.proofs.Rising.{block_small}
use Rattle.zeb_blocks.proofs.Pushing.{lies_front}
use Rattle.zeb_blocks.proofs.writing.spell.Goals as goal

pub new-writer-requires : goal.new-writer-requires
new-writer-requires c = block_small c.args.block c.args.list.now c.requires.some c.requires.lies

pub push-requires : goal.push-requires
push-requires c =
    let list = c.args.list.now in
    let i = c.loop-posting.posting-index in
    let posting = slice_index_or list i (record { sysno = 0; seq = 0; pos = 0 }) in
    let below : i < length list = omega arith in
    let front : list ≡ (take i list ++ posting ∷ []) ++ drop (suc i) list = sym (take-append-drop (suc i) list) ∙ ap (λ (xs : List Posting). xs ++ drop (suc i) list) (take-suc list i (record { sysno = 0; seq = 0; pos = 0 }) below) in
    let lies = lies_front c.args.block (take i list ++ posting ∷ []) (drop (suc i) list) (subst (LiesIn c.args.block) front c.requires.lies) in
    rw c.loop-posting.invariant lies

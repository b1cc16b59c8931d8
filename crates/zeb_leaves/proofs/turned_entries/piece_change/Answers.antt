use Rattle.zeb_leaves.proofs.Cited.{◌∙◌, ◌<◌, ap, arith, length, rules, subst, sym, List, Posting, SayPart, ◌^◌, IsUtf8, HasPostings, block_of, refused_so}
use Rattle.zeb_leaves.proofs.TurnedEntries.{entries_turned, lacks_turn, said_at, said_lies}
use Rattle.zeb_leaves.proofs.turned_entries.piece_change.Goals as goal

pub postings_after-requires-clause-lies : goal.postings_after-requires-clause-lies
postings_after-requires-clause-lies c =
    let piece = c.args.piece.now in
    let said = said_at c.args.entries.now piece c.as_bytes.result.now c.first_block.result c.in_ok-old.old.items (c.as_bytes.ensures.value ∙ c.as_str.ensures) c.first_block.ensures c.in_ok-old.ensures in
    said_lies c.args.entries.now piece.key.now.term (block_of piece.changes.now) c.in_ok-old.old.items said

pub returns-in_err-old : goal.returns-in_err-old
returns-in_err-old c =
    let piece = c.args.piece.now in
    refused_so _ _ c.from_residual.result c.in_err-old.field-0.0 (search rules)
    (λ told part said. absurd (c.in_err-old.ensures told part (subst (λ b. SayPart c.args.entries.now c.as_bytes.result.now b part) (sym c.first_block.ensures) (subst (λ t. SayPart c.args.entries.now t (block_of piece.changes.now) part) (sym (c.as_bytes.ensures.value ∙ c.as_str.ensures)) said))))

pub returns-in_err-list : goal.returns-in_err-list
returns-in_err-list c =
    let piece = c.args.piece.now in
    let said = said_at c.args.entries.now piece c.as_bytes.result.now c.first_block.result c.in_ok-old.old.items (c.as_bytes.ensures.value ∙ c.as_str.ensures) c.first_block.ensures c.in_ok-old.ensures in
    refused_so _ _ c.from_residual-in_err-list.result c.in_err-list.field-0.0 (search rules)
    (λ told. lacks_turn c.args.entries.now piece c.in_ok-old.old.items said (c.in_err-list.ensures.turned told))

pub returns : goal.returns
returns c =
    let piece = c.args.piece.now in
    let term_is = c.as_bytes.ensures.value ∙ c.as_str.ensures in
    let said = said_at c.args.entries.now piece c.as_bytes.result.now c.first_block.result c.in_ok-old.old.items term_is c.first_block.ensures c.in_ok-old.ensures in
    let long : length c.new.result < 2 ^ 64 = omega (arith, ap length c.new.ensures, c.in_ok-term.term.ok.0) in
    let text = subst IsUtf8 (sym (c.new.ensures ∙ c.in_ok-term.ensures.items ∙ c.as_bytes.ensures.value)) c.as_str.utf8 in
    let has = subst (λ (l : List Posting). HasPostings c.first_block.result l c.in_ok-new.new) c.deref.ensures.value c.in_ok-new.ensures in
    entries_turned c.args.entries.now piece c.in_ok-old.old.items c.in_ok-list.list.items c.new.result c.first_block.result c.in_ok-new.new (c.new.ensures ∙ c.in_ok-term.ensures.items ∙ term_is) c.first_block.ensures c.requires.piece text long said c.in_ok-list.ensures.turned has

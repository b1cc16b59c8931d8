-- The bytes of the entry stand behind those so far, and its term is the last.
use Rattle.zeb_leaf.proofs.Cited.{◌∙◌, Draft}
use Rattle.zeb_leaf.proofs.Pushing.{pushed}
use Rattle.zeb_leaf.proofs.writing.LeafWriter.push.Goals as goal

pub returns-clause-ok : goal.returns-clause-ok
returns-clause-ok c = λ list was.
    let old : Draft = record { place = record { term = c.self.inside.term.items; least = c.self.inside.least }; bytes = c.self.inside.bytes.items } in
    pushed list c.args.entry.now old c.put_entry.new.term.items c.put_entry.new.out.items (c.self.view_is ∙ was) c.in_default.ensures.ok.1 c.in_default.ensures.ok.0

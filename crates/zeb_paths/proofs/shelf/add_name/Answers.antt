use Rattle.std.proofs.Common.{◌≡◌, ◌∙◌, ap, false, inl, inr, refl, sym, true}
use Rattle.std.specs.Prelude.{string_bytes}
use Rattle.std.specs.List.{list_any}
use Rattle.std.specs.Str.{bytes_eq}
use Rattle.zeb_paths.proofs.ShelfLemmas.{known_is, not_known}
use Rattle.zeb_paths.proofs.shelf.add_name.Goals as goal

pub returns-in_ok-push_name : goal.returns-in_ok-push_name
returns-in_ok-push_name c =
    let old = c.args.names.now.items in
    let none : list_any (λ known. bytes_eq (string_bytes known) c.args.name.now) old ≡ false =
    ap (list_any (λ known. bytes_eq (string_bytes known) c.args.name.now)) (sym c.deref.ensures.value) ∙ sym c.is_known.ensures ∙ c.if-not-is_known.true in
    inr (not_known old c.args.name.now none, c.in_ok-push_name.ensures)

pub returns-else-not-is_known : goal.returns-else-not-is_known
returns-else-not-is_known c =
    let old = c.args.names.now.items in
    let some : list_any (λ known. bytes_eq (string_bytes known) c.args.name.now) old ≡ true =
    ap (list_any (λ known. bytes_eq (string_bytes known) c.args.name.now)) (sym c.deref.ensures.value) ∙ sym c.is_known.ensures ∙ c.if-not-is_known.false in
    inl (known_is old c.args.name.now some, refl)

use Rattle.zeb_change.proofs.Cited.{◌≡◌, Greater, inl, inr, sym, ◌∙◌, ap, subst, rules, refl, ordering_reverse, key_order, key_total, keys_apart, BeginsWithKey}
use Rattle.std.proofs.Common.{Less}
use Rattle.zeb_change.proofs.KeyChanges.{at_least_itself, first_is}
use Rattle.zeb_change.proofs.changed_keys.lesser_key.Goals as goal

pub returns-in-Greater-clause-lesser : goal.returns-in-Greater-clause-lesser
returns-in-Greater-clause-lesser c =
    let elder = c.in-Some-Some.elder.now.key in
    let newer = c.in-Some-Some.newer.now.key in
    let is : key_order elder newer ≡ Greater = sym (c.order_is_by_parts.ensures.keys elder newer) ∙ sym c.cmp.ensures ∙ c.in-Greater.is in
    let less : key_order newer elder ≡ Less = key_total.antisymm newer elder ∙ ap ordering_reverse is in
    let old = first_is c.args.old.now c.in-Some-Some.elder.now (search rules) in
    let new = first_is c.args.new.now c.in-Some-Some.newer.now (search rules) in
    (at_least_itself newer c.args.old.now c.in-Some-Some.elder.now old.0 old.1 (inl less), at_least_itself newer c.args.new.now c.in-Some-Some.newer.now new.0 new.1 (inr refl))

pub returns-in-Less : goal.returns-in-Less
returns-in-Less c =
    let elder = c.in-Some-Some.elder.now.key in
    let newer = c.in-Some-Some.newer.now.key in
    let is : c.cmp.result ≡ key_order elder newer = c.cmp.ensures ∙ c.order_is_by_parts.ensures.keys elder newer in
    let old = first_is c.args.old.now c.in-Some-Some.elder.now (search rules) in
    let new = first_is c.args.new.now c.in-Some-Some.newer.now (search rules) in
    record {
      found = inl (subst (BeginsWithKey elder) (sym old.1) refl);
      lesser = (
        at_least_itself elder c.args.old.now c.in-Some-Some.elder.now old.0 old.1 (inr refl),
        at_least_itself elder c.args.new.now c.in-Some-Some.newer.now new.0 new.1 (elim c.in-Less.is [
          | inl less ↦ inl (sym is ∙ less)
          | inr equal ↦ inr (keys_apart elder newer (sym is ∙ equal))
        ]),
      );
      none = tt;
    }

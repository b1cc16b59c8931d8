use Rattle.zeb_change.proofs.Cited.{◌≡◌, ◌∙◌, ◌++◌, ◌∷◌, List, [], arith, ap, drop, length, length-append, map, refl, suc, subst, subst₂, sym, take, split_at, YieldsList-from_vec, YieldsList-end, YieldsList-so_far, YieldsList-turn, changed_at, change_is, ChangedKey, Place, KeyChange, IsNotedAlso, AreChangedKeys, key_in, new_in, old_in, LeadsTo}
use Rattle.zeb_change.proofs.ChangeKeysContent.{moved, moved_is, moved_more, moved_none, moved_rises, one_reposted, still_old}
use Rattle.zeb_change.proofs.CostLemmas.{keys_cost}
use Rattle.zeb_change.proofs.EqualReplacements.{none_changed}
use Rattle.zeb_change.proofs.LeadsToContent.{leads_more}
use Rattle.zeb_change.proofs.noting.note_keys.Goals as goal

map_same : {A : Type 0} (xs : List A) → map (λ y. y) xs ≡ xs
map_same [] = refl
map_same (x ∷ xs) = ap (λ (ys : List _). x ∷ ys) (map_same xs)

pub loop-changed-init : goal.loop-changed-init
loop-changed-init c = record {
  leads = λ elder newer db behind before leads up was. subst (LeadsTo db c.args.pending.now behind) (sym (moved_none db c.args.sysno before)) leads;
  idle = λ none. refl;
  count = omega arith;
}

pub loop-changed-preserved : goal.loop-changed-preserved
loop-changed-preserved c =
    let sysno = c.args.sysno in
    let all = c.in_ok-changed_keys.changed_keys in
    let gives = c.into_iter-changed-iterator.ensures.into_iter_gives in
    let chain = YieldsList-from_vec {s = c.into_iter-changed-iterator.result} all.items gives.0 (gives.1 ∙ all.ok.0) in
    let item = c.in-Some.changed in
    let done = c.loop-changed.yielded in
    let turn = YieldsList-turn chain done c.loop-changed.changed-iterator c.loop-changed.yielded_by c.next.result c.next.new.self item c.in-Some.is c.next.ensures.steps in
    let front : take (length done) all.items ≡ done = sym (YieldsList-so_far chain done c.loop-changed.changed-iterator c.loop-changed.yielded_by) ∙ map_same done in
    let rest = drop (suc (length done)) all.items in
    let split : all.items ≡ done ++ item ∷ rest =
    split_at all.items (length done) item turn.0 ∙ ap (λ (x : ChangedKey). take (length done) all.items ++ x ∷ rest) (sym turn.1) ∙ ap (λ (l : List ChangedKey). l ++ item ∷ rest) front in
    let change : KeyChange = record { sysno = sysno; old = old_in item; new = new_in item } in
    let noted = subst₂ (λ (old new : List Place). IsNotedAlso (key_in item) (record { sysno = sysno; old = old; new = new }) c.loop-changed.pending c.note.new.self)
    (c.deref.ensures.value ∙ c.in_ok-set_places.ensures) (c.deref-in-loop-changed.ensures.value ∙ c.in_ok-set_places-2.ensures) c.in_ok-note.ensures in
    record {
      leads = λ elder newer db behind before leads up was.
          let are = c.in_ok-changed_keys.ensures elder newer in
          let so_far = c.loop-changed.invariant.leads elder newer db behind before leads up was in
          let now = moved db sysno done before in
          let rising = moved_rises db sysno done before up in
          let stood = still_old db sysno c.args.elder.now c.args.newer.now done rest item before up (subst (AreChangedKeys c.args.elder.now c.args.newer.now) split are) was in
          let old_rises = (are.old item (length done, turn.0, sym turn.1)).rising in
          subst (LeadsTo db c.note.new.self behind) (sym (moved_more db sysno done item before))
          (leads_more db (key_in item) change c.loop-changed.pending c.note.new.self behind now (changed_at db (key_in item) sysno (new_in item) now) so_far rising noted old_rises stood
          (change_is db (key_in item) sysno (new_in item) now rising));
      idle = λ none. absurd (omega (arith, ap length none, length-append done (item ∷ [])));
      count = omega (arith, c.loop-changed.invariant.count, noted.count, length-append done (item ∷ []));
    }

pub returns : goal.returns
returns c elder newer =
    let sysno = c.args.sysno in
    let items = c.in_ok-changed_keys.changed_keys in
    let are = c.in_ok-changed_keys.ensures elder newer in
    let gives = c.into_iter-changed-iterator.ensures.into_iter_gives in
    let chain = YieldsList-from_vec {s = c.into_iter-changed-iterator.result} items.items gives.0 (gives.1 ∙ items.ok.0) in
    let done = c.loop-changed.yielded in
    let end = YieldsList-end chain done c.loop-changed.changed-iterator c.loop-changed.yielded_by c.next.result c.next.new.self c.in-None.is c.next.ensures.steps in
    let all : done ≡ items.items = sym (map_same done) ∙ end.0 in
    let many = end.1 in
    record {
      moved = λ db behind before after leads up was reposted.
          let held = c.loop-changed.invariant.leads elder newer db behind before leads up was in
          let is = moved_is db sysno c.args.elder.now c.args.newer.now items.items before up are was in
          subst (LeadsTo db c.loop-changed.pending behind) (ap (λ (l : List ChangedKey). moved db sysno l before) all ∙ one_reposted db sysno c.args.newer.now before _ after is reposted) held;
      idle = λ same. c.loop-changed.invariant.idle (all ∙ none_changed c.args.elder.now c.args.newer.now items.items are same);
      cost = (length items.items, keys_cost c.args.elder.now c.args.newer.now items.items are, omega (arith, c.loop-changed.invariant.count, many));
    }

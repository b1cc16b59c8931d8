use Rattle.zeb_profile.proofs.Cited.{◌≡◌, length, true, false, Some, None, refl, sym, ◌∙◌, string_bytes, is_some, get_by_text, list_any, string_cmp, name_key, spelled, same_name}
use Rattle.std.specs.BTreeMap.{Updates}
use Rattle.zeb_profile.proofs.NamesByNumber.{has_number, numbers_push}
use Rattle.zeb_profile.proofs.indexes.Indexes.add.Goals.{in-Some, in-None}
use Rattle.zeb_profile.proofs.indexes.Indexes.add.Goals as goal

pub returns-then-contains_key-clause-names : goal.returns-then-contains_key-clause-names
returns-then-contains_key-clause-names c =
    let keyed : string_bytes c.in_ok-key.key ≡ name_key c.args.name.now = c.in_ok-key.ensures in
    let known : is_some (get_by_text c.args.self.now.numbers (name_key c.args.name.now)) ≡ true =
    rw (← keyed, ← c.as_str.ensures.value, ← c.contains_key.ensures) c.if-contains_key.true in
    let among : list_any (same_name c.args.name.now) c.args.self.now.names.items ≡ true =
    sym (has_number c.args.self.now.numbers c.args.self.now.names.items c.args.name.now c.requires.numbers) ∙ known in
    rw among refl

pub returns-clause-names : goal.returns-clause-names
returns-clause-names c =
    let keyed : string_bytes c.in_ok-key.key ≡ name_key c.args.name.now = c.in_ok-key.ensures in
    let unknown : is_some (get_by_text c.args.self.now.numbers (name_key c.args.name.now)) ≡ false =
    rw (← keyed, ← c.as_str.ensures.value, ← c.contains_key.ensures) c.if-contains_key.false in
    let new : list_any (same_name c.args.name.now) c.args.self.now.names.items ≡ false =
    sym (has_number c.args.self.now.numbers c.args.self.now.names.items c.args.name.now c.requires.numbers) ∙ unknown in
    let spelling : c.match-get.spelling.now ≡ spelled c.args.tied.now c.args.name.now = elim c.match-get.branch [
      | in-Some w ↦
          let at : get_by_text c.args.tied.now (name_key c.args.name.now) ≡ Some w.in-Some.spelling.now =
          rw (← keyed, ← c.as_str-2.ensures.value, ← c.get.ensures.value, w.in-Some.is) refl in
          rw (w.spelling-is, at) refl
      | in-None w ↦
          let at : get_by_text c.args.tied.now (name_key c.args.name.now) ≡ None =
          rw (← keyed, ← c.as_str-2.ensures.value, ← c.get.ensures.value, w.in-None.is) refl in
          rw (w.spelling-is, at) refl
    ] in
    rw (c.in_ok-push.ensures.items, c.in_ok-copy.ensures, spelling, new) refl

pub returns-clause-numbers : goal.returns-clause-numbers
returns-clause-numbers c =
    let keyed : string_bytes c.in_ok-key.key ≡ name_key c.args.name.now = c.in_ok-key.ensures in
    let unknown : is_some (get_by_text c.args.self.now.numbers (name_key c.args.name.now)) ≡ false =
    rw (← keyed, ← c.as_str.ensures.value, ← c.contains_key.ensures) c.if-contains_key.false in
    let new : list_any (same_name c.args.name.now) c.args.self.now.names.items ≡ false =
    sym (has_number c.args.self.now.numbers c.args.self.now.names.items c.args.name.now c.requires.numbers) ∙ unknown in
    let spelling : c.match-get.spelling.now ≡ spelled c.args.tied.now c.args.name.now = elim c.match-get.branch [
      | in-Some w ↦
          let at : get_by_text c.args.tied.now (name_key c.args.name.now) ≡ Some w.in-Some.spelling.now =
          rw (← keyed, ← c.as_str-2.ensures.value, ← c.get.ensures.value, w.in-Some.is) refl in
          rw (w.spelling-is, at) refl
      | in-None w ↦
          let at : get_by_text c.args.tied.now (name_key c.args.name.now) ≡ None =
          rw (← keyed, ← c.as_str-2.ensures.value, ← c.get.ensures.value, w.in-None.is) refl in
          rw (w.spelling-is, at) refl
    ] in
    let many : c.len.result ≡ length c.args.self.now.names.items = c.len.ensures ∙ c.args.self.now.names.ok.0 in
    let updates : Updates string_cmp c.args.self.now.numbers c.insert.new.self c.in_ok-key.key (Some (length c.args.self.now.names.items)) = rw many at c.in_ok-insert.ensures.updates in
    rw (c.in_ok-push.ensures.items, c.in_ok-copy.ensures, spelling)
    (numbers_push c.args.self.now.numbers c.insert.new.self c.args.self.now.names.items c.args.name.now (spelled c.args.tied.now c.args.name.now) c.in_ok-key.key c.requires.numbers keyed new (c.requires.spelling new) updates)

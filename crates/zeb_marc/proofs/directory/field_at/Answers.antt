-- A sound entry names a part of the data area.
use Rattle.zeb_marc.proofs.Cited.{◌≤◌, ◌-◌, length, arith, rules, entry_of}
use Rattle.zeb_marc.proofs.Entries.{IsSoundEntry-from_checks}
use Rattle.zeb_marc.proofs.directory.field_at.Goals as goal

pub overflow_sub-bytes : goal.overflow_sub-bytes
overflow_sub-bytes c =
    let sound = IsSoundEntry-from_checks c.args.area.now (entry_of c.args.entry.now) c.requires.sound in
    let found = c.in-Some.ensures in
    omega (arith, sound.begins, found.2)

pub slice_bounds-bytes-count : goal.slice_bounds-bytes-count
slice_bounds-bytes-count c =
    let sound = IsSoundEntry-from_checks c.args.area.now (entry_of c.args.entry.now) c.requires.sound in
    let found = c.in-Some.ensures in
    omega (arith, sound.begins, found.1, found.2)

pub slice_bounds-bytes-start : goal.slice_bounds-bytes-start
slice_bounds-bytes-start c =
    let sound = IsSoundEntry-from_checks c.args.area.now (entry_of c.args.entry.now) c.requires.sound in
    let found = c.in-Some.ensures in
    let ordered : c.in-Some.start ≤ c.in-Some.end - 1 = omega (arith, sound.begins, found.1, found.2) in
    let within : c.in-Some.end ≤ length c.args.area.now = omega (arith, sound.within, found.2) in
    search rules

pub slice_bounds-bytes-end : goal.slice_bounds-bytes-end
slice_bounds-bytes-end c =
    let sound = IsSoundEntry-from_checks c.args.area.now (entry_of c.args.entry.now) c.requires.sound in
    let found = c.in-Some.ensures in
    let within : c.in-Some.end - 1 ≤ length c.args.area.now = omega (arith, sound.within, found.2) in
    search rules

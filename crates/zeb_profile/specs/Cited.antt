-- What these definitions cite of std, of the crates below and of the program's types, passed on from one place. Declares nothing.
pub use Rattle.std.specs.BTreeSet.{contains}
pub use Rattle.std.specs.List.{after_first, before_first, enumerate_from, join_with_byte, list_all, list_any, position_or_len, slice_split}
pub use Rattle.std.specs.Option.{is_some, option_or}
pub use Rattle.std.specs.Str.{str_eq_ignore_ascii_case, str_to_ascii_lowercase}
pub use Rattle.zeb_keys.specs.Registers.{register_text}
pub use Rattle.zeb_marc.specs.Contents.{is_control}
pub use Rattle.zeb_profile.specs.declared.directives.Directive.{Directive}
pub use Rattle.zeb_profile.specs.declared.directives.Directive.TheVariants.{All, Att, Identifier, Melm, Store}
pub use Rattle.zeb_profile.specs.declared.directives.Target.{Target}
pub use Rattle.zeb_profile.specs.declared.faults.ProfileFault.{ProfileFault}
pub use Rattle.zeb_profile.specs.declared.faults.ProfileFaultKind.{ProfileFaultKind}
pub use Rattle.zeb_profile.specs.declared.patterns.UnitPattern.{UnitPattern}

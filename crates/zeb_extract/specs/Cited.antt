-- What these definitions cite of std, of the crates below and of the program's types, passed on from one place. Declares nothing.
pub use Rattle.std.specs.List.{enumerate_from, list_any}
pub use Rattle.std.specs.Str.Lossy.{utf8_lossy}
pub use Rattle.zeb_extract.specs.declared.naming.IdentFault.{IdentFault}
pub use Rattle.zeb_extract.specs.declared.naming.IdentFault.TheVariants.{BadIdentifier, Memory, NoIdentifier}
pub use Rattle.zeb_keys.specs.declared.keys.Occurrence.{Occurrence}
pub use Rattle.zeb_keys.specs.declared.registers.Register.{Register}
pub use Rattle.zeb_marc.specs.Contents.{UnitText}

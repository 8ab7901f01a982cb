-- Literals as data of events.
pub use Rattle.spec_data.specs.Literals.{LiteralData, literal_data, literal_read}

pub mod OfFamily

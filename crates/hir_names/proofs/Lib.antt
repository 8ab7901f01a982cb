pub mod StackLemmas
pub mod PlaceLemmas
pub mod WayLemmas
pub mod AnswerLemmas
pub mod BodyLemmas
pub mod UpvarLemmas

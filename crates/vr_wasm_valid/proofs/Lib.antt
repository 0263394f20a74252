pub mod AnswerLemmas
pub mod ConstantLemmas
pub mod ExportLemmas
pub mod PartLemmas
pub mod ShapeLemmas
pub mod StepLemmas
pub mod TypingLemmas
pub mod ValidLemmas

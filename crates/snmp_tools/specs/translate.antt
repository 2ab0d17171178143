pub mod Headline
pub mod TranslateResult
pub mod Refusal
pub mod Style
pub mod Text

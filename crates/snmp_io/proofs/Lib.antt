pub mod ReadTexts
pub mod OutputPieces
pub mod QuotedTexts

pub mod Pieces
pub mod WordPieces

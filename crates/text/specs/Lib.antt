-- From the bytes of a household's file to the bytes that the programs write.
pub mod Lines
pub mod Output
pub mod Pieces

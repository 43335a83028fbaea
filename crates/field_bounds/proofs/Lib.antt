pub mod FieldBytes
pub mod Pieces
pub mod Copying
pub mod LineBounds
pub mod Parts
pub mod WholeFields

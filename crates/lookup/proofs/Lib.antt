pub mod FieldNames
pub mod ReadParts
pub mod Scanning

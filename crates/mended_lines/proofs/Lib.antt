pub mod MendedLine

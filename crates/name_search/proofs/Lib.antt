mod Looking
mod LineEnds
mod Spelling
mod Passing

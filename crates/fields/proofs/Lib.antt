pub mod Names
pub mod Numbers
pub mod Contents
pub mod Starting

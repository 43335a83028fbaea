pub mod AskedNames

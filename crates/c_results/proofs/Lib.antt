pub mod RefusalResults

pub mod ShownOrder

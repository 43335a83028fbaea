mod Starts
mod Blocks

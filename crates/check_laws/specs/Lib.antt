pub mod Colours

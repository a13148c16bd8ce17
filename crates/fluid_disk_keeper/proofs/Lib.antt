pub mod Contents
mod Whole

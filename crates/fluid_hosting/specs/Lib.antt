pub mod Hosting

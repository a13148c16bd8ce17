mod Entries
mod Names
mod Leaving

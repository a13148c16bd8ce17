mod Read
mod Entered

mod Sharing
mod Jobs
mod Sat

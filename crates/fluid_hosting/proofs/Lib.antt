mod Visits
mod Cycled

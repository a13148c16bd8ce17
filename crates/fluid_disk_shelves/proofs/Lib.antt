mod Covering
mod Found
mod Opened
mod Taking
mod Values

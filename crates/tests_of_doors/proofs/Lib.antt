mod Both
mod Sent

mod Sums
mod Decimals
mod Contents

mod Asked
mod Decimal
mod Computed

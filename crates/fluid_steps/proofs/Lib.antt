mod Computed
mod Cutting

mod Computed
mod LinesComputed
mod OneLine
mod ScriptComputed
mod RoamComputed
mod TasksComputed
mod Growing
mod Rowed
mod Leaving
pub mod Begins
pub mod Acks
pub mod Sounds
pub mod Fitting
mod Holding
mod Roaming
pub mod Stepping
mod Steady

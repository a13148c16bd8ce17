pub mod Drawing
pub mod Acts
pub mod Left

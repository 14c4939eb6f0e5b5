pub mod Lines
pub mod Serving
pub mod Answering
pub mod Scripting
pub mod Starting
pub mod Journaling

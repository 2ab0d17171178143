pub mod Printed
pub mod Recorded
pub mod Replay
pub mod Walk

pub mod Fans
pub mod Stack
pub mod Arrive
pub mod Named
pub mod Once

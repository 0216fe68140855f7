pub mod Bytes
pub mod Apart
pub mod Tables
pub mod Places

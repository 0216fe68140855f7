pub mod Packing
pub mod PackedSave
pub mod Refusal
pub mod Causes
pub mod View

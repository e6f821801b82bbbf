-- How merging works, for its proof.
pub mod Found
pub mod Tables
pub mod Merging
pub mod Places
pub mod Origins

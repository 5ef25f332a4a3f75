pub mod Beginning
pub mod Rejoining

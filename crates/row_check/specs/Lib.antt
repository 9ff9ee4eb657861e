pub mod Rulers

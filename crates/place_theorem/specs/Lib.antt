pub mod FirstTooLarge

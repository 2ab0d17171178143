pub mod Words
mod FirstAddress

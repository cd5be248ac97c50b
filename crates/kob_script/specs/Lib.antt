pub mod Checks
pub mod CommandLines
pub mod Places
pub mod Printed
pub mod RawWords
pub mod Script
pub mod Words

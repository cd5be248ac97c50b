mod Earlier
mod First
mod Listed
mod More
mod Placed

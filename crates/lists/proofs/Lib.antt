pub mod Rows
mod Used
mod Puts
mod Listings
mod Joins

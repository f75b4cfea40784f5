mod Padding
mod Ascending
mod Tables
mod Receipts
mod Words
mod Following

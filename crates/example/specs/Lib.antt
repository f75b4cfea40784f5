pub mod Fruit

pub mod BringLaws
mod OnFolder
